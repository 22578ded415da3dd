-- A reading that fails, and what follows from its fault.
use Rattle.std.proofs.Common.{◌≡◌, ℕ, List, Err, ap, ◌∙◌}
use Rattle.ss_names.specs.declared.ScriptFault.{ScriptFault}
use Rattle.ss_names.specs.declared.ScriptFault.TheVariants.{Bad, Memory}
use Rattle.smt_tree.specs.declared.Expr.{Expr}
use Rattle.lin_truth.specs.declared.VarSort.{VarSort}
use Rattle.term_table.specs.declared.Node.{Node}
use Rattle.term_table.specs.Placed.{Typed}
use Rattle.smt_term.specs.declared.reader.Reader.{Reader}
use Rattle.smt_term.specs.Reading.{Read, ◌>>=◌, Part}
use Rattle.smt_term.specs.Terms.{Head}
use Rattle.smt_term.specs.View.{IsRead, GivesOne, GivesAll}
use Rattle.smt_term.specs.Reads.{GivesHead}
use Rattle.smt_term.specs.Newest.{IsPair, IsSorted, GivesBound}

-- the reading has this fault; want of memory is free
abbrev pub Fails : {A : Type 0} → Read A → ScriptFault → Type 0
Fails read (Bad k line column) = read ≡ Err (Bad k line column)
Fails read Memory = Unit {0}

-- what comes behind a fault is not read
pub fails-first : {A B : Type 0} (read : Read A) (next : A → Read B) (e : ScriptFault) → Fails read e → Fails (read >>= next) e
fails-first read next (Bad k line column) fails = ap (λ r. r >>= next) fails
fails-first read next Memory fails = tt

pub fails-as : {A : Type 0} (read same : Read A) (e : ScriptFault) → read ≡ same → Fails same e → Fails read e
fails-as read same (Bad k line column) is fails = is ∙ fails
fails-as read same Memory is fails = tt

-- ---- from what calls say

pub fails-read : {A : Type 0} (read : Read A) (e : ScriptFault) → IsRead read (Err e) → Fails read e
fails-read read (Bad k line column) given = given
fails-read read Memory given = tt

pub fails-pair : (read : Read (List ℕ × Part)) (item : Expr) (e : ScriptFault) → IsPair read item (Err e) → Fails read e
fails-pair read item (Bad k line column) given = given
fails-pair read item Memory given = tt

pub fails-sorted : (read : Read (List (List ℕ × VarSort))) (e : ScriptFault) → IsSorted read (Err e) → Fails read e
fails-sorted read (Bad k line column) given = given
fails-sorted read Memory given = tt

pub fails-head : (r : Reader) (read : Read Head) (e : ScriptFault) → GivesHead r read (Err e) → Fails read e
fails-head r read (Bad k line column) given = given
fails-head r read Memory given = tt

pub fails-one : (old new : List Node) (read : Read Typed) (e : ScriptFault) → GivesOne old read (Err e) new → Fails read e
fails-one old new read (Bad k line column) given = given
fails-one old new read Memory given = tt

pub fails-all : (old new : List Node) (read : Read (List Typed)) (e : ScriptFault) → GivesAll old read (Err e) new → Fails read e
fails-all old new read (Bad k line column) given = given
fails-all old new read Memory given = tt

pub fails-bound : (old new : List Node) (read : Read (List (List ℕ × Typed))) (e : ScriptFault) → GivesBound old read (Err e) new → Fails read e
fails-bound old new read (Bad k line column) given = given
fails-bound old new read Memory given = tt

-- ---- to what calls say

pub sorted-fails : (read : Read (List (List ℕ × VarSort))) (e : ScriptFault) → Fails read e → IsSorted read (Err e)
sorted-fails read (Bad k line column) given = given
sorted-fails read Memory given = tt

pub one-fails : (old new : List Node) (read : Read Typed) (e : ScriptFault) → Fails read e → GivesOne old read (Err e) new
one-fails old new read (Bad k line column) given = given
one-fails old new read Memory given = tt

pub all-fails : (old new : List Node) (read : Read (List Typed)) (e : ScriptFault) → Fails read e → GivesAll old read (Err e) new
all-fails old new read (Bad k line column) given = given
all-fails old new read Memory given = tt

pub bound-fails : (old new : List Node) (read : Read (List (List ℕ × Typed))) (e : ScriptFault) → Fails read e → GivesBound old read (Err e) new
bound-fails old new read (Bad k line column) given = given
bound-fails old new read Memory given = tt
