-- The walk at `let` and at binders.
use Rattle.std.proofs.Common.{◌≡◌, ℕ, ◌+◌, ◌<◌, ◌≤◌, Bool, true, false, not, List, [], ◌∷◌, ◌++◌, length, drop, get_or, Result, Ok, Err, refl, sym, ap, subst, ◌∙◌, arith}
use Rattle.std.proofs.Math.ListN.{drop_of_length-le}
use Rattle.std.specs.Global.{Vec}
use Rattle.ss_names.specs.declared.FaultKind.TheVariants as kind
use Rattle.ss_names.specs.declared.ScriptFault.{ScriptFault}
use Rattle.ss_names.specs.declared.ScriptFault.TheVariants.{Bad, Memory}
use Rattle.smt_lex.specs.Place.{Place}
use Rattle.smt_tree.specs.declared.Expr.{Expr}
use Rattle.smt_tree.specs.Sexp.{Sexps, none, leaf, list, ◌and◌}
use Rattle.smt_tree.specs.Seen.{all_seen}
use Rattle.lin_truth.specs.declared.VarSort.{VarSort}
use Rattle.term_table.specs.declared.Node.{Node}
use Rattle.term_table.specs.declared.Quantifier.{Quantifier}
use Rattle.term_table.specs.Placed.{Typed}
use Rattle.term_table.specs.Meaning.{Meaning, meanings, Extends}
use Rattle.term_table.proofs.Growth.{Extends-then, Extends-length}
use Rattle.smt_term.specs.declared.seen.Seen.{Seen}
use Rattle.smt_term.specs.declared.reader.Reader.{Reader}
use Rattle.smt_term.specs.declared.bindings.Binding.{Binding}
use Rattle.smt_term.specs.declared.bindings.Bound.{Bound}
use Rattle.smt_term.specs.Reading.{Read, ◌>>=◌, unless, Part, token, group}
use Rattle.smt_term.specs.Scope.{Scope, with_bound, with_bindings, sorts_in_order}
use Rattle.smt_term.specs.Word.{new_name}
use Rattle.smt_term.specs.Terms.{terms_from, inside_of, term, atom, only, is_empty, is_pair, parts, sorted, quantified, first_place, let_of, bound_from, bound_name, binder_of_terms}
use Rattle.smt_term.specs.Walked.{let_term, let_names, binder_term, one_term}
use Rattle.smt_term.specs.View.{part, typed_at, GivesOne}
use Rattle.smt_term.specs.Reads.{scope_seen, Fits, Keeps}
use Rattle.smt_term.specs.Newest.{pair_of, behind_name, bindings_of, newest_first, bound_at, BoundIn, IsPair, IsBindings, IsSorted, GivesBound}
use Rattle.smt_term.specs.Opens.{Opens}
use Rattle.smt_term.proofs.ApplyLemmas.{gives_then, gives_as}
use Rattle.smt_term.proofs.PartLemmas.{whole, seen-shape}
use Rattle.smt_term.proofs.PairLemmas.{Alike, alike-more, pair-alike, drop-next}
use Rattle.smt_term.proofs.WalkLemmas.{scope-keeps}
use Rattle.smt_term.proofs.WalkSteps.{typed-extends}
use Rattle.smt_term.proofs.Faults.{Fails, fails-first, fails-as, fails-pair, fails-sorted, fails-one, fails-bound, one-fails, bound-fails}

pub fails-bindings : (read : Read (Sexps × Sexps)) (xs : Sexps) (e : ScriptFault) → IsBindings read xs (Err e) → Fails read e
fails-bindings read xs (Bad k line column) given = given
fails-bindings read xs Memory given = tt

-- ---- `let`

abbrev pub let_inner : Scope → Place → Sexps → List (List ℕ × Typed) → Read Typed
let_inner s p body bs = one_term (with_bound s bs) p body

abbrev pub let_rest : Scope → Place → Sexps × Sexps → Read Typed
let_rest s p x = let_names s [] x.0 >>= let_inner s p x.1

pub let-is : (s : Scope) (p : Place) (xs : Sexps) → let_term s p xs ≡ (bindings_of p xs >>= let_rest s p)
unfolding let_term let_names one_term bindings_of Rattle.smt_term.specs.Terms.terms
let-is s p none = refl
let-is s p (leaf t body) = refl
let-is s p (list q bindings body) = by (not (is_empty bindings))
  where
    by : (b : Bool) → (unless b kind.Sort q (bound_from s [] bindings) >>= λ bs. terms_from (with_bound s bs) [] body >>= only p) ≡ (unless b kind.Sort q (Ok (bindings, body)) >>= let_rest s p)
    by true = refl
    by false = refl

-- ---- a binder

abbrev pub binder_made : Scope → Quantifier → Place → Sexps → List (List ℕ × VarSort) → Typed → Read Typed
binder_made s q p body vs t = quantified s.around q (sorts_in_order vs) (first_place p body) t

abbrev pub binder_inner : Scope → Place → Quantifier → Sexps → List (List ℕ × VarSort) → Read Typed
binder_inner s p q body vs = one_term (with_bindings s vs) p body >>= binder_made s q p body vs

abbrev pub binder_rest : Scope → Place → Quantifier → Sexps × Sexps → Read Typed
binder_rest s p q x = sorted s.logic x.0 >>= binder_inner s p q x.1

pub binder-is : (s : Scope) (p : Place) (q : Quantifier) (xs : Sexps) → binder_term s p q xs ≡ (bindings_of p xs >>= binder_rest s p q)
unfolding binder_term one_term bindings_of Rattle.smt_term.specs.Terms.terms
binder-is s p q none = refl
binder-is s p q (leaf t body) = refl
binder-is s p q (list r bindings body) = by (not (is_empty bindings))
  where
    by : (b : Bool) → (unless b kind.Sort r (sorted s.logic bindings) >>= λ vs. terms_from (with_bindings s vs) [] body >>= only p >>= quantified s.around q (sorts_in_order vs) (first_place p body))
        ≡ (unless b kind.Sort r (Ok (bindings, body)) >>= binder_rest s p q)
    by true = refl
    by false = refl

-- ---- the bindings of a `let`

abbrev one_of_term : Typed → Read (List Typed)
one_of_term x = Ok (x ∷ [])

abbrev pub with_term : List ℕ → Typed → Read (List ℕ × Typed)
with_term name t = Ok (name, t)

abbrev with_part : Part → List ℕ → Read (List ℕ × Part)
with_part x name = Ok (name, x)

-- a term alone is the one of its list, and then the rest is read
alone_then : (p : Place) (t : Read Typed) (name : List ℕ) (next : List ℕ × Typed → Read (List (List ℕ × Typed)))
    → (((t >>= one_of_term) >>= only p >>= with_term name) >>= next) ≡ (t >>= λ x. next (name, x))
alone_then p (Err e) name next = refl
alone_then p (Ok x) name next = refl

three_steps : (p : Place) (r : Read (List ℕ)) (x : Part) (s : Scope) (t : Read Typed) (next : List ℕ × Typed → Read (List (List ℕ × Typed))) → t ≡ term s x
    → ((r >>= λ name. (t >>= one_of_term) >>= only p >>= with_term name) >>= next) ≡ ((r >>= with_part x) >>= λ nv. term s nv.1 >>= λ y. next (nv.0, y))
three_steps p (Err e) x s t next is = refl
three_steps p (Ok name) x s t next is = alone_then p t name next ∙ ap (λ (u : Read Typed). u >>= λ y. next (name, y)) is

names-whole : (s : Scope) (bs : List (List ℕ × Typed)) (x : Part) (rest : Sexps)
    → bound_from s bs (whole x and rest) ≡ (pair_of s.logic bs x >>= λ nv. term s nv.1 >>= λ t. bound_from s ((nv.0, t) ∷ bs) rest)
unfolding pair_of term
names-whole s bs (token t) rest = refl
names-whole s bs (group p inner) rest = by inner
  where
    by : (xs : Sexps) → bound_from s bs (list p xs rest) ≡ (behind_name s.logic bs p (parts xs) >>= λ nv. term s nv.1 >>= λ t. bound_from s ((nv.0, t) ∷ bs) rest)
    by none = refl
    by (leaf t none) = refl
    by (leaf t (leaf u none)) = three_steps p (new_name s.logic bs (token t)) (token u) s (atom s u) (λ b. bound_from s (b ∷ bs) rest) refl
    by (leaf t (leaf u (leaf w ys))) = refl
    by (leaf t (leaf u (list q w ys))) = refl
    by (leaf t (list q u none)) = three_steps p (new_name s.logic bs (token t)) (group q u) s (inside_of s q u) (λ b. bound_from s (b ∷ bs) rest) refl
    by (leaf t (list q u (leaf w ys))) = refl
    by (leaf t (list q u (list r w ys))) = refl
    by (list q t none) = refl
    by (list q t (leaf u none)) = refl
    by (list q t (leaf u (leaf w ys))) = refl
    by (list q t (leaf u (list r w ys))) = refl
    by (list q t (list r u none)) = refl
    by (list q t (list r u (leaf w ys))) = refl
    by (list q t (list r u (list o w ys))) = refl

names-none : (s : Scope) (bs : List (List ℕ × Typed)) → let_names s bs (all_seen []) ≡ Ok bs
unfolding let_names
names-none s bs = refl

-- the next of a list, and then the others
names-cons : (s : Scope) (bs : List (List ℕ × Typed)) (e : Expr) (es : List Expr)
    → let_names s bs (all_seen (e ∷ es)) ≡ (pair_of s.logic bs (part e) >>= λ nv. term s nv.1 >>= λ t. let_names s ((nv.0, t) ∷ bs) (all_seen es))
unfolding let_names
names-cons s bs e es = ap (λ (x : Sexps). bound_from s bs (x and all_seen es)) (seen-shape e) ∙ names-whole s bs (part e) (all_seen es)

abbrev pub names_next : Scope → List (List ℕ × Typed) → List Expr → ℕ → List ℕ × Part → Read (List (List ℕ × Typed))
names_next s bs es i nv = term s nv.1 >>= λ t. let_names s ((nv.0, t) ∷ bs) (all_seen (drop (i + 1) es))

names-left : (s : Scope) (bs : List (List ℕ × Typed)) (es : List Expr) (i : ℕ) (x : Expr) → i < length es → x ≡ get_or es i x
    → let_names s bs (all_seen (drop i es)) ≡ let_names s [] (all_seen es) → let_names s [] (all_seen es) ≡ (pair_of s.logic bs (part x) >>= names_next s bs es i)
names-left s bs es i x lt is left =
    sym left ∙ ap (λ (rest : List Expr). let_names s bs (all_seen rest)) (drop-next es i x lt is) ∙ names-cons s bs x (drop (i + 1) es)

-- the same, by the program's table of names
names-pair : {A : Type 0} (s : Scope) (logic : _) (taken : List (List ℕ × A)) (bs : List (List ℕ × Typed)) (es : List Expr) (i : ℕ) (x : Expr) → logic ≡ s.logic → Alike taken bs
    → i < length es → x ≡ get_or es i x → let_names s bs (all_seen (drop i es)) ≡ let_names s [] (all_seen es)
    → let_names s [] (all_seen es) ≡ (pair_of logic taken (part x) >>= names_next s bs es i)
names-pair s logic taken bs es i x same alike lt is left =
    names-left s bs es i x lt is left
    ∙ ap (λ (r : Read (List ℕ × Part)). r >>= names_next s bs es i) (sym (pair-alike s.logic taken bs (part x) alike))
    ∙ ap (λ l. pair_of l taken (part x) >>= names_next s bs es i) (sym same)

pub names-no_pair : {A : Type 0} (old mid : Reader) (taken : List (List ℕ × A)) (bs : List (List ℕ × Typed)) (es : List Expr) (i : ℕ) (x : Expr) (e : ScriptFault) → Keeps old mid → Alike taken bs
    → i < length es → x ≡ get_or es i x → let_names (scope_seen old) bs (all_seen (drop i es)) ≡ let_names (scope_seen old) [] (all_seen es)
    → IsPair (pair_of mid.logic taken (part x)) x (Err e) → GivesBound old.table (let_names (scope_seen old) [] (all_seen es)) (Err e) mid.table
names-no_pair old mid taken bs es i x e keeps alike lt is left given =
    let s = scope_seen old in
    let read = let_names s [] (all_seen es) in
    bound-fails old.table mid.table read e
    (fails-as read (pair_of mid.logic taken (part x) >>= names_next s bs es i) e (names-pair s mid.logic taken bs es i x keeps.logic alike lt is left)
    (fails-first (pair_of mid.logic taken (part x)) (names_next s bs es i) e (fails-pair (pair_of mid.logic taken (part x)) x e given)))

-- the name of the next is read
names-named : {A : Type 0} (old mid : Reader) (taken : List (List ℕ × A)) (bs : List (List ℕ × Typed)) (es : List Expr) (i : ℕ) (x : Expr) (name : List ℕ) (y : Part) → Fits old → Keeps old mid
    → Extends old.table mid.table → Alike taken bs → i < length es → x ≡ get_or es i x
    → let_names (scope_seen old) bs (all_seen (drop i es)) ≡ let_names (scope_seen old) [] (all_seen es) → pair_of mid.logic taken (part x) ≡ Ok (name, y)
    → let_names (scope_seen old) [] (all_seen es) ≡ (term (scope_seen mid) y >>= λ t. let_names (scope_seen old) ((name, t) ∷ bs) (all_seen (drop (i + 1) es)))
names-named old mid taken bs es i x name y fits keeps grown alike lt is left given =
    let s = scope_seen old in
    names-pair s mid.logic taken bs es i x keeps.logic alike lt is left
    ∙ ap (λ (r : Read (List ℕ × Part)). r >>= names_next s bs es i) given
    ∙ ap (λ (u : Scope). term u y >>= λ t. let_names s ((name, t) ∷ bs) (all_seen (drop (i + 1) es))) (sym (scope-keeps old mid fits keeps grown))

pub names-no_term : {A : Type 0} (old mid new : Reader) (taken : List (List ℕ × A)) (bs : List (List ℕ × Typed)) (es : List Expr) (i : ℕ) (x : Expr) (name : List ℕ) (y : Part) (e : ScriptFault)
    → Fits old → Keeps old mid → Extends old.table mid.table → Alike taken bs → i < length es → x ≡ get_or es i x
    → let_names (scope_seen old) bs (all_seen (drop i es)) ≡ let_names (scope_seen old) [] (all_seen es) → pair_of mid.logic taken (part x) ≡ Ok (name, y)
    → GivesOne mid.table (term (scope_seen mid) y) (Err e) new.table → GivesBound old.table (let_names (scope_seen old) [] (all_seen es)) (Err e) new.table
names-no_term old mid new taken bs es i x name y e fits keeps grown alike lt is left given failed =
    let s = scope_seen old in
    let read = let_names s [] (all_seen es) in
    let next : Typed → Read (List (List ℕ × Typed)) = λ t. let_names s ((name, t) ∷ bs) (all_seen (drop (i + 1) es)) in
    bound-fails old.table new.table read e
    (fails-as read (term (scope_seen mid) y >>= next) e (names-named old mid taken bs es i x name y fits keeps grown alike lt is left given)
    (fails-first (term (scope_seen mid) y) next e (fails-one mid.table new.table (term (scope_seen mid) y) e failed)))

-- ---- terms of names, as the table grows

bound-extends : (old new : List Node) (taken : List (List ℕ × Typed)) (bs : List Bound) → Extends old new → BoundIn (length old) bs
    → bound_at (meanings new) taken bs ≡ bound_at (meanings old) taken bs
bound-extends old new taken [] grown within = refl
bound-extends old new taken (b ∷ bs) grown within =
    ap (λ (t : Typed). bound_at (meanings new) ((b.name.now, t) ∷ taken) bs) (typed-extends old new b.seen grown within.0)
    ∙ bound-extends old new ((b.name.now, typed_at (meanings old) b.seen) ∷ taken) bs grown within.1

bound-push : (ms : List Meaning) (taken : List (List ℕ × Typed)) (bs : List Bound) (b : Bound) → bound_at ms taken (bs ++ b ∷ []) ≡ (b.name.now, typed_at ms b.seen) ∷ bound_at ms taken bs
bound-push ms taken [] b = refl
bound-push ms taken (x ∷ bs) b = bound-push ms ((x.name.now, typed_at ms x.seen) ∷ taken) bs b

BoundIn-more : (m n : ℕ) (bs : List Bound) → m ≤ n → BoundIn m bs → BoundIn n bs
BoundIn-more m n [] le within = tt
BoundIn-more m n (b ∷ bs) le within = (omega (arith, within.0), BoundIn-more m n bs le within.1)

BoundIn-push : (n : ℕ) (bs : List Bound) (b : Bound) → BoundIn n bs → b.seen.node < n → BoundIn n (bs ++ b ∷ [])
BoundIn-push n [] b within lt = (lt, tt)
BoundIn-push n (x ∷ bs) b within lt = (within.0, BoundIn-push n bs b within.1 lt)

pub bound-within : (mid new : List Node) (bs more : List Bound) (b : Bound) → BoundIn (length mid) bs → Extends mid new → b.seen.node < length new → more ≡ bs ++ b ∷ []
    → BoundIn (length new) more
bound-within mid new bs more b within grown lt more_is =
    subst (BoundIn (length new)) (sym more_is) (BoundIn-push (length new) bs b (BoundIn-more (length mid) (length new) bs (Extends-length mid new grown) within) lt)

bound-more : (mid new : List Node) (bs more : List Bound) (b : Bound) → BoundIn (length mid) bs → Extends mid new → more ≡ bs ++ b ∷ []
    → bound_at (meanings new) [] more ≡ (b.name.now, typed_at (meanings new) b.seen) ∷ bound_at (meanings mid) [] bs
bound-more mid new bs more b within grown more_is =
    ap (bound_at (meanings new) []) more_is ∙ bound-push (meanings new) [] bs b
    ∙ ap (λ (ts : List (List ℕ × Typed)). (b.name.now, typed_at (meanings new) b.seen) ∷ ts) (bound-extends mid new [] bs grown within)

pub bound-alike : {A : Type 0} (mid new : List Node) (taken names : List (List ℕ × A)) (bs more : List Bound) (b : Bound) (a : A) → Alike taken (bound_at (meanings mid) [] bs)
    → BoundIn (length mid) bs → Extends mid new → names ≡ (b.name.now, a) ∷ taken → more ≡ bs ++ b ∷ [] → Alike names (bound_at (meanings new) [] more)
bound-alike {A = A} mid new taken names bs more b a alike within grown names_is more_is =
    let t = typed_at (meanings new) b.seen in
    subst (λ (ns : List (List ℕ × A)). Alike ns (bound_at (meanings new) [] more)) (sym names_is)
    (subst (λ (ts : List (List ℕ × Typed)). Alike ((b.name.now, a) ∷ taken) ts) (sym (bound-more mid new bs more b within grown more_is))
    (alike-more taken (bound_at (meanings mid) [] bs) b.name.now a t alike))

pub names-more : {A : Type 0} (old mid new : Reader) (taken : List (List ℕ × A)) (bs more : List Bound) (es : List Expr) (i : ℕ) (x : Expr) (b : Bound) (y : Part)
    → Fits old → Keeps old mid → Extends old.table mid.table → Alike taken (bound_at (meanings mid.table) [] bs) → BoundIn (length mid.table) bs → i < length es → x ≡ get_or es i x
    → let_names (scope_seen old) (bound_at (meanings mid.table) [] bs) (all_seen (drop i es)) ≡ let_names (scope_seen old) [] (all_seen es)
    → pair_of mid.logic taken (part x) ≡ Ok (b.name.now, y) → GivesOne mid.table (term (scope_seen mid) y) (Ok b.seen) new.table → more ≡ bs ++ b ∷ []
    → let_names (scope_seen old) (bound_at (meanings new.table) [] more) (all_seen (drop (i + 1) es)) ≡ let_names (scope_seen old) [] (all_seen es)
names-more old mid new taken bs more es i x b y fits keeps grown alike within lt is left given made more_is =
    let s = scope_seen old in
    let us = bound_at (meanings mid.table) [] bs in
    let next : Typed → Read (List (List ℕ × Typed)) = λ t. let_names s ((b.name.now, t) ∷ us) (all_seen (drop (i + 1) es)) in
    ap (λ (ts : List (List ℕ × Typed)). let_names s ts (all_seen (drop (i + 1) es))) (bound-more mid.table new.table bs more b within made.2 more_is)
    ∙ ap (λ (r : Read Typed). r >>= next) (sym made.0)
    ∙ sym (names-named old mid taken us es i x b.name.now y fits keeps grown alike lt is left given)

pub names-done : (s : Scope) (bs : List (List ℕ × Typed)) (es : List Expr) (i : ℕ) → length es ≤ i → let_names s bs (all_seen (drop i es)) ≡ let_names s [] (all_seen es)
    → let_names s [] (all_seen es) ≡ Ok bs
names-done s bs es i le left = sym left ∙ ap (λ (rest : List Expr). let_names s bs (all_seen rest)) (drop_of_length-le es le) ∙ names-none s bs

-- ---- `let`, from what its calls gave

pub let-failed : (s : Scope) (p : Place) (es : List Expr) (old new : List Node) (e : ScriptFault) → IsBindings (bindings_of p (all_seen es)) (all_seen es) (Err e)
    → GivesOne old (let_term s p (all_seen es)) (Err e) new
let-failed s p es old new e given =
    let xs = all_seen es in
    one-fails old new (let_term s p xs) e (fails-as (let_term s p xs) (bindings_of p xs >>= let_rest s p) e (let-is s p xs) (fails-first (bindings_of p xs) (let_rest s p) e (fails-bindings (bindings_of p xs) xs e given)))

let-parted : (s : Scope) (p : Place) (es items body : List Expr) → bindings_of p (all_seen es) ≡ Ok (all_seen items, all_seen body)
    → let_term s p (all_seen es) ≡ (let_names s [] (all_seen items) >>= let_inner s p (all_seen body))
let-parted s p es items body given = let-is s p (all_seen es) ∙ ap (λ (r : Read (Sexps × Sexps)). r >>= let_rest s p) given

pub let-no_names : (s : Scope) (p : Place) (es items body : List Expr) (old mid new : List Node) (e : ScriptFault) → bindings_of p (all_seen es) ≡ Ok (all_seen items, all_seen body)
    → GivesBound old (let_names s [] (all_seen items)) (Err e) mid → GivesOne old (let_term s p (all_seen es)) (Err e) new
let-no_names s p es items body old mid new e given failed =
    let read = let_names s [] (all_seen items) in
    let next = let_inner s p (all_seen body) in
    one-fails old new (let_term s p (all_seen es)) e
    (fails-as (let_term s p (all_seen es)) (read >>= next) e (let-parted s p es items body given) (fails-first read next e (fails-bound old mid read e failed)))

-- behind the names of a `let`
pub let-opened : (old mid inner : Reader) (p : Place) (es items body : List Expr) (bs : List Bound) (cs : Vec Bound) → Fits old → bindings_of p (all_seen es) ≡ Ok (all_seen items, all_seen body)
    → GivesBound old.table (let_names (scope_seen old) [] (all_seen items)) (Ok cs) mid.table → Keeps old mid → bs ≡ cs.items
    → Opens (with_bound (scope_seen mid) (bound_at (meanings mid.table) [] bs)) mid inner
    → one_term (scope_seen inner) p (all_seen body) ≡ let_term (scope_seen old) p (all_seen es)
let-opened old mid inner p es items body bs cs fits given named keeps same opens =
    let s = scope_seen old in
    let ts = bound_at (meanings mid.table) [] bs in
    let names : let_names s [] (all_seen items) ≡ Ok ts = named.0 ∙ sym (ap (λ (xs : List Bound). Ok (bound_at (meanings mid.table) [] xs)) same) in
    ap (λ (u : Scope). one_term u p (all_seen body)) opens.scope
    ∙ ap (λ (u : Scope). one_term (with_bound u ts) p (all_seen body)) (scope-keeps old mid fits keeps named.2)
    ∙ sym (let-parted s p es items body given ∙ ap (λ (r : Read (List (List ℕ × Typed))). r >>= let_inner s p (all_seen body)) names)

pub bound-as : (n : ℕ) (bs cs : List Bound) → bs ≡ cs → BoundIn n cs → BoundIn n bs
bound-as n bs cs is within = subst (BoundIn n) (sym is) within

-- ---- a binder, from what its calls gave

pub binder-failed : (s : Scope) (p : Place) (q : Quantifier) (es : List Expr) (old new : List Node) (e : ScriptFault) → IsBindings (bindings_of p (all_seen es)) (all_seen es) (Err e)
    → GivesOne old (binder_term s p q (all_seen es)) (Err e) new
binder-failed s p q es old new e given =
    let xs = all_seen es in
    one-fails old new (binder_term s p q xs) e
    (fails-as (binder_term s p q xs) (bindings_of p xs >>= binder_rest s p q) e (binder-is s p q xs) (fails-first (bindings_of p xs) (binder_rest s p q) e (fails-bindings (bindings_of p xs) xs e given)))

binder-parted : (s : Scope) (p : Place) (q : Quantifier) (es items body : List Expr) → bindings_of p (all_seen es) ≡ Ok (all_seen items, all_seen body)
    → binder_term s p q (all_seen es) ≡ (sorted s.logic (all_seen items) >>= binder_inner s p q (all_seen body))
binder-parted s p q es items body given = binder-is s p q (all_seen es) ∙ ap (λ (r : Read (Sexps × Sexps)). r >>= binder_rest s p q) given

pub binder-no_sorts : (s : Scope) (p : Place) (q : Quantifier) (es items body : List Expr) (old new : List Node) (e : ScriptFault) → bindings_of p (all_seen es) ≡ Ok (all_seen items, all_seen body)
    → IsSorted (sorted s.logic (all_seen items)) (Err e) → GivesOne old (binder_term s p q (all_seen es)) (Err e) new
binder-no_sorts s p q es items body old new e given failed =
    let read = sorted s.logic (all_seen items) in
    let next = binder_inner s p q (all_seen body) in
    one-fails old new (binder_term s p q (all_seen es)) e
    (fails-as (binder_term s p q (all_seen es)) (read >>= next) e (binder-parted s p q es items body given) (fails-first read next e (fails-sorted read e failed)))

-- behind the variables
pub binder-opened : (old inner : Reader) (p : Place) (q : Quantifier) (es items body : List Expr) (vs : List Binding) (ws : Vec Binding) → bindings_of p (all_seen es) ≡ Ok (all_seen items, all_seen body)
    → IsSorted (sorted old.logic (all_seen items)) (Ok ws) → vs ≡ ws.items → Opens (with_bindings (scope_seen old) (newest_first [] vs)) old inner
    → binder_term (scope_seen old) p q (all_seen es) ≡ (one_term (scope_seen inner) p (all_seen body) >>= binder_made (scope_seen old) q p (all_seen body) (newest_first [] ws.items))
binder-opened old inner p q es items body vs ws given named same opens =
    let s = scope_seen old in
    let us = newest_first [] ws.items in
    let scope : with_bindings s us ≡ scope_seen inner = ap (λ (xs : List Binding). with_bindings s (newest_first [] xs)) (sym same) ∙ sym opens.scope in
    binder-parted s p q es items body given
    ∙ ap (λ (r : Read (List (List ℕ × VarSort))). r >>= binder_inner s p q (all_seen body)) named
    ∙ ap (λ (u : Scope). one_term u p (all_seen body) >>= binder_made s q p (all_seen body) us) scope

pub binder-no_body : (old inner : Reader) (p : Place) (q : Quantifier) (es items body : List Expr) (vs : List Binding) (ws : Vec Binding) (mid new : List Node) (e : ScriptFault)
    → bindings_of p (all_seen es) ≡ Ok (all_seen items, all_seen body) → IsSorted (sorted old.logic (all_seen items)) (Ok ws) → vs ≡ ws.items
    → Opens (with_bindings (scope_seen old) (newest_first [] vs)) old inner → GivesOne inner.table (one_term (scope_seen inner) p (all_seen body)) (Err e) mid
    → GivesOne old.table (binder_term (scope_seen old) p q (all_seen es)) (Err e) new
binder-no_body old inner p q es items body vs ws mid new e given named same opens failed =
    let s = scope_seen old in
    let read = one_term (scope_seen inner) p (all_seen body) in
    let next = binder_made s q p (all_seen body) (newest_first [] ws.items) in
    one-fails old.table new (binder_term s p q (all_seen es)) e
    (fails-as (binder_term s p q (all_seen es)) (read >>= next) e (binder-opened old inner p q es items body vs ws given named same opens)
    (fails-first read next e (fails-one inner.table mid read e failed)))

pub binder-made : (old inner : Reader) (p at_place : Place) (q : Quantifier) (es items body : List Expr) (vs us : List Binding) (ws : Vec Binding) (mid new : List Node) (y : Seen) (r : Result Seen ScriptFault)
    → bindings_of p (all_seen es) ≡ Ok (all_seen items, all_seen body) → IsSorted (sorted old.logic (all_seen items)) (Ok ws) → vs ≡ ws.items
    → Opens (with_bindings (scope_seen old) (newest_first [] vs)) old inner → GivesOne inner.table (one_term (scope_seen inner) p (all_seen body)) (Ok y) mid
    → us ≡ ws.items → at_place ≡ first_place p (all_seen body)
    → GivesOne mid (quantified old.around q (sorts_in_order (newest_first [] us)) at_place (typed_at (meanings mid) y)) r new
    → GivesOne old.table (binder_term (scope_seen old) p q (all_seen es)) r new
binder-made old inner p at_place q es items body vs us ws mid new y r given named same opens made list_is place_is quantify =
    let s = scope_seen old in
    let zs = newest_first [] ws.items in
    let t = typed_at (meanings mid) y in
    let eq : quantified old.around q (sorts_in_order (newest_first [] us)) at_place t ≡ binder_term s p q (all_seen es) =
    ap (λ (xs : List Binding). quantified old.around q (sorts_in_order (newest_first [] xs)) at_place t) list_is
    ∙ ap (λ (o : Place). quantified old.around q (sorts_in_order zs) o t) place_is
    ∙ sym (binder-opened old inner p q es items body vs ws given named same opens
    ∙ ap (λ (x : Read Typed). x >>= binder_made s q p (all_seen body) zs) made.0) in
    gives_as old.table new (quantified old.around q (sorts_in_order (newest_first [] us)) at_place t) (binder_term s p q (all_seen es)) r eq
    (gives_then old.table mid new (quantified old.around q (sorts_in_order (newest_first [] us)) at_place t) r (Extends-then old.table inner.table mid opens.grows made.2) quantify)
