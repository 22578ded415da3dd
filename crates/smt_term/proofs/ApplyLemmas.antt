-- Applications, by their tests.
use Rattle.std.proofs.Common.{◌≡◌, ℕ, suc, Bool, true, false, not, eqb, List, [], ◌∷◌, length, map, get_or, Result, Ok, Err, refl, sym, ap, subst, ◌∙◌, arith}
use Rattle.std.proofs.lemmas.Bool.{eqb-true, eq-eqb, ne_eqb}
use Rattle.ss_names.specs.declared.FaultKind.TheVariants as kind
use Rattle.ss_names.specs.declared.ScriptFault.{ScriptFault}
use Rattle.ss_names.specs.declared.ScriptFault.TheVariants.{Bad, Memory}
use Rattle.smt_lex.specs.Place.{Place}
use Rattle.lin_truth.specs.declared.VarSort.{VarSort}
use Rattle.lin_truth.specs.declared.VarSort.TheVariants as sort
use Rattle.term_table.specs.declared.Node.{Node}
use Rattle.term_table.specs.declared.Worth.{Worth}
use Rattle.term_table.specs.declared.Unary.TheVariants as unary
use Rattle.term_table.specs.Placed.{Typed, used}
use Rattle.term_table.specs.Built.{one_of}
use Rattle.term_table.specs.Meaning.{Meaning, at, Extends}
use Rattle.term_table.proofs.Growth.{Extends-then}
use Rattle.smt_term.specs.declared.operator.Linear.{Linear}
use Rattle.smt_term.specs.declared.operator.Linear.TheVariants as linear
use Rattle.smt_term.specs.declared.operator.Operator.{Operator}
use Rattle.smt_term.specs.declared.seen.Seen.{Seen}
use Rattle.smt_term.specs.Operator.{sort_given}
use Rattle.smt_term.specs.Reading.{Read, ◌>>=◌, refuse, unless}
use Rattle.smt_term.specs.Apply.{arity_fits, sorts_fit, sorts_of, last_sort, linear_fits, worth_here, applied, application, same_sort, same_sorts, built, trees, divided, expansion, expanded}
use Rattle.smt_term.specs.View.{typed_at, all_at, sorts_seen, worths_at, AreAsked, GivesOne, Makes, IsDone}
use Rattle.smt_term.proofs.MakingLemmas.{no_seen}

length-all : (ms : List Meaning) (xs : List Seen) → length (all_at ms xs) ≡ length xs
length-all ms [] = refl
length-all ms (x ∷ xs) = ap suc (length-all ms xs)

sorts-all : (ms : List Meaning) (xs : List Seen) → sorts_of (all_at ms xs) ≡ sorts_seen xs
sorts-all ms [] = refl
sorts-all ms (x ∷ xs) = ap (λ (ss : List VarSort). x.sort ∷ ss) (sorts-all ms xs)

worths-all : (ms : List Meaning) (xs : List Seen) → map worth_here (all_at ms xs) ≡ worths_at ms xs
worths-all ms [] = refl
worths-all ms (x ∷ xs) = ap (λ (ws : List Worth). worth_here (typed_at ms x) ∷ ws) (worths-all ms xs)

trees-all : (ms : List Meaning) (xs : List Seen) → map (λ (t : Typed). t.tree) (all_at ms xs) ≡ map (at ms) (map (λ (x : Seen). x.node) xs)
trees-all ms [] = refl
trees-all ms (x ∷ xs) = ap (λ (fs : List Meaning). at ms x.node ∷ fs) (trees-all ms xs)

-- ---- an operator

-- an operator that looks at nothing fits whatever is given for it
pub linear-asked : (l : Linear) (ws us : List Worth) (p : Place) → AreAsked l ws us → linear_fits l ws p ≡ linear_fits l us p
linear-asked linear.Free ws us p is = refl
linear-asked linear.Factors ws us p is = ap (λ (xs : List Worth). linear_fits linear.Factors xs p) is
linear-asked linear.Divisors ws us p is = ap (λ (xs : List Worth). linear_fits linear.Divisors xs p) is

pub application-arity : (ms : List Meaning) (xs : List Seen) (op : Operator) (p : Place) → arity_fits op (length xs) ≡ false
    → application op p (all_at ms xs) ≡ refuse kind.Arity p
unfolding application
application-arity ms xs op p is = rw (length-all ms xs, is) refl

pub application-sort : (ms : List Meaning) (xs : List Seen) (op : Operator) (p : Place) → arity_fits op (length xs) ≡ true → sorts_fit op.takes (sorts_seen xs) ≡ false
    → application op p (all_at ms xs) ≡ refuse kind.Sort p
unfolding application
application-sort ms xs op p is wrong = rw (length-all ms xs, is, sorts-all ms xs, wrong) refl

pub application-linear : (ms : List Meaning) (xs : List Seen) (op : Operator) (p : Place) (r : Read Bool) → arity_fits op (length xs) ≡ true → sorts_fit op.takes (sorts_seen xs) ≡ true
    → linear_fits op.linear (worths_at ms xs) p ≡ r → application op p (all_at ms xs) ≡ (r >>= λ fits. Ok (applied op (all_at ms xs)))
unfolding application
application-linear ms xs op p r is right linear = rw (length-all ms xs, is, sorts-all ms xs, right, worths-all ms xs, linear) refl

-- what was built is the application
pub applied-is : (ms news : List Meaning) (xs : List Seen) (op : Operator) (x : Seen)
    → x.sort ≡ sort_given op.gives (last_sort sort.Bool (sorts_seen xs)) → at news x.node ≡ (λ frame n. built op.shape (trees (all_at ms xs) frame n))
    → applied op (all_at ms xs) ≡ typed_at news x
applied-is ms news xs op x sort_is tree_is =
    let s : sort_given op.gives (last_sort sort.Bool (sorts_of (all_at ms xs))) ≡ x.sort =
    ap (λ (ss : List VarSort). sort_given op.gives (last_sort sort.Bool ss)) (sorts-all ms xs) ∙ sym sort_is in
    let t : (λ frame n. built op.shape (trees (all_at ms xs) frame n)) ≡ at news x.node = sym tree_is in
    λ i. record { sort = s i; tree = t i }

-- ---- answers

pub gives_then : (old mid new : List Node) (read : Read Typed) (r : Result Seen ScriptFault) → Extends old mid → GivesOne mid read r new → GivesOne old read r new
gives_then old mid new read (Ok x) grown gives = (gives.0, gives.1, Extends-then old mid new grown gives.2)
gives_then old mid new read (Err (Bad k line column)) grown gives = gives
gives_then old mid new read (Err Memory) grown gives = tt

pub gives_as : (old new : List Node) (read same : Read Typed) (r : Result Seen ScriptFault) → read ≡ same → GivesOne old read r new → GivesOne old same r new
gives_as old new read same r is gives = subst (λ (x : Read Typed). GivesOne old x r new) is gives

-- the fault of a test
abbrev pub IsFault : Read Bool → ScriptFault → Type 0
IsFault read (Bad k line column) = read ≡ Err (Bad k line column)
IsFault read Memory = Unit {0}

pub fault_as : (old new : List Node) (read : Read Typed) (e : ScriptFault) (r : Read Bool) (next : Bool → Read Typed) → read ≡ (r >>= next)
    → IsFault r e → GivesOne old read (Err e) new
fault_as old new read (Bad k line column) r next is fault = is ∙ ap (λ (x : Read Bool). x >>= next) fault
fault_as old new read Memory r next is fault = tt

pub done_fault : (read : Read Bool) (e : ScriptFault) → IsDone read (Err e) → IsFault read e
done_fault read (Bad k line column) done = done
done_fault read Memory done = tt

-- want of memory where a node was made
pub memory_as : (old new older newer : List Node) (read : Read Typed) (e : ScriptFault) (m : Meaning) → Makes older (Err e) newer m → GivesOne old read (Err e) new
memory_as old new older newer read (Bad k line column) m made = absurd made
memory_as old new older newer read Memory m made = tt

-- ---- a definition

pub expansion-none : (ms : List Meaning) (xs : List Seen) (ps : List VarSort) (body : Typed) (p : Place) → eqb (length ps) 0 ≡ true
    → expansion (record { params = ps; meaning = body }) p (all_at ms xs) ≡ refuse kind.Arity p
unfolding expansion
expansion-none ms xs [] body p none = refl
expansion-none ms xs (s ∷ ps) body p none = absurd (omega (arith, eqb-true (length (s ∷ ps)) 0 none))

pub expansion-arity : (ms : List Meaning) (xs : List Seen) (ps : List VarSort) (body : Typed) (p : Place) → (length xs ≡ length ps → ⊥)
    → expansion (record { params = ps; meaning = body }) p (all_at ms xs) ≡ refuse kind.Arity p
unfolding expansion
expansion-arity ms xs [] body p wrong = refl
expansion-arity ms xs (s ∷ ps) body p wrong = rw (length-all ms xs, ne_eqb (length xs) (length (s ∷ ps)) wrong) refl

pub expansion-sort : (ms : List Meaning) (xs : List Seen) (ps : List VarSort) (body : Typed) (p : Place) → eqb (length ps) 0 ≡ false → length xs ≡ length ps
    → same_sorts (sorts_seen xs) ps ≡ false → expansion (record { params = ps; meaning = body }) p (all_at ms xs) ≡ refuse kind.Sort p
unfolding expansion
expansion-sort ms xs [] body p some right wrong = absurd cc
expansion-sort ms xs (s ∷ ps) body p some right wrong = rw (length-all ms xs, eq-eqb (length xs) (length (s ∷ ps)) right, sorts-all ms xs, wrong) refl

pub expansion-is : (ms : List Meaning) (xs : List Seen) (ps : List VarSort) (body : Typed) (p : Place) → eqb (length ps) 0 ≡ false → length xs ≡ length ps
    → same_sorts (sorts_seen xs) ps ≡ true → expansion (record { params = ps; meaning = body }) p (all_at ms xs) ≡ Ok (expanded body (all_at ms xs))
unfolding expansion
expansion-is ms xs [] body p some right same = absurd cc
expansion-is ms xs (s ∷ ps) body p some right same = rw (length-all ms xs, eq-eqb (length xs) (length (s ∷ ps)) right, sorts-all ms xs, same) refl

pub expanded-is : (ms news : List Meaning) (xs : List Seen) (body : Seen) (parts : List ℕ) (node : ℕ) → parts ≡ map (λ (x : Seen). x.node) xs
    → at news node ≡ (λ frame n. used (at ms body.node) (map (at ms) parts) frame n)
    → expanded (typed_at ms body) (all_at ms xs) ≡ typed_at news (record { sort = body.sort; node = node })
expanded-is ms news xs body parts node parts_is tree_is =
    let t : used (at ms body.node) (map (λ (t : Typed). t.tree) (all_at ms xs)) ≡ at news node =
    ap (used (at ms body.node)) (trees-all ms xs ∙ ap (map (at ms)) (sym parts_is)) ∙ sym tree_is in
    λ i. record { sort = body.sort; tree = t i }

-- ---- `(_ divisible n)`

pub divided-arity : (ms : List Meaning) (xs : List Seen) (n : ℕ) (p : Place) → (length xs ≡ 1 → ⊥) → divided n p (all_at ms xs) ≡ refuse kind.Arity p
unfolding divided
divided-arity ms [] n p wrong = refl
divided-arity ms (x ∷ []) n p wrong = absurd (wrong refl)
divided-arity ms (x ∷ y ∷ xs) n p wrong = refl

pub divided-one : (ms : List Meaning) (xs : List Seen) (n : ℕ) (p : Place) → length xs ≡ 1
    → divided n p (all_at ms xs)
    ≡ unless (same_sort (get_or xs 0 no_seen).sort sort.Number) kind.Sort p
    (unless (not (eqb n 0)) kind.Divisor p
    (Ok (record { sort = sort.Bool; tree = λ frame m. one_of (unary.Divisible n) (at ms (get_or xs 0 no_seen).node frame m) })))
unfolding divided
divided-one ms [] n p one = absurd (omega (arith, one))
divided-one ms (x ∷ []) n p one = refl
divided-one ms (x ∷ y ∷ xs) n p one = absurd (omega (arith, one))

pub divided-sort : (ms : List Meaning) (xs : List Seen) (n : ℕ) (p : Place) → length xs ≡ 1 → same_sort (get_or xs 0 no_seen).sort sort.Number ≡ false
    → divided n p (all_at ms xs) ≡ refuse kind.Sort p
divided-sort ms xs n p one wrong = divided-one ms xs n p one ∙ rw wrong refl

pub divided-zero : (ms : List Meaning) (xs : List Seen) (n : ℕ) (p : Place) → length xs ≡ 1 → same_sort (get_or xs 0 no_seen).sort sort.Number ≡ true → n ≡ 0
    → divided n p (all_at ms xs) ≡ refuse kind.Divisor p
divided-zero ms xs n p one right is = divided-one ms xs n p one ∙ rw (right, is) refl

pub divided-is : (ms : List Meaning) (xs : List Seen) (n : ℕ) (p : Place) → length xs ≡ 1 → same_sort (get_or xs 0 no_seen).sort sort.Number ≡ true → eqb n 0 ≡ false
    → divided n p (all_at ms xs) ≡ Ok (record { sort = sort.Bool; tree = λ frame m. one_of (unary.Divisible n) (at ms (get_or xs 0 no_seen).node frame m) })
divided-is ms xs n p one right is = divided-one ms xs n p one ∙ rw (right, is) refl
