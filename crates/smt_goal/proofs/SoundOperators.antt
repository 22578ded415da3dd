-- Applications of operators to sound terms are sound.
use Rattle.std.proofs.Common.{◌≡◌, ℕ, zero, suc, pos, negsuc, Bool, true, false, not, ◌&&◌, ◌||◌, cond, List, [], ◌∷◌, length, map, Option, Some, None, Ok, refl, sym, ap, subst, ◌∙◌, arith}
use Rattle.std.specs.Prelude.{nat_le, slice_get, position}
use Rattle.std.specs.Str.{bytes_eq}
use Rattle.ss_names.specs.Vocabulary.{operator_words}
use Rattle.std.specs.List.{list_any}
use Rattle.smt_lex.specs.Place.{Place}
use Rattle.lin_term.specs.Linear.{Value}
use Rattle.lin_term.specs.declared.Sort.{Sort}
use Rattle.lin_term.specs.declared.Sort.TheVariants.{Rat, Int}
use Rattle.lin_truth.specs.declared.VarSort.{VarSort}
use Rattle.lin_truth.specs.declared.VarSort.TheVariants as sort
use Rattle.lin_truth.specs.Value.{Yes}
use Rattle.lin_truth.specs.Constant.{is_constant}
use Rattle.lin_truth.specs.Truth.{Either}
use Rattle.lin_truth.specs.Formed.{IsInt, IsRat}
use Rattle.lin_truth.specs.Size.{node_count}
use Rattle.lin_truth.specs.Worked.{worked}
use Rattle.lin_truth.specs.Term.{Term}
use Rattle.term_table.specs.declared.Unary.{Unary}
use Rattle.term_table.specs.declared.Unary.TheVariants as unary
use Rattle.term_table.specs.declared.Binary.{Binary}
use Rattle.term_table.specs.declared.Binary.TheVariants as binary
use Rattle.term_table.specs.declared.Variadic.TheVariants as variadic
use Rattle.term_table.specs.declared.Worth.{Worth}
use Rattle.term_table.specs.declared.Worth.TheVariants as worth
use Rattle.term_table.specs.Placed.{Frame, Typed, top}
use Rattle.term_table.specs.Built.{two_of}
use Rattle.term_table.specs.Worth.{most_nodes, value_known, worth_of}
use Rattle.term_table.specs.Sound.{Sorts, Sound, AllSound, AllOfSort, AllConstant, OneIsFree, BinaryFits, IsDivisor, binary_whole, UnaryFits, unary_part, unary_whole}
use Rattle.term_table.proofs.SoundLemmas.{sound-true, sound-false, sound-one, sound-two, sound-choice}
use Rattle.term_table.proofs.SoundMore.{sound-several, sound-distinct}
use Rattle.smt_term.specs.declared.Operator.{Operator}
use Rattle.smt_term.specs.declared.Linear.TheVariants as linear
use Rattle.smt_term.specs.declared.Shape.TheVariants as shape
use Rattle.smt_term.specs.declared.Within.TheVariants as within
use Rattle.smt_term.specs.Operator.{lines, of_logic_at, line_at, operator_named, is_within}
use Rattle.smt_term.specs.Apply.{arity_fits, sorts_fit, sorts_of, linear_fits, one_free, worth_here, is_wide, is_zero, is_free, same_sort, all_of, alike, is_choice, last_sort, applied, application, built, trees, from_left, from_right, chained, all_hold, all_differ}
use Rattle.smt_goal.proofs.SoundNumbers.{bind_ok, unless_ok, same_ok, and_true, le_of_true}

-- ---- sorts

pub sort_is : (a b : VarSort) → same_sort a b ≡ true → a ≡ b
sort_is sort.Bool sort.Bool e = refl
sort_is sort.Bool sort.Number e = absurd cc
sort_is sort.Number sort.Bool e = absurd cc
sort_is sort.Number sort.Number e = refl

all_sorts : (u : VarSort) (ts : List Typed) → all_of u (sorts_of ts) ≡ true → AllOfSort u ts
all_sorts u [] e = tt
all_sorts u (t ∷ ts) e = let both = and_true (same_sort t.sort u) (all_of u (sorts_of ts)) e in (sort_is t.sort u both.0, all_sorts u ts both.1)

-- ---- constant terms

abbrev pub AllNarrow : List Typed → Type 0
AllNarrow [] = Unit {0}
AllNarrow (t ∷ ts) = (is_wide (worth_here t) ≡ false) × AllNarrow ts

constant_of : (t : Term) → is_free (worth_of t) ≡ false → Yes (is_constant t)
constant_of t e = from (is_constant t) e
  where
    from : (b : Bool) → is_free (cond b (cond (nat_le (node_count t) most_nodes) (value_known (worked t)) worth.Large) worth.Free) ≡ false → Yes b
    from true e = tt
    from false e = absurd cc

free_of : (t : Term) → is_free (worth_of t) ≡ true → is_constant t ≡ false
free_of t e = from (is_constant t) refl e
  where
    inner : (l : Bool) (o : Option Value) → is_free (cond l (value_known o) worth.Large) ≡ true → ⊥
    inner true None e = cc
    inner true (Some v) e = cc
    inner false o e = cc

    from : (b : Bool) → is_constant t ≡ b → is_free (cond b (cond (nat_le (node_count t) most_nodes) (value_known (worked t)) worth.Large) worth.Free) ≡ true → is_constant t ≡ false
    from true is e = absurd (inner (nat_le (node_count t) most_nodes) (worked t) e)
    from false is e = is

pub not_constant_narrow : (t : Typed) → is_constant (t.tree top 0) ≡ false → is_wide (worth_here t) ≡ false
not_constant_narrow t e = ap (λ (b : Bool). is_wide (cond b (cond (nat_le (node_count (t.tree top 0)) most_nodes) (value_known (worked (t.tree top 0))) worth.Large) worth.Free)) e

not_false : (b : Bool) → not b ≡ true → b ≡ false
not_false true e = absurd cc
not_false false e = refl

or_false : (a b : Bool) → (a || b) ≡ false → (a ≡ false) × (b ≡ false)
or_false true b e = absurd cc
or_false false b e = (refl, e)

all_constant : (ts : List Typed) → list_any is_free (map worth_here ts) ≡ false → AllConstant ts
all_constant [] e = tt
all_constant (t ∷ ts) e = let both = or_false (is_free (worth_here t)) (list_any is_free (map worth_here ts)) e in (constant_of (t.tree top 0) both.0, all_constant ts both.1)

one_is_free : (ts : List Typed) → one_free (map worth_here ts) ≡ true → OneIsFree ts
one_is_free [] e = tt
one_is_free (t ∷ ts) e = by (one_is_free ts) (is_free (worth_here t)) refl e
  where
    yes_is : (b : Bool) → Yes b → b ≡ true
    yes_is true y = refl
    yes_is false y = absurd y

    by : (one_free (map worth_here ts) ≡ true → OneIsFree ts) → (b : Bool) → is_free (worth_here t) ≡ b → cond b (not (list_any is_free (map worth_here ts))) (one_free (map worth_here ts)) ≡ true → Either (is_constant (t.tree top 0)) (OneIsFree ts) (AllConstant ts)
    by rest true is e = subst (λ (b : Bool). Either b (OneIsFree ts) (AllConstant ts)) (sym (free_of (t.tree top 0) is)) (all_constant ts (not_false (list_any is_free (map worth_here ts)) e))
    by rest false is e = subst (λ (b : Bool). Either b (OneIsFree ts) (AllConstant ts)) (sym (yes_is (is_constant (t.tree top 0)) (constant_of (t.tree top 0) is))) (rest e)

divisor_is : (w : Worth) → is_zero w ≡ false → is_free w ≡ false → is_wide w ≡ false → IsDivisor w
divisor_is worth.Free z f n = absurd cc
divisor_is worth.Large z f n = tt
divisor_is worth.Wide z f n = absurd cc
divisor_is (worth.Value (pos zero) den) z f n = absurd cc
divisor_is (worth.Value (pos (suc m)) den) z f n = tt
divisor_is (worth.Value (negsuc m) den) z f n = tt

abbrev AllDivisors : List Typed → Type 0
AllDivisors [] = Unit {0}
AllDivisors (t ∷ ts) = IsDivisor (worth_here t) × AllDivisors ts

all_divisors : (ts : List Typed) → list_any is_zero (map worth_here ts) ≡ false → list_any is_free (map worth_here ts) ≡ false → AllNarrow ts → AllDivisors ts
all_divisors [] z f n = tt
all_divisors (t ∷ ts) z f n =
    let p = or_false (is_zero (worth_here t)) (list_any is_zero (map worth_here ts)) z in
    let q = or_false (is_free (worth_here t)) (list_any is_free (map worth_here ts)) f in
    (divisor_is (worth_here t) p.0 q.0 n.0, all_divisors ts p.1 q.1 n.1)

-- ---- the shapes of applications

of_sort : (s : Sort) (scope : Sorts) (t : Typed) (u : VarSort) → t.sort ≡ u → Sound s scope t → Sound s scope (record { sort = u; tree = t.tree })
of_sort s scope t u e sound = subst (λ (v : VarSort). Sound s scope (record { sort = v; tree = t.tree })) e sound

-- each is a second argument of the operator, whatever the first one is
abbrev LeftFits : Sort → Binary → List Typed → Type 0
LeftFits s op [] = Unit {0}
LeftFits s op (b ∷ ts) = ((x : Typed) → x.sort ≡ binary_whole op → BinaryFits s op x b) × LeftFits s op ts

sound-left : (s : Sort) (scope : Sorts) (op : Binary) (a : Typed) (ts : List Typed) → a.sort ≡ binary_whole op → LeftFits s op ts → Sound s scope a → AllSound s scope ts
    → Sound s scope (record { sort = binary_whole op; tree = λ frame n. from_left op (a.tree frame n) (trees ts frame n) })
sound-left s scope op a [] e fits p all = of_sort s scope a (binary_whole op) e p
sound-left s scope op a (b ∷ ts) e fits p all =
    sound-left s scope op (record { sort = binary_whole op; tree = λ frame n. two_of op (a.tree frame n) (b.tree frame n) }) ts refl fits.1 (sound-two s scope op a b (fits.0 a e) p all.0) all.1

sound-right : (s : Sort) (scope : Sorts) (a : Typed) (ts : List Typed) → a.sort ≡ sort.Bool → AllOfSort sort.Bool ts → Sound s scope a → AllSound s scope ts
    → Sound s scope (record { sort = sort.Bool; tree = λ frame n. from_right binary.Implies (a.tree frame n) (trees ts frame n) })
sound-right s scope a [] e of p all = of_sort s scope a sort.Bool e p
sound-right s scope a (b ∷ ts) e of p all =
    sound-two s scope binary.Implies a (record { sort = sort.Bool; tree = λ frame n. from_right binary.Implies (b.tree frame n) (trees ts frame n) }) (e, refl) p (sound-right s scope b ts of.0 of.1 all.0 all.1)

-- the links of a chain
chain_of : Binary → List Typed → List Typed
chain_of op [] = []
chain_of op (a ∷ []) = []
chain_of op (a ∷ b ∷ ts) = record { sort = sort.Bool; tree = λ frame n. two_of op (a.tree frame n) (b.tree frame n) } ∷ chain_of op (b ∷ ts)

chain-trees : (op : Binary) (ts : List Typed) (frame : Frame) (n : ℕ) → trees (chain_of op ts) frame n ≡ chained op (trees ts frame n)
unfolding chain_of
chain-trees op [] frame n = refl
chain-trees op (a ∷ []) frame n = refl
chain-trees op (a ∷ b ∷ ts) frame n = ap (λ (us : List Term). two_of op (a.tree frame n) (b.tree frame n) ∷ us) (chain-trees op (b ∷ ts) frame n)

-- each is a fit argument beside the next
abbrev LinksFit : Sort → Binary → List Typed → Type 0
LinksFit s op [] = Unit {0}
LinksFit s op (a ∷ []) = Unit {0}
LinksFit s op (a ∷ b ∷ ts) = BinaryFits s op a b × LinksFit s op (b ∷ ts)

chain_sound : (s : Sort) (scope : Sorts) (op : Binary) (ts : List Typed) → binary_whole op ≡ sort.Bool → LinksFit s op ts → AllSound s scope ts
    → AllOfSort sort.Bool (chain_of op ts) × AllSound s scope (chain_of op ts)
unfolding chain_of
chain_sound s scope op [] e fits all = (tt, tt)
chain_sound s scope op (a ∷ []) e fits all = (tt, tt)
chain_sound s scope op (a ∷ b ∷ ts) e fits all =
    let rest = chain_sound s scope op (b ∷ ts) e fits.1 all.1 in (
      (refl, rest.0),
      (
        of_sort s scope (record { sort = binary_whole op; tree = λ frame n. two_of op (a.tree frame n) (b.tree frame n) }) sort.Bool e (sound-two s scope op a b fits.0 all.0 all.1.0),
        rest.1,
      ),
    )

all_hold_sound : (s : Sort) (scope : Sorts) (cs : List Typed) → AllOfSort sort.Bool cs → AllSound s scope cs → Sound s scope (record { sort = sort.Bool; tree = λ frame n. all_hold (trees cs frame n) })
all_hold_sound s scope [] of all = sound-several s scope variadic.And [] tt tt
all_hold_sound s scope (c ∷ []) of all = of_sort s scope c sort.Bool of.0 all.0
all_hold_sound s scope (c ∷ d ∷ cs) of all = sound-several s scope variadic.And (c ∷ d ∷ cs) of all

sound-chain : (s : Sort) (scope : Sorts) (op : Binary) (ts : List Typed) → binary_whole op ≡ sort.Bool → LinksFit s op ts → AllSound s scope ts
    → Sound s scope (record { sort = sort.Bool; tree = λ frame n. all_hold (chained op (trees ts frame n)) })
sound-chain s scope op ts e fits all =
    let links = chain_sound s scope op ts e fits all in
    subst (λ (f : Frame → ℕ → List Term). Sound s scope (record { sort = sort.Bool; tree = λ frame n. all_hold (f frame n) })) (λ k frame n. chain-trees op ts frame n k)
    (all_hold_sound s scope (chain_of op ts) links.0 links.1)

implies_sound : (s : Sort) (scope : Sorts) (ts : List Typed) → nat_le 2 (length ts) ≡ true → AllOfSort sort.Bool ts → AllSound s scope ts
    → Sound s scope (record { sort = sort.Bool; tree = λ frame n. built (shape.Right binary.Implies) (trees ts frame n) })
implies_sound s scope [] least of all = absurd (let le = le_of_true 2 (length {A = Typed} []) least in omega (arith, le))
implies_sound s scope (a ∷ ts) least of all = sound-right s scope a ts of.0 of.1 all.0 all.1

-- ---- what sorts say of neighbours

pairs_fit : (s : Sort) (op : Binary) (u : VarSort) (ts : List Typed) → ((a b : Typed) → a.sort ≡ u → b.sort ≡ u → BinaryFits s op a b) → AllOfSort u ts → LinksFit s op ts
pairs_fit s op u [] fit of = tt
pairs_fit s op u (a ∷ []) fit of = tt
pairs_fit s op u (a ∷ b ∷ ts) fit of = (fit a b of.0 of.1.0, pairs_fit s op u (b ∷ ts) fit of.1)

left_fits : (s : Sort) (op : Binary) (ts : List Typed) → ((a b : Typed) → a.sort ≡ binary_whole op → b.sort ≡ binary_whole op → BinaryFits s op a b) → AllOfSort (binary_whole op) ts → LeftFits s op ts
left_fits s op [] fit of = tt
left_fits s op (b ∷ ts) fit of = ((λ x e. fit x b e of.0), left_fits s op ts fit of.1)

division_fits : (s : Sort) (op : Binary) (ts : List Typed)
    → ((a b : Typed) → a.sort ≡ sort.Number → b.sort ≡ sort.Number → IsDivisor (worth_here b) → BinaryFits s op a b) → binary_whole op ≡ sort.Number → AllOfSort sort.Number ts → AllDivisors ts → LeftFits s op ts
division_fits s op [] fit whole of all = tt
division_fits s op (b ∷ ts) fit whole of all = ((λ x e. fit x b (e ∙ whole) of.0 all.0), division_fits s op ts fit whole of.1 all.1)

-- ---- the operators

-- an application that is not refused is sound
abbrev pub OpLaw : Sort → Operator → Type 0
OpLaw s op =
    (scope : Sorts) (ts : List Typed) (p : Place) (fits : Bool) → is_within op.within s ≡ true → arity_fits op (length ts) ≡ true → sorts_fit op.takes (sorts_of ts) ≡ true
    → linear_fits op.linear (map worth_here ts) p ≡ Ok fits → AllSound s scope ts → AllNarrow ts → Sound s scope (applied op ts)

abbrev Numbers : List Typed → Type 0
Numbers = AllOfSort sort.Number

number_pairs : (s : Sort) (scope : Sorts) (op : Binary) (ts : List Typed) → binary_whole op ≡ sort.Bool → ((a b : Typed) → a.sort ≡ sort.Number → b.sort ≡ sort.Number → BinaryFits s op a b)
    → all_of sort.Number (sorts_of ts) ≡ true → AllSound s scope ts → Sound s scope (record { sort = sort.Bool; tree = λ frame n. all_hold (chained op (trees ts frame n)) })
number_pairs s scope op ts whole fit e all = sound-chain s scope op ts whole (pairs_fit s op sort.Number ts fit (all_sorts sort.Number ts e)) all

equal_pairs : (s : Sort) (scope : Sorts) (ts : List Typed) → alike (sorts_of ts) ≡ true → AllSound s scope ts → Sound s scope (record { sort = sort.Bool; tree = λ frame n. all_hold (chained binary.Equal (trees ts frame n)) })
equal_pairs s scope [] e all = sound-chain s scope binary.Equal [] refl tt tt
equal_pairs s scope (t ∷ ts) e all =
    sound-chain s scope binary.Equal (t ∷ ts) refl (pairs_fit s binary.Equal t.sort (t ∷ ts) (λ a b p q. p ∙ sym q) (refl, all_sorts t.sort ts e)) all

differ_sound : (s : Sort) (scope : Sorts) (ts : List Typed) → alike (sorts_of ts) ≡ true → AllSound s scope ts → Sound s scope (record { sort = sort.Bool; tree = λ frame n. all_differ (trees ts frame n) })
differ_sound s scope [] e all = sound-distinct s scope sort.Bool [] tt tt
differ_sound s scope (a ∷ []) e all = sound-distinct s scope a.sort (a ∷ []) (refl, tt) all
differ_sound s scope (a ∷ b ∷ []) e all =
    sound-one s scope unary.Not (record { sort = sort.Bool; tree = λ frame n. two_of binary.Equal (a.tree frame n) (b.tree frame n) }) tt refl
    (sound-two s scope binary.Equal a b (sym (all_sorts a.sort (b ∷ []) e).0) all.0 all.1.0)
differ_sound s scope (a ∷ b ∷ c ∷ ts) e all = sound-distinct s scope a.sort (a ∷ b ∷ c ∷ ts) (refl, all_sorts a.sort (b ∷ c ∷ ts) e) all

one_sound : (s : Sort) (scope : Sorts) (op : Unary) (ts : List Typed) → UnaryFits s op → nat_le 1 (length ts) ≡ true → nat_le (length ts) 1 ≡ true → all_of (unary_part op) (sorts_of ts) ≡ true → AllSound s scope ts
    → Sound s scope (record { sort = unary_whole op; tree = λ frame n. built (shape.One op) (trees ts frame n) })
one_sound s scope op [] fits least most e all = absurd (let le = le_of_true 1 (length {A = Typed} []) least in omega (arith, le))
one_sound s scope op (a ∷ []) fits least most e all = sound-one s scope op a fits (all_sorts (unary_part op) (a ∷ []) e).0 all.0
one_sound s scope op (a ∷ b ∷ ts) fits least most e all = absurd (let le = le_of_true (length (a ∷ b ∷ ts)) 1 most in omega (arith, le))

some_left : (s : Sort) (scope : Sorts) (op : Binary) (ts : List Typed) → nat_le 2 (length ts) ≡ true → ((a : Typed) (us : List Typed) → ts ≡ a ∷ us → (a.sort ≡ binary_whole op) × LeftFits s op us) → AllSound s scope ts
    → Sound s scope (record { sort = binary_whole op; tree = λ frame n. built (shape.Left op) (trees ts frame n) })
some_left s scope op [] least fits all = absurd (let le = le_of_true 2 (length {A = Typed} []) least in omega (arith, le))
some_left s scope op (a ∷ ts) least fits all = let fit = fits a ts refl in sound-left s scope op a ts fit.0 fit.1 all.0 all.1

difference_sound : (s : Sort) (scope : Sorts) (ts : List Typed) → nat_le 1 (length ts) ≡ true → Numbers ts → AllSound s scope ts → Sound s scope (record { sort = sort.Number; tree = λ frame n. built shape.Difference (trees ts frame n) })
difference_sound s scope [] least of all = absurd (let le = le_of_true 1 (length {A = Typed} []) least in omega (arith, le))
difference_sound s scope (a ∷ []) least of all = sound-one s scope unary.Negative a tt of.0 all.0
difference_sound s scope (a ∷ b ∷ ts) least of all = sound-left s scope binary.Minus a (b ∷ ts) of.0 (left_fits s binary.Minus (b ∷ ts) (λ x y p q. (p, q)) of.1) all.0 all.1

choice_sound : (s : Sort) (scope : Sorts) (ts : List Typed) → nat_le 3 (length ts) ≡ true → nat_le (length ts) 3 ≡ true → is_choice (sorts_of ts) ≡ true → AllSound s scope ts
    → Sound s scope (record { sort = last_sort sort.Bool (sorts_of ts); tree = λ frame n. built shape.Choice (trees ts frame n) })
choice_sound s scope [] least most e all = absurd (let le = le_of_true 3 (length {A = Typed} []) least in omega (arith, le))
choice_sound s scope (c ∷ []) least most e all = absurd (let le = le_of_true 3 (length (c ∷ [])) least in omega (arith, le))
choice_sound s scope (c ∷ a ∷ []) least most e all = absurd (let le = le_of_true 3 (length (c ∷ a ∷ [])) least in omega (arith, le))
choice_sound s scope (c ∷ a ∷ b ∷ []) least most e all =
    let both = and_true (same_sort c.sort sort.Bool) (alike (sorts_of (a ∷ b ∷ []))) e in
    sound-choice s scope c a b (sort_is c.sort sort.Bool both.0) (sym (all_sorts a.sort (b ∷ []) both.1).0) all.0 all.1.0 all.1.1.0
choice_sound s scope (c ∷ a ∷ b ∷ d ∷ ts) least most e all = absurd (let le = le_of_true (length (c ∷ a ∷ b ∷ d ∷ ts)) 3 most in omega (arith, le))

factors_fit : (ws : List Worth) (p : Place) (fits : Bool) → linear_fits linear.Factors ws p ≡ Ok fits → one_free ws ≡ true
factors_fit ws p fits e = (unless_ok (one_free ws) _ p _ fits e).0

divisors_fit : (ts : List Typed) (p : Place) (fits : Bool) (a : Typed) (us : List Typed) → ts ≡ a ∷ us → linear_fits linear.Divisors (map worth_here ts) p ≡ Ok fits → AllNarrow ts → AllDivisors us
divisors_fit ts p fits a us is e narrow =
    let q = subst (λ (xs : List Typed). linear_fits linear.Divisors (map worth_here xs) p ≡ Ok fits) is e in
    let first = unless_ok (not (list_any is_zero (map worth_here us))) _ p _ fits q in
    let second = unless_ok (not (list_any is_free (map worth_here us))) _ p _ fits first.1 in
    all_divisors us (not_false (list_any is_zero (map worth_here us)) first.0) (not_false (list_any is_free (map worth_here us)) second.0) (subst AllNarrow is narrow).1

divided_sound : (s : Sort) (scope : Sorts) (op : Binary) (ts : List Typed) (p : Place) (fits : Bool) → binary_whole op ≡ sort.Number
    → ((a b : Typed) → a.sort ≡ sort.Number → b.sort ≡ sort.Number → IsDivisor (worth_here b) → BinaryFits s op a b) → nat_le 2 (length ts) ≡ true → all_of sort.Number (sorts_of ts) ≡ true
    → linear_fits linear.Divisors (map worth_here ts) p ≡ Ok fits → AllSound s scope ts → AllNarrow ts → Sound s scope (record { sort = binary_whole op; tree = λ frame n. built (shape.Left op) (trees ts frame n) })
divided_sound s scope op ts p fits whole fit least e linear_ok all narrow =
    some_left s scope op ts least (λ a us is.
    let of = subst Numbers is (all_sorts sort.Number ts e) in
    (of.0 ∙ sym whole, division_fits s op us fit whole of.1 (divisors_fit ts p fits a us is linear_ok narrow))) all

is_rat : (s : Sort) → is_within within.Reals s ≡ true → IsRat s
is_rat Rat e = tt
is_rat Int e = absurd cc

is_int : (s : Sort) → is_within within.Integers s ≡ true → IsInt s
is_int Rat e = absurd cc
is_int Int e = tt

left_of : (least n : ℕ) → (nat_le least n && true) ≡ true → nat_le least n ≡ true
left_of least n e = (and_true (nat_le least n) true e).0

abbrev LawsOf : Sort → List Operator → Type 0
LawsOf s [] = Unit {0}
LawsOf s (op ∷ ops) = OpLaw s op × LawsOf s ops

all_laws : (s : Sort) → LawsOf s lines
all_laws s = (
  (λ scope ts p fits w a t l all n. sound-true s scope),
  (
    (λ scope ts p fits w a t l all n. sound-false s scope),
    (
      (λ scope ts p fits w a t l all n. let b = and_true (nat_le 1 (length ts)) (nat_le (length ts) 1) a in one_sound s scope unary.Not ts tt b.0 b.1 t all),
      (
        (λ scope ts p fits w a t l all n. sound-several s scope variadic.And ts (all_sorts sort.Bool ts t) all),
        (
          (λ scope ts p fits w a t l all n. sound-several s scope variadic.Or ts (all_sorts sort.Bool ts t) all),
          (
            (λ scope ts p fits w a t l all n.
                some_left s scope binary.Xor ts (left_of 2 (length ts) a) (λ x us is. let of = subst (AllOfSort sort.Bool) is (all_sorts sort.Bool ts t) in (of.0, left_fits s binary.Xor us (λ y z q r. (q, r)) of.1)) all),
            (
              (λ scope ts p fits w a t l all n. implies_sound s scope ts (left_of 2 (length ts) a) (all_sorts sort.Bool ts t) all),
              (
                (λ scope ts p fits w a t l all n. equal_pairs s scope ts t all),
                (
                  (λ scope ts p fits w a t l all n. differ_sound s scope ts t all),
                  (
                    (λ scope ts p fits w a t l all n. let b = and_true (nat_le 3 (length ts)) (nat_le (length ts) 3) a in choice_sound s scope ts b.0 b.1 t all),
                    (
                      (λ scope ts p fits w a t l all n. number_pairs s scope binary.Less ts refl (λ x y q r. (q, r)) t all),
                      (
                        (λ scope ts p fits w a t l all n. number_pairs s scope binary.AtMost ts refl (λ x y q r. (q, r)) t all),
                        (
                          (λ scope ts p fits w a t l all n. number_pairs s scope binary.Greater ts refl (λ x y q r. (q, r)) t all),
                          (
                            (λ scope ts p fits w a t l all n. number_pairs s scope binary.AtLeast ts refl (λ x y q r. (q, r)) t all),
                            (
                              (λ scope ts p fits w a t l all n. sound-several s scope variadic.Plus ts (all_sorts sort.Number ts t) all),
                              (
                                (λ scope ts p fits w a t l all n. difference_sound s scope ts (left_of 1 (length ts) a) (all_sorts sort.Number ts t) all),
                                (
                                  (λ scope ts p fits w a t l all n. sound-several s scope variadic.Times ts (all_sorts sort.Number ts t, one_is_free ts (factors_fit (map worth_here ts) p fits l)) all),
                                  (
                                    (λ scope ts p fits w a t l all n. divided_sound s scope binary.Quotient ts p fits refl (λ x y q r d. (is_rat s w, (q, r), d)) (left_of 2 (length ts) a) t l all n),
                                    (
                                      (λ scope ts p fits w a t l all n. divided_sound s scope binary.Div ts p fits refl (λ x y q r d. (is_int s w, (q, r), d)) (left_of 2 (length ts) a) t l all n),
                                      (
                                        (λ scope ts p fits w a t l all n. divided_sound s scope binary.Mod ts p fits refl (λ x y q r d. (is_int s w, (q, r), d)) (and_true (nat_le 2 (length ts)) (nat_le (length ts) 2) a).0 t l all n),
                                        (
                                          (λ scope ts p fits w a t l all n. let b = and_true (nat_le 1 (length ts)) (nat_le (length ts) 1) a in one_sound s scope unary.Abs ts tt b.0 b.1 t all),
                                          tt,
                                        ),
                                      ),
                                    ),
                                  ),
                                ),
                              ),
                            ),
                          ),
                        ),
                      ),
                    ),
                  ),
                ),
              ),
            ),
          ),
        ),
      ),
    ),
  ),
)

law_at : (s : Sort) (ops : List Operator) (row : ℕ) (op : Operator) → LawsOf s ops → slice_get ops row ≡ Some op → OpLaw s op
law_at s [] row op laws e = absurd cc
law_at s (o ∷ ops) zero op laws e = subst (OpLaw s) (some_is o op e) laws.0
  where
    some_is : (x y : Operator) → Some x ≡ Some y → x ≡ y
    some_is x y e = cc
law_at s (o ∷ ops) (suc row) op laws e = law_at s ops row op laws.1 e

logic_law : (s : Sort) (row : Option ℕ) (op : Operator) → of_logic_at s (line_at row) ≡ Some op → OpLaw s op × (is_within op.within s ≡ true)
logic_law s None op e = absurd cc
logic_law s (Some row) op e = by (slice_get lines row) refl e
  where
    one : (o : Operator) (b : Bool) → is_within o.within s ≡ b → slice_get lines row ≡ Some o → cond b (Some o) None ≡ Some op → OpLaw s op × (is_within op.within s ≡ true)
    one o true w is e = subst (λ (x : Operator). OpLaw s x × (is_within x.within s ≡ true)) (let f : o ≡ op = cc in f) (law_at s lines row o (all_laws s) is, w)
    one o false w is e = absurd cc

    by : (found : Option Operator) → slice_get lines row ≡ found → of_logic_at s found ≡ Some op → OpLaw s op × (is_within op.within s ≡ true)
    by None is e = absurd cc
    by (Some o) is e = one o (is_within o.within s) refl is e

-- an operator of the logic
pub operator_law : (s : Sort) (name : List ℕ) (op : Operator) → operator_named s name ≡ Some op → OpLaw s op × (is_within op.within s ≡ true)
unfolding operator_named
operator_law s name op e = logic_law s (position (λ known. bytes_eq known name) operator_words) op e

-- an application that was read
pub application_sound : (s : Sort) (scope : Sorts) (op : Operator) (p : Place) (ts : List Typed) (t : Typed) → OpLaw s op → is_within op.within s ≡ true → application op p ts ≡ Ok t → AllSound s scope ts → AllNarrow ts → Sound s scope t
unfolding application
application_sound s scope op p ts t law w e all narrow =
    let first = unless_ok (arity_fits op (length ts)) _ p _ t e in
    let second = unless_ok (sorts_fit op.takes (sorts_of ts)) _ p _ t first.1 in
    let third = bind_ok (linear_fits op.linear (map worth_here ts) p) (λ fits. Ok (applied op ts)) t second.1 in
    subst (Sound s scope) (same_ok (applied op ts) t third.2) (law scope ts p third.0 w first.0 second.0 third.1 all narrow)
