-- What the code's values say about a move.
use Rattle.std.specs.Prelude.{ℕ, ◌≤◌, ◌<◌, ◌≡◌, ◌^◌, ◌⊎◌, ℤ, pos, ◌≤ℤ◌, ◌<ℤ◌, nat_abs, Some, None, List}
use Rattle.std.proofs.Common.{arith, ap, ap₂, ◌∙◌, sym, subst, inl, inr, w64, SFits, to_z, of_z, to_z-of_z}
use mir.Syntax.{w128}
use Rattle.std.proofs.lemmas.Int.{ints}
use Rattle.std.proofs.lemmas.Bool.{cases_lt}
use Rattle.lin_term.specs.Form.{Form, AreTerms, IsRow, cap}
use Rattle.lin_term.specs.Linear.{Sort}
use Rattle.lin_term.specs.Move.{Move, IsMove, move_divisor, IsLowest}
use Rattle.lin_term.specs.Definition.{move_numbers, IsKeptMove}
use Rattle.lin_term.specs.Upper.{upper_constant}
use Rattle.lin_term.specs.Wide.{first_past}
use Rattle.lin_term.proofs.Terms.{word_of, wide_of}
use Rattle.lin_term.proofs.Residues.{with_constant}
use Rattle.lin_term.proofs.Lowering.{move_with, one_by_lowest, divisor_within}
use Rattle.lin_term.proofs.Defining.{numbers_fit, numbers_past, upper_least, kept_from, kept_upper}

pub is_move : (m : Move) (f g : Form) (ts : List (ℕ × ℤ)) (k d : ℤ) → AreTerms 0 ts → ts ≡ f.terms → f ≡ m.numer → nat_abs k ≤ cap → k ≡ g.constant → g ≡ m.numer → d ≡ pos m.div → pos 1 ≤ℤ d → nat_abs d ≤ cap → IsMove m
is_move m f g ts k d a e h b i j l o n =
    let c : k ≡ m.numer.constant = i ∙ ap (λ (x : Form). x.constant) j in (
      (subst (λ (us : List (ℕ × ℤ)). AreTerms 0 us) (e ∙ ap (λ (x : Form). x.terms) h) a, subst (λ (z : ℤ). nat_abs z ≤ cap) c b),
      omega (arith, ints),
      omega (arith, ints),
    )

-- the constant as it is worked out
pub upper_at : (s : Sort) (m : Move) (u k d : ℤ) → u ≡ upper_constant s (to_z w64 (of_z w64 k)) (nat_abs (to_z w64 (of_z w64 d))) → nat_abs k ≤ cap → k ≡ m.numer.constant → nat_abs d ≤ cap → d ≡ pos m.div → u ≡ upper_constant s m.numer.constant m.div
upper_at s m u k d e h c l n =
    e ∙ ap₂ (λ (z : ℤ) (i : ℕ). upper_constant s z i) (word_of k h ∙ c) (ap nat_abs (word_of d l ∙ n))

pub of_word : (u : ℤ) → nat_abs u ≤ 2 ^ 53 → to_z w64 (of_z w64 u) ≡ u
of_word u k = let f : SFits w64 u = omega (arith, ints) in to_z-of_z f

-- the number is past the cap: it is the first that is
pub make_past : (s : Sort) (m : Move) (u : ℤ) → IsMove m → IsLowest s m → u ≡ upper_constant s m.numer.constant m.div → nat_abs u ≤ 2 ^ 53 → pos cap <ℤ to_z w64 (of_z w64 u) → first_past (move_numbers s m) ≡ Some (to_z w128 (of_z w128 (to_z w64 (of_z w64 u))))
make_past s m u a l e k h =
    let w = of_word u k in
    let g : cap < nat_abs (upper_constant s m.numer.constant m.div) = omega (arith, ints, e) in
    numbers_past s m a (one_by_lowest s m a.1 l) g
    ∙ ap Some (sym e ∙ sym (ap (λ (z : ℤ). to_z w128 (of_z w128 z)) w ∙ wide_of u (omega arith)))

-- else all numbers fit
pub make_fits : (s : Sort) (m : Move) (u : ℤ) → IsMove m → IsLowest s m → u ≡ upper_constant s m.numer.constant m.div → nat_abs u ≤ 2 ^ 53 → to_z w64 (of_z w64 u) ≤ℤ pos cap → first_past (move_numbers s m) ≡ None
make_fits s m u a l e k h =
    numbers_fit s m a (one_by_lowest s m a.1 l) (small (cases_lt cap (nat_abs (upper_constant s m.numer.constant m.div))))
  where
    small : (cap < nat_abs (upper_constant s m.numer.constant m.div)) ⊎ (nat_abs (upper_constant s m.numer.constant m.div) ≤ cap) → nat_abs (upper_constant s m.numer.constant m.div) ≤ cap
    small (inl g) = let x = upper_least s m.numer.constant m.div a.0.1 a.1 g in let w = of_word u k in absurd (omega (arith, ints, e))
    small (inr g) = g

-- the divisor as it is worked out
pub divisor_at : (s : Sort) (m : Move) (f : Form) (ts : List (ℕ × ℤ)) (k d : ℤ) (g : ℕ) → ts ≡ f.terms → f ≡ m.numer → nat_abs k ≤ cap → k ≡ f.constant → nat_abs d ≤ cap → d ≡ pos m.div → g ≡ move_divisor s (move_with (with_constant ts (to_z w64 (of_z w64 k))) (nat_abs (to_z w64 (of_z w64 d)))) → g ≡ move_divisor s m
divisor_at s m f ts k d g e h l c n i j =
    j ∙ ap (move_divisor s) (ap₂ move_with (ap₂ with_constant e (word_of k l ∙ c) ∙ h) (ap nat_abs (word_of d n ∙ i)))

-- the test of a move with the divisor 1
pub kept_where : (s : Sort) (m : Move) (u : ℤ) → IsMove m → move_divisor s m ≡ 1 → u ≡ upper_constant s m.numer.constant m.div → nat_abs u ≤ 2 ^ 53 → to_z w64 (of_z w64 u) ≤ℤ pos cap → IsKeptMove s m
kept_where s m u a o e k h =
    let w = of_word u k in kept_from s m a o (let g : upper_constant s m.numer.constant m.div ≤ℤ pos cap = omega (arith, ints, e) in g)

pub where_kept : (s : Sort) (m : Move) (u : ℤ) → IsMove m → u ≡ upper_constant s m.numer.constant m.div → nat_abs u ≤ 2 ^ 53 → IsKeptMove s m → to_z w64 (of_z w64 u) ≤ℤ pos cap
where_kept s m u a e k h =
    let w = of_word u k in let b = kept_upper s m a h in let c : nat_abs u ≤ cap = subst (λ (z : ℤ). nat_abs z ≤ cap) (sym e) b in omega (arith, ints)

-- the parts of a row that is a move's numerator
pub parts_move : (f : Form) (d : ℤ) → IsRow f → pos 1 ≤ℤ d → nat_abs d ≤ cap → IsMove (move_with f (nat_abs d))
parts_move f d r o h = (r, (let l : 1 ≤ nat_abs d = omega (arith, ints) in l), h)

pub parts_divisor : (s : Sort) (f : Form) (us ts : List (ℕ × ℤ)) (k d : ℤ) (g : ℕ) → us ≡ ts → ts ≡ f.terms → k ≡ f.constant → IsRow f → SFits w64 d → g ≡ move_divisor s (move_with (with_constant us (to_z w64 (of_z w64 k))) (nat_abs (to_z w64 (of_z w64 d)))) → g ≡ move_divisor s (move_with f (nat_abs d))
parts_divisor s f us ts k d g e h c r i j =
    j ∙ ap (move_divisor s) (ap₂ move_with (ap₂ with_constant (e ∙ h) (word_of k (subst (λ (z : ℤ). nat_abs z ≤ cap) (sym c) r.1) ∙ c)) (ap nat_abs (to_z-of_z i)))

pub divisor_word : (s : Sort) (f : Form) (d : ℤ) (g : ℕ) → IsRow f → pos 1 ≤ℤ d → nat_abs d ≤ cap → g ≡ move_divisor s (move_with f (nat_abs d)) → to_z w64 g ≡ pos (move_divisor s (move_with f (nat_abs d)))
divisor_word s f d g r o h e =
    let m = parts_move f d r o h in
    let w = divisor_within s (move_with f (nat_abs d)) m.1 in
    (let q : to_z w64 g ≡ pos g = omega (arith, ints, e) in q) ∙ ap pos e
