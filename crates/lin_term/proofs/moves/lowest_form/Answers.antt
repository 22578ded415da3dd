use Rattle.std.specs.Prelude.{ℕ, ℤ, ◌≡◌, ◌≤◌, ◌/◌, pos, nat_abs, List}
use Rattle.std.proofs.Common.{arith, ap, ap₂, ◌∙◌, sym, subst, w64, SFits, to_z, of_z, to_z-of_z}
use Rattle.std.proofs.lemmas.Int.{ints}
use Rattle.lin_term.specs.Form.{Form, AreTerms, cap}
use Rattle.lin_term.specs.Linear.{Sort}
use Rattle.lin_term.specs.Literal.{quotient, quotient_terms}
use Rattle.lin_term.specs.Move.{Move, IsMove, move_divisor, lowest}
use Rattle.lin_term.proofs.Residues.{with_constant}
use Rattle.lin_term.proofs.Terms.{word_of}
use Rattle.lin_term.proofs.Lowering.{move_with, divisor_pos, divisor_within, lowest_terms}
use Rattle.lin_term.proofs.KeptMoves.{parts_move, parts_divisor, divisor_word}
use Rattle.lin_term.proofs.moves.lowest_form.Goals as goal
use Rattle.lin_term.proofs.moves.lowest_form.Goals.{After-divisor_of-g}

abbrev of_args : After-divisor_of-g → Move
of_args c = move_with c.args.row (nat_abs c.args.div)

number : (c : After-divisor_of-g) → c.divisor_of-g.result ≡ move_divisor c.args.sort (of_args c)
number c =
    let f : SFits w64 c.args.div = c.ranges.div in
    parts_divisor c.args.sort c.args.row c.as_slice.result.now c.into_parts-coefs.result.0.items c.into_parts-coefs.result.1 c.args.div c.divisor_of-g.result c.as_slice.ensures c.into_parts-coefs.ensures.terms c.into_parts-coefs.ensures.constant c.into_parts-coefs.ensures.row f c.divisor_of-g.ensures

word : (c : After-divisor_of-g) → to_z w64 c.divisor_of-g.result ≡ pos (move_divisor c.args.sort (of_args c))
word c = divisor_word c.args.sort c.args.row c.args.div c.divisor_of-g.result c.into_parts-coefs.ensures.row c.requires.least c.requires.greatest (number c)

a_move : (c : After-divisor_of-g) → IsMove (of_args c)
a_move c = parts_move c.args.row c.args.div c.into_parts-coefs.ensures.row c.requires.least c.requires.greatest

made : (s : Sort) (f : Form) (ts : List (ℕ × ℤ)) (k d a n : ℤ) → ts ≡ f.terms → k ≡ f.constant → a ≡ d → n ≡ pos (move_divisor s (move_with f (nat_abs d))) → move_with (quotient (with_constant ts k) (nat_abs n)) (nat_abs a / nat_abs n) ≡ lowest s (move_with f (nat_abs d))
made s f ts k d a n e h i j =
    ap₂ (λ (g : Form) (z : ℤ). move_with (quotient g (nat_abs z)) (nat_abs a / nat_abs z)) (ap₂ with_constant e h) j
    ∙ ap (λ (z : ℤ). move_with (quotient f (move_divisor s (move_with f (nat_abs d)))) (nat_abs z / move_divisor s (move_with f (nat_abs d)))) i

pub overflow_cast-g : goal.overflow_cast-g
overflow_cast-g c =
    let n = number c in
    let w = divisor_within c.args.sort (of_args c) (a_move c).1 in
    let h = c.requires.greatest in
    omega (arith, ints)

pub divided_move-requires-clause-g_least : goal.divided_move-requires-clause-g_least
divided_move-requires-clause-g_least c =
    let w = word c in let p = divisor_pos c.args.sort (of_args c) in omega (arith, ints)

pub divided_move-requires-clause-exact : goal.divided_move-requires-clause-exact
divided_move-requires-clause-exact c =
    subst (λ (z : ℤ). AreTerms 0 (quotient_terms c.into_parts-coefs.result.0.items (nat_abs z))) (sym (word c))
    (subst (λ (ts : List (ℕ × ℤ)). AreTerms 0 (quotient_terms ts (move_divisor c.args.sort (of_args c)))) (sym c.into_parts-coefs.ensures.terms) (lowest_terms c.args.sort (of_args c) (a_move c)).0.0)

pub divided_move-requires-clause-div_least : goal.divided_move-requires-clause-div_least
divided_move-requires-clause-div_least c =
    let f : SFits w64 c.args.div = c.ranges.div in
    subst (λ (z : ℤ). 1 ≤ nat_abs z / nat_abs (to_z w64 c.divisor_of-g.result)) (sym (to_z-of_z f))
    (subst (λ (z : ℤ). 1 ≤ nat_abs c.args.div / nat_abs z) (sym (word c)) (lowest_terms c.args.sort (of_args c) (a_move c)).1)

pub returns : goal.returns
returns c =
    let f : SFits w64 c.args.div = c.ranges.div in
    let e = c.into_parts-coefs.ensures in
    let k : to_z w64 (of_z w64 c.into_parts-coefs.result.1) ≡ c.args.row.constant = word_of c.into_parts-coefs.result.1 (subst (λ (z : ℤ). nat_abs z ≤ cap) (sym e.constant) e.row.1) ∙ e.constant in
    c.divided_move.ensures ∙ made c.args.sort c.args.row c.into_parts-coefs.result.0.items (to_z w64 (of_z w64 c.into_parts-coefs.result.1)) c.args.div (to_z w64 (of_z w64 c.args.div)) (to_z w64 c.divisor_of-g.result) e.terms k (to_z-of_z f) (word c.before)
