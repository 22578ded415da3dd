use Rattle.std.specs.Prelude.{ℕ, ◌≡◌, ◌≤◌, nat_abs}
use Rattle.std.proofs.Common.{arith, ap, ◌∙◌, sym, subst, w64, SFits, to_z-of_z}
use Rattle.std.proofs.lemmas.Int.{ints}
use Rattle.lin_term.specs.Linear.{Sort}
use Rattle.lin_term.specs.Literal.{gcd, gcd_terms}
use Rattle.lin_term.specs.Move.{Move, move_divisor}
use Rattle.lin_term.proofs.Lowering.{divisor_in_rat, divisor_in_int}
use Rattle.lin_term.proofs.moves.divisor_of.Goals as goal

pub returns-in-Rat : goal.returns-in-Rat
returns-in-Rat c =
    let fd : SFits w64 c.args.div = c.ranges.div in
    let fc : SFits w64 c.args.constant = c.ranges.constant in
    let d = simp to_z-of_z at c.unsigned_abs-div.ensures.value in
    let k = simp to_z-of_z at c.unsigned_abs.ensures.value in
    let m : Move = record { numer = record { terms = c.args.coefs.now; constant = c.args.constant }; div = nat_abs c.args.div } in
    let o : 1 ≤ nat_abs c.args.div = omega (arith, ints, c.requires.least) in
    subst (λ (s : Sort). c.common_divisor.result ≡ move_divisor s m) (sym c.in-Rat.is)
    (divisor_in_rat (nat_abs c.args.div) (nat_abs c.args.constant) c.common_divisor.result c.args.coefs.now o
    (c.common_divisor.ensures ∙ ap (λ (n : ℕ). gcd n (gcd_terms c.args.coefs.now)) (c.gcd_of_words.ensures ∙ ap (λ (n : ℕ). gcd n c.unsigned_abs.result) d ∙ ap (gcd (nat_abs c.args.div)) k)))

pub returns-in-Int : goal.returns-in-Int
returns-in-Int c =
    let fd : SFits w64 c.args.div = c.ranges.div in
    let d = simp to_z-of_z at c.unsigned_abs-div.ensures.value in
    let m : Move = record { numer = record { terms = c.args.coefs.now; constant = c.args.constant }; div = nat_abs c.args.div } in
    let o : 1 ≤ nat_abs c.args.div = omega (arith, ints, c.requires.least) in
    subst (λ (s : Sort). c.common_divisor-in-Int.result ≡ move_divisor s m) (sym c.in-Int.is)
    (divisor_in_int (nat_abs c.args.div) c.common_divisor-in-Int.result c.args.coefs.now o (c.common_divisor-in-Int.ensures ∙ ap (λ (n : ℕ). gcd n (gcd_terms c.args.coefs.now)) d))
