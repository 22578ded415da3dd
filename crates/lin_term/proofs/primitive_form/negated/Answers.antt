use Rattle.std.specs.Prelude.{◌-ℤ◌}
use Rattle.std.proofs.Common.{ℕ, ℤ, List, ◌≡◌, ◌≤◌, pos, nat_abs, subst, sym, ap, arith, ◌∙◌, to_z, of_z, w64}
use Rattle.std.proofs.lemmas.Int.{ints}
use Rattle.lin_term.specs.Form.{AreTerms, cap}
use Rattle.lin_term.proofs.Terms.{word_of}
use Rattle.lin_term.proofs.Negating.{negate_are}
use Rattle.lin_term.proofs.primitive_form.negated.Goals as goal

pub from_parts-requires : goal.from_parts-requires
from_parts-requires c =
    let w = word_of c.constant_part.result c.constant_part.ensures.kept in
    let s : nat_abs (pos 0 -ℤ c.constant_part.result) ≡ nat_abs c.constant_part.result = omega (arith, ints) in
    let k : nat_abs (pos 0 -ℤ c.constant_part.result) ≤ cap = omega (arith, c.constant_part.ensures.kept) in
    let e : to_z w64 (of_z w64 (pos 0 -ℤ to_z w64 (of_z w64 c.constant_part.result))) ≡ pos 0 -ℤ c.constant_part.result = ap (λ (z : ℤ). to_z w64 (of_z w64 (pos 0 -ℤ z))) w ∙ word_of (pos 0 -ℤ c.constant_part.result) k in (
      subst (λ (ts : List (ℕ × ℤ)). AreTerms 0 ts) (sym c.in_ok-coefs.ensures) (negate_are 0 c.coefs.result.now c.coefs.ensures.kept),
      subst (λ (z : ℤ). nat_abs z ≤ cap) (sym e) k,
    )
