use Rattle.std.proofs.Common.{ℕ, ℤ, List, ◌≤◌, subst, nat_abs}
use Rattle.lin_term.specs.Form.{Form, IsRow, AreTerms, cap}
use Rattle.lin_term.proofs.PuttingLemmas.{lit_fits}
use Rattle.lin_term.proofs.putting.copied.Goals as goal

pub returns-in-Ok : goal.returns-in-Ok
returns-in-Ok c =
    let t = subst (λ (us : List (ℕ × ℤ)). AreTerms 0 us) c.coefs-terms.ensures.terms c.coefs-terms.ensures.kept in
    let k = subst (λ (z : ℤ). nat_abs z ≤ cap) c.constant_part-constant.ensures.value c.constant_part-constant.ensures.kept in
    let r = subst (λ (f : Form). IsRow f) c.row-row.ensures (t, k) in
    (lit_fits c.args.sort c.args.lit.now r c.requires, c.in-Ok.ensures)
