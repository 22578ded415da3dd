use Rattle.std.proofs.Common.{ℤ, ◌≤◌, ◌^◌, ◌∙◌, sym, subst, nat_abs}
use Rattle.lin_term.specs.Form.{Form, AreTerms, cap}
use Rattle.lin_term.specs.Point.{AreWithin}
use Rattle.lin_term.proofs.Terms.{two_words}
use Rattle.cube_elim.proofs.Trials.{dot_small}
use Rattle.cube_elim.proofs.case_value.value_at.Goals as goal

pub returns-clause-size : goal.returns-clause-size
returns-clause-size c =
    let f : Form = c.row-row.result.now in
    let q = two_words c.dot.result c.dot.type_inv in
    let a = subst (AreTerms 0) c.coefs-terms.ensures.terms c.coefs-terms.ensures.kept in
    let k = subst (λ (z : ℤ). nat_abs z ≤ cap) c.constant_part-constant.ensures.value c.constant_part-constant.ensures.kept in
    let w = subst AreWithin c.nums-nums.ensures.value c.nums-nums.ensures.kept in
    let d = subst (λ (z : ℤ). nat_abs z ≤ cap) c.den-den.ensures.value c.den-den.ensures.greatest in
    subst (λ (z : ℤ). nat_abs z ≤ 2 ^ 125) (sym (q ∙ c.dot.ensures)) (dot_small f c.args.trial.now a k w d)
