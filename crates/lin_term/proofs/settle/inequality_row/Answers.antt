use Rattle.std.specs.Prelude.{Err}
use Rattle.std.proofs.Common.{sym, subst, w64, SFits, to_z-of_z, ℕ, ℤ, ◌≡◌, to_z, of_z, List, nat_abs}
use mir.Syntax.{w128}
use Rattle.lin_term.specs.Form.{AreTerms}
use Rattle.lin_term.specs.Linear.{Form}
use Rattle.lin_term.specs.Literal.{quotient_terms}
use Rattle.lin_term.specs.Blend.{sum_terms}
use Rattle.lin_term.specs.Items.{CappedTerms}
use Rattle.lin_term.specs.Wide.{Capped, form_numbers}
use Rattle.lin_term.specs.Settle.{sum_form}
use Rattle.lin_term.proofs.Terms.{two_words}
use Rattle.lin_term.proofs.Settling.{settled_are, settled_row, settled_wide}
use Rattle.lin_term.proofs.settle.inequality_row.Goals as goal

pub row_with-requires : goal.row_with-requires
row_with-requires c =
    let fg : SFits w128 c.args.g = c.ranges.g in
    let fp : SFits w64 c.args.p = c.ranges.p in
    let fq : SFits w64 c.args.q = c.ranges.q in
    let none = simp to_z-of_z at c.in-Ok.ensures.0 in
    let items = simp to_z-of_z at c.in-Ok.ensures.1 in
    subst (λ (ts : List (ℕ × ℤ)). AreTerms 0 ts) (sym items)
    (settled_are c.args.sort c.args.p c.args.left.now c.args.q c.args.right.now c.args.skip c.args.constant (nat_abs c.args.g) c.requires.left_kept c.requires.right_kept c.requires.divides none)

pub returns : goal.returns
returns c =
    let fg : SFits w128 c.args.g = c.ranges.g in
    let fc : SFits w128 c.args.constant = c.ranges.constant in
    let fp : SFits w64 c.args.p = c.ranges.p in
    let fq : SFits w64 c.args.q = c.ranges.q in
    let items = simp to_z-of_z at c.in-Ok.ensures.1 in
    let value = simp to_z-of_z at c.settled_constant-constant.ensures in
    let wide = two_words c.settled_constant-constant.result c.settled_constant-constant.type_inv in
    let f : Form = sum_form c.args.p c.args.left.now c.args.q c.args.right.now c.args.skip c.args.constant in
    settled_row c.args.sort f c.in-Ok.coefs.items c.is_empty.result c.settled_constant-constant.result (nat_abs c.args.g) c.row_with.result c.requires.divides items c.is_empty.ensures value
    (subst (λ (z : ℤ). Capped (form_numbers (record { terms = c.in-Ok.coefs.items; constant = z })) (record { terms = c.in-Ok.coefs.items; constant = z }) c.row_with.result) wide c.row_with.ensures)

pub returns-in-Err : goal.returns-in-Err
returns-in-Err c =
    let fg : SFits w128 c.args.g = c.ranges.g in
    let fp : SFits w64 c.args.p = c.ranges.p in
    let fq : SFits w64 c.args.q = c.ranges.q in
    let f : Form = sum_form c.args.p c.args.left.now c.args.q c.args.right.now c.args.skip c.args.constant in
    let all : quotient_terms (sum_terms (to_z w64 (of_z w64 c.args.p)) c.args.left.now (to_z w64 (of_z w64 c.args.q)) c.args.right.now c.args.skip) (nat_abs (to_z w128 (of_z w128 c.args.g))) ≡ quotient_terms f.terms (nat_abs c.args.g) = simp to_z-of_z in
    settled_wide c.args.sort f (nat_abs c.args.g) c.in-Err.fault c.requires.divides
    (subst (λ (ts : List (ℕ × ℤ)). CappedTerms ts (Err c.in-Err.fault)) all c.in-Err.ensures)
