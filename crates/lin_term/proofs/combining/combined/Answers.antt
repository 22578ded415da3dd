use Rattle.std.specs.Prelude.{Ok, Err}
use Rattle.std.proofs.Common.{◌≡◌, ◌^◌, nat_abs, sym, subst, ◌∙◌, w64, SFits, to_z-of_z, to_z, of_z}
use mir.Syntax.{w128}
use Rattle.lin_term.specs.Linear.{Form}
use Rattle.lin_term.specs.Sum.{inequality_with, Combined}
use Rattle.lin_term.specs.Wide.{Capped, form_numbers}
use Rattle.lin_term.specs.Settle.{sum_form, settled}
use Rattle.lin_term.proofs.Summing.{combined_ok, combined_err, combined_divisor}
use Rattle.lin_term.proofs.combining.combined.Goals as goal

pub returns-then-not-is_divisor : goal.returns-then-not-is_divisor
returns-then-not-is_divisor c =
    let fc : SFits w128 c.args.constant = c.ranges.constant in
    let fg : SFits w128 c.args.g = c.ranges.g in
    let fp : SFits w64 c.args.p = c.ranges.p in
    let fq : SFits w64 c.args.q = c.ranges.q in
    let d = simp to_z-of_z at c.divisor_of_sum-divisor.ensures in
    let t = simp to_z-of_z at c.is_divisor.ensures in
    combined_divisor c.args.sort c.args.strict (sum_form c.args.p c.args.left.now c.args.q c.args.right.now (2 ^ 20) c.args.constant) (nat_abs c.args.g) (λ e. let y = t.1 (d ∙ sym e) in let n = c.if-not-is_divisor.true in absurd (cc))

pub returns-in-Ok : goal.returns-in-Ok
returns-in-Ok c =
    let fc : SFits w128 c.args.constant = c.ranges.constant in
    let fg : SFits w128 c.args.g = c.ranges.g in
    let fp : SFits w64 c.args.p = c.ranges.p in
    let fq : SFits w64 c.args.q = c.ranges.q in
    let d = simp to_z-of_z at c.divisor_of_sum-divisor.ensures in
    let t = simp to_z-of_z at c.is_divisor.ensures in
    let r = simp to_z-of_z at c.in-Ok.ensures in
    let f : Form = sum_form c.args.p c.args.left.now c.args.q c.args.right.now (2 ^ 20) c.args.constant in
    subst (λ l. Combined c.args.sort (inequality_with c.args.strict f) (nat_abs c.args.g) (Ok l)) (sym c.inequality.ensures)
    (combined_ok c.args.sort c.args.strict f (nat_abs c.args.g) c.in-Ok.row c.requires.strict_in_rat (sym (t.0 c.if-not-is_divisor.false) ∙ d) r)

pub returns-in-Err : goal.returns-in-Err
returns-in-Err c =
    let fc : SFits w128 c.args.constant = c.ranges.constant in
    let fg : SFits w128 c.args.g = c.ranges.g in
    let fp : SFits w64 c.args.p = c.ranges.p in
    let fq : SFits w64 c.args.q = c.ranges.q in
    let d = simp to_z-of_z at c.divisor_of_sum-divisor.ensures in
    let t = simp to_z-of_z at c.is_divisor.ensures in
    let f : Form = sum_form c.args.p c.args.left.now c.args.q c.args.right.now (2 ^ 20) c.args.constant in
    let same : sum_form (to_z w64 (of_z w64 c.args.p)) c.args.left.now (to_z w64 (of_z w64 c.args.q)) c.args.right.now (2 ^ 20) (to_z w128 (of_z w128 c.args.constant)) ≡ f = simp to_z-of_z in
    let r = subst (λ (h : Form). Capped {A = Form} (form_numbers (settled c.args.sort h)) (settled c.args.sort h) (Err c.in-Err.fault)) same c.in-Err.ensures in
    subst (λ e. Combined c.args.sort (inequality_with c.args.strict f) (nat_abs c.args.g) (Err e)) (sym c.fault_of.ensures)
    (combined_err c.args.sort c.args.strict f (nat_abs c.args.g) c.in-Err.fault c.requires.strict_in_rat (sym (t.0 c.if-not-is_divisor.false) ∙ d) r)
