use Rattle.std.proofs.Common.{ℕ, ◌≡◌, ◌≤◌, arith, sym, subst}
use Rattle.dom_core.proofs.Periods.{gcd_pos}
use Rattle.dom_core.proofs.Picking.{lower_size}
use Rattle.cube_elim.proofs.lines.line_of.Goals as goal

pub nonzero_div-p : goal.nonzero_div-p
nonzero_div-p c =
    let s = lower_size c.args.var c.args.lower.now c.requires in
    let h = gcd_pos c.size_of-a.result c.size_of-b.result (subst (λ (n : ℕ). 1 ≤ n) (sym c.size_of-a.ensures.value) s) in omega (arith, c.gcd_of_words-g.ensures)

pub nonzero_div-q : goal.nonzero_div-q
nonzero_div-q c =
    let s = lower_size c.args.var c.args.lower.now c.requires in
    let h = gcd_pos c.size_of-a.result c.size_of-b.result (subst (λ (n : ℕ). 1 ≤ n) (sym c.size_of-a.ensures.value) s) in omega (arith, c.gcd_of_words-g.ensures)
