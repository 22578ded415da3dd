use Rattle.std.proofs.Common.{ℕ, ◌≡◌, ◌≤◌, arith, sym, subst}
use Rattle.dom_core.proofs.Periods.{gcd_pos}
use Rattle.dom_rat.proofs.fourier_motzkin.resolvent.Goals as goal

pub nonzero_div-b : goal.nonzero_div-b
nonzero_div-b c =
    let h = gcd_pos c.size_of-a.result c.size_of-b.result (subst (λ (n : ℕ). 1 ≤ n) (sym c.size_of-a.ensures.value) c.requires) in omega (arith, c.gcd_of_words-g.ensures)

pub nonzero_div-a : goal.nonzero_div-a
nonzero_div-a c =
    let h = gcd_pos c.size_of-a.result c.size_of-b.result (subst (λ (n : ℕ). 1 ≤ n) (sym c.size_of-a.ensures.value) c.requires) in omega (arith, c.gcd_of_words-g.ensures)
