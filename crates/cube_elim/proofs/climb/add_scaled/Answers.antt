use Rattle.std.proofs.Common.{ℤ, pos, ◌≤◌, nat_abs, sym, subst, get_or}
use Rattle.lin_term.specs.Form.{cap}
use Rattle.lin_term.proofs.Points.{at_within}
use Rattle.lin_term.proofs.Terms.{word_of}
use Rattle.cube_elim.proofs.climb.add_scaled.Goals as goal

pub add_multiple-requires-clause-num : goal.add_multiple-requires-clause-num
add_multiple-requires-clause-num c =
    let n = get_or c.args.nums.now c.loop-num.num-index (pos 0) in
    let h = at_within c.args.nums.now c.loop-num.num-index c.requires.within in
    subst (λ (z : ℤ). nat_abs z ≤ cap) (sym (word_of n h)) h
