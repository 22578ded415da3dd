use Rattle.std.proofs.Common.{ℤ, ◌≤◌, nat_abs, sym, subst}
use Rattle.lin_term.specs.Form.{cap}
use Rattle.lin_term.specs.Linear.{at}
use Rattle.lin_term.proofs.Points.{at_within}
use Rattle.lin_term.proofs.Terms.{word_of}
use Rattle.dom_int.proofs.picking.congruent_move.Goals as goal

pub above-requires-clause-v_kept : goal.above-requires-clause-v_kept
above-requires-clause-v_kept c =
    let k = at_within c.nums-nums.result.now c.args.var c.nums-nums.ensures.kept in
    subst (λ (y : ℤ). nat_abs y ≤ cap) (sym (word_of (at c.nums-nums.result.now c.args.var) k)) k

pub below_or_alone-requires-clause-v_kept : goal.below_or_alone-requires-clause-v_kept
below_or_alone-requires-clause-v_kept c =
    let k = at_within c.nums-nums.result.now c.args.var c.nums-nums.ensures.kept in
    subst (λ (y : ℤ). nat_abs y ≤ cap) (sym (word_of (at c.nums-nums.result.now c.args.var) k)) k
