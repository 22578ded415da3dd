use Rattle.std.specs.Prelude.{◌+◌, ◌↔◌, IsTrue, List, drop, get_or}
use Rattle.std.proofs.Common.{subst, sym}
use Rattle.std.proofs.lemmas.List.{take_rest}
use Rattle.game_tree.specs.declared.tree.Branch.{Branch}
use Rattle.game_tree.specs.Skeleton.{IsNew}
use Rattle.game_tree.specs.View.{branches_of}
use Rattle.game_tree.proofs.Followed.{refuted, not_distinct, distinct_more}
use Rattle.game_tree.proofs.following.are_distinct.Goals as goal

pub returns-then-not-is_new : goal.returns-then-not-is_new
returns-then-not-is_new c =
    let g = subst (λ (xs : List Branch). IsTrue c.is_new.result ↔ IsNew (get_or c.args.branches.now c.loop-i.i c.index-branches-i.result).term (branches_of xs)) (take_rest c.args.branches.now (c.loop-i.i + 1)) c.is_new.ensures in
    let h = subst (λ (x : Branch). IsTrue c.is_new.result ↔ IsNew x.term (branches_of (drop (c.loop-i.i + 1) c.args.branches.now))) (sym c.index-branches-i.is) g in
    not_distinct c.args.branches.now c.loop-i.i c.index-branches-i.result c.loop-i-test.true c.index-branches-i.is
    (refuted c.is_new.result (IsNew c.index-branches-i.result.term (branches_of (drop (c.loop-i.i + 1) c.args.branches.now))) h c.if-not-is_new.true)

pub loop-i-preserved : goal.loop-i-preserved
loop-i-preserved c =
    let g = subst (λ (xs : List Branch). IsTrue c.is_new.result ↔ IsNew (get_or c.args.branches.now c.loop-i.i c.index-branches-i.result).term (branches_of xs)) (take_rest c.args.branches.now (c.loop-i.i + 1)) c.is_new.ensures in
    let h = subst (λ (x : Branch). IsTrue c.is_new.result ↔ IsNew x.term (branches_of (drop (c.loop-i.i + 1) c.args.branches.now))) (sym c.index-branches-i.is) g in
    distinct_more c.args.branches.now c.loop-i.i c.index-branches-i.result c.loop-i-test.true c.index-branches-i.is (h.0 c.if-not-is_new.false) c.loop-i.invariant
