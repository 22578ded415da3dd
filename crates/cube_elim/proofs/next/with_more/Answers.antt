use Rattle.std.proofs.Common.{pos, ◌∙◌, sym, subst, arith, append-nil}
use Rattle.lin_term.specs.Point.{AreWithin}
use Rattle.cube_elim.proofs.MorePoints.{within_push, more_zeros}
use Rattle.cube_elim.proofs.next.with_more.Goals as goal

pub loop-index-init : goal.loop-index-init
loop-index-init c =
    record {
      same = c.in_ok-nums.ensures ∙ c.nums.ensures.value ∙ sym (append-nil c.args.point.now.nums);
      within = subst AreWithin (sym c.in_ok-nums.ensures) c.nums.ensures.kept;
    }

pub loop-index-preserved : goal.loop-index-preserved
loop-index-preserved c =
    let i = c.loop-index.invariant in
    record {
      same = more_zeros c.args.point.now.nums c.loop-index.nums c.push.new.self c.loop-index.index i.same c.in_ok-push.ensures.ok;
      within = subst AreWithin (sym c.in_ok-push.ensures.ok) (within_push c.loop-index.nums (pos 0) i.within (omega arith));
    }
