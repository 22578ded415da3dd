use Rattle.std.specs.Prelude.{false, get_or}
use Rattle.std.proofs.Common.{arith, refl}
use Rattle.strat_trim.proofs.RenumberLemmas.{numbering_first, numbering_step, numbering_end}
use Rattle.strat_trim.proofs.renumbering.numbered.Goals as goal

pub loop-mark-init : goal.loop-mark-init
loop-mark-init c = numbering_first c.new-list.result c.args.marks.now c.new-list.ensures

pub next_number-count-requires : goal.next_number-count-requires
next_number-count-requires c = let f = c.loop-mark.invariant.few in let l = c.loop-mark-test.true in let r = c.requires in omega arith

pub loop-mark-preserved : goal.loop-mark-preserved
loop-mark-preserved c =
    numbering_step c.loop-mark.list c.push.new.self c.loop-mark.count c.next_number-count.result c.loop-mark.mark-index (get_or c.args.marks.now c.loop-mark.mark-index false) false c.args.marks.now c.loop-mark.invariant c.loop-mark-test.true refl c.in_ok-push.ensures.ok c.next_number-count.ensures

pub returns : goal.returns
returns c = numbering_end c.loop-mark.list c.loop-mark.count c.loop-mark.mark-index c.args.marks.now c.loop-mark.invariant c.loop-mark-test.false
