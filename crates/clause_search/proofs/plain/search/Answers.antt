use Rattle.std.specs.Prelude.{[], reverse}
use Rattle.clause_search.proofs.Stacking.{started, runs, found_done}
use Rattle.clause_search.proofs.plain.search.Goals as goal

pub loop-init : goal.loop-init
loop-init g c = started g.D.Domain.SORT c.args.system.now c.start.result c.args.lines.now c.new-splits.result c.start.ensures c.new-splits.ensures

pub turn-requires : goal.turn-requires
turn-requires g c = runs g.D.Domain.SORT c.args.system.now (record { count = 0; next = 0; waiting = []; lits = [] }) c.args.lines.now (reverse c.loop.splits) c.loop.lines c.loop.state c.loop.invariant

pub returns-in-Done : goal.returns-in-Done
returns-in-Done g c =
    found_done g.D.Domain.SORT c.args.system.now (record { count = 0; next = 0; waiting = []; lits = [] }) c.args.lines.now (reverse c.turn.new.splits) c.turn.new.lines c.in_ok-next.next c.in-Done.found c.in-Done.is
    (c.in_ok-next.ensures (record { count = 0; next = 0; waiting = []; lits = [] }) c.args.lines.now c.loop.invariant)

pub loop-preserved : goal.loop-preserved
loop-preserved g c = c.in_ok-next.ensures (record { count = 0; next = 0; waiting = []; lits = [] }) c.args.lines.now c.loop.invariant
