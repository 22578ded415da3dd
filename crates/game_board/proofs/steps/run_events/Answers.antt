use Rattle.std.proofs.Common.{rules, arith}
use Rattle.game_board.proofs.Stepping.{leads_first, legal_at_end}
use Rattle.game_board.proofs.Events.{leads_on, leads_through}
use Rattle.game_board.proofs.steps.run_events.Goals as goal

pub loop-event-init : goal.loop-event-init
loop-event-init g c = (leads_first g.D.Domain.SORT c.args.problem c.args.rounds c.in_ok-board.board c.in_ok-board.ensures, search rules)

pub loop-event-preserved : goal.loop-event-preserved
loop-event-preserved g c =
    leads_on g.D.Domain.SORT c.args.problem c.args.rounds c.loop-event.board c.step.new.self c.args.events.items c.loop-event.yielded c.loop-event.event-iterator.rest.items c.next.new.self.rest.items
    c.in-Some.event c.in_ok-_reply._reply c.loop-event.invariant.0 c.loop-event.invariant.1 c.in-Some.ensures.steps.0 c.in_ok-_reply.ensures.steps

pub loop-event-preserved-in_ok-_reply : goal.loop-event-preserved-in_ok-_reply
loop-event-preserved-in_ok-_reply g c =
    leads_on g.D.Domain.SORT c.args.problem c.args.rounds c.loop-event.board c.step.new.self c.args.events.items c.loop-event.yielded c.loop-event.event-iterator.rest.items c.next.new.self.rest.items
    c.in-Some.event c.in_ok-_reply._reply c.loop-event.invariant.0 c.loop-event.invariant.1 c.in-Some.ensures.steps.0 c.in_ok-_reply.ensures.steps

pub loop-event-preserved-in_ok-_reply-2 : goal.loop-event-preserved-in_ok-_reply-2
loop-event-preserved-in_ok-_reply-2 g c =
    leads_on g.D.Domain.SORT c.args.problem c.args.rounds c.loop-event.board c.step.new.self c.args.events.items c.loop-event.yielded c.loop-event.event-iterator.rest.items c.next.new.self.rest.items
    c.in-Some.event c.in_ok-_reply._reply c.loop-event.invariant.0 c.loop-event.invariant.1 c.in-Some.ensures.steps.0 c.in_ok-_reply.ensures.steps

pub loop-event-preserved-in_ok-_reply-3 : goal.loop-event-preserved-in_ok-_reply-3
loop-event-preserved-in_ok-_reply-3 g c =
    leads_on g.D.Domain.SORT c.args.problem c.args.rounds c.loop-event.board c.step.new.self c.args.events.items c.loop-event.yielded c.loop-event.event-iterator.rest.items c.next.new.self.rest.items
    c.in-Some.event c.in_ok-_reply._reply c.loop-event.invariant.0 c.loop-event.invariant.1 c.in-Some.ensures.steps.0 c.in_ok-_reply.ensures.steps

pub loop-event-preserved-in_ok-_reply-4 : goal.loop-event-preserved-in_ok-_reply-4
loop-event-preserved-in_ok-_reply-4 g c =
    leads_on g.D.Domain.SORT c.args.problem c.args.rounds c.loop-event.board c.step.new.self c.args.events.items c.loop-event.yielded c.loop-event.event-iterator.rest.items c.next.new.self.rest.items
    c.in-Some.event c.in_ok-_reply._reply c.loop-event.invariant.0 c.loop-event.invariant.1 c.in-Some.ensures.steps.0 c.in_ok-_reply.ensures.steps

pub returns-clause-runs : goal.returns-clause-runs
returns-clause-runs g c =
    let e = c.loop-event.event-iterator.rest.ok.0 in
    let z = c.in-None.ensures.steps.0 in
    leads_through g.D.Domain.SORT c.args.problem c.args.rounds c.loop-event.board c.args.events.items c.loop-event.yielded c.loop-event.event-iterator.rest.items c.loop-event.invariant.0 c.loop-event.invariant.1 (omega arith)

pub returns-clause-legal : goal.returns-clause-legal
returns-clause-legal g c =
    legal_at_end g.D.Domain.SORT c.args.problem c.args.rounds c.loop-event.yielded c.loop-event.board c.loop-event.invariant.0 c.history-legal.ensures.legal
