use Rattle.std.proofs.Common.{subst}
use Rattle.smt_lex.specs.Tokens.{tokens}
use Rattle.smt_tree.specs.Expressions.{expressions}
use Rattle.smt_tree.specs.Seen.{Gives}
use Rattle.smt_goal.specs.Command.{start}
use Rattle.smt_goal.specs.Script.{obeyed_all}
use Rattle.smt_goal.proofs.Obeying.{begins, goes_on, exits, breaks, refused, ends}
use Rattle.smt_goal.proofs.obey.all_commands.Goals as goal

pub loop-found-init : goal.loop-found-init
loop-found-init c = (tt, tt, begins c.args.bytes.now c.new-session.result c.expressions_of-left.result c.new-session.ensures.start c.new-session.ensures.ready c.expressions_of-left.ensures.tokens)

pub returns-in-Err : goal.returns-in-Err
returns-in-Err c =
    let from = c.loop-found.left in
    refused (obeyed_all start (expressions (tokens c.args.bytes.now))) c.loop-found.session from c.next.new.self c.in-Err.fault c.loop-found.invariant.2
    (subst (λ r. Gives (expressions from) r c.next.new.self) c.in-Err.is c.in-Some.ensures.steps.0)

pub returns-in-Err-command : goal.returns-in-Err-command
returns-in-Err-command c =
    let from = c.loop-found.left in
    breaks (obeyed_all start (expressions (tokens c.args.bytes.now))) c.loop-found.session c.command.new.self c.in-Ok.expr from c.next.new.self c.in-Err-command.fault c.loop-found.invariant.2
    (subst (λ r. Gives (expressions from) r c.next.new.self) c.in-Ok.is c.in-Some.ensures.steps.0) c.in-Err-command.ensures

pub returns-then-session : goal.returns-then-session
returns-then-session c =
    let from = c.loop-found.left in
    exits (obeyed_all start (expressions (tokens c.args.bytes.now))) c.loop-found.session c.command.new.self c.in-Ok.expr from c.next.new.self c.loop-found.invariant.2
    (subst (λ r. Gives (expressions from) r c.next.new.self) c.in-Ok.is c.in-Some.ensures.steps.0) c.in-Ok-command.ensures c.if-session.true

pub loop-found-preserved-else-session : goal.loop-found-preserved-else-session
loop-found-preserved-else-session c =
    let from = c.loop-found.left in (
      tt,
      tt,
      goes_on (obeyed_all start (expressions (tokens c.args.bytes.now))) c.loop-found.session c.command.new.self c.in-Ok.expr from c.next.new.self c.loop-found.invariant.2
          (subst (λ r. Gives (expressions from) r c.next.new.self) c.in-Ok.is c.in-Some.ensures.steps.0) c.in-Ok-command.ensures c.if-session.false,
    )

pub loop-found-preserved : goal.loop-found-preserved
loop-found-preserved c =
    let from = c.loop-found.left in (
      tt,
      tt,
      goes_on (obeyed_all start (expressions (tokens c.args.bytes.now))) c.loop-found.session c.command.new.self c.in-Ok.expr from c.next.new.self c.loop-found.invariant.2
          (subst (λ r. Gives (expressions from) r c.next.new.self) c.in-Ok.is c.in-Some.ensures.steps.0) c.in-Ok-command.ensures c.if-session.false,
    )

pub returns : goal.returns
returns c = ends (obeyed_all start (expressions (tokens c.args.bytes.now))) c.loop-found.session c.loop-found.left c.loop-found.invariant.2 c.in_default.ensures.steps.0
