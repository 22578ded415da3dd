use Rattle.std.proofs.Common.{Ok, Err, length, arith}
use Rattle.term_table.specs.Meaning.{meanings}
use Rattle.smt_goal.proofs.Asking.{root_of, formed_of, given_of, one_asked, one_refused, all_asked}
use Rattle.smt_goal.proofs.script.goals_of.Goals as goal

pub goal_of-requires-clause-root : goal.goal_of-requires-clause-root
goal_of-requires-clause-root c =
    root_of (length c.args.table.now) c.args.questions.now c.loop-i.i c.index-questions-i.result c.index-questions-i.is c.requires.roots c.loop-i-test.true

pub goal_of-requires-clause-formed : goal.goal_of-requires-clause-formed
goal_of-requires-clause-formed c =
    formed_of (meanings c.args.table.now) c.args.questions.now c.loop-i.i c.index-questions-i.result c.index-questions-i.is c.requires.formed c.loop-i-test.true

pub returns : goal.returns
returns c = all_asked (meanings c.args.table.now) c.args.questions.now c.loop-i.i c.loop-i.goals c.loop-i.invariant.1 c.loop-i-test.false

pub returns-in-Err : goal.returns-in-Err
returns-in-Err c =
    let q = c.index-questions-i.result in
    one_refused (meanings c.args.table.now) c.args.questions.now c.loop-i.i q c.loop-i.goals.items c.in-Err.fault c.loop-i.invariant.1 c.loop-i-test.true
    (given_of (meanings c.args.table.now) c.args.questions.now c.loop-i.i q (Err c.in-Err.fault) c.index-questions-i.is c.in-Err.ensures)

pub loop-i-preserved : goal.loop-i-preserved
loop-i-preserved c =
    let q = c.index-questions-i.result in (
      omega (arith, c.loop-i-test.true),
      one_asked (meanings c.args.table.now) c.args.questions.now c.loop-i.i q c.loop-i.goals.items c.push.new.self.items c.in-Ok.goal c.loop-i.invariant.1 c.loop-i-test.true
          (given_of (meanings c.args.table.now) c.args.questions.now c.loop-i.i q (Ok c.in-Ok.goal) c.index-questions-i.is c.in-Ok.ensures) c.in-Ok-push.ensures.items,
    )
