use Rattle.smt_lex.specs.Tokens.{tokens}
use Rattle.smt_tree.specs.Expressions.{expressions}
use Rattle.smt_goal.specs.Session.{state_seen}
use Rattle.smt_goal.proofs.Asking.{read_fault, read_goals}
use Rattle.smt_goal.proofs.SoundCommands.{all_formed}
use Rattle.smt_goal.proofs.script.read_script.Goals as goal

pub script_of-requires-clause-formed : goal.script_of-requires-clause-formed
script_of-requires-clause-formed c = all_formed (expressions (tokens c.args.bytes.now)) (state_seen c.in-Ok.session) c.in-Ok.ensures.0

pub returns-in-Err : goal.returns-in-Err
returns-in-Err c = read_fault c.args.bytes.now c.in-Err.fault c.in-Err.ensures

pub returns : goal.returns
returns c = read_goals c.args.bytes.now (state_seen c.in-Ok.session) c.script_of.result c.in-Ok.ensures.0 c.script_of.ensures
