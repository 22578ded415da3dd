use Rattle.strat_trim.specs.Trimmed.{named_paths, named_nodes}
use Rattle.strat_trim.proofs.MarkLemmas.{lines_step, lines_end}
use Rattle.strat_trim.proofs.naming.names_in.Goals as goal

pub loop-step-preserved : goal.loop-step-preserved
loop-step-preserved c = (
  lines_step c.args.paths named_paths c.args.proof.now c.loop-step.step-index c.step-item.result c.loop-step.path_marks c.mark_path.new.marks c.loop-step.invariant.0 c.loop-step-test.true c.step-item.is c.mark_path.ensures,
  lines_step c.args.nodes named_nodes c.args.proof.now c.loop-step.step-index c.step-item.result c.loop-step.node_marks c.mark_nodes.new.marks c.loop-step.invariant.1 c.loop-step-test.true c.step-item.is c.mark_nodes.ensures,
)

pub returns-clause-paths : goal.returns-clause-paths
returns-clause-paths c = lines_end c.args.paths named_paths c.args.proof.now c.loop-step.step-index c.loop-step.path_marks c.loop-step.invariant.0 c.loop-step-test.false

pub returns-clause-nodes : goal.returns-clause-nodes
returns-clause-nodes c = lines_end c.args.nodes named_nodes c.args.proof.now c.loop-step.step-index c.loop-step.node_marks c.loop-step.invariant.1 c.loop-step-test.false
