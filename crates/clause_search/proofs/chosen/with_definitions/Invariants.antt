use Rattle.std.proofs.Common.{length}
use Rattle.lose_system.specs.Written.{system_of}
use Rattle.clause_search.specs.Chosen.{Chooses, HasFirst, HasNodes}
use Rattle.clause_search.proofs.chosen.with_definitions.Given as goal

abbrev pub invariant-loop-node : goal.invariant-loop-node
invariant-loop-node g l = record {
  chooses : Chooses g.D.Domain.SORT l.system l.goal l.more;
  first : HasFirst g.D.Domain.SORT l.system l.goal (length l.goal.lits) l.more.cube;
  nodes : HasNodes (system_of g.D.Domain.SORT l.system) l.node l.more.cube;
}
