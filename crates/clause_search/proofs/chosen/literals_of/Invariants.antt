use Rattle.clause_search.specs.Chosen.{Chooses, HasFirst}
use Rattle.clause_search.proofs.chosen.literals_of.Given as goal

abbrev pub invariant-loop-part : goal.invariant-loop-part
invariant-loop-part g l = record {
  chooses : Chooses g.D.Domain.SORT l.system l.goal l.chosen;
  first : HasFirst g.D.Domain.SORT l.system l.goal l.part-index l.chosen.cube;
}
