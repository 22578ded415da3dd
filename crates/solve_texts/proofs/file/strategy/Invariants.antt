use Rattle.std.proofs.Common.{◌≡◌, take, map}
use Rattle.std.specs.List.{AllByRecursion}
use Rattle.strat_text.specs.Spelling.{IsSection}
use Rattle.solve_texts.specs.Texts.{goal_section}
use Rattle.solve_texts.proofs.file.strategy.Given as goal

abbrev pub invariant-loop-solved : goal.invariant-loop-solved
invariant-loop-solved l = record {
  version : l.sections.version ≡ 2;
  list : l.sections.list ≡ map goal_section (take l.solved-index l.outcomes);
  written : AllByRecursion IsSection l.sections.list;
}
