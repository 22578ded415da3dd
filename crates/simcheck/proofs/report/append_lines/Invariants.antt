use Rattle.std.proofs.Common.{◌≡◌, ◌++◌, ◌||◌, ◌<◌, ◌^◌, map, drop}
use Rattle.std.specs.List.{AllByRecursion}
use Rattle.dom_core.specs.Problem.{problem_of}
use Rattle.strat_text.specs.Spelling.{IsSection, line_of}
use Rattle.simcheck.specs.Verdicts.{lines, any_rejected}
use Rattle.simcheck.specs.Carried.{EachWins}
use Rattle.simcheck.proofs.report.append_lines.Given as goal

-- what is written, and the lines of what is left, are all the lines; where each that is left is won, each is
abbrev pub invariant-loop-i : goal.invariant-loop-i
invariant-loop-i g l =
    (l.text.items ++ lines g.D.Domain.SORT (map problem_of (drop l.i l.problems)) (drop l.i l.sections) ≡ l.initial.text.items ++ lines g.D.Domain.SORT (map problem_of l.problems) l.sections)
    × ((l.rejected || any_rejected g.D.Domain.SORT (map problem_of (drop l.i l.problems)) (drop l.i l.sections)) ≡ any_rejected g.D.Domain.SORT (map problem_of l.problems) l.sections)
    × (EachWins g.D.Domain.SORT (map problem_of (drop l.i l.problems)) (drop l.i l.sections) → EachWins g.D.Domain.SORT (map problem_of l.problems) l.sections)
    × AllByRecursion IsSection (drop l.i l.sections)
    × AllByRecursion (λ x. line_of x < 2 ^ 63) (drop l.i l.sections)
