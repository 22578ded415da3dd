use Rattle.std.proofs.Common.{◌≤◌, length, map}
use Rattle.term_table.specs.Meaning.{meanings}
use Rattle.smt_goal.specs.Session.{asked_at}
use Rattle.smt_goal.proofs.Asking.{AskedOn}
use Rattle.smt_goal.proofs.script.goals_of.Given as goal

abbrev pub invariant-loop-i : goal.invariant-loop-i
invariant-loop-i l = (l.i ≤ length l.questions) × AskedOn (map (asked_at (meanings l.table)) l.questions) l.i l.goals.items
