use Rattle.smt_lex.specs.Tokens.{tokens}
use Rattle.smt_tree.specs.Expressions.{expressions}
use Rattle.smt_goal.specs.Command.{start}
use Rattle.smt_goal.specs.Script.{obeyed_all}
use Rattle.smt_goal.proofs.Obeying.{Walked}
use Rattle.smt_goal.proofs.obey.all_commands.Given as goal

abbrev pub invariant-loop-found : goal.invariant-loop-found
invariant-loop-found l =
    (goal.iterator-loop-found).can_next l.left × (goal.iterator-loop-found).is_finite l.left × Walked (obeyed_all start (expressions (tokens l.bytes))) l.session l.left
