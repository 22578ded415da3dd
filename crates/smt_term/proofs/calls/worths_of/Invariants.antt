use Rattle.std.proofs.Common.{◌≡◌, ◌++◌, drop}
use Rattle.term_table.specs.Meaning.{meanings}
use Rattle.smt_term.specs.View.{worths_at}
use Rattle.smt_term.proofs.calls.worths_of.Given as goal

abbrev pub invariant-loop-arg : goal.invariant-loop-arg
invariant-loop-arg l = l.worths.items ++ worths_at (meanings l.table) (drop l.arg-index l.args) ≡ worths_at (meanings l.table) l.args
