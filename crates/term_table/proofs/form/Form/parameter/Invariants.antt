use Rattle.std.proofs.Common.{◌≡◌}
use Rattle.term_table.proofs.FormLemmas.{zeros}
use Rattle.term_table.proofs.form.Form.parameter.Given as goal

abbrev pub invariant-loop : goal.invariant-loop
invariant-loop l = l.uses.items ≡ zeros l.counter
