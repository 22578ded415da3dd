use Rattle.smt_term.proofs.OpenLemmas.{VariablesOn}
use Rattle.smt_term.proofs.reader.Reader.add_variables.Given as goal

abbrev pub invariant-loop-v : goal.invariant-loop-v
invariant-loop-v l = VariablesOn l.fn.self l.variables l.v-index l.place l.self
