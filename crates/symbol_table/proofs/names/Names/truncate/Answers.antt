use Rattle.std.proofs.Common.{◌-◌, length, drop, ap, ◌∙◌, List, ℕ, arith}
use Rattle.symbol_table.specs.declared.names.Known.{Known}
use Rattle.symbol_table.proofs.NamesLemmas.{one_less}
use Rattle.symbol_table.proofs.names.Names.truncate.Goals as goal

pub loop-self-preserved : goal.loop-self-preserved
loop-self-preserved c =
    ap (λ (ns : List (List ℕ × Known)). drop (length ns - c.args.len) ns) c.pop.ensures ∙ one_less c.loop-self.self c.args.len (omega arith) ∙ c.loop-self.invariant
