use Rattle.std.proofs.Common.{◌++◌, ◌∷◌, [], List, subst}
use Rattle.symbol_table.specs.declared.names.Row.{Row}
use Rattle.symbol_table.specs.Names.{IsIndex}
use Rattle.symbol_table.proofs.NamesLemmas.{popped, never_absent}
use Rattle.symbol_table.proofs.names.Names.pop.Goals as goal
use Rattle.symbol_table.proofs.names.Names.pop.Goals.{in-Ok, in-Err}

pub invariant_of-self-2 : goal.invariant_of-self-2
invariant_of-self-2 c =
    let old : IsIndex (c.pop.new.self.items ++ c.in-Some.row ∷ []) c.self.inside.newest.entries =
    subst (λ (rows : List Row). IsIndex rows c.self.inside.newest.entries) c.in-Some.ensures.items c.self.invariant in
    elim c.match-insert.branch [
      | in-Ok w ↦ popped c.pop.new.self.items c.in-Some.row c.self.inside.newest.entries c.insert.new.self.entries old w.in-Ok.ensures.updates.0
      | in-Err w ↦ absurd (never_absent c.pop.new.self.items c.in-Some.row c.self.inside.newest.entries old w.in-Err.ensures.absent)
    ]
