use Rattle.std.proofs.Common.{◌≡◌, take}
use Rattle.lin_term.specs.Linear.{rename_terms}
use Rattle.lin_term.proofs.renaming.renamed_row.Given as goal

abbrev pub invariant-loop-var : goal.invariant-loop-var
invariant-loop-var l = record {
  items : l.var-items ≡ l.row.terms;
  so_far : l.coefs.items ≡ rename_terms l.names (take l.var-index l.var-items);
}
