use Rattle.std.proofs.Common.{◌≡◌, ◌++◌, drop}
use Rattle.lin_term.specs.Wide.{first_past}
use Rattle.dom_core.specs.Elimination.{cube_numbers}
use Rattle.dom_core.specs.PutMove.{substituted_all}
use Rattle.dom_core.proofs.substituting.add_all_substituted.Given as goal

abbrev pub invariant-loop-lit : goal.invariant-loop-lit
invariant-loop-lit l = record {
  same : l.out ++ substituted_all l.sort l.var l.term l.residue (drop l.lit-index l.lits) ≡ l.fn.out ++ substituted_all l.sort l.var l.term l.residue l.lits;
  past : first_past (cube_numbers (substituted_all l.sort l.var l.term l.residue (drop l.lit-index l.lits))) ≡ first_past (cube_numbers (substituted_all l.sort l.var l.term l.residue l.lits));
}
