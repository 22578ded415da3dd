use Rattle.std.proofs.Common.{◌≡◌, ◌++◌, drop, negsuc}
use Rattle.lin_term.specs.Form.{AreTerms}
use Rattle.lin_term.specs.Linear.{times_terms}
use Rattle.lin_term.specs.PutIn.{without}
use Rattle.dom_int.proofs.case.opposite_terms.Given as goal

abbrev pub invariant-loop-term : goal.invariant-loop-term
invariant-loop-term l = record {
  same : l.terms.items ++ times_terms (negsuc 0) (without (drop l.term-index l.row.terms) l.var) ≡ times_terms (negsuc 0) (without l.row.terms l.var);
  kept : AreTerms 0 (drop l.term-index l.row.terms);
}
