use Rattle.std.proofs.Common.{◌≡◌, drop}
use Rattle.lin_term.specs.Form.{AreTerms}
use Rattle.lin_term.specs.PutIn.{coef}
use Rattle.lin_term.proofs.coefficient.coefficient_at.Given as goal

abbrev pub invariant-loop-term : goal.invariant-loop-term
invariant-loop-term l = record {
  same : coef (drop l.term-index l.row.terms) l.var ≡ coef l.row.terms l.var;
  kept : AreTerms 0 (drop l.term-index l.row.terms);
}
