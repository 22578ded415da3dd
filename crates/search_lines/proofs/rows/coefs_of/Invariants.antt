use Rattle.lin_term.specs.Form.{AreTerms}
use Rattle.lin_term.specs.Linear.{BelowTerms}
use Rattle.search_lines.proofs.rows.coefs_of.Given as goal

abbrev pub invariant-loop-term : goal.invariant-loop-term
invariant-loop-term l = AreTerms 0 l.coefs.items × BelowTerms l.least l.coefs.items
