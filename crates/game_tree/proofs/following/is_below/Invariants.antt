use Rattle.std.proofs.Common.{drop}
use Rattle.lin_term.specs.Linear.{BelowTerms}
use Rattle.game_tree.proofs.following.is_below.Given as goal

abbrev pub invariant-loop-term : goal.invariant-loop-term
invariant-loop-term l = BelowTerms l.k (drop l.term-index l.coefs) → BelowTerms l.k l.coefs
