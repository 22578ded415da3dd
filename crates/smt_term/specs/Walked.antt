-- The parts of the definition of terms under closed names, so that a clause that has them does not open.
use Rattle.std.specs.Prelude.{List, [], ℕ}
use Rattle.smt_lex.specs.Place.{Place}
use Rattle.smt_tree.specs.Sexp.{Sexps}
use Rattle.term_table.specs.declared.Quantifier.{Quantifier}
use Rattle.term_table.specs.Placed.{Typed}
use Rattle.smt_term.specs.Reading.{Read, ◌>>=◌}
use Rattle.smt_term.specs.Scope.{Scope}
use Rattle.smt_term.specs.Terms.{Head, terms, headed, let_of, bound_from, binder_of_terms, annotated, only}

-- what stands behind a head
unfoldable pub behind_head : Scope → Place → Head → Sexps → Read Typed
behind_head = headed

unfoldable pub let_term : Scope → Place → Sexps → Read Typed
let_term = let_of

-- the bindings of a `let`, the newest first
unfoldable pub let_names : Scope → List (List ℕ × Typed) → Sexps → Read (List (List ℕ × Typed))
let_names = bound_from

unfoldable pub binder_term : Scope → Place → Quantifier → Sexps → Read Typed
binder_term = binder_of_terms

unfoldable pub annotated_term : Scope → Place → Sexps → Read Typed
annotated_term = annotated

-- the one term of a list
unfoldable pub one_term : Scope → Place → Sexps → Read Typed
one_term s p xs = terms s [] xs >>= only p
