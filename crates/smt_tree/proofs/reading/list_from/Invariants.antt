use Rattle.std.proofs.Common.{map, reverse}
use Rattle.smt_lex.specs.Place.{place}
use Rattle.smt_tree.specs.Seen.{level_of}
use Rattle.smt_tree.proofs.Stack.{Keeps}
use Rattle.smt_tree.proofs.reading.list_from.Given as goal

abbrev pub invariant-loop-found : goal.invariant-loop-found
invariant-loop-found l =
    (goal.iterator-loop-found).can_next l.tokens × (goal.iterator-loop-found).is_finite l.tokens
    × Keeps (place l.line l.column) l.fn.tokens (level_of l.inner) (reverse (map level_of l.outer.items)) l.tokens
