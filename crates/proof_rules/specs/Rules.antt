-- The rules of a proof, and what it is for its lines to refute a losing system.
use Rattle.std.specs.Prelude.{ℕ, ◌≡◌, not, Option, option_and_then, option_map, slice_get, List}
use Rattle.lin_term.specs.declared.Sort.{Sort}
use Rattle.dom_core.specs.Game.{lit, Problem}
use Rattle.game_tree.specs.Skeleton.{Skeleton}
use Rattle.lose_system.specs.Losing.{System, system, literal_number, definition_at}
use Rattle.cube_rules.specs.declared.Step.{Step}
use Rattle.cube_rules.specs.declared.Step.TheVariants.{Path, Def, Part, Cases, Sum, Split, Cube, Least, Learn, False}
use Rattle.cube_rules.specs.Context.{Context, open_context}
use Rattle.cube_rules.specs.Facts.{guard}
use Rattle.cube_rules.specs.Limits.{is_within}
use Rattle.cube_rules.specs.Lines.{goes_on, cube_step}
use Rattle.cube_rules.specs.Closing.{Proof, preorder, Rules, Closes}

-- open, and there is such a path: its negated matrix
abbrev pub path_line : System → Context → ℕ → Option (List Context)
path_line sys c k = guard (not c.bare) (option_map (goes_on c) (slice_get sys.paths k))

-- open, and the node is a move with such a literal
abbrev pub def_line : System → Context → ℕ → ℕ → Option (List Context)
def_line sys c v i =
    guard (not c.bare) (option_map (λ l. goes_on c (lit l)) (option_and_then (literal_number i) (definition_at sys.defs v)))

abbrev pub rule_line : Sort → System → Context → Step → Option (List Context)
rule_line s sys c (Path k) = path_line sys c k
rule_line s sys c (Def v i) = def_line sys c v i
rule_line s sys c (Part f i) = cube_step s sys.count c (Part f i)
rule_line s sys c (Cases f n) = cube_step s sys.count c (Cases f n)
rule_line s sys c (Sum p f q h g) = cube_step s sys.count c (Sum p f q h g)
rule_line s sys c (Split l) = cube_step s sys.count c (Split l)
rule_line s sys c (Cube fs) = cube_step s sys.count c (Cube fs)
rule_line s sys c (Least v n) = cube_step s sys.count c (Least v n)
rule_line s sys c (Learn ls) = cube_step s sys.count c (Learn ls)
rule_line s sys c (False f) = cube_step s sys.count c (False f)

-- the contexts that are still to be closed after a line, or none where it breaks its rule
abbrev pub apply : Sort → System → Rules
apply s sys c l = guard (is_within l) (rule_line s sys c l)

-- the lines are the preorder of a tree that closes the empty open context
pub record Refutes (s : Sort) (P : Problem) (S : Skeleton) (proof : List Step) : Type 0 where
  pub tree : Proof
  pub lines : preorder tree ≡ proof
  pub closes : Closes tree (apply s (system s P S)) open_context
