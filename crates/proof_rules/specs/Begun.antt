-- Proofs of which only the first lines are there, and the first line that none of them has.
use Rattle.std.specs.Prelude.{◌+◌, ◌<◌, ◌≤◌, ◌≡◌, Some, slice_get, List, [], ◌∷◌, ◌++◌, take, length, ⊤}
use Rattle.lin_term.specs.declared.Sort.{Sort}
use Rattle.dom_core.specs.Game.{Problem}
use Rattle.game_tree.specs.Skeleton.{Skeleton}
use Rattle.lose_system.specs.Losing.{system}
use Rattle.cube_rules.specs.declared.Step.{Step}
use Rattle.cube_rules.specs.declared.Rule.TheVariants.{Form}
use Rattle.cube_rules.specs.Context.{Context, open_context}
use Rattle.cube_rules.specs.Lines.{rule_of}
use Rattle.cube_rules.specs.Closing.{Proofs, no_proof, proof, preorders, Rules, Closes}
use Rattle.proof_rules.specs.declared.bad_line.BadLine.{BadLine}
use Rattle.proof_rules.specs.Rules.{apply, Refutes}

-- nothing yet; or a line, whole subproofs of the first contexts that it leaves, and what there is of the next one
pub data Begun : Type 0 where
  nothing : Begun
  begun : Step → Proofs → Begun → Begun

abbrev pub lines_of : Begun → List Step
lines_of nothing = []
lines_of (begun l ts b) = l ∷ (preorders ts ++ lines_of b)

-- whole subproofs of the first contexts; of the next one, if there is one, what is begun
abbrev pub InOrder : (Context → Type 0) → Type 0 → Proofs → Rules → List Context → Type 0
InOrder Next None no_proof rules [] = None
InOrder Next None no_proof rules (k ∷ ks) = Next k
InOrder Next None (proof t ts) rules [] = ⊥
InOrder Next None (proof t ts) rules (k ∷ ks) = Closes t rules k × InOrder Next None ts rules ks

-- each line that is there meets its rule
abbrev pub Begins : Begun → Rules → Context → Type 0
Begins nothing rules c = ⊤
Begins (begun l ts b) rules c = (ks : List Context) × (rules c l ≡ Some ks) × InOrder (Begins b rules) (b ≡ nothing) ts rules ks

-- a proof that closes the context can begin with these lines, as far as their rules go
pub record CanBegin (rules : Rules) (c : Context) (ls : List Step) : Type 0 where
  pub tree : Begun
  pub lines : lines_of tree ≡ ls
  pub begins : Begins tree rules c

-- The first line at which no tree of lines goes on, and the rule that it breaks: the lines before it can begin a refutation, and with it they cannot.
pub record IsFirstBad (s : Sort) (P : Problem) (S : Skeleton) (all : List Step) (b : BadLine) : Type 0 where
  pub within : b.line ≤ length all
  pub before : CanBegin (apply s (system s P S)) open_context (take b.line all)
  pub stuck : b.line < length all → ¬ CanBegin (apply s (system s P S)) open_context (take (b.line + 1) all)
  -- it is missing: nothing is refuted by all lines
  pub missing : b.line ≡ length all → (¬ Refutes s P S all) × (b.rule ≡ Form)
  -- it is one too many: those before it refute already
  pub surplus : b.line < length all → Refutes s P S (take b.line all) → b.rule ≡ Form
  -- it breaks its own rule
  pub broken : (l : Step) → slice_get all b.line ≡ Some l → ¬ Refutes s P S (take b.line all) → b.rule ≡ rule_of l
