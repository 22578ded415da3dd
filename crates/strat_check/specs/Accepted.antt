-- When a section is accepted.
use Rattle.std.specs.Prelude.{◌≡◌, ◌≤◌, Bool, List, ⊤}
use Rattle.lin_term.specs.declared.Sort.{Sort}
use Rattle.lin_term.specs.Definition.{IsKeptMove}
use Rattle.dom_core.specs.declared.Side.{Side}
use Rattle.dom_core.specs.Game.{Problem}
use Rattle.dom_core.specs.Sides.{problem_for}
use Rattle.game_tree.specs.Skeleton.{Skeleton, Branches, end, theirs, mine, no_more, branch, nodes, node_limit}
use Rattle.game_tree.specs.View.{skeleton_of}
use Rattle.cube_rules.specs.declared.Step.{Step}
use Rattle.lose_system.specs.Losing.{Lost}
use Rattle.proof_rules.specs.Rules.{Refutes}
use Rattle.strat_text.specs.declared.Section.{Section}
use Rattle.strat_text.specs.declared.Section.TheVariants as section
use Rattle.strat_check.specs.Section.{turns_of}

-- each move is in lowest form, and it and its definition are within the cap
abbrev mutual
  pub EachKept : Skeleton → Sort → Type 0
  EachKept end s = ⊤
  EachKept (theirs t) s = EachKept t s
  EachKept (mine bs) s = EachBranchKept bs s

  pub EachBranchKept : Branches → Sort → Type 0
  EachBranchKept no_more s = ⊤
  EachBranchKept (branch m t bs) s = IsKeptMove s m × EachKept t s × EachBranchKept bs s

-- the turns are those of the owner's problem, the tree is within the limit and its moves are kept, and the proof refutes its losing system
pub record IsBorneOut (s : Sort) (P : Problem) (turns : List Bool) (S : Skeleton) (proof : List Step) : Type 0 where
  pub turns_fit : turns ≡ turns_of P.prefix
  pub few : nodes S ≤ node_limit
  pub kept : EachKept S s
  pub refutes : Refutes s P S proof

-- the section claims this side, and proves its claim
abbrev pub Accepts : Sort → Problem → Side → Section → Type 0
Accepts s P owner section.Unknown = ⊥
Accepts s P owner (section.Claimed claimed turns tree proof line) =
    (claimed ≡ owner) × IsBorneOut s (problem_for s owner P) turns (skeleton_of tree) proof

-- no point solves the losing system of the claimed tree
abbrev pub IsLost : Sort → Problem → Side → Section → Type 0
IsLost s P owner section.Unknown = ⊥
IsLost s P owner (section.Claimed claimed turns tree proof line) = Lost s (problem_for s owner P) (skeleton_of tree)
