-- A skeleton with the paths alone that a proof needs, and the proof at the numbers that these and their nodes get.
use Rattle.std.specs.Prelude.{ℕ, Bool, List}
use Rattle.game_tree.specs.Skeleton.{Skeleton}
use Rattle.cube_rules.specs.declared.Step.{Step}
use Rattle.strat_trim.specs.Renamed.{rename_steps}
use Rattle.strat_trim.specs.Trimmed.{needed, marked, prune, on_path, numbers}

abbrev pub trimmed_tree : Skeleton → List Step → Skeleton
trimmed_tree S steps = prune S (marked (needed S steps)) 0

-- the new numbers of the nodes, where these paths stay
abbrev pub node_numbers : Skeleton → List Bool → List ℕ
node_numbers S flags = numbers 0 (on_path S (marked flags) 0)

abbrev pub trimmed_steps : Skeleton → List Step → List Step
trimmed_steps S steps = rename_steps (numbers 0 (needed S steps)) (node_numbers S (needed S steps)) steps
