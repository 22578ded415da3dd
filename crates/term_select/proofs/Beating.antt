-- What is selected beats what it is selected against, in both sorts.
use Rattle.std.specs.Prelude.{length}
use Rattle.lin_term.specs.declared.Sort.{Sort}
use Rattle.lin_term.specs.declared.Sort.TheVariants.{Rat, Int}
use Rattle.dom_core.specs.Game.{IsMatrix, Problem, flip_all}
use Rattle.dom_core.proofs.PickInt.{keeps_int}
use Rattle.dom_core.proofs.PickRat.{keeps_rat}
use Rattle.game_tree.specs.Skeleton.{Skeleton, Follows}
use Rattle.game_play.specs.Beats.{Beats}
use Rattle.term_select.specs.Selected.{Selected}
use Rattle.term_select.proofs.Root.{KeepsPicks, selected_beats}

pub keeps_picks : (s : Sort) → KeepsPicks s
keeps_picks Rat = record { keeps = λ x c e v i iv n o h. keeps_rat x c e v i iv n o h }
keeps_picks Int = record { keeps = λ x c e v i iv n o h. keeps_int x c e v i iv n o h }

pub selected_wins : (s : Sort) (P : Problem) (U C : Skeleton) → IsMatrix P.matrix s (length P.prefix) → Follows U s (flip_all P.prefix) 0 → Selected s P U C → Beats s P C U
selected_wins s P U C i f d = selected_beats s P U C (keeps_picks s) i f d
