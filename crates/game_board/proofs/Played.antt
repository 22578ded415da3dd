-- The laws of a board's history.
use Rattle.std.specs.Prelude.{ℕ, ◌+◌, ◌*◌, ◌≤◌, length}
use Rattle.std.proofs.Common.{arith, inl, inr}
use Rattle.lin_term.specs.declared.Sort.{Sort}
use Rattle.dom_core.specs.declared.Side.{Side}
use Rattle.dom_core.specs.declared.Side.TheVariants.{Exists, Forall}
use Rattle.dom_core.specs.Problem.{problem_of}
use Rattle.dom_core.specs.Sides.{other}
use Rattle.game_history.specs.History.{of_side, State}
use Rattle.game_history.specs.Work.{HasWork, SomeHasWork, IsBlocked}
use Rattle.game_history.proofs.Versions.{legal_versions, version_follows}
use Rattle.game_history.proofs.Chains.{later_has, few_nodes, reach_beats}
use Rattle.game_history.proofs.Longest.{few_entries}
use Rattle.game_history.proofs.NotedNewest.{blocked_is_noted}
use Rattle.game_board.specs.Entries.{entries_of}
use Rattle.game_board.specs.Board.{WrittenBoard, state_of}
use Rattle.game_board.specs.Replies.{IsUndecided}
use Rattle.game_board.specs.declared.halves.Halves.{Halves}
use Rattle.game_board.specs.Kept.{Tally, IsBoard}
use Rattle.game_board.specs.Laws.{IsPlayed}
use Rattle.game_board.proofs.Keeping.{entries_length}

pub played : {D : Type 0} → (s : Sort) (b : WrittenBoard D) (p : Halves D) (t : Tally) (room : ℕ) → IsBoard s b p t room → IsPlayed s b
played {D} s b p t room k side = record {
  follows = λ v S e. version_follows s (problem_of b.problem) side (of_side side (state_of s b)) v S (legal_versions s (problem_of b.problem) b.rounds (entries_of b.history) side k.legal) e;
  few = λ v S e. few_nodes s (problem_of b.problem) b.rounds (entries_of b.history) side v S k.problem.0 k.legal e;
  grows = λ v w S T l e f. later_has s (problem_of b.problem) b.rounds (entries_of b.history) side v w S T k.legal l e f;
  reach = λ v e U f. reach_beats s (problem_of b.problem) b.rounds (entries_of b.history) side v U k.legal e f;
}

pub short_history : {D : Type 0} → (s : Sort) (b : WrittenBoard D) (p : Halves D) (t : Tally) (room : ℕ) → IsBoard s b p t room → length b.history ≤ 2 * b.rounds + 7
short_history {D} s b p t room k =
    let n = few_entries s (problem_of b.problem) b.rounds (entries_of b.history) k.legal in
    let l = entries_length b.history in
    omega arith

no_work : (wish : Side) (st : State) → ¬ HasWork wish st → ¬ HasWork (other wish) st → ¬ SomeHasWork st
no_work Exists st a b (inl h) = a h
no_work Exists st a b (inr h) = b h
no_work Forall st a b (inl h) = b h
no_work Forall st a b (inr h) = a h

pub blocked : {D : Type 0} → (s : Sort) (b : WrittenBoard D) (p : Halves D) (t : Tally) (room : ℕ) (wish : Side) → IsBoard s b p t room → IsUndecided s b → ¬ HasWork wish (state_of s b) → ¬ HasWork (other wish) (state_of s b) → IsBlocked s (problem_of b.problem) (entries_of b.history)
blocked {D} s b p t room wish k o x y = blocked_is_noted s (problem_of b.problem) b.rounds (entries_of b.history) k.problem.1 k.legal o (no_work wish (state_of s b) x y)
