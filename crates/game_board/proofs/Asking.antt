-- What the halves of a board answer of its state.
use Rattle.std.specs.Prelude.{ℕ, ◌≡◌, ◌≢◌, ◌↔◌, IsTrue, Bool, true, false, Some}
use Rattle.std.proofs.Common.{◌∙◌, sym}
use Rattle.lin_term.specs.declared.Sort.{Sort}
use Rattle.dom_core.specs.declared.Side.{Side}
use Rattle.dom_core.specs.declared.Side.TheVariants.{Exists, Forall}
use Rattle.dom_core.specs.Sides.{other}
use Rattle.game_tree.specs.Skeleton.{Skeleton}
use Rattle.game_tree.specs.Union.{In}
use Rattle.game_tree.specs.View.{skeleton_of}
use Rattle.term_select.specs.Counter.{WrittenCounter}
use Rattle.game_history.specs.History.{SideState, of_side, version}
use Rattle.game_history.specs.Legal.{HasNewPath}
use Rattle.game_history.proofs.NewPaths.{new_path}
use Rattle.proof_rules.specs.Won.{WonGame}
use Rattle.game_board.specs.declared.halves.Halves.{Halves}
use Rattle.game_board.specs.Board.{WrittenBoard, problem_on, state_of}
use Rattle.game_board.specs.Replies.{AttacksVersion, WinsVersion}
use Rattle.game_board.specs.Half.{half_of, IsHalfOf}
use Rattle.game_board.specs.Kept.{Tally, IsBoard}
use Rattle.game_board.proofs.HalfStates.{side_is}

fails : {P : Type 0} → ¬ P → IsTrue false ↔ P
fails h = (λ e. absurd (cc), λ p. absurd (h p))

pub refuted : (r : Bool) (P : Type 0) → (IsTrue r ↔ P) → r ≡ false → ¬ P
refuted r P h e p = let u : r ≡ true = h.1 p in let v : true ≡ false = sym u ∙ e in absurd (cc)

-- the problem of a half
pub half_problem : {D : Type 0} → (s : Sort) (b : WrittenBoard D) (p : Halves D) (t : Tally) (room : ℕ) (side : Side) → IsBoard s b p t room → (half_of side p).problem ≡ problem_on side b
half_problem {D} s b p t room Exists k = k.own
half_problem {D} s b p t room Forall k = k.rival

-- what holds of every state of a half holds of the board's
pub of_state : {D : Type 0} → (s : Sort) (b : WrittenBoard D) (p : Halves D) (t : Tally) (room : ℕ) (side : Side) (P : SideState → Type 0) → IsBoard s b p t room → ((x : SideState) → IsHalfOf (half_of side p) x → P x) → P (of_side side (state_of s b))
of_state {D} s b p t room side P k f = f (of_side side (state_of s b)) (side_is side p t (state_of s b) k.matches)

-- the reach
pub reach_is : {D : Type 0} → (s : Sort) (b : WrittenBoard D) (p : Halves D) (t : Tally) (room : ℕ) (side : Side) → IsBoard s b p t room → (half_of side p).reach ≡ (of_side side (state_of s b)).reach
reach_is {D} s b p t room side k = (side_is side p t (state_of s b) k.matches).reach

-- not every path is there
pub news_of : (C S : Skeleton) (r : Bool) → (IsTrue r ↔ In C S) → r ≡ false → HasNewPath C S
news_of C S r d e = new_path C S (refuted r (In C S) d e)

-- ---- counters and games

pub attack_says : {D : Type 0} → (s : Sort) (b : WrittenBoard D) (c : WrittenCounter) (v : ℕ) (r : Bool) → c.problem ≡ problem_on c.side b → (IsTrue r ↔ (version (of_side (other c.side) (state_of s b)) v ≡ Some (skeleton_of c.against.tree))) → IsTrue r ↔ AttacksVersion s b c v
attack_says {D} s b c v r e d = (λ y. record { problem = e; there = d.0 y }, λ a. d.1 a.there)

pub other_problem : {D : Type 0} → (s : Sort) (b : WrittenBoard D) (c : WrittenCounter) (v : ℕ) → c.problem ≢ problem_on c.side b → IsTrue false ↔ AttacksVersion s b c v
other_problem {D} s b c v n = fails (λ a. n a.problem)

pub win_says : {D : Type 0} → (s : Sort) (b : WrittenBoard D) (w : WonGame) (side : Side) (v : ℕ) (r : Bool) → w.problem ≡ problem_on side b → (IsTrue r ↔ (version (of_side side (state_of s b)) v ≡ Some (skeleton_of w.tree))) → IsTrue r ↔ WinsVersion s b w side v
win_says {D} s b w side v r e d = (λ y. record { problem = e; there = d.0 y }, λ a. d.1 a.there)

pub other_game : {D : Type 0} → (s : Sort) (b : WrittenBoard D) (w : WonGame) (side : Side) (v : ℕ) → w.problem ≢ problem_on side b → IsTrue false ↔ WinsVersion s b w side v
other_game {D} s b w side v n = fails (λ a. n a.problem)
