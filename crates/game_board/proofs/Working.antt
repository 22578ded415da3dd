-- Which side has work.
use Rattle.std.specs.Prelude.{ℕ, ◌≤◌, ◌≡◌, false, Option, Some, None, List, is_some}
use Rattle.std.proofs.Common.{arith, ap, ◌∙◌, sym, subst, refl}
use Rattle.lin_term.specs.declared.Sort.{Sort}
use Rattle.dom_core.specs.declared.Side.{Side}
use Rattle.dom_core.specs.declared.Side.TheVariants.{Exists, Forall}
use Rattle.dom_core.specs.Sides.{other}
use Rattle.game_tree.specs.Among.{IsAmong}
use Rattle.game_history.specs.History.{State, of_side, newest_number}
use Rattle.game_history.specs.Legal.{IsAbove}
use Rattle.game_history.specs.Work.{HasWork}
use Rattle.proof_rules.specs.Won.{WonGame}
use Rattle.game_board.specs.Board.{WrittenBoard, state_of}
use Rattle.game_board.specs.Replies.{IsAttackBy}
use Rattle.game_board.specs.declared.halves.Halves.{Halves}
use Rattle.game_board.specs.declared.entry.Entry.{Entry as Written}
use Rattle.game_board.specs.Kept.{Tally, IsDecided, IsBoard, board_of}

-- ---- whether a verdict stands

over_by : {D : Type 0} → (s : Sort) (b : WrittenBoard D) (w : Option WonGame) → IsDecided s b w → is_some w ≡ (state_of s b).is_over
over_by {D} s b None d = sym d
over_by {D} s b (Some w) d = sym d.0

pub over_is : {D : Type 0} → (s : Sort) (b : WrittenBoard D) (p : Halves D) (t : Tally) (room : ℕ) → IsBoard s b p t room → is_some b.won ≡ (state_of s b).is_over
over_is {D} s b p t room k = over_by s b b.won k.decided

pub over_opened : {D : Type 0} → (s : Sort) (b : WrittenBoard D) (h : Halves D) (t : Tally) (room r : ℕ) (items : List (Written D)) (w : Option WonGame) → board_of h r items w ≡ b → IsBoard s (board_of h r items w) h t room → is_some w ≡ (state_of s b).is_over
over_opened {D} s b h t room r items w e k = over_is s (board_of h r items w) h t room k ∙ ap (λ (x : WrittenBoard D). (state_of s x).is_over) e

-- ---- work

pub back : (side : Side) → other (other side) ≡ side
back Exists = refl
back Forall = refl

reach_back : (side : Side) (st : State) → (of_side (other (other side)) st).reach ≡ (of_side side st).reach
reach_back Exists st = refl
reach_back Forall st = refl

pub stale_no_work : (side : Side) (st : State) (v r : ℕ) → v ≡ newest_number (of_side (other side) st) → (of_side side st).reach ≡ Some r → v ≤ r → ¬ HasWork side st
stale_no_work side st v r e f l h =
    let u : IsAbove (newest_number (of_side (other side) st)) (Some r) = subst (λ (o : Option ℕ). IsAbove (newest_number (of_side (other side) st)) o) (reach_back side st ∙ f) h.unbeaten in
    omega arith

pub noted_no_work : (side : Side) (st : State) (v : ℕ) → v ≡ newest_number (of_side (other side) st) → IsAmong v (of_side (other side) st).notes → ¬ HasWork side st
noted_no_work side st v e i h = h.unnoted (subst (λ (x : ℕ). IsAmong x (of_side (other side) st).notes) e i)

pub some_work : (side : Side) (st : State) (v : ℕ) → st.is_over ≡ false → v ≡ newest_number (of_side (other side) st) → IsAbove v (of_side side st).reach → ¬ IsAmong v (of_side (other side) st).notes → HasWork side st
some_work side st v o e a n = record {
  open_game = o;
  unbeaten = subst (λ (r : Option ℕ). IsAbove (newest_number (of_side (other side) st)) r) (sym (reach_back side st)) (subst (λ (x : ℕ). IsAbove x (of_side side st).reach) e a);
  unnoted = λ i. n (subst (λ (x : ℕ). IsAmong x (of_side (other side) st).notes) (sym e) i);
}

-- the other side's work, for who wished otherwise
pub other_attack : {D : Type 0} → (s : Sort) (b : WrittenBoard D) (wish : Side) (v : ℕ) → HasWork (other wish) (state_of s b) → v ≡ newest_number (of_side (other (other wish)) (state_of s b)) → IsAttackBy s b (other wish) wish v
other_attack {D} s b wish v h e = (h, sym (back wish), e ∙ ap (λ (x : Side). newest_number (of_side x (state_of s b))) (back wish))
