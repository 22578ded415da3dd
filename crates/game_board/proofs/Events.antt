-- Events one after the other.
use Rattle.std.specs.Prelude.{ℕ, ◌≡◌, List, [], ◌∷◌, ◌++◌, length}
use Rattle.std.proofs.Common.{arith, ap, ◌∙◌, sym, subst, refl, append_assoc, append-nil}
use Rattle.lin_term.specs.declared.Sort.{Sort}
use Rattle.dom_core.specs.Problem.{WrittenProblem}
use Rattle.game_board.specs.declared.reply.Event.{Event}
use Rattle.game_board.specs.declared.reply.Reply.{Reply}
use Rattle.game_board.specs.Board.{WrittenBoard}
use Rattle.game_board.specs.Replies.{StepsTo}
use Rattle.game_board.specs.Running.{LeadsTo}
use Rattle.game_board.proofs.Stepping.{leads_more}

-- one event more, of those that are left
pub leads_on : {D : Type 0} → (s : Sort) (P : WrittenProblem) (n : ℕ) (c d : WrittenBoard D) (all done left rest : List (Event D)) (e : Event D) (r : Reply D) → LeadsTo s P n done c → all ≡ done ++ left → left ≡ e ∷ rest → StepsTo s c e r d → LeadsTo s P n (done ++ e ∷ []) d × (all ≡ (done ++ e ∷ []) ++ rest)
leads_on {D} s P n c d all done left rest e r h a l x = (leads_more s P n c d done e r h x, a ∙ ap (λ (es : List (Event D)). done ++ es) l ∙ sym (append_assoc done (e ∷ []) rest))

none_left : {D : Type 0} → (es : List (Event D)) → length es ≡ 0 → es ≡ []
none_left {D} [] l = refl
none_left {D} (e ∷ es) l = absurd (omega (arith, l))

-- none is left
pub leads_through : {D : Type 0} → (s : Sort) (P : WrittenProblem) (n : ℕ) (c : WrittenBoard D) (all done left : List (Event D)) → LeadsTo s P n done c → all ≡ done ++ left → length left ≡ 0 → LeadsTo s P n all c
leads_through {D} s P n c all done left h a l =
    subst (λ (es : List (Event D)). LeadsTo s P n es c) (sym (a ∙ ap (λ (es : List (Event D)). done ++ es) (none_left left l) ∙ append-nil done)) h
