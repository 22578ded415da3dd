-- One more entry at the end of a history.
use Rattle.std.specs.Prelude.{ℕ, ◌≡◌, false, List, [], ◌∷◌, ◌++◌}
use Rattle.std.proofs.Common.{refl}
use Rattle.lin_term.specs.declared.Sort.{Sort}
use Rattle.dom_core.specs.Game.{Problem}
use Rattle.game_history.specs.History.{Entry, State, after, replay_from}
use Rattle.game_history.specs.Legal.{Fits, LegalFrom}

pub replay_push : (st : State) (H : List Entry) (e : Entry) → replay_from st (H ++ e ∷ []) ≡ after (replay_from st H) e
replay_push st [] e = refl
replay_push st (x ∷ H) e = replay_push (after st x) H e

pub legal_push : (s : Sort) (P : Problem) (B : ℕ) (st : State) (H : List Entry) (e : Entry) → LegalFrom s P B st H → (replay_from st H).is_over ≡ false → Fits s P B (replay_from st H) e → LegalFrom s P B st (H ++ e ∷ [])
legal_push s P B st [] e l o f = (o, f, tt)
legal_push s P B st (x ∷ H) e l o f = (l.0, l.1, legal_push s P B (after st x) H e l.2 o f)
