-- What is known of a budget that a legal history spends.
use Rattle.std.specs.Prelude.{ℕ, ◌+◌, ◌*◌, ◌<◌, ◌≤◌, ◌≡◌, ◌⊎◌, true, false, List, length}
use Rattle.std.proofs.Common.{sym, ◌∙◌, inl, inr}
use Rattle.std.proofs.lemmas.Bool.{cases_lt}
use Rattle.lin_term.specs.declared.Sort.{Sort}
use Rattle.dom_core.specs.Game.{Problem, IsMatrix}
use Rattle.game_history.specs.History.{Entry, replay}
use Rattle.game_history.specs.Legal.{Legal}
use Rattle.round_bounds.specs.Bounds.{NeverSpent, MaySpend}
use Rattle.round_bounds.proofs.Unspent.{unspent}
use Rattle.round_bounds.proofs.OnePlayer.{one_player_rounds}
use Rattle.round_bounds.proofs.LastPicked.{last_variable_rounds}

too_few : (s : Sort) (P : Problem) (B : ℕ) (H : List Entry) → Legal s P B H → (replay s P H).is_spent ≡ true → (n : ℕ) → (n ≤ B → NeverSpent s P B) → B < n
too_few s P B H l q n h = by (cases_lt B n)
  where
    by : (B < n) ⊎ (n ≤ B) → B < n
    by (inl less) = less
    by (inr more) = absurd (let e : true ≡ false = sym q ∙ unspent s P B (h more) H l in cc)

-- neither bound reaches it
pub may_spend : (s : Sort) (P : Problem) (B : ℕ) (H : List Entry) → IsMatrix P.matrix s (length P.prefix) → Legal s P B H → (replay s P H).is_spent ≡ true → MaySpend s P B
may_spend s P B H i l q = record {
  one_player = λ h. too_few s P B H l q 1 (λ o. one_player_rounds s P h B o);
  last_variable = λ x h T e. too_few s P B H l q (2 * length T + 1) (λ r. last_variable_rounds s P x i h T e B r);
}
