-- Budgets of rounds that no game of a problem spends.
use Rattle.std.specs.Prelude.{ℕ, ◌+◌, ◌*◌, ◌-◌, ◌<◌, ◌≤◌, ◌≡◌, ◌⊎◌, List, [], ◌∷◌, ◌++◌, length}
use Rattle.lin_term.specs.declared.Sort.{Sort}
use Rattle.lin_term.specs.Move.{Move}
use Rattle.dom_core.specs.declared.Quant.{Quant}
use Rattle.dom_core.specs.declared.Quant.TheVariants as quant
use Rattle.dom_core.specs.declared.Side.{Side}
use Rattle.dom_core.specs.declared.Side.TheVariants as side
use Rattle.dom_core.specs.Game.{Problem}
use Rattle.dom_core.specs.Sides.{other, problem_for}
use Rattle.game_tree.specs.Skeleton.{Skeleton}
use Rattle.game_tree.specs.Among.{EachIs, IsAmong}
use Rattle.game_history.specs.History.{Entry, spent}
use Rattle.game_history.specs.Legal.{Legal}
use Rattle.round_bounds.specs.Terms.{HasTerms}

-- the history has a Spent entry
pub record HasSpent (H : List Entry) : Type 0 where
  pub by : Side
  pub number : ℕ
  pub tree : Skeleton
  pub entry : IsAmong (spent by number tree) H

-- no legal history within a budget of B rounds has one
abbrev pub NeverSpent : Sort → Problem → ℕ → Type 0
NeverSpent s P B = (H : List Entry) → Legal s P B H → ¬ HasSpent H

-- ---- prefixes

-- each of the variables belongs to this player
abbrev pub AreAll : Quant → List Quant → Type 0
AreAll q qs = EachIs (λ r. r ≡ q) qs

-- all variables belong to one player
abbrev pub HasOnePlayer : List Quant → Type 0
HasOnePlayer qs = AreAll quant.Exists qs ⊎ AreAll quant.Forall qs

-- the quantifier of a side's variables
abbrev pub own : Side → Quant
own side.Exists = quant.Exists
own side.Forall = quant.Forall

-- one block of the other player, then a single last variable of the side
pub record HasLastVariable (qs : List Quant) (x : Side) : Type 0 where
  pub block : List Quant
  pub theirs : AreAll (own (other x)) block
  pub prefix : qs ≡ block ++ own x ∷ []

-- ---- the bounds

-- a round is enough
abbrev pub OneRoundIsEnough : Sort → Problem → Type 0
OneRoundIsEnough s P = (B : ℕ) → 1 ≤ B → NeverSpent s P B

-- two rounds for each move that can be selected for the side's last variable, and one more, are enough
abbrev pub TermsAreEnough : Sort → Problem → Side → Type 0
TermsAreEnough s P x =
    (T : List Move) → HasTerms s (problem_for s x P) (length P.prefix - 1) T → (B : ℕ) → 2 * length T + 1 ≤ B → NeverSpent s P B

-- what both bounds leave of a budget that is spent
pub record MaySpend (s : Sort) (P : Problem) (B : ℕ) : Type 0 where
  pub one_player : HasOnePlayer P.prefix → B < 1
  pub last_variable : (x : Side) → HasLastVariable P.prefix x → (T : List Move) → HasTerms s (problem_for s x P) (length P.prefix - 1) T → B < 2 * length T + 1
