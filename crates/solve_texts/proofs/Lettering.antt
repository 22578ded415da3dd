-- The letters of a side are the turns of its prefix.
use Rattle.std.specs.Prelude.{ℕ, ◌≤◌, ◌≡◌, List, [], ◌∷◌, length, map, codes}
use Rattle.std.proofs.Common.{arith, ap, refl}
use Rattle.dom_core.specs.declared.Quant.{Quant}
use Rattle.dom_core.specs.declared.Side.{Side}
use Rattle.dom_core.specs.declared.Side.TheVariants.{Exists, Forall}
use Rattle.dom_core.specs.Game.{flip}
use Rattle.strat_text.specs.Written.{letter, turns_word}
use Rattle.strat_check.specs.Section.{is_mine, turns_of}
use Rattle.solve_texts.specs.Journal.{prefix_for}
use Rattle.solve_texts.specs.Pieces.{side_letter}

letters_are : (side : Side) (qs : List Quant) → map letter (turns_of (prefix_for side qs)) ≡ map (side_letter side) qs
letters_are Exists [] = refl
letters_are Exists (q ∷ qs) = ap (λ (y : List ℕ). letter (is_mine q) ∷ y) (letters_are Exists qs)
letters_are Forall [] = refl
letters_are Forall (q ∷ qs) = ap (λ (y : List ℕ). letter (is_mine (flip q)) ∷ y) (letters_are Forall qs)

pub no_turns : (side : Side) → turns_word (turns_of (prefix_for side [])) ≡ codes "-"
no_turns Exists = refl
no_turns Forall = refl

pub some_turns : (side : Side) (qs : List Quant) → 1 ≤ length qs → turns_word (turns_of (prefix_for side qs)) ≡ map (side_letter side) qs
some_turns side [] l = absurd (omega (arith, l))
some_turns Exists (q ∷ qs) l = letters_are Exists (q ∷ qs)
some_turns Forall (q ∷ qs) l = letters_are Forall (q ∷ qs)
