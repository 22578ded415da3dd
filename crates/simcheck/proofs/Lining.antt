-- One more line, and the end of the lines.
use Rattle.std.proofs.Common.{◌≡◌, ℕ, ◌++◌, ◌||◌, Bool, true, false, List, [], ◌∷◌, map, refl, ap, sym, ◌∙◌, append_assoc, append-nil}
use Rattle.lin_term.specs.declared.Sort.{Sort}
use Rattle.dom_core.specs.Game.{Problem}
use Rattle.dom_core.specs.Problem.{WrittenProblem, problem_of}
use Rattle.strat_text.specs.declared.Section.{Section}
use Rattle.strat_check.specs.Section.{verdict}
use Rattle.simcheck.specs.Verdicts.{verdict_text, is_rejected, lines, any_rejected}

pub lines_cons : (s : Sort) (P : Problem) (x : Section) (Ps : List Problem) (xs : List Section) → lines s (P ∷ Ps) (x ∷ xs) ≡ verdict_text (verdict s P x) ++ lines s Ps xs
unfolding lines
lines_cons s P x Ps xs = refl

pub any_cons : (s : Sort) (P : Problem) (x : Section) (Ps : List Problem) (xs : List Section) → any_rejected s (P ∷ Ps) (x ∷ xs) ≡ (is_rejected (verdict s P x) || any_rejected s Ps xs)
unfolding any_rejected
any_cons s P x Ps xs = refl

pub lines_nil : (s : Sort) (xs : List Section) → lines s [] xs ≡ []
unfolding lines
lines_nil s xs = refl

pub lines_short : (s : Sort) (P : Problem) (Ps : List Problem) → lines s (P ∷ Ps) [] ≡ []
unfolding lines
lines_short s P Ps = refl

pub any_nil : (s : Sort) (xs : List Section) → any_rejected s [] xs ≡ false
unfolding any_rejected
any_nil s xs = refl

-- what was written and the lines that are left, one line later
pub lines_step : (s : Sort) (P : WrittenProblem) (x : Section) (Ps : List WrittenProblem) (xs : List Section) (text new line all : List ℕ) →
    new ≡ text ++ line → line ≡ verdict_text (verdict s (problem_of P) x) → text ++ lines s (map problem_of (P ∷ Ps)) (x ∷ xs) ≡ all → new ++ lines s (map problem_of Ps) xs ≡ all
lines_step s P x Ps xs text new line all en el h =
    ap (λ (t : List ℕ). t ++ lines s (map problem_of Ps) xs) en ∙ append_assoc text line (lines s (map problem_of Ps) xs)
    ∙ ap (λ (t : List ℕ). text ++ (t ++ lines s (map problem_of Ps) xs)) el ∙ ap (λ (t : List ℕ). text ++ t) (sym (lines_cons s (problem_of P) x (map problem_of Ps) xs)) ∙ h

or_assoc : (a b d : Bool) → ((a || b) || d) ≡ (a || (b || d))
or_assoc true b d = refl
or_assoc false b d = refl

or_false : (a : Bool) → (a || false) ≡ a
or_false true = refl
or_false false = refl

pub any_step : (s : Sort) (P : WrittenProblem) (x : Section) (Ps : List WrittenProblem) (xs : List Section) (was now this all : Bool) →
    now ≡ (was || this) → this ≡ is_rejected (verdict s (problem_of P) x) → (was || any_rejected s (map problem_of (P ∷ Ps)) (x ∷ xs)) ≡ all → (now || any_rejected s (map problem_of Ps) xs) ≡ all
any_step s P x Ps xs was now this all en et h =
    ap (λ (b : Bool). b || any_rejected s (map problem_of Ps) xs) en ∙ or_assoc was this (any_rejected s (map problem_of Ps) xs)
    ∙ ap (λ (b : Bool). was || (b || any_rejected s (map problem_of Ps) xs)) et ∙ ap (λ (b : Bool). was || b) (sym (any_cons s (problem_of P) x (map problem_of Ps) xs)) ∙ h

pub lines_end : (s : Sort) (Ps : List WrittenProblem) (xs : List Section) (text all : List ℕ) → Ps ≡ [] → text ++ lines s (map problem_of Ps) xs ≡ all → text ≡ all
lines_end s Ps xs text all e h =
    sym (append-nil text) ∙ ap (λ (t : List ℕ). text ++ t) (sym (lines_nil s xs)) ∙ ap (λ (Qs : List WrittenProblem). text ++ lines s (map problem_of Qs) xs) (sym e) ∙ h

pub any_end : (s : Sort) (Ps : List WrittenProblem) (xs : List Section) (was all : Bool) → Ps ≡ [] → (was || any_rejected s (map problem_of Ps) xs) ≡ all → was ≡ all
any_end s Ps xs was all e h =
    sym (or_false was) ∙ ap (λ (b : Bool). was || b) (sym (any_nil s xs)) ∙ ap (λ (Qs : List WrittenProblem). was || any_rejected s (map problem_of Qs) xs) (sym e) ∙ h
