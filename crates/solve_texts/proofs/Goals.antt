-- The goals of a journal one after the other, and the prefix of a side's problem.
use Rattle.std.specs.Prelude.{ℕ, zero, suc, ◌+◌, ◌<◌, ◌≡◌, List, [], ◌∷◌, ◌++◌, length, take, get_or}
use Rattle.std.specs.List.{flat_map}
use Rattle.std.proofs.Common.{arith, ap, ◌∙◌, sym, refl, append_assoc}
use Rattle.std.proofs.lemmas.List.{append-nil}
use Rattle.std.proofs.lemmas.List.Folds.{flat_map-map}
use Rattle.lin_term.specs.declared.Sort.{Sort}
use Rattle.dom_core.specs.declared.Quant.{Quant}
use Rattle.dom_core.specs.declared.Side.{Side}
use Rattle.dom_core.specs.declared.Side.TheVariants.{Exists, Forall}
use Rattle.dom_core.specs.Game.{Problem}
use Rattle.dom_core.specs.Sides.{problem_for}
use Rattle.game_board.specs.declared.Entry.{Entry as Written}
use Rattle.game_board.specs.Entries.{entry_of, entries_of}
use Rattle.solve_texts.specs.declared.solved.Solved.{Solved}
use Rattle.solve_texts.specs.Journal.{prefix_for, entry_text, goal_text, goal_texts}

pub side_prefix : (s : Sort) (side : Side) (P : Problem) → (problem_for s side P).prefix ≡ prefix_for side P.prefix
side_prefix s Exists P = refl
side_prefix s Forall P = refl

next_is : (i : ℕ) → suc i + 1 ≡ suc (i + 1)
next_is i = omega arith

pub goals_more : (k : ℕ) (qss : List (List Quant)) (os : List Solved) (i : ℕ) (qs : List Quant) (o : Solved) → i < length qss → i < length os → goal_texts k (take (i + 1) qss) (take (i + 1) os) ≡ goal_texts k (take i qss) (take i os) ++ goal_text (get_or qss i qs) (k + i) (get_or os i o)
goals_more k [] os i qs o l m = absurd (omega (arith, l))
goals_more k (x ∷ qss) [] i qs o l m = absurd (omega (arith, m))
goals_more k (x ∷ qss) (y ∷ os) zero qs o l m = append-nil (goal_text x k y) ∙ ap (λ n. goal_text x n y) (omega arith)
goals_more k (x ∷ qss) (y ∷ os) (suc i) qs o l m =
    let n : k + 1 + i ≡ k + suc i = omega arith in
    ap (λ j. goal_texts k (take j (x ∷ qss)) (take j (y ∷ os))) (next_is i)
    ∙ ap (λ (t : List ℕ). goal_text x k y ++ t) (goals_more (k + 1) qss os i qs o (omega (arith, l)) (omega (arith, m)) ∙ ap (λ j. goal_texts (k + 1) (take i qss) (take i os) ++ goal_text (get_or qss i qs) j (get_or os i o)) n)
    ∙ sym (append_assoc (goal_text x k y) (goal_texts (k + 1) (take i qss) (take i os)) (goal_text (get_or qss i qs) (k + suc i) (get_or os i o)))

-- the entries as they are written, and as those of a history
pub entries_seen : {D : Type 0} → (qs : List Quant) (es : List (Written D)) → flat_map (entry_text qs) (entries_of es) ≡ flat_map (λ e. entry_text qs (entry_of e)) es
entries_seen {D} qs es = flat_map-map (entry_text qs) (λ (e : Written D). entry_of e) es
