-- The outcome of a game that has stopped.
use Rattle.std.specs.Prelude.{ℕ, zero, suc, slice_index_or, ◌<◌, ◌≡◌, Option, Some, None, List, [], ◌∷◌, length}
use Rattle.std.specs.List.{AllByRecursion}
use Rattle.std.specs.List as lists
use Rattle.std.proofs.Common.{arith, ap, ◌∙◌, sym, subst, refl, inl, inr}
use Rattle.lin_term.specs.declared.Sort.{Sort}
use Rattle.lin_term.specs.Move.{Move}
use Rattle.dom_core.specs.declared.Side.{Side}
use Rattle.dom_core.specs.declared.Side.TheVariants.{Exists, Forall}
use Rattle.dom_core.specs.Game.{Problem, IsMatrix, dual, TrueP}
use Rattle.dom_core.specs.Problem.{WrittenProblem, problem_of, IsProblem, IsTrueProblem}
use Rattle.dom_core.specs.Sides.{problem_for}
use Rattle.dom_core.proofs.Duals.{dual_contrary, dual_matrix}
use Rattle.game_tree.specs.Skeleton.{Skeleton, paths}
use Rattle.game_tree.specs.View.{skeleton_of}
use Rattle.game_tree.specs.Among.{IsAmong}
use Rattle.game_tree.specs.Union.{In}
use Rattle.proof_rules.specs.Won.{WonGame, IsWon}
use Rattle.proof_rules.proofs.Refuted.{refuted_is_true}
use Rattle.game_history.specs.History.{Entry, noted, won, of_side, newest_number}
use Rattle.game_history.specs.Legal.{Legal}
use Rattle.game_history.specs.Work.{IsUnbeaten, SomeHasWork}
use Rattle.game_history.proofs.NotedNewest.{unbeaten_noted}
use Rattle.game_board.specs.declared.Why.TheVariants as why
use Rattle.game_board.specs.declared.WideNote.{WideNote}
use Rattle.game_board.specs.declared.Entry.{Entry as Written}
use Rattle.game_board.specs.Entries.{wideness_of, entries_of}
use Rattle.game_board.specs.Board.{WrittenBoard, state_of}
use Rattle.team_work.specs.declared.outcome.Verdict.{Verdict}
use Rattle.team_work.specs.declared.outcome.Verdict.TheVariants as verdict
use Rattle.team_work.specs.Noting.{FindsNote, verdict_of}
use Rattle.team_work.specs.Outcome.{IsWonBy, StopsWide, SaysWhy, Says, IsOutcome, IsRight}
use Rattle.game_board.specs.Replies.{IsUndecided}
use Rattle.team_work.specs.Turn.{HasDual, IsWonOn, IsNewestShown}
use Rattle.team_work.proofs.Looking.{side_problem}

-- ---- a verdict

in_list : (ps : List (List (Option Move))) (path : List (Option Move)) (i : ℕ) → i < length ps → path ≡ slice_index_or ps i path → IsAmong path ps
in_list [] path i l e = absurd (omega arith)
in_list (p ∷ ps) path zero l e = inl e
in_list (p ∷ ps) path (suc i) l e = inr (in_list ps path i (omega arith) e)

all_in : (S T : List (List (Option Move))) → AllByRecursion (lists.IsAmong T) S → (path : List (Option Move)) → IsAmong path S → IsAmong path T
all_in [] T h path k = absurd k
all_in (p ∷ S) T h path (inl e) = subst (λ (q : List (Option Move)). IsAmong q T) (sym e) (in_list T p h.0.0 h.0.1.0 h.0.1.1)
all_in (p ∷ S) T h path (inr k) = all_in S T h.1 path k

-- every path is one of the whole skeleton
pub is_part : (S T : Skeleton) → AllByRecursion (lists.IsAmong (paths T)) (paths S) → In S T
is_part S T h = all_in (paths S) (paths T) h

pub says_won : (D : Type 0) → (s : Sort) (P : Problem) (B : ℕ) (H : List Entry) (side : Side) (w : WonGame) → IsWonBy s P H side w → Says {D = D} s P B H (verdict_of side w)
says_won D s P B H Exists w h = h
says_won D s P B H Forall w h = h

-- the game that was won, with a part of its skeleton that wins, too
pub won_outcome : {D : Type 0} → (s : Sort) (b : WrittenBoard D) (side : Side) (g w : WonGame) → HasDual s b → IsWonOn s b side → b.won ≡ Some g → w.problem ≡ g.problem → In (skeleton_of w.tree) (skeleton_of g.tree) → IsWon s w → IsWonBy s (problem_of b.problem) (entries_of b.history) side w
won_outcome {D} s b side g w d h e p i k =
    let f : h.game ≡ g = let q : Some h.game ≡ Some g = sym h.won_is ∙ e in cc in
    record {
      before = h.before;
      ending = won side h.number;
      last = h.last;
      whole = skeleton_of g.tree;
      verdict = inl (h.number, refl, h.there ∙ ap (λ (x : WonGame). Some (skeleton_of x.tree)) f);
      part = i;
      problem = ap problem_of (p ∙ ap (λ (x : WonGame). x.problem) (sym f) ∙ h.problem) ∙ side_problem s b side d;
      is_won = k;
    }

-- so the game ends, with the history of the board
pub won_ends : {D : Type 0} → (s : Sort) (b : WrittenBoard D) (side : Side) (w : WonGame) (B : ℕ) (J : List (Written D)) (v : Verdict D) → B ≡ b.rounds → J ≡ b.history → Legal s (problem_of b.problem) b.rounds (entries_of b.history) → v ≡ verdict_of side w → IsWonBy s (problem_of b.problem) (entries_of b.history) side w → IsOutcome s (problem_of b.problem) B (record { verdict = v; journal = J; rounds = B })
won_ends {D} s b side w B J v e j l f h = record {
  legal =
      subst (λ (n : ℕ). Legal s (problem_of b.problem) n (entries_of J)) (sym e)
      (subst (λ (es : List (Written D)). Legal s (problem_of b.problem) b.rounds (entries_of es)) (sym j) l);
  rounds_given = refl;
  says =
      subst (λ (es : List (Written D)). Says s (problem_of b.problem) B (entries_of es) v) (sym j)
      (subst (λ (x : Verdict D). Says s (problem_of b.problem) B (entries_of b.history) x) (sym f) (says_won D s (problem_of b.problem) B (entries_of b.history) side w h));
}

-- ---- no verdict

-- the note of a side that is not beaten
pub blocked_says : {D : Type 0} → (s : Sort) (b : WrittenBoard D) (side : Side) (v : ℕ) (n : WideNote D) (B : ℕ) → IsUndecided s b → ¬ SomeHasWork (state_of s b) → ((y : Side) → IsNewestShown s b y) → IsUnbeaten side (state_of s b) → v ≡ newest_number (of_side side (state_of s b)) → (side ≡ Forall → ¬ IsUnbeaten Exists (state_of s b)) → FindsNote (entries_of b.history) side v (Some n) → SaysWhy s (problem_of b.problem) B (entries_of b.history) (why.Coefficient n)
blocked_says {D} s b side v n B g k w u e x f =
    subst (λ (y : Side). StopsWide s (problem_of b.problem) (entries_of b.history) y n.version (wideness_of n.why)) (sym f.0) (record {
      open_game = g;
      no_work = k;
      each_noted = λ y q. unbeaten_noted s (problem_of b.problem) (entries_of b.history) y g k q;
      each_shown = w;
      unbeaten = u;
      newest = f.1 ∙ e;
      note = subst (λ (m : ℕ). IsAmong (noted side m (wideness_of n.why)) (entries_of b.history)) e f.2;
      exists_first = x;
    })

-- there is such a note
pub blocked_finds : {D : Type 0} → (s : Sort) (b : WrittenBoard D) (side : Side) (v : ℕ) → IsUndecided s b → ¬ SomeHasWork (state_of s b) → IsUnbeaten side (state_of s b) → v ≡ newest_number (of_side side (state_of s b)) → FindsNote {D = D} (entries_of b.history) side v None → ⊥
blocked_finds {D} s b side v g k u e f =
    let n = unbeaten_noted s (problem_of b.problem) (entries_of b.history) side g k u in
    f n.why (subst (λ (m : ℕ). IsAmong (noted side m n.why) (entries_of b.history)) (sym e) n.note)

-- ---- a verdict is right

won_true : (s : Sort) (P : Problem) (H : List Entry) (side : Side) (w : WonGame) → IsMatrix P.matrix s (length P.prefix) → IsWonBy s P H side w → TrueP s (problem_for s side P)
won_true s P H side w m h =
    let k = h.is_won in
    let f = k.skeleton in
    subst (λ (Q : Problem). TrueP s Q) h.problem
    (refuted_is_true s (problem_of w.problem) (skeleton_of w.tree) w.proof (subst (λ (Q : Problem). IsMatrix Q.matrix s (length Q.prefix)) (sym h.problem) (side_matrix side)) f.follows k.refutes)
  where
    side_matrix : (side : Side) → IsMatrix (problem_for s side P).matrix s (length (problem_for s side P).prefix)
    side_matrix Exists = m
    side_matrix Forall = dual_matrix s P m

pub outcome_right : {D : Type 0} → (s : Sort) (P : WrittenProblem) (B : ℕ) (H : List Entry) (v : Verdict D) → IsProblem s P → Says s (problem_of P) B H v → IsRight (IsTrueProblem s P) v
outcome_right {D} s P B H (verdict.Sat w) i h = won_true s (problem_of P) H Exists w i.1 h
outcome_right {D} s P B H (verdict.Unsat w) i h = let k = dual_contrary s P (dual s (problem_of P)) i refl in k.0 (won_true s (problem_of P) H Forall w i.1 h)
outcome_right {D} s P B H (verdict.Unknown y) i h = tt
