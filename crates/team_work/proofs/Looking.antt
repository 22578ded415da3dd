-- What an attack on a version comes to on the board.
use Rattle.std.specs.Prelude.{ℕ, ◌≡◌, Some, None}
use Rattle.std.proofs.Common.{ap, ◌∙◌, sym, subst, refl}
use Rattle.lin_term.specs.declared.Sort.{Sort}
use Rattle.dom_core.specs.declared.Side.{Side}
use Rattle.dom_core.specs.declared.Side.TheVariants.{Exists, Forall}
use Rattle.dom_core.specs.Game.{Problem, dual}
use Rattle.dom_core.specs.Problem.{WrittenProblem, problem_of}
use Rattle.dom_core.specs.Sides.{other, problem_for}
use Rattle.game_tree.specs.declared.Tree.{Tree}
use Rattle.game_tree.specs.View.{skeleton_of}
use Rattle.game_tree.specs.Written.{WrittenSkeleton}
use Rattle.game_tree.specs.Among.{EachIs}
use Rattle.lose_system.specs.Losing.{system, Solves}
use Rattle.cube_elim.specs.Determined.{WideAt}
use Rattle.clause_search.specs.Branches.{EachStops}
use Rattle.term_select.specs.Guided.{guided, first_wide}
use Rattle.term_select.specs.Counter.{WrittenCounter}
use Rattle.game_history.specs.History.{Wideness, cube, choice, of_side, version, newest_number}
use Rattle.game_history.specs.Legal.{IsOfSystem}
use Rattle.game_board.specs.Entries.{wideness_of}
use Rattle.game_board.specs.Board.{WrittenBoard, problem_on, state_of}
use Rattle.game_board.specs.Replies.{IsLook, AttacksVersion}
use Rattle.game_board.proofs.Working.{back}
use Rattle.team_work.specs.declared.look.Looked.{Looked}
use Rattle.team_work.specs.declared.look.Looked.TheVariants as looked
use Rattle.team_work.specs.Shown.{ShownFor}
use Rattle.team_work.specs.Turn.{HasDual, IsShownOf, Comes, IsLooked}
use Rattle.team_work.proofs.Matrices.{problem_is}
use Rattle.team_work.proofs.Branched.{cube_of_system}
use Rattle.team_work.proofs.States.{newest_there}

-- the newest version is never missing
pub look_found : {D : Type 0} → (s : Sort) (b : WrittenBoard D) (side : Side) (v : ℕ) → v ≡ newest_number (of_side side (state_of s b)) → IsLook s b side v None → ⊥
look_found {D} s b side v e h =
    let x = of_side side (state_of s b) in
    let k : Some x.newest ≡ None = sym (newest_there x) ∙ ap (λ (n : ℕ). version x n) (sym e) ∙ h in
    absurd (cc)

-- ---- problems

-- the problem in which a side is Exists
pub side_problem : {D : Type 0} → (s : Sort) (b : WrittenBoard D) (side : Side) → HasDual s b → problem_of (problem_on side b) ≡ problem_for s side (problem_of b.problem)
side_problem {D} s b Exists h = refl
side_problem {D} s b Forall h = h.dual_is

-- its dual is that of the other side
dual_problem : {D : Type 0} → (s : Sort) (b : WrittenBoard D) (side : Side) → HasDual s b → dual s (problem_of (problem_on side b)) ≡ problem_for s (other side) (problem_of b.problem)
dual_problem {D} s b Exists h = refl
dual_problem {D} s b Forall h = h.inverse

-- a problem that is seen as that dual is the board's
counter_problem : {D : Type 0} → (s : Sort) (b : WrittenBoard D) (side : Side) (Q : WrittenProblem) → HasDual s b → problem_of Q ≡ dual s (problem_of (problem_on side b)) → Q ≡ problem_on (other side) b
counter_problem {D} s b Exists Q h e = problem_is Q b.dual (e ∙ sym h.dual_is)
counter_problem {D} s b Forall Q h e = problem_is Q b.problem (e ∙ h.inverse)

-- ---- notes

pub shown_for : {D : Type 0} → (s : Sort) (b : WrittenBoard D) (side : Side) (S : WrittenSkeleton) (y : Wideness) → HasDual s b → IsShownOf s (problem_on side b) S y → ShownFor s (problem_of b.problem) side y (skeleton_of S.tree)
shown_for {D} s b side S (cube c z) d h =
    subst (λ (P : Problem). EachIs (IsOfSystem (system s P (skeleton_of S.tree))) c × WideAt s c z × EachStops s (system s P (skeleton_of S.tree))) (side_problem s b side d)
    (cube_of_system (system s (problem_of (problem_on side b)) (skeleton_of S.tree)) c h.0, h.1, h.2)
shown_for {D} s b side S (choice p x z) d h = (
  subst (λ (P : Problem). Solves s (system s P (skeleton_of S.tree)) p) (side_problem s b side d) h.0,
  subst (λ (P : Problem). first_wide (guided s P (skeleton_of S.tree) p).numbers ≡ Some (x, z)) (dual_problem s b side d) h.1,
)

-- ---- a look

beaten : {D : Type 0} → (s : Sort) (b : WrittenBoard D) (side : Side) (v : ℕ) (S : WrittenSkeleton) (c : WrittenCounter) → HasDual s b → version (of_side side (state_of s b)) v ≡ Some (skeleton_of S.tree) → c.side ≡ other side → problem_of c.problem ≡ dual s (problem_of (problem_on side b)) → c.against ≡ S → AttacksVersion s b c v
beaten {D} s b side v S c d t e p a = record {
  problem = counter_problem s b side c.problem d p ∙ ap (λ (x : Side). problem_on x b) (sym e);
  there =
      ap (λ (x : Side). version (of_side x (state_of s b)) v) (ap other e ∙ back side) ∙ t ∙ ap (λ (T : WrittenSkeleton). Some (skeleton_of T.tree)) (sym a);
}

pub comes_looked : {D : Type 0} → (s : Sort) (b : WrittenBoard D) (side : Side) (v : ℕ) (S : WrittenSkeleton) (l : Looked D) → HasDual s b → version (of_side side (state_of s b)) v ≡ Some (skeleton_of S.tree) → Comes s side (problem_on side b) S l → IsLooked s b side v l
comes_looked {D} s b side v S (looked.Won w) d t h = record { problem = h.0; there = t ∙ ap (λ (T : Tree). Some (skeleton_of T)) (sym h.1) }
comes_looked {D} s b side v S (looked.Beaten c) d t h = (h.0, beaten s b side v S c d t h.0 h.1 h.2)
comes_looked {D} s b side v S (looked.Wide y) d t h = record { tree = skeleton_of S.tree; there = t; says = shown_for s b side S (wideness_of y) d h }
