-- Games that are won end the game of a board.
use Rattle.std.specs.Prelude.{◌≡◌, ℕ}
use Rattle.std.proofs.Common.{ap, ◌∙◌, subst, refl, inl, inr}
use Rattle.lin_term.specs.declared.Sort.{Sort}
use Rattle.dom_core.specs.declared.Side.{Side}
use Rattle.dom_core.specs.declared.Side.TheVariants.{Exists, Forall}
use Rattle.dom_core.specs.Game.{Problem, dual}
use Rattle.dom_core.specs.Problem.{problem_of}
use Rattle.dom_core.specs.Sides.{problem_for}
use Rattle.game_tree.specs.Skeleton.{IsSkeleton}
use Rattle.game_tree.specs.View.{skeleton_of}
use Rattle.game_tree.specs.Written.{WrittenSkeleton}
use Rattle.lose_system.specs.Losing.{Lost}
use Rattle.proof_rules.specs.Won.{WonGame}
use Rattle.game_board.specs.declared.entry.Entry.{Entry}
use Rattle.game_board.specs.declared.entry.Entry.TheVariants as entry
use Rattle.game_board.specs.Board.{WrittenBoard, problem_on}
use Rattle.game_board.specs.Replies.{IsUndecided, WinsVersion, won_skeleton}
use Rattle.game_board.specs.Kept.{EndsGame}

-- the problem of a side, where the board holds the dual
pub by_dual : {D : Type 0} → (s : Sort) (b : WrittenBoard D) (side : Side) → problem_of b.dual ≡ dual s (problem_of b.problem) → problem_of (problem_on side b) ≡ problem_for s side (problem_of b.problem)
by_dual {D} s b Exists d = refl
by_dual {D} s b Forall d = d

pub win_ends : {D : Type 0} → (s : Sort) (b : WrittenBoard D) (w : WonGame) (side : Side) (v : ℕ) → problem_of b.dual ≡ dual s (problem_of b.problem) → IsUndecided s b → WinsVersion s b w side v → Lost s (problem_of w.problem) (skeleton_of w.tree) → EndsGame s b (entry.Won side v) w
win_ends {D} s b w side v d o a l = record {
  open_game = o;
  fits = record { tree = skeleton_of w.tree; there = a.there; says = subst (λ (P : Problem). Lost s P (skeleton_of w.tree)) (ap problem_of a.problem ∙ by_dual s b side d) l };
  side = side;
  is_ending = record { problem = a.problem; by = inl (v, refl, a.there) };
}

found_ends : {D : Type 0} → (s : Sort) (b : WrittenBoard D) (w : WonGame) (side : Side) → problem_of b.dual ≡ dual s (problem_of b.problem) → IsUndecided s b → w.problem ≡ problem_on side b → IsSkeleton s (problem_of w.problem) (skeleton_of w.tree) → Lost s (problem_of w.problem) (skeleton_of w.tree) → EndsGame s b (entry.Found side (won_skeleton w)) w
found_ends {D} s b w side d o e k l =
    let q = ap problem_of e ∙ by_dual s b side d in
    record {
      open_game = o;
      fits = (subst (λ (P : Problem). IsSkeleton s P (skeleton_of w.tree)) q k, subst (λ (P : Problem). Lost s P (skeleton_of w.tree)) q l);
      side = side;
      is_ending = record { problem = e; by = inr refl };
    }

-- the entry has a copy of the skeleton
pub copy_ends : {D : Type 0} → (s : Sort) (b : WrittenBoard D) (w : WonGame) (side : Side) (S : WrittenSkeleton) → problem_of b.dual ≡ dual s (problem_of b.problem) → IsUndecided s b → w.problem ≡ problem_on side b → IsSkeleton s (problem_of w.problem) (skeleton_of w.tree) → Lost s (problem_of w.problem) (skeleton_of w.tree) → won_skeleton w ≡ S → EndsGame s b (entry.Found side S) w
copy_ends {D} s b w side S d o e k l x = subst (λ (T : WrittenSkeleton). let h : Entry D = entry.Found side T in EndsGame s b h w) x (found_ends s b w side d o e k l)
