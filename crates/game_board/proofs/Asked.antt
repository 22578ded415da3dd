-- What a board that is opened finds of a counter or a game.
use Rattle.std.specs.Prelude.{ℕ, ◌≡◌, ◌≢◌, ◌↔◌, IsTrue, Bool, true, false, Some}
use Rattle.std.proofs.Common.{ap, ◌∙◌, sym, subst}
use Rattle.lin_term.specs.declared.Sort.{Sort}
use Rattle.dom_core.specs.declared.Side.{Side}
use Rattle.dom_core.specs.Problem.{WrittenProblem}
use Rattle.dom_core.specs.Sides.{other}
use Rattle.game_tree.specs.Union.{In}
use Rattle.game_tree.specs.View.{skeleton_of}
use Rattle.game_tree.specs.Written.{WrittenSkeleton}
use Rattle.term_select.specs.Counter.{WrittenCounter, IsCounter}
use Rattle.game_history.specs.History.{SideState, of_side, version}
use Rattle.proof_rules.specs.Won.{WonGame}
use Rattle.game_board.specs.declared.half.Half.{Half}
use Rattle.game_board.specs.declared.halves.Halves.{Halves}
use Rattle.game_board.specs.Board.{WrittenBoard, problem_on, state_of}
use Rattle.game_board.specs.Replies.{AttacksVersion, WinsVersion}
use Rattle.game_board.specs.Half.{half_of, IsHalfOf}
use Rattle.game_board.specs.Kept.{Tally, IsBoard}
use Rattle.game_board.proofs.HalfStates.{side_is}
use Rattle.game_board.proofs.Asking.{half_problem, of_state, attack_says, other_problem, win_says}

-- ---- prefixes

pub half_prefix : {D : Type 0} → (s : Sort) (b : WrittenBoard D) (p : Halves D) (t : Tally) (room : ℕ) (side : Side) → IsBoard s b p t room → (half_of side p).grown.prefix ≡ (problem_on side b).prefix
half_prefix {D} s b p t room side k =
    (side_is side p t (state_of s b) k.matches).prefix ∙ ap (λ (P : WrittenProblem). P.prefix) (half_problem s b p t room side k)

-- the versions that a counter adds to have its prefix
pub paths_prefix : {D : Type 0} → (s : Sort) (b : WrittenBoard D) (p : Halves D) (t : Tally) (room : ℕ) (c : WrittenCounter) → IsBoard s b p t room → IsCounter s c → c.problem ≡ problem_on c.side b → (half_of c.side p).grown.prefix ≡ c.paths.prefix
paths_prefix {D} s b p t room c k i e =
    half_prefix s b p t room c.side k ∙ ap (λ (P : WrittenProblem). P.prefix) (sym e) ∙ sym i.own_prefix

-- ---- the problem of a half that is lent

-- what the code compares: a half of the board, and a problem
pub same_problem : {D : Type 0} → (s : Sort) (b : WrittenBoard D) (p : Halves D) (t : Tally) (room : ℕ) (side : Side) (h : Half D) (Q : WrittenProblem) (r : Bool) → IsBoard s b p t room → h ≡ half_of side p → (IsTrue r ↔ (h.problem ≡ Q)) → r ≡ true → Q ≡ problem_on side b
same_problem {D} s b p t room side h Q r k x d e = sym (d.0 e) ∙ ap (λ (y : Half D). y.problem) x ∙ half_problem s b p t room side k

pub differs : {D : Type 0} → (s : Sort) (b : WrittenBoard D) (p : Halves D) (t : Tally) (room : ℕ) (side : Side) (h : Half D) (Q : WrittenProblem) (r : Bool) → IsBoard s b p t room → h ≡ half_of side p → (IsTrue r ↔ (h.problem ≡ Q)) → r ≡ false → Q ≢ problem_on side b
differs {D} s b p t room side h Q r k x d e f =
    let u : r ≡ true = d.1 (ap (λ (y : Half D). y.problem) x ∙ half_problem s b p t room side k ∙ sym f) in
    let v : true ≡ false = sym u ∙ e in
    absurd (cc)

-- ---- versions of a half that is lent

-- what a half answers of a skeleton, said of the board's state
version_of_half : {D : Type 0} → (s : Sort) (b : WrittenBoard D) (p : Halves D) (t : Tally) (room : ℕ) (side : Side) (h : Half D) (U W : WrittenSkeleton) (v : ℕ) (r : Bool) → IsBoard s b p t room → h ≡ half_of side p → U ≡ W → ((x : SideState) → IsHalfOf h x → IsTrue r ↔ (version x v ≡ Some (skeleton_of U.tree))) → IsTrue r ↔ (version (of_side side (state_of s b)) v ≡ Some (skeleton_of W.tree))
version_of_half {D} s b p t room side h U W v r k x y d =
    of_state s b p t room side (λ z. IsTrue r ↔ (version z v ≡ Some (skeleton_of W.tree))) k
    (subst (λ (S : WrittenSkeleton). (z : SideState) → IsHalfOf (half_of side p) z → IsTrue r ↔ (version z v ≡ Some (skeleton_of S.tree))) y
    (subst (λ (g : Half D). (z : SideState) → IsHalfOf g z → IsTrue r ↔ (version z v ≡ Some (skeleton_of U.tree))) x d))

pub attack_found : {D : Type 0} → (s : Sort) (b : WrittenBoard D) (p : Halves D) (t : Tally) (room : ℕ) (c : WrittenCounter) (v : ℕ) (r : Bool) (h : Half D) (U : WrittenSkeleton) → IsBoard s b p t room → c.problem ≡ problem_on c.side b → h ≡ half_of (other c.side) p → U ≡ c.against → ((x : SideState) → IsHalfOf h x → IsTrue r ↔ (version x v ≡ Some (skeleton_of U.tree))) → IsTrue r ↔ AttacksVersion s b c v
attack_found {D} s b p t room c v r h U k e x y d = attack_says s b c v r e (version_of_half s b p t room (other c.side) h U c.against v r k x y d)

pub win_found : {D : Type 0} → (s : Sort) (b : WrittenBoard D) (p : Halves D) (t : Tally) (room : ℕ) (w : WonGame) (side : Side) (v : ℕ) (r : Bool) (h : Half D) (U : WrittenSkeleton) → IsBoard s b p t room → w.problem ≡ problem_on side b → h ≡ half_of side p → U ≡ record { prefix = w.problem.prefix; tree = w.tree } → ((x : SideState) → IsHalfOf h x → IsTrue r ↔ (version x v ≡ Some (skeleton_of U.tree))) → IsTrue r ↔ WinsVersion s b w side v
win_found {D} s b p t room w side v r h U k e x y d = win_says s b w side v r e (version_of_half s b p t room side h U (record { prefix = w.problem.prefix; tree = w.tree }) v r k x y d)

-- whether the newest version has every path of the counter
pub paths_found : {D : Type 0} → (s : Sort) (b : WrittenBoard D) (p : Halves D) (t : Tally) (room : ℕ) (c : WrittenCounter) (r : Bool) (h : Half D) (C : WrittenSkeleton) → IsBoard s b p t room → h ≡ half_of c.side p → C ≡ c.paths → ((x : SideState) → IsHalfOf h x → IsTrue r ↔ In (skeleton_of C.tree) x.newest) → IsTrue r ↔ In (skeleton_of c.paths.tree) (of_side c.side (state_of s b)).newest
paths_found {D} s b p t room c r h C k x y d =
    of_state s b p t room c.side (λ z. IsTrue r ↔ In (skeleton_of c.paths.tree) z.newest) k
    (subst (λ (S : WrittenSkeleton). (z : SideState) → IsHalfOf (half_of c.side p) z → IsTrue r ↔ In (skeleton_of S.tree) z.newest) y
    (subst (λ (g : Half D). (z : SideState) → IsHalfOf g z → IsTrue r ↔ In (skeleton_of C.tree) z.newest) x d))

-- ---- the problem of a counter or a game

pub attack_differs : {D : Type 0} → (s : Sort) (b : WrittenBoard D) (p : Halves D) (t : Tally) (room : ℕ) (c : WrittenCounter) (v : ℕ) (side : Side) (h : Half D) (Q : WrittenProblem) (r : Bool) → IsBoard s b p t room → side ≡ c.side → h ≡ half_of side p → Q ≡ c.problem → (IsTrue r ↔ (h.problem ≡ Q)) → r ≡ false → IsTrue false ↔ AttacksVersion s b c v
attack_differs {D} s b p t room c v side h Q r k a x y d e =
    other_problem s b c v (subst (λ (o : Side). c.problem ≢ problem_on o b) a (subst (λ (R : WrittenProblem). R ≢ problem_on side b) y (differs s b p t room side h Q r k x d e)))

pub attack_same : {D : Type 0} → (s : Sort) (b : WrittenBoard D) (p : Halves D) (t : Tally) (room : ℕ) (c : WrittenCounter) (side : Side) (h : Half D) (Q : WrittenProblem) (r : Bool) → IsBoard s b p t room → side ≡ c.side → h ≡ half_of side p → Q ≡ c.problem → (IsTrue r ↔ (h.problem ≡ Q)) → r ≡ true → c.problem ≡ problem_on c.side b
attack_same {D} s b p t room c side h Q r k a x y d e = sym y ∙ same_problem s b p t room side h Q r k x d e ∙ ap (λ (o : Side). problem_on o b) a

pub win_differs : {D : Type 0} → (s : Sort) (b : WrittenBoard D) (p : Halves D) (t : Tally) (room : ℕ) (w : WonGame) (side : Side) (h : Half D) (Q : WrittenProblem) (r : Bool) → IsBoard s b p t room → h ≡ half_of side p → Q ≡ w.problem → (IsTrue r ↔ (h.problem ≡ Q)) → r ≡ false → w.problem ≢ problem_on side b
win_differs {D} s b p t room w side h Q r k x y d e = subst (λ (R : WrittenProblem). R ≢ problem_on side b) y (differs s b p t room side h Q r k x d e)

pub win_same : {D : Type 0} → (s : Sort) (b : WrittenBoard D) (p : Halves D) (t : Tally) (room : ℕ) (w : WonGame) (side : Side) (h : Half D) (Q : WrittenProblem) (r : Bool) → IsBoard s b p t room → h ≡ half_of side p → Q ≡ w.problem → (IsTrue r ↔ (h.problem ≡ Q)) → r ≡ true → w.problem ≡ problem_on side b
win_same {D} s b p t room w side h Q r k x y d e = sym y ∙ same_problem s b p t room side h Q r k x d e
