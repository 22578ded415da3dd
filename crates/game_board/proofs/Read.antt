-- What a board that is opened tells of its state.
use Rattle.std.specs.Prelude.{ℕ, ◌≤◌, ◌≡◌, ◌≢◌, ◌↔◌, IsTrue, Bool, false, Option, Some, None, MatchOption, IfOk, Result, Ok, Err, slice_get, length}
use Rattle.std.proofs.Common.{ap, ◌∙◌, sym, subst}
use Rattle.lin_term.specs.declared.Sort.{Sort}
use Rattle.lin_term.specs.declared.Memory.{Memory}
use Rattle.dom_core.specs.declared.Side.{Side}
use Rattle.dom_core.specs.Game.{Problem}
use Rattle.dom_core.specs.Problem.{problem_of}
use Rattle.dom_core.specs.Sides.{other, problem_for}
use Rattle.game_tree.specs.Among.{IsAmong}
use Rattle.game_tree.specs.declared.Tree.{Tree}
use Rattle.game_tree.specs.Skeleton.{Skeleton, nodes, node_limit}
use Rattle.game_tree.specs.View.{skeleton_of}
use Rattle.game_tree.specs.Written.{WrittenSkeleton}
use Rattle.lose_system.specs.Losing.{system}
use Rattle.game_history.specs.History.{SideState, of_side, version, newest_number}
use Rattle.game_history.specs.Work.{HasWork}
use Rattle.game_history.proofs.Chains.{few_nodes}
use Rattle.game_board.specs.declared.half.Half.{Half}
use Rattle.game_board.specs.declared.halves.Halves.{Halves}
use Rattle.game_board.specs.declared.why.WideNote.{WideNote}
use Rattle.game_board.specs.Entries.{entries_of, wideness_of}
use Rattle.game_board.specs.Board.{WrittenBoard, state_of}
use Rattle.game_board.specs.Replies.{IsLook, BelongsTo, IsOnVersion, IsNotedAlready, IsAttackBy}
use Rattle.game_board.specs.Half.{half_of, IsHalfOf}
use Rattle.game_board.specs.Kept.{Tally, IsBoard}
use Rattle.game_board.proofs.HalfStates.{side_is}
use Rattle.game_board.proofs.HalfLemmas.{version_is, no_version}
use Rattle.game_board.proofs.Keeping.{problem_is}
use Rattle.game_board.proofs.Asking.{half_problem, of_state}
use Rattle.game_board.proofs.Asked.{half_prefix}
use Rattle.game_board.proofs.Working.{other_attack}

fails : {P : Type 0} → ¬ P → IsTrue false ↔ P
fails h = (λ e. absurd (cc), λ p. absurd (h p))

-- ---- a half that is lent

lent_half : {D : Type 0} → (s : Sort) (b : WrittenBoard D) (p : Halves D) (t : Tally) (room : ℕ) (side : Side) (h : Half D) (P : SideState → Type 0) → IsBoard s b p t room → h ≡ half_of side p → ((x : SideState) → IsHalfOf h x → P x) → P (of_side side (state_of s b))
lent_half {D} s b p t room side h P k x d = of_state s b p t room side P k (subst (λ (g : Half D). (z : SideState) → IsHalfOf g z → P z) x d)

is_half : {D : Type 0} → (s : Sort) (b : WrittenBoard D) (p : Halves D) (t : Tally) (room : ℕ) (side : Side) (h : Half D) → IsBoard s b p t room → h ≡ half_of side p → IsHalfOf h (of_side side (state_of s b))
is_half {D} s b p t room side h k x = subst (λ (g : Half D). IsHalfOf g (of_side side (state_of s b))) (sym x) (side_is side p t (state_of s b) k.matches)

-- the newest version's number
pub number_found : {D : Type 0} → (s : Sort) (b : WrittenBoard D) (p : Halves D) (t : Tally) (room : ℕ) (side : Side) (h : Half D) (n : ℕ) → IsBoard s b p t room → h ≡ half_of side p → ((x : SideState) → IsHalfOf h x → n ≡ newest_number x) → n ≡ newest_number (of_side side (state_of s b))
number_found {D} s b p t room side h n k x d = lent_half s b p t room side h (λ z. n ≡ newest_number z) k x d

-- whether a version carries a note
pub noted_found : {D : Type 0} → (s : Sort) (b : WrittenBoard D) (p : Halves D) (t : Tally) (room : ℕ) (side : Side) (h : Half D) (v : ℕ) (r : Bool) → IsBoard s b p t room → h ≡ half_of side p → ((x : SideState) → IsHalfOf h x → IsTrue r ↔ IsAmong v x.notes) → IsTrue r ↔ IsNotedAlready s b side v
noted_found {D} s b p t room side h v r k x d = lent_half s b p t room side h (λ z. IsTrue r ↔ IsAmong v z.notes) k x d

-- the reach
pub reach_found : {D : Type 0} → (s : Sort) (b : WrittenBoard D) (p : Halves D) (t : Tally) (room : ℕ) (side : Side) (h : Half D) → IsBoard s b p t room → h ≡ half_of side p → h.reach ≡ (of_side side (state_of s b)).reach
reach_found {D} s b p t room side h k x = (is_half s b p t room side h k x).reach

-- ---- versions

pub look_found : {D : Type 0} → (s : Sort) (b : WrittenBoard D) (p : Halves D) (t : Tally) (room : ℕ) (side : Side) (h : Half D) (v : ℕ) (o : Option WrittenSkeleton) → IsBoard s b p t room → h ≡ half_of side p → MatchOption o (length h.grown.versions ≤ v) (λ w. (slice_get h.grown.versions v ≡ Some w.tree) × (w.prefix ≡ h.grown.prefix)) → IsLook s b side v o
look_found {D} s b p t room side h v None k x l = no_version h (of_side side (state_of s b)) v (is_half s b p t room side h k x) l
look_found {D} s b p t room side h v (Some w) k x l =
    (l.1 ∙ ap (λ (g : Half D). g.grown.prefix) x ∙ half_prefix s b p t room side k, version_is h (of_side side (state_of s b)) v w.tree (is_half s b p t room side h k x) l.0)

-- a version has few nodes
pub few_at : {D : Type 0} → (s : Sort) (b : WrittenBoard D) (p : Halves D) (t : Tally) (room : ℕ) (side : Side) (h : Half D) (v : ℕ) (T : Tree) → IsBoard s b p t room → h ≡ half_of side p → slice_get h.grown.versions v ≡ Some T → nodes (skeleton_of T) ≤ node_limit
few_at {D} s b p t room side h v T k x e =
    few_nodes s (problem_of b.problem) b.rounds (entries_of b.history) side v (skeleton_of T) k.problem.0 k.legal (version_is h (of_side side (state_of s b)) v T (is_half s b p t room side h k x) e)

-- its prefix is that of the half's problem
pub prefix_at : {D : Type 0} → (s : Sort) (b : WrittenBoard D) (p : Halves D) (t : Tally) (room : ℕ) (side : Side) (h : Half D) → IsBoard s b p t room → h ≡ half_of side p → h.grown.prefix ≡ h.problem.prefix
prefix_at {D} s b p t room side h k x = (is_half s b p t room side h k x).prefix

-- ---- notes

some_inner : (S T : Skeleton) → Some S ≡ Some T → S ≡ T
some_inner S T e = cc

on_says : {D : Type 0} → (s : Sort) (b : WrittenBoard D) (n : WideNote D) (v : ℕ) (P : Problem) (S : Skeleton) (r : Bool) → n.version ≡ v → P ≡ problem_for s n.side (problem_of b.problem) → version (of_side n.side (state_of s b)) v ≡ Some S → (IsTrue r ↔ BelongsTo (system s P S) (wideness_of n.why)) → IsTrue r ↔ IsOnVersion s b n v
on_says {D} s b n v P S r e q f d = (
  λ y. record { named = e; belongs = record { tree = S; there = f; says = subst (λ (R : Problem). BelongsTo (system s R S) (wideness_of n.why)) q (d.0 y) } },
  λ o. d.1 (subst (λ (R : Problem). BelongsTo (system s R S) (wideness_of n.why)) (sym q) (subst (λ (T : Skeleton). BelongsTo (system s (problem_for s n.side (problem_of b.problem)) T) (wideness_of n.why)) (some_inner o.belongs.tree S (sym o.belongs.there ∙ f)) o.belongs.says)),
)

-- whether it belongs to the version's system
pub on_version : {D : Type 0} → (s : Sort) (b : WrittenBoard D) (p : Halves D) (t : Tally) (room : ℕ) (n : WideNote D) (v : ℕ) (h : Half D) (T : Tree) (r : Result Bool Memory) → IsBoard s b p t room → n.version ≡ v → h ≡ half_of n.side p → slice_get h.grown.versions v ≡ Some T → IfOk r (λ y. IsTrue y ↔ BelongsTo (system s (problem_of h.problem) (skeleton_of T)) (wideness_of n.why)) → IfOk r (λ y. IsTrue y ↔ IsOnVersion s b n v)
on_version {D} s b p t room n v h T (Ok y) k e x f d =
    on_says s b n v (problem_of h.problem) (skeleton_of T) y e
    (ap (λ (g : Half D). problem_of g.problem) x ∙ ap problem_of (half_problem s b p t room n.side k) ∙ problem_is s b p t room n.side k)
    (version_is h (of_side n.side (state_of s b)) v T (is_half s b p t room n.side h k x) f) d
on_version {D} s b p t room n v h T (Err m) k e x f d = tt

pub not_named : {D : Type 0} → (s : Sort) (b : WrittenBoard D) (n : WideNote D) (v : ℕ) → n.version ≢ v → IsTrue false ↔ IsOnVersion s b n v
not_named {D} s b n v e = fails (λ o. e o.named)

no_tree : (S : Skeleton) → Some S ≡ None → ⊥
no_tree S e = absurd (cc)

pub not_there : {D : Type 0} → (s : Sort) (b : WrittenBoard D) (p : Halves D) (t : Tally) (room : ℕ) (n : WideNote D) (v : ℕ) (h : Half D) → IsBoard s b p t room → h ≡ half_of n.side p → length h.grown.versions ≤ v → IsTrue false ↔ IsOnVersion s b n v
not_there {D} s b p t room n v h k x l =
    fails (λ o. no_tree o.belongs.tree (sym o.belongs.there ∙ no_version h (of_side n.side (state_of s b)) v (is_half s b p t room n.side h k x) l))

-- ---- jobs

pub wished : {D : Type 0} → (s : Sort) (b : WrittenBoard D) (wish attacked : Side) (v : ℕ) → attacked ≡ other wish → HasWork wish (state_of s b) → v ≡ newest_number (of_side (other wish) (state_of s b)) → IsAttackBy s b wish attacked v
wished {D} s b wish attacked v e h f = (h, e, f ∙ ap (λ (a : Side). newest_number (of_side a (state_of s b))) (sym e))

pub not_wished : {D : Type 0} → (s : Sort) (b : WrittenBoard D) (wish side : Side) (v : ℕ) → side ≡ other wish → HasWork side (state_of s b) → v ≡ newest_number (of_side (other side) (state_of s b)) → IsAttackBy s b (other wish) wish v
not_wished {D} s b wish side v e h f =
    other_attack s b wish v (subst (λ (a : Side). HasWork a (state_of s b)) e h) (f ∙ ap (λ (a : Side). newest_number (of_side (other a) (state_of s b))) e)

pub no_other_work : {D : Type 0} → (s : Sort) (b : WrittenBoard D) (wish side : Side) → side ≡ other wish → ¬ HasWork side (state_of s b) → ¬ HasWork (other wish) (state_of s b)
no_other_work {D} s b wish side e n = subst (λ (a : Side). ¬ HasWork a (state_of s b)) e n
