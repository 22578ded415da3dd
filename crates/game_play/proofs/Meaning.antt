-- What a play answers is whether the owner wins.
use Rattle.std.specs.Prelude.{ℕ, suc, ◌*◌, ◌%◌, ◌≤◌, ◌≡◌, ℤ, pos, ◌*ℤ◌, ◌≤ℤ◌, ◌<ℤ◌, nat_abs, int_le, int_lt, Bool, true, false, ◌||◌, List, [], ◌∷◌, Decides, ⊤, Result, Ok, Err, IfOk, IsTrue, ◌↔◌}
use Rattle.std.proofs.Common.{arith, ◌∙◌, sym, subst, refl}
use Rattle.std.proofs.lemmas.Int.{ints}
use Rattle.std.proofs.lemmas.Bool.Decides.{Decides-and, Decides-or, Decides-not, Decides-like, Decides-at, Decides-eqb, not_from_Decides}
use Rattle.lin_term.specs.declared.Sort.{Sort}
use Rattle.lin_term.specs.declared.Sort.TheVariants.{Rat, Int}
use Rattle.lin_term.specs.declared.Short.{Short}
use Rattle.lin_term.specs.declared.Wide.{Wide}
use Rattle.lin_term.specs.Linear.{Point, Value, IsPoint, dot, origin}
use Rattle.lin_term.specs.declared.Lit.{Lit}
use Rattle.lin_term.specs.declared.Lit.TheVariants.{AtLeast, Above, Divides, NotDivides}
use Rattle.lin_term.specs.Literal.{Holds, form_of}
use Rattle.lin_term.specs.Move.{Move, move_value}
use Rattle.lin_term.proofs.Ring.{ring, nonneg_across, pos_across}
use Rattle.lin_term.proofs.Dividing.{scaled_mod, scaled_mod_from}
use Rattle.lin_term.proofs.Holding.{one_den}
use Rattle.dom_core.specs.declared.Matrix.{Matrix as Written}
use Rattle.dom_core.specs.declared.Quant.{Quant}
use Rattle.dom_core.specs.declared.Quant.TheVariants.{Exists, Forall}
use Rattle.dom_core.specs.Game.{Matrix, lit, all, some, Matrices, none, more, HoldsIn, AllHold, AllFail, Problem, flip_all}
use Rattle.dom_core.specs.View.{matrix_of}
use Rattle.dom_core.specs.Pick.{played}
use Rattle.dom_core.proofs.Contrary.{extend_point}
use Rattle.game_tree.specs.declared.Tree.{Tree}
use Rattle.game_tree.specs.Skeleton.{Skeleton, end, theirs, mine, Branches, no_more, branch, IsMoveAt, Follows, EachFollows}
use Rattle.game_tree.specs.View.{skeleton_of}
use Rattle.game_play.specs.Beats.{SomeBranch, EachBranch, Wins, Beats}
use Rattle.game_play.specs.Worth.{row_worth, move_worth, move_steps}
use Rattle.game_play.specs.Course.{Course, after, is_multiple, literal_truth, tested, all_tested, some_tested}
use Rattle.game_play.specs.Play.{first_branch, every_branch, with_move, play, played_out}
use Rattle.game_play.proofs.Turns.{Answers}
use Rattle.game_play.proofs.Standing.{Stands, EachStands, row_stands, worth_stands, more_stand, move_is_value}

-- ---- literals

le_decides : (z : ℤ) → Decides (int_le (pos 0) z) (pos 0 ≤ℤ z)
le_decides z = (λ e. omega (arith, ints), by (int_le (pos 0) z) refl)
  where
    by : (t : Bool) → int_le (pos 0) z ≡ t → pos 0 ≤ℤ z → int_le (pos 0) z ≡ true
    by true e h = e
    by false e h = absurd (omega (arith, ints))

lt_decides : (z : ℤ) → Decides (int_lt (pos 0) z) (pos 0 <ℤ z)
lt_decides z = (λ e. omega (arith, ints), by (int_lt (pos 0) z) refl)
  where
    by : (t : Bool) → int_lt (pos 0) z ≡ t → pos 0 <ℤ z → int_lt (pos 0) z ≡ true
    by true e h = e
    by false e h = absurd (omega (arith, ints))

turned : (m n d e : ℤ) → m *ℤ d ≡ n *ℤ e → d *ℤ m ≡ e *ℤ n
turned m n d e h = let x : d *ℤ m ≡ m *ℤ d = simp ring in let y : n *ℤ e ≡ e *ℤ n = simp ring in x ∙ h ∙ y

-- a common factor of a number and of what divides it
across : (k d e : ℕ) (m n : ℤ) → 1 ≤ d → pos d *ℤ m ≡ pos e *ℤ n → nat_abs n % (k * d) ≡ 0 → nat_abs m % (k * e) ≡ 0
across k d e m n o h r =
    scaled_mod_from d (k * e) (pos d *ℤ m) m o refl
    (subst (λ (j : ℕ). nat_abs (pos d *ℤ m) % j ≡ 0) (let i : e * (k * d) ≡ d * (k * e) = omega arith in i) (scaled_mod e (k * d) (pos d *ℤ m) n h r))

multiple_decides : (v : Value) (n : ℤ) (d k : ℕ) → 1 ≤ d → Stands v n d → Decides (is_multiple v k) (nat_abs n % (k * d) ≡ 0)
multiple_decides v n d k o h =
    let t = turned v.num n (pos d) (pos v.den) h.0 in
    Decides-like (is_multiple v k) (across k v.den d n v.num h.1 (sym t)) (across k d v.den v.num n o t) (Decides-eqb (nat_abs v.num % (k * v.den)) 0)

sign : (d : ℕ) → 1 ≤ d → pos 0 <ℤ pos d
sign d o = omega (arith, ints)

literal_decides : (l : Lit) (p : Point) (v : Value) → 1 ≤ p.den → Stands v (dot (form_of l) p) p.den → Decides (literal_truth l v) (Holds l p)
literal_decides (AtLeast f) p v o h =
    Decides-like (int_le (pos 0) v.num) (nonneg_across v.num (dot f p) (pos p.den) (pos v.den) (sign p.den o) (sign v.den h.1) h.0)
    (nonneg_across (dot f p) v.num (pos v.den) (pos p.den) (sign v.den h.1) (sign p.den o) (sym h.0)) (le_decides v.num)
literal_decides (Above f) p v o h =
    Decides-like (int_lt (pos 0) v.num) (pos_across v.num (dot f p) (pos p.den) (pos v.den) (sign p.den o) (sign v.den h.1) h.0)
    (pos_across (dot f p) v.num (pos v.den) (pos p.den) (sign v.den h.1) (sign p.den o) (sym h.0)) (lt_decides v.num)
literal_decides (Divides d f) p v o h = multiple_decides v (dot f p) p.den d o h
literal_decides (NotDivides d f) p v o h = Decides-not (is_multiple v d) (multiple_decides v (dot f p) p.den d o h)

-- ---- the matrix

decides_some : (P Q : Type 0) (x y : Bool) → Decides x P → Decides y (¬ Q) → Decides (x || y) (¬ ((¬ P) × Q))
decides_some P Q true y d k = (λ e h. h.0 (d.0 refl), λ n. refl)
decides_some P Q false y d k = Decides-like y (λ n h. n h.1) (λ n q. n (not_from_Decides false d refl, q)) k

mutual
  pub matrix_decides : (m : Matrix) (p : Point) (vs : List Value) → 1 ≤ p.den → EachStands p.den p.nums vs → Decides (tested m vs).wins (HoldsIn m p)
  matrix_decides (lit l) p vs o e = literal_decides l p (row_worth vs (form_of l)) o (row_stands p vs (form_of l) e)
  matrix_decides (all ms) p vs o e = all_decides ms p vs o e
  matrix_decides (some ms) p vs o e = some_decides ms p vs o e

  all_decides : (ms : Matrices) (p : Point) (vs : List Value) → 1 ≤ p.den → EachStands p.den p.nums vs → Decides (all_tested ms vs).wins (AllHold ms p)
  all_decides none p vs o e = (λ t. tt, λ t. refl)
  all_decides (more m ms) p vs o e = Decides-and (tested m vs).wins (all_tested ms vs).wins (matrix_decides m p vs o e) (all_decides ms p vs o e)

  some_decides : (ms : Matrices) (p : Point) (vs : List Value) → 1 ≤ p.den → EachStands p.den p.nums vs → Decides (some_tested ms vs).wins (¬ AllFail ms p)
  some_decides none p vs o e = (λ t. absurd (cc), λ n. absurd (n tt))
  some_decides (more m ms) p vs o e = decides_some (HoldsIn m p) (AllFail ms p) (tested m vs).wins (some_tested ms vs).wins (matrix_decides m p vs o e) (some_decides ms p vs o e)

-- ---- the play

-- each branch has a move for this position, and what f asks of its tree
abbrev pub EachAt : Branches → Sort → ℕ → (Skeleton → Type 0) → Type 0
EachAt no_more s k F = ⊤
EachAt (branch m t bs) s k F = (IsMoveAt s k m × F t) × EachAt bs s k F

pub each_at : (bs : Branches) (s : Sort) (qs : List Quant) (k : ℕ) → EachFollows bs s qs k → EachAt bs s k (λ t. Follows t s qs (suc k))
each_at no_more s qs k h = tt
each_at (branch m t bs) s qs k h = ((h.0, h.2), each_at bs s qs k h.3)

first_decides : (bs : Branches) (s : Sort) (k : ℕ) (A : Skeleton → Type 0) (F : Move → Skeleton → Course) (G : Move → Skeleton → Type 0)
    → ((m : Move) (t : Skeleton) → IsMoveAt s k m → A t → Decides (F m t).wins (G m t)) → EachAt bs s k A → Decides (first_branch bs F).wins (SomeBranch bs G)
first_decides no_more s k A F G d h = (λ e. absurd (cc), λ n. absurd n)
first_decides (branch m t bs) s k A F G d h = Decides-or (F m t).wins (first_branch bs F).wins (d m t h.0.0 h.0.1) (first_decides bs s k A F G d h.1)

every_decides : (bs : Branches) (s : Sort) (k : ℕ) (A : Skeleton → Type 0) (F : Move → Skeleton → Course) (G : Move → Skeleton → Type 0)
    → ((m : Move) (t : Skeleton) → IsMoveAt s k m → A t → Decides (F m t).wins (G m t)) → EachAt bs s k A → Decides (every_branch bs F).wins (EachBranch bs G)
every_decides no_more s k A F G d h = (λ e. tt, λ n. refl)
every_decides (branch m t bs) s k A F G d h = Decides-and (F m t).wins (every_branch bs F).wins (d m t h.0.0 h.0.1) (every_decides bs s k A F G d h.1)

pub played_point : (s : Sort) (m : Move) (k : ℕ) (p : Point) → IsMoveAt s k m → IsPoint s p → IsPoint s (played s m p)
played_point s m k p i o = extend_point s p (move_value s m p) o (move_is_value s m p o i.written.1)

pub played_stand : (s : Sort) (m : Move) (k : ℕ) (p : Point) (vs : List Value) → IsMoveAt s k m → IsPoint s p → EachStands p.den p.nums vs → EachStands (played s m p).den (played s m p).nums (with_move s m vs)
played_stand s m k p vs i o e = more_stand p (move_value s m p) (move_worth s m vs) vs (worth_stands s m p vs o i.written.1 e) e

pub play_decides : (qs : List Quant) (s : Sort) (m : Matrix) (S U : Skeleton) (k : ℕ) (p : Point) (vs : List Value) → IsPoint s p → EachStands p.den p.nums vs
    → Follows S s qs k → Follows U s (flip_all qs) k → Decides (play qs s m S U vs).wins (Wins qs s m S U p)
play_decides [] s m S U k p vs o e f g = matrix_decides m p vs (one_den s p o) e
play_decides (Exists ∷ qs) s m end U k p vs o e f g = absurd f
play_decides (Exists ∷ qs) s m (theirs S) U k p vs o e f g = absurd f
play_decides (Exists ∷ qs) s m (mine bs) end k p vs o e f g = absurd g
play_decides (Exists ∷ qs) s m (mine bs) (mine cs) k p vs o e f g = absurd g
play_decides (Exists ∷ qs) s m (mine bs) (theirs U) k p vs o e f g =
    first_decides bs s k (λ t. Follows t s qs (suc k)) (λ mv S. after (move_steps s mv vs) (play qs s m S U (with_move s mv vs))) (λ mv S. Wins qs s m S U (played s mv p))
    (λ mv S i h. play_decides qs s m S U (suc k) (played s mv p) (with_move s mv vs) (played_point s mv k p i o) (played_stand s mv k p vs i o e) h g)
    (each_at bs s qs k f.1)
play_decides (Forall ∷ qs) s m end U k p vs o e f g = absurd f
play_decides (Forall ∷ qs) s m (mine bs) U k p vs o e f g = absurd f
play_decides (Forall ∷ qs) s m (theirs S) end k p vs o e f g = absurd g
play_decides (Forall ∷ qs) s m (theirs S) (theirs U) k p vs o e f g = absurd g
play_decides (Forall ∷ qs) s m (theirs S) (mine cs) k p vs o e f g =
    every_decides cs s k (λ t. Follows t s (flip_all qs) (suc k)) (λ mv U. after (move_steps s mv vs) (play qs s m S U (with_move s mv vs))) (λ mv U. Wins qs s m S U (played s mv p))
    (λ mv U i h. play_decides qs s m S U (suc k) (played s mv p) (with_move s mv vs) (played_point s mv k p i o) (played_stand s mv k p vs i o e) f h)
    (each_at cs s (flip_all qs) k g.1)

pub origin_point : (s : Sort) → IsPoint s origin
origin_point Rat = omega arith
origin_point Int = refl

-- the answer of the whole play
pub beats_decides : (s : Sort) (P : Problem) (S U : Skeleton) → Follows S s P.prefix 0 → Follows U s (flip_all P.prefix) 0 → Decides (played_out s P S U).wins (Beats s P S U)
beats_decides s P S U f g = play_decides P.prefix s P.matrix S U 0 origin [] (origin_point s) tt f g

pub answer_beats : (s : Sort) (P : Problem) (S U : Skeleton) (r : Result Bool (Short Wide)) → Follows S s P.prefix 0 → Follows U s (flip_all P.prefix) 0 → Answers (played_out s P S U) r → IfOk r (λ b. IsTrue b ↔ Beats s P S U)
answer_beats s P S U (Ok b) f g h = Decides-at b (played_out s P S U).wins h.1 (beats_decides s P S U f g)
answer_beats s P S U (Err e) f g h = tt

-- the play of equal parts, from no values on
pub whole_play : (s t : Sort) (ps qs : List Quant) (M N : Written) (S T U V : Tree) (vs : List Value) (r : Result Bool (Short Wide)) → s ≡ t → ps ≡ qs → M ≡ N → S ≡ T → U ≡ V → vs ≡ []
    → Answers (play ps s (matrix_of M) (skeleton_of S) (skeleton_of U) vs) r → Answers (play qs t (matrix_of N) (skeleton_of T) (skeleton_of V) []) r
whole_play s t ps qs M N S T U V vs r a b c d e f h =
    subst (λ (x : Sort). Answers (play qs x (matrix_of N) (skeleton_of T) (skeleton_of V) []) r) a
    (subst (λ (x : List Quant). Answers (play x s (matrix_of N) (skeleton_of T) (skeleton_of V) []) r) b
    (subst (λ (x : Written). Answers (play ps s (matrix_of x) (skeleton_of T) (skeleton_of V) []) r) c
    (subst (λ (x : Tree). Answers (play ps s (matrix_of M) (skeleton_of x) (skeleton_of V) []) r) d
    (subst (λ (x : Tree). Answers (play ps s (matrix_of M) (skeleton_of S) (skeleton_of x) []) r) e
    (subst (λ (x : List Value). Answers (play ps s (matrix_of M) (skeleton_of S) (skeleton_of U) x) r) f h)))))
