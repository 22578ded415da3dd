-- A quantifier may be pulled over the other part of a conjunction or disjunction; so each shuffle of two prefixes is sound.
use Rattle.std.specs.Prelude.{ℕ, suc, ◌≡◌, pos, List, [], ◌∷◌, ◌++◌, length}
use Rattle.std.proofs.Common.{arith, refl}
use Rattle.lin_term.specs.declared.Sort.{Sort}
use Rattle.lin_term.specs.declared.Sort.TheVariants.{Rat, Int}
use Rattle.lin_term.specs.Linear.{Point, Value, IsValue, IsPoint, extend}
use Rattle.dom_core.specs.Game.{Matrix, lit, all, some, Matrices, none, more, HoldsIn, AllHold, AllFail, rename_matrix, rename_matrices, IsMatrix, AreMatrices, TrueFrom}
use Rattle.dom_core.specs.declared.Quant.{Quant}
use Rattle.dom_core.specs.declared.Quant.TheVariants.{Exists, Forall}
use Rattle.lin_term.proofs.Dots.{length-extend}
use Rattle.dom_core.proofs.Contrary.{extend_point, stable_true, stable_fail}
use Rattle.dom_core.proofs.Renaming.{matrix_to_names, all_to_names, fail_from_names, matrix_from_names, all_from_names, fail_to_names}
use Rattle.norm_form.proofs.Growing.{State, state_push, state_grows, grows_extend}
use Rattle.lin_term.proofs.Dots.{Agree}
use Rattle.prenex_form.specs.Prenex.{Mark, left, right, left_names, right_names}

-- ---- the marks of a shuffle, and its two parts

abbrev pub quants_of : List Mark → List Quant
quants_of [] = []
quants_of (left q ∷ ms) = q ∷ quants_of ms
quants_of (right q ∷ ms) = q ∷ quants_of ms

abbrev pub lefts : List Mark → List Quant
lefts [] = []
lefts (left q ∷ ms) = q ∷ lefts ms
lefts (right q ∷ ms) = lefts ms

abbrev pub rights : List Mark → List Quant
rights [] = []
rights (left q ∷ ms) = rights ms
rights (right q ∷ ms) = q ∷ rights ms

-- two plays inside one
pub record Two (s : Sort) (na nb : List ℕ) (a b p : Point) (k : ℕ) : Type 0 where
  pub fst : State s na a p
  pub snd : State s nb b p
  pub count : length p.nums ≡ k

pub go_left : (s : Sort) (na nb : List ℕ) (a b p : Point) (k : ℕ) → Two s na nb a b p k → (v : Value) → IsValue s v → Two s (na ++ k ∷ []) nb (extend a v) b (extend p v) (suc k)
go_left s na nb a b p k t v i = record {
  fst = state_push s na a p k v t.fst t.count i;
  snd = state_grows s nb b p (extend p v) t.snd (extend_point s p v t.snd.whole_point i) (grows_extend p v);
  count = let l = length-extend p v in let c = t.count in omega arith;
}

pub go_right : (s : Sort) (na nb : List ℕ) (a b p : Point) (k : ℕ) → Two s na nb a b p k → (v : Value) → IsValue s v → Two s na (nb ++ k ∷ []) a (extend b v) (extend p v) (suc k)
go_right s na nb a b p k t v i = record {
  fst = state_grows s na a p (extend p v) t.fst (extend_point s p v t.fst.whole_point i) (grows_extend p v);
  snd = state_push s nb b p k v t.snd t.count i;
  count = let l = length-extend p v in let c = t.count in omega arith;
}

pub nil : Value
nil = record { num = pos 0; den = 1 }

pub is_nil : (s : Sort) → IsValue s nil
unfolding nil
is_nil Rat = omega arith
is_nil Int = refl

-- what is needed of the parts
abbrev pub Fit : Sort → List ℕ → List ℕ → ℕ → List Mark → Matrix → Matrices → Type 0
Fit s na nb k ms A B = IsMatrix A s (length (left_names na k ms)) × AreMatrices B s (length (right_names nb k ms))

abbrev pub bodies : List ℕ → List ℕ → ℕ → List Mark → Matrix → Matrices → Matrices
bodies na nb k ms A B = more (rename_matrix A (left_names na k ms)) (rename_matrices B (right_names nb k ms))

pub all_to : (ms : List Mark) (s : Sort) (na nb : List ℕ) (a b p : Point) (k : ℕ) (A : Matrix) (B : Matrices) → Two s na nb a b p k → Fit s na nb k ms A B → TrueFrom (quants_of ms) s (all (bodies na nb k ms A B)) p → TrueFrom (lefts ms) s A a × TrueFrom (rights ms) s (all B) b
all_to [] s na nb a b p k A B t f h =
    (matrix_from_names A s na a p t.fst.path_point t.fst.whole_point t.fst.agree f.0 h.0, all_from_names B s nb b p t.snd.path_point t.snd.whole_point t.snd.agree f.1 h.1)
all_to (left Exists ∷ ms) s na nb a b p k A B t f h = (
  λ n. h (λ v i x. n v i (all_to ms s (na ++ k ∷ []) nb (extend a v) b (extend p v) (suc k) A B (go_left s na nb a b p k t v i) f x).0),
  stable_true (rights ms) s (all B) b (λ n. h (λ v i x. n (all_to ms s (na ++ k ∷ []) nb (extend a v) b (extend p v) (suc k) A B (go_left s na nb a b p k t v i) f x).1)),
)
all_to (left Forall ∷ ms) s na nb a b p k A B t f h = (
  λ v i. (all_to ms s (na ++ k ∷ []) nb (extend a v) b (extend p v) (suc k) A B (go_left s na nb a b p k t v i) f (h v i)).0,
  (all_to ms s (na ++ k ∷ []) nb (extend a nil) b (extend p nil) (suc k) A B (go_left s na nb a b p k t nil (is_nil s)) f (h nil (is_nil s))).1,
)
all_to (right Exists ∷ ms) s na nb a b p k A B t f h = (
  stable_true (lefts ms) s A a (λ n. h (λ v i x. n (all_to ms s na (nb ++ k ∷ []) a (extend b v) (extend p v) (suc k) A B (go_right s na nb a b p k t v i) f x).0)),
  λ n. h (λ v i x. n v i (all_to ms s na (nb ++ k ∷ []) a (extend b v) (extend p v) (suc k) A B (go_right s na nb a b p k t v i) f x).1),
)
all_to (right Forall ∷ ms) s na nb a b p k A B t f h = (
  (all_to ms s na (nb ++ k ∷ []) a (extend b nil) (extend p nil) (suc k) A B (go_right s na nb a b p k t nil (is_nil s)) f (h nil (is_nil s))).0,
  λ v i. (all_to ms s na (nb ++ k ∷ []) a (extend b v) (extend p v) (suc k) A B (go_right s na nb a b p k t v i) f (h v i)).1,
)

pub all_from : (ms : List Mark) (s : Sort) (na nb : List ℕ) (a b p : Point) (k : ℕ) (A : Matrix) (B : Matrices) → Two s na nb a b p k → Fit s na nb k ms A B → TrueFrom (lefts ms) s A a → TrueFrom (rights ms) s (all B) b → TrueFrom (quants_of ms) s (all (bodies na nb k ms A B)) p
all_from [] s na nb a b p k A B t f l r =
    (matrix_to_names A s na a p t.fst.path_point t.fst.whole_point t.fst.agree f.0 l, all_to_names B s nb b p t.snd.path_point t.snd.whole_point t.snd.agree f.1 r)
all_from (left Exists ∷ ms) s na nb a b p k A B t f l r =
    λ n. l (λ v i x. n v i (all_from ms s (na ++ k ∷ []) nb (extend a v) b (extend p v) (suc k) A B (go_left s na nb a b p k t v i) f x r))
all_from (left Forall ∷ ms) s na nb a b p k A B t f l r =
    λ v i. all_from ms s (na ++ k ∷ []) nb (extend a v) b (extend p v) (suc k) A B (go_left s na nb a b p k t v i) f (l v i) r
all_from (right Exists ∷ ms) s na nb a b p k A B t f l r =
    λ n. r (λ v i x. n v i (all_from ms s na (nb ++ k ∷ []) a (extend b v) (extend p v) (suc k) A B (go_right s na nb a b p k t v i) f l x))
all_from (right Forall ∷ ms) s na nb a b p k A B t f l r =
    λ v i. all_from ms s na (nb ++ k ∷ []) a (extend b v) (extend p v) (suc k) A B (go_right s na nb a b p k t v i) f l (r v i)

pub some_to : (ms : List Mark) (s : Sort) (na nb : List ℕ) (a b p : Point) (k : ℕ) (A : Matrix) (B : Matrices) → Two s na nb a b p k → Fit s na nb k ms A B → TrueFrom (quants_of ms) s (some (bodies na nb k ms A B)) p → ¬ TrueFrom (lefts ms) s A a → ¬ TrueFrom (rights ms) s (some B) b → ⊥
some_to [] s na nb a b p k A B t f h l r =
    h (λ x. l (matrix_from_names A s na a p t.fst.path_point t.fst.whole_point t.fst.agree f.0 x), fail_to_names B s nb b p t.snd.path_point t.snd.whole_point t.snd.agree f.1 (stable_fail B b r))
some_to (left Exists ∷ ms) s na nb a b p k A B t f h l r =
    h (λ v i x. some_to ms s (na ++ k ∷ []) nb (extend a v) b (extend p v) (suc k) A B (go_left s na nb a b p k t v i) f x (λ y. l (λ n. n v i y)) r)
some_to (left Forall ∷ ms) s na nb a b p k A B t f h l r =
    l (λ v i. stable_true (lefts ms) s A (extend a v) (λ n. some_to ms s (na ++ k ∷ []) nb (extend a v) b (extend p v) (suc k) A B (go_left s na nb a b p k t v i) f (h v i) n r))
some_to (right Exists ∷ ms) s na nb a b p k A B t f h l r =
    h (λ v i x. some_to ms s na (nb ++ k ∷ []) a (extend b v) (extend p v) (suc k) A B (go_right s na nb a b p k t v i) f x l (λ y. r (λ n. n v i y)))
some_to (right Forall ∷ ms) s na nb a b p k A B t f h l r =
    r (λ v i. stable_true (rights ms) s (some B) (extend b v) (λ n. some_to ms s na (nb ++ k ∷ []) a (extend b v) (extend p v) (suc k) A B (go_right s na nb a b p k t v i) f (h v i) l n))

pub some_from : (ms : List Mark) (s : Sort) (na nb : List ℕ) (a b p : Point) (k : ℕ) (A : Matrix) (B : Matrices) → Two s na nb a b p k → Fit s na nb k ms A B → (¬ TrueFrom (lefts ms) s A a → ¬ TrueFrom (rights ms) s (some B) b → ⊥) → TrueFrom (quants_of ms) s (some (bodies na nb k ms A B)) p
some_from [] s na nb a b p k A B t f h =
    λ n. h (λ x. n.0 (matrix_to_names A s na a p t.fst.path_point t.fst.whole_point t.fst.agree f.0 x)) (λ y. y (fail_from_names B s nb b p t.snd.path_point t.snd.whole_point t.snd.agree f.1 n.1))
some_from (left Exists ∷ ms) s na nb a b p k A B t f h =
    λ n. h
    (λ l. l (λ v i x. n v i (some_from ms s (na ++ k ∷ []) nb (extend a v) b (extend p v) (suc k) A B (go_left s na nb a b p k t v i) f (λ y z. y x))))
    (λ r. n nil (is_nil s) (some_from ms s (na ++ k ∷ []) nb (extend a nil) b (extend p nil) (suc k) A B (go_left s na nb a b p k t nil (is_nil s)) f (λ y z. z r)))
some_from (left Forall ∷ ms) s na nb a b p k A B t f h =
    λ v i. some_from ms s (na ++ k ∷ []) nb (extend a v) b (extend p v) (suc k) A B (go_left s na nb a b p k t v i) f (λ y z. h (λ l. y (l v i)) z)
some_from (right Exists ∷ ms) s na nb a b p k A B t f h =
    λ n. h
    (λ l. n nil (is_nil s) (some_from ms s na (nb ++ k ∷ []) a (extend b nil) (extend p nil) (suc k) A B (go_right s na nb a b p k t nil (is_nil s)) f (λ y z. y l)))
    (λ r. r (λ v i x. n v i (some_from ms s na (nb ++ k ∷ []) a (extend b v) (extend p v) (suc k) A B (go_right s na nb a b p k t v i) f (λ y z. z x))))
some_from (right Forall ∷ ms) s na nb a b p k A B t f h =
    λ v i. some_from ms s na (nb ++ k ∷ []) a (extend b v) (extend p v) (suc k) A B (go_right s na nb a b p k t v i) f (λ y z. h y (λ r. z (r v i)))
