-- What is asked of a part of a skeleton follows for the parts below it.
use Rattle.std.specs.Prelude.{ℕ, suc, ◌+◌, ◌≤◌, ◌≡◌, pos, Bool, true, false, None, List, [], ◌∷◌, ◌++◌, length}
use Rattle.std.specs.List.{AllByRecursion}
use Rattle.std.proofs.Common.{arith, ◌∙◌, sym, subst, refl, inl, inr, length-append, append_assoc, append-nil}
use Rattle.lin_term.specs.declared.Sort.{Sort}
use Rattle.lin_term.specs.declared.Sort.TheVariants.{Rat, Int}
use Rattle.lin_term.specs.declared.Lit.{Lit}
use Rattle.lin_term.specs.declared.Lit.TheVariants.{AtLeast, Above, Divides, NotDivides}
use Rattle.lin_term.specs.Form.{Form}
use Rattle.lin_term.specs.Linear.{Point, IsPoint, extend, origin, Below}
use Rattle.lin_term.specs.Literal.{IsOf, form_of, prim, neg, modulus_of, residue_form}
use Rattle.lin_term.specs.Primable.{IsPrimable}
use Rattle.lin_term.specs.Fixing.{at_names}
use Rattle.lin_term.specs.Wide.{first_past, form_numbers, lit_numbers}
use Rattle.lin_term.specs.Move.{Move}
use Rattle.lin_term.proofs.Capping.{past-head}
use Rattle.dom_core.specs.declared.Quant.{Quant}
use Rattle.dom_core.specs.declared.Quant.TheVariants as quant
use Rattle.dom_core.specs.Game.{Matrix, lit, all, some, Matrices, none, more, HoldsIn, IsMatrix, AreMatrices, flip_all}
use Rattle.dom_core.specs.Problem.{HasNegations, HaveNegations}
use Rattle.game_tree.specs.Skeleton.{Skeleton, end, theirs, mine, Branches, branch, nodes, IsMoveAt, Follows}
use Rattle.game_play.specs.Course.{IsOver}
use Rattle.game_play.proofs.Courses.{over_from}
use Rattle.lose_system.specs.Losing.{routes, branch_routes}
use Rattle.term_select.specs.Guided.{value_of, true_at, implicant}
use Rattle.term_select.specs.Walk.{values_from, values_on, IsPlay, CanSelect, CanSelectEach, IsKeptCube}
use Rattle.term_select.proofs.Descent.{Here, step, at_root, lose_parts}
use Rattle.term_select.proofs.Implicants.{IsOfMatrix, IsOfSome, matrix_from_names, false_fails, implicant_of}
use Rattle.term_select.proofs.Alike.{AreAlike, alike_here, true_alike, implicant_alike}

-- ---- the values on the way

pub values_push : (p e : Point) (names : List ℕ) (v : ℕ) → values_from p e (names ++ v ∷ []) ≡ extend (values_from p e names) (value_of p v)
values_push p e [] v = refl
values_push p e (u ∷ names) v = values_push p (extend e (value_of p u)) names v

here_from : (s : Sort) (p e : Point) (before names : List ℕ) → Here s p e before → Here s p (values_from p e names) (before ++ names)
here_from s p e before [] h = subst (λ (ns : List ℕ). Here s p e ns) (sym (append-nil before)) h
here_from s p e before (v ∷ names) h =
    subst (λ (ns : List ℕ). Here s p (values_from p (extend e (value_of p v)) names) ns) (append_assoc before (v ∷ []) names)
    (here_from s p (extend e (value_of p v)) (before ++ v ∷ []) names (step s p e before v h))

pub here_on : (s : Sort) (p : Point) (names : List ℕ) → IsPoint s p → Here s p (values_on p names) names
here_on s p names o = here_from s p origin [] names (at_root s p o)

pub alike_on : (s : Sort) (p : Point) (names : List ℕ) → IsPoint s p → AreAlike s (values_on p names) (at_names names p)
alike_on s p names o = alike_here s p (values_on p names) names (here_on s p names o)

-- one node deeper
pub alike_below : (s : Sort) (p : Point) (names : List ℕ) (v : ℕ) → IsPoint s p → AreAlike s (extend (values_on p names) (value_of p v)) (at_names (names ++ v ∷ []) p)
alike_below s p names v o =
    subst (λ (e : Point). AreAlike s e (at_names (names ++ v ∷ []) p)) (values_push p origin names v) (alike_on s p (names ++ v ∷ []) o)

-- ---- the parts

pub longer : (names : List ℕ) (v : ℕ) → length (names ++ v ∷ []) ≡ suc (length names)
longer names v = let l = length-append names (v ∷ []) in omega arith

play_at : (s : Sort) (M lost : Matrix) (n k : ℕ) → n ≡ k → IsPlay s M lost n → IsPlay s M lost k
play_at s M lost n k e h = subst (λ (j : ℕ). IsPlay s M lost j) e h

pub can_below : (s : Sort) (M : Matrix) (p : Point) (U : Skeleton) (v : ℕ) (names : List ℕ) → CanSelect s M p (theirs U) v names → CanSelect s M p U (suc v) (names ++ v ∷ [])
can_below s M p U v names c = by c.rest c.follows c.play c.short
  where
    by : (qs : List Quant) → Follows (theirs U) s (flip_all qs) (length names) → IsPlay s M c.lost (length names + length qs) → length names + length qs ≤ 1024 → CanSelect s M p U (suc v) (names ++ v ∷ [])
    by [] f h o = absurd f
    by (quant.Forall ∷ qs) f h o = absurd f
    by (quant.Exists ∷ qs) f h o = record {
      lost = c.lost;
      rest = qs;
      play = play_at s M c.lost (length names + suc (length qs)) (length (names ++ v ∷ []) + length qs) (let l = longer names v in omega arith) h;
      short = let l = longer names v in omega arith;
      follows = subst (λ (j : ℕ). Follows U s (flip_all qs) j) (sym (longer names v)) f;
      point = c.point;
      lose = c.lose;
      few = let w = c.few in omega arith;
    }

pub can_branches : (s : Sort) (M : Matrix) (p : Point) (bs : Branches) (v : ℕ) (names : List ℕ) → CanSelect s M p (mine bs) v names → CanSelectEach s M p bs v names
can_branches s M p bs v names c = by c.rest c.follows c.play c.short
  where
    by : (qs : List Quant) → Follows (mine bs) s (flip_all qs) (length names) → IsPlay s M c.lost (length names + length qs) → length names + length qs ≤ 1024 → CanSelectEach s M p bs v names
    by [] f h o = absurd f
    by (quant.Exists ∷ qs) f h o = absurd f
    by (quant.Forall ∷ qs) f h o = record {
      lost = c.lost;
      rest = qs;
      play = h;
      short = o;
      follows = f.1;
      point = c.point;
      lose = c.lose;
      few = c.few;
    }

pub can_first : (s : Sort) (M : Matrix) (p : Point) (m : Move) (U : Skeleton) (bs : Branches) (v : ℕ) (names : List ℕ) → CanSelectEach s M p (branch m U bs) v names → CanSelect s M p U (suc v) (names ++ v ∷ [])
can_first s M p m U bs v names c =
    let l = longer names v in
    record {
      lost = c.lost;
      rest = c.rest;
      play = play_at s M c.lost (length names + suc (length c.rest)) (length (names ++ v ∷ []) + length c.rest) (omega arith) c.play;
      short = let w = c.short in omega arith;
      follows = subst (λ (j : ℕ). Follows U s (flip_all c.rest) j) (sym l) c.follows.2;
      point = c.point;
      lose = (lose_parts c.lost (routes U (names ++ v ∷ []) (suc v)) (branch_routes bs names (suc v + nodes U)) p c.lose).0;
      few = let w = c.few in omega arith;
    }

pub first_move : (s : Sort) (M : Matrix) (p : Point) (m : Move) (U : Skeleton) (bs : Branches) (v : ℕ) (names : List ℕ) → CanSelectEach s M p (branch m U bs) v names → IsMoveAt s (length names) m
first_move s M p m U bs v names c = c.follows.0

pub can_others : (s : Sort) (M : Matrix) (p : Point) (m : Move) (U : Skeleton) (bs : Branches) (v : ℕ) (names : List ℕ) → CanSelectEach s M p (branch m U bs) v names → CanSelectEach s M p bs (suc v + nodes U) names
can_others s M p m U bs v names c = record {
  lost = c.lost;
  rest = c.rest;
  play = c.play;
  short = c.short;
  follows = c.follows.3;
  point = c.point;
  lose = (lose_parts c.lost (routes U (names ++ v ∷ []) (suc v)) (branch_routes bs names (suc v + nodes U)) p c.lose).1;
  few = let w = c.few in omega arith;
}

-- ---- a leaf

-- no position is left at a leaf
at_end : (s : Sort) (M : Matrix) (p : Point) (v : ℕ) (names : List ℕ) → (c : CanSelect s M p end v names) → IsPlay s M c.lost (length names)
at_end s M p v names c = by c.rest c.follows c.play
  where
    by : (qs : List Quant) → Follows end s (flip_all qs) (length names) → IsPlay s M c.lost (length names + length qs) → IsPlay s M c.lost (length names)
    by [] f h = play_at s M c.lost (length names + 0) (length names) (omega arith) h
    by (quant.Exists ∷ qs) f h = absurd f
    by (quant.Forall ∷ qs) f h = absurd f

leaf_holds : (s : Sort) (M : Matrix) (p : Point) (v : ℕ) (names : List ℕ) → CanSelect s M p end v names → HoldsIn M (values_on p names)
leaf_holds s M p v names c =
    let h = here_on s p names c.point in
    let g = at_end s M p v names c in
    g.gives (values_on p names) h.path_point (matrix_from_names c.lost s names (values_on p names) p h.path_point h.whole_point h.agree g.lost_matrix c.lose.0)

pub leaf_over : (s : Sort) (M : Matrix) (p : Point) (v : ℕ) (names : List ℕ) → CanSelect s M p end v names → IsOver M (length names)
leaf_over s M p v names c = over_from M s (length names) (at_end s M p v names c).matrix

pub leaf_true : (s : Sort) (M : Matrix) (p : Point) (v : ℕ) (names : List ℕ) → CanSelect s M p end v names → true_at M (at_names names p) ≡ true
leaf_true s M p v names c =
    sym (true_alike M s (length names) (values_on p names) (at_names names p) (at_end s M p v names c).matrix (alike_on s p names c.point)) ∙ by (true_at M (values_on p names)) refl
  where
    by : (b : Bool) → true_at M (values_on p names) ≡ b → true_at M (values_on p names) ≡ true
    by true e = e
    by false e = absurd (false_fails M (values_on p names) e (leaf_holds s M p v names c))

pub leaf_implicant : (s : Sort) (M : Matrix) (p : Point) (v : ℕ) (names : List ℕ) → CanSelect s M p end v names → implicant M (values_on p names) ≡ implicant M (at_names names p)
leaf_implicant s M p v names c =
    implicant_alike M s (length names) (values_on p names) (at_names names p) (at_end s M p v names c).matrix (alike_on s p names c.point)

-- ---- the literals of the matrix are kept

record IsKeptLit (s : Sort) (n : ℕ) (l : Lit) : Type 0 where
  of_sort : IsOf s l
  own_form : prim s l ≡ l
  primable : IsPrimable s l
  below : Below n (form_of l)

modulus_is : (d e : ℕ) (f g : Form) → Divides d f ≡ Divides e g → d ≡ e
modulus_is d e f g h = cc

modulus_not : (d e : ℕ) (f g : Form) → NotDivides d f ≡ NotDivides e g → d ≡ e
modulus_not d e f g h = cc

primable : (s : Sort) (l : Lit) → IsOf s l → prim s l ≡ l → first_past (lit_numbers (neg s l)) ≡ None → IsPrimable s l
primable Rat (AtLeast f) o e w = tt
primable Rat (Above f) o e w = tt
primable Rat (Divides d f) o e w = absurd o
primable Rat (NotDivides d f) o e w = absurd o
primable Int (AtLeast f) o e w = tt
primable Int (Above f) o e w = absurd o
primable Int (Divides d f) o e w =
    (o, let k = past-head (pos (modulus_of d f)) (form_numbers (residue_form d f)) w in let m = modulus_is (modulus_of d f) d (residue_form d f) f e in omega arith)
primable Int (NotDivides d f) o e w =
    (o, let k = past-head (pos (modulus_of d f)) (form_numbers (residue_form d f)) w in let m = modulus_not (modulus_of d f) d (residue_form d f) f e in omega arith)

mutual
  of_kept : (M : Matrix) (s : Sort) (n : ℕ) (l : Lit) → IsMatrix M s n → HasNegations M s → IsOfMatrix l M → IsKeptLit s n l
  of_kept (lit k) s n l i g h =
      subst (λ (j : Lit). IsKeptLit s n j) (sym h) (record { of_sort = i.0; own_form = g.0; primable = primable s k i.0 g.0 g.1; below = i.1 })
  of_kept (all ms) s n l i g h = some_kept ms s n l i g h
  of_kept (some ms) s n l i g h = some_kept ms s n l i g h

  some_kept : (ms : Matrices) (s : Sort) (n : ℕ) (l : Lit) → AreMatrices ms s n → HaveNegations ms s → IsOfSome l ms → IsKeptLit s n l
  some_kept none s n l i g h = absurd h
  some_kept (more m ms) s n l i g (inl h) = of_kept m s n l i.0 g.0 h
  some_kept (more m ms) s n l i g (inr h) = some_kept ms s n l i.1 g.1 h

cube_kept : (M : Matrix) (s : Sort) (n : ℕ) (c : List Lit) → IsMatrix M s n → HasNegations M s → AllByRecursion (λ l. IsOfMatrix l M) c → IsKeptCube s n c
cube_kept M s n [] i g h = record { primitive = tt; below = tt }
cube_kept M s n (l ∷ c) i g h =
    let k = of_kept M s n l i g h.0 in
    let r = cube_kept M s n c i g h.1 in
    record { primitive = ((k.of_sort, k.own_form), k.primable, r.primitive); below = (k.below, r.below) }

pub leaf_kept : (s : Sort) (M : Matrix) (p : Point) (v : ℕ) (names : List ℕ) → CanSelect s M p end v names → IsKeptCube s (length names) (implicant M (values_on p names))
leaf_kept s M p v names c =
    let g = at_end s M p v names c in
    cube_kept M s (length names) (implicant M (values_on p names)) g.matrix g.negations (implicant_of M (values_on p names) (leaf_holds s M p v names c))
