-- What is selected within the cap is a skeleton of the prefix: its moves are kept, over earlier positions, and distinct at each node.
use Rattle.std.specs.Prelude.{ℕ, suc, ◌+◌, ◌≡◌, ℤ, pos, negsuc, ◌*ℤ◌, ◌-ℤ◌, neg_ℤ, Bool, true, false, if◌then◌else◌, Option, Some, None, List, [], ◌∷◌, ◌++◌, map, length}
use Rattle.std.proofs.Common.{arith, ◌∙◌, sym, subst, refl}
use Rattle.lin_term.specs.declared.Sort.{Sort}
use Rattle.lin_term.specs.declared.Sort.TheVariants.{Rat, Int}
use Rattle.lin_term.specs.declared.Lit.{Lit}
use Rattle.lin_term.specs.declared.Lit.TheVariants.{Divides}
use Rattle.lin_term.specs.Linear.{Point, at, dot, floor_div, extend, origin, times, constant_form}
use Rattle.lin_term.specs.Literal.{form_of, residue}
use Rattle.lin_term.specs.Move.{Move}
use Rattle.lin_term.specs.Definition.{move_numbers, upper_literal, lower_literal, spare_node}
use Rattle.lin_term.specs.PutIn.{rest_of, less_residue, substituted}
use Rattle.lin_term.specs.Wide.{fits, first_past, form_numbers, lit_numbers}
use Rattle.dom_core.specs.declared.Quant.{Quant}
use Rattle.dom_core.specs.declared.Quant.TheVariants as quant
use Rattle.dom_core.specs.Game.{Matrix, lit, all, some, Matrices, none, more, Problem, flip_all}
use Rattle.dom_core.specs.Elimination.{size_at, is_lower, is_upper, above_bound, delta}
use Rattle.game_tree.specs.Skeleton.{Skeleton, end, theirs, mine, Branches, no_more, branch, nodes, IsMoveAt, Follows, EachFollows}
use Rattle.lin_term.proofs.Ascending.{ascend_from, row_from}
use Rattle.lin_term.proofs.Capping.{past-head, past-tail, past-append, past-append_left}
use Rattle.lin_term.proofs.Lowering.{lowest_again}
use Rattle.std.specs.List.{AllByRecursion}
use Rattle.dom_core.specs.Pick.{rounding, lower_bound, upper_bound, lowers, uppers, greatest, least, moved, between, congruent, pick_between, pick, deltas_first, pick_numbers}
use Rattle.dom_core.specs.PutMove.{remainder, evenness, put_in, put_in_numbers}
use Rattle.term_select.specs.Guided.{Chosen, value_of, true_at, implicant, implicants, first_implicant, at_position, with_move, joined, guided_from, guided_rest, first_wide}
use Rattle.term_select.specs.Selected.{Selected}
use Rattle.term_select.proofs.FineForms.{IsFine, IsFineLit, plus_fine, times_fine, constant_fine, rest_fine, lowest_fine, prim_fine, put_lit_fine, IsFineMatrix, AreFineMatrices}
use Rattle.dom_core.proofs.Reducing.{all_append}
use Rattle.term_select.proofs.GuidedWins.{pick_divisor}
use Rattle.dom_core.proofs.PickInt.{each_map_filter}
use Rattle.dom_core.proofs.PutMoves.{new_each}
use Rattle.dom_core.proofs.Picking.{HasIt, greatest_has, least_has}
use Rattle.game_tree.proofs.Unions.{union_follows}

-- ---- a picked move

abbrev FineMove : ℕ → Move → Type 0
FineMove n m = IsFine n m.numer

bound_fine : (x k : ℕ) (l : Lit) → IsFineLit (suc x) l → IsFine x (above_bound x l k)
bound_fine x k l h =
    plus_fine x (constant_form (pos k)) (times (negsuc 0) (rest_of (form_of l) x)) (constant_fine x (pos k))
    (times_fine x (negsuc 0) (rest_of (form_of l) x) (rest_fine x (form_of l) h))

each_lower : (s : Sort) (x : ℕ) (c : List Lit) → AllByRecursion (IsFineLit (suc x)) c → AllByRecursion (FineMove x) (lowers s x c)
each_lower s x c h = each_map_filter (FineMove x) (lower_bound s x) (is_lower x) c (any c h)
  where
    any : (c : List Lit) → AllByRecursion (IsFineLit (suc x)) c → AllByRecursion (λ l. is_lower x l ≡ true → FineMove x (lower_bound s x l)) c
    any [] h = tt
    any (l ∷ c) h = (λ e. bound_fine x (rounding s (size_at x l)) l h.0, any c h.1)

each_upper : (x : ℕ) (c : List Lit) → AllByRecursion (IsFineLit (suc x)) c → AllByRecursion (FineMove x) (uppers x c)
each_upper x c h = each_map_filter (FineMove x) (upper_bound x) (is_upper x) c (any c h)
  where
    any : (c : List Lit) → AllByRecursion (IsFineLit (suc x)) c → AllByRecursion (λ l. is_upper x l ≡ true → FineMove x (upper_bound x l)) c
    any [] h = tt
    any (l ∷ c) h = (λ e. rest_fine x (form_of l) h.0, any c h.1)

moved_fine : (n : ℕ) (m : Move) (z : ℤ) → FineMove n m → FineMove n (moved m z)
moved_fine n m z h = plus_fine n m.numer (constant_form (pos m.div *ℤ z)) h (constant_fine n (pos m.div *ℤ z))

between_fine : (n : ℕ) (low up : Option Move) → HasIt (FineMove n) low → HasIt (FineMove n) up → FineMove n (between low up)
between_fine n (Some m) (Some k) h j =
    plus_fine n (times (pos k.div) m.numer) (times (pos m.div) k.numer) (times_fine n (pos k.div) m.numer h) (times_fine n (pos m.div) k.numer j)
between_fine n (Some m) None h j = moved_fine n m (pos 1) h
between_fine n None (Some m) h j = moved_fine n m (negsuc 0) j
between_fine n None None h j = constant_fine n (pos 0)

congruent_fine : (n d : ℕ) (v : ℤ) (p : Point) (low up : Option Move) → HasIt (FineMove n) low → HasIt (FineMove n) up → FineMove n (congruent d v p low up)
congruent_fine n d v p (Some m) up h j = moved_fine n m (pos (residue (v -ℤ floor_div (dot m.numer p) m.div) d)) h
congruent_fine n d v p None (Some m) h j = moved_fine n m (neg_ℤ (pos (residue (floor_div (dot m.numer p) m.div -ℤ v) d))) j
congruent_fine n d v p None None h j = constant_fine n (pos (residue v d))

either_fine : (n : ℕ) (s : Sort) (x : ℕ) (c : List Lit) (p : Point) (low up : Option Move) → HasIt (FineMove n) low → HasIt (FineMove n) up → FineMove n (pick_between s x c p low up)
either_fine n Rat x c p low up h j = between_fine n low up h j
either_fine n Int x c p low up h j = congruent_fine n (delta c x) (at p.nums x) p low up h j

pub pick_fine : (s : Sort) (x : ℕ) (c : List Lit) (p : Point) → AllByRecursion (IsFineLit (suc x)) c → IsFine x (pick s x c p).numer
pick_fine s x c p h =
    let low = greatest s p (lowers s x c) in
    let up = least s p (uppers x c) in
    lowest_fine x s (pick_between s x c p low up)
    (either_fine x s x c p low up (greatest_has (FineMove x) s p (lowers s x c) (each_lower s x c h)) (least_has (FineMove x) s p (uppers x c) (each_upper x c h)))

-- of the numbers of two lists the second ones fit too
second_fits : (xs ys : List ℤ) → first_past (xs ++ ys) ≡ None → first_past ys ≡ None
second_fits xs ys e = sym (past-append xs ys (past-append_left xs ys e)) ∙ e

-- in lowest form, over earlier positions, ascending; where its numbers fit, it is kept
pub pick_at : (s : Sort) (x : ℕ) (c : List Lit) (p : Point) → AllByRecursion (IsFineLit (suc x)) c → first_past (pick_numbers s x c p) ≡ None → IsMoveAt s x (pick s x c p)
pick_at s x c p h e =
    let m = pick s x c p in
    let f = pick_fine s x c p h in
    let w = second_fits (deltas_first s x c) (move_numbers s m) e in
    let rest = form_numbers m.numer ++ (lit_numbers (upper_literal s m spare_node) ++ lit_numbers (lower_literal s m spare_node)) in
    let r = row_from m.numer f.0 (past-append_left (form_numbers m.numer) (lit_numbers (upper_literal s m spare_node) ++ lit_numbers (lower_literal s m spare_node)) (past-tail (pos m.div) rest w)) in
    record {
      written = (r, pick_divisor s x c p, past-head (pos m.div) rest w);
      earlier = f.1;
      kept = record { is_lowest = lowest_again s (pick_between s x c p (greatest s p (lowers s x c)) (least s p (uppers x c))); within = w };
    }

-- ---- cubes

residue_fine : (x : ℕ) (m : Move) (r : ℕ) → FineMove x m → IsFine x (less_residue m r)
residue_fine x m r h = plus_fine x m.numer (constant_form (neg_ℤ (pos r))) h (constant_fine x (neg_ℤ (pos r)))

all_fine : (s : Sort) (x : ℕ) (m : Move) (r : ℕ) (c : List Lit) → FineMove x m → AllByRecursion (IsFineLit (suc x)) c → AllByRecursion (IsFineLit x) (map (λ l. substituted s l x m r) c)
all_fine s x m r [] h k = tt
all_fine s x m r (l ∷ c) h k = (put_lit_fine s x m.div (less_residue m r) l (residue_fine x m r h) k.0, all_fine s x m r c h k.1)

even_fine : (s : Sort) (x : ℕ) (m : Move) (r : ℕ) → FineMove x m → AllByRecursion (IsFineLit x) (evenness s m r)
even_fine Rat x m r h = tt
even_fine Int x m r h = (prim_fine x Int (Divides m.div (less_residue m r)) (residue_fine x m r h), tt)

pub put_in_fine : (s : Sort) (x : ℕ) (m : Move) (p : Point) (c : List Lit) → FineMove x m → AllByRecursion (IsFineLit (suc x)) c → AllByRecursion (IsFineLit x) (put_in s x m p c)
put_in_fine s x m p c h k =
    let r = remainder s m p in
    new_each (IsFineLit x) [] (map (λ l. substituted s l x m r) c ++ evenness s m r) tt
    (all_append (IsFineLit x) (map (λ l. substituted s l x m r) c) (evenness s m r) (all_fine s x m r c h k) (even_fine s x m r h))

either : (b : Bool) (n : ℕ) (c d : List Lit) → AllByRecursion (IsFineLit n) c → AllByRecursion (IsFineLit n) d → AllByRecursion (IsFineLit n) (if b then c else d)
either true n c d h k = h
either false n c d h k = k

mutual
  implicant_fine : (m : Matrix) (n : ℕ) (p : Point) → IsFineMatrix m n → AllByRecursion (IsFineLit n) (implicant m p)
  implicant_fine (lit l) n p h = (h, tt)
  implicant_fine (all ms) n p h = implicants_fine ms n p h
  implicant_fine (some ms) n p h = first_fine ms n p h

  implicants_fine : (ms : Matrices) (n : ℕ) (p : Point) → AreFineMatrices ms n → AllByRecursion (IsFineLit n) (implicants ms p)
  implicants_fine none n p h = tt
  implicants_fine (more m ms) n p h = new_each (IsFineLit n) (implicant m p) (implicants ms p) (implicant_fine m n p h.0) (implicants_fine ms n p h.1)

  first_fine : (ms : Matrices) (n : ℕ) (p : Point) → AreFineMatrices ms n → AllByRecursion (IsFineLit n) (first_implicant ms p)
  first_fine none n p h = (constant_fine n (negsuc 0), tt)
  first_fine (more m ms) n p h = either (true_at m p) n (implicant m p) (first_implicant ms p) (implicant_fine m n p h.0) (first_fine ms n p h.1)

-- ---- numbers

-- no number is past the cap
abbrev pub AllFit : List (ℕ × ℤ) → Type 0
AllFit ns = first_wide ns ≡ None

fit_parts : (xs ys : List (ℕ × ℤ)) → AllFit (xs ++ ys) → AllFit xs × AllFit ys
fit_parts [] ys e = (refl, e)
fit_parts (x ∷ xs) ys e = by (fits x.1) e (fit_parts xs ys)
  where
    by : (b : Bool) → (if b then first_wide (xs ++ ys) else Some x) ≡ None → (AllFit (xs ++ ys) → AllFit xs × AllFit ys) → ((if b then first_wide xs else Some x) ≡ None) × AllFit ys
    by true q k = k q
    by false q k = absurd (cc)

placed_fit : (x : ℕ) (zs : List ℤ) → AllFit (at_position x zs) → first_past zs ≡ None
placed_fit x [] e = refl
placed_fit x (z ∷ zs) e = by (fits z) e (placed_fit x zs)
  where
    by : (b : Bool) → (if b then first_wide (at_position x zs) else Some (x, z)) ≡ None → (AllFit (at_position x zs) → first_past zs ≡ None) → (if b then first_past zs else Some z) ≡ None
    by true q k = k q
    by false q k = absurd (cc)

-- the numbers of what was found before are among those found after
rest_fit : (bs : Branches) (s : Sort) (M : Matrix) (p : Point) (x v : ℕ) (e : Point) (f : Chosen) → AllFit (guided_rest bs s M p x v e f).numbers → AllFit f.numbers
rest_fit no_more s M p x v e f h = h
rest_fit (branch mv U bs) s M p x v e f h =
    let one = with_move s x mv e (guided_from U s M p (suc x) (suc v) (extend e (value_of p v))) in
    (fit_parts f.numbers one.numbers (rest_fit bs s M p x (suc v + nodes U) e (joined f one) h)).0

-- ---- the walk

pub record IsGood (s : Sort) (qs : List Quant) (x : ℕ) (f : Chosen) : Type 0 where
  pub cube : AllByRecursion (IsFineLit x) f.cube
  pub tree : Follows f.tree s qs x

-- the tree stands below a node
record IsGoodBelow (s : Sort) (qs : List Quant) (x : ℕ) (f : Chosen) : Type 0 where
  pub cube : AllByRecursion (IsFineLit x) f.cube
  tree : Follows f.tree s qs (suc x)

move_good : (s : Sort) (qs : List Quant) (x : ℕ) (m : Move) (e : Point) (f : Chosen) → IsMoveAt s x m → IsGood s qs (suc x) f → IsGoodBelow s qs x (with_move s x m e f)
move_good s qs x m e f i g = record { cube = put_in_fine s x m e f.cube (ascend_from 0 m.numer.terms i.written.0.0, i.earlier) g.cube; tree = g.tree }

mutual
  pub from_good : (U : Skeleton) (s : Sort) (M : Matrix) (qs : List Quant) (p : Point) (n x v : ℕ) (e : Point) → IsFineMatrix M n → Follows U s (flip_all qs) x → x + length qs ≡ n → AllFit (guided_from U s M p x v e).numbers → IsGood s qs x (guided_from U s M p x v e)
  from_good end s M [] p n x v e i f z w = record { cube = implicant_fine M x e (subst (λ (j : ℕ). IsFineMatrix M j) (let u : n ≡ x = omega arith in u) i); tree = tt }
  from_good end s M (quant.Exists ∷ qs) p n x v e i f z w = absurd f
  from_good end s M (quant.Forall ∷ qs) p n x v e i f z w = absurd f
  from_good (theirs U) s M [] p n x v e i f z w = absurd f
  from_good (theirs U) s M (quant.Forall ∷ qs) p n x v e i f z w = absurd f
  from_good (theirs U) s M (quant.Exists ∷ qs) p n x v e i f z w =
      let here = extend e (value_of p v) in
      let r = guided_from U s M p (suc x) (suc v) here in
      let m = pick s x r.cube here in
      let a = (fit_parts (r.numbers ++ at_position x (pick_numbers s x r.cube here)) (at_position x (put_in_numbers s x m e r.cube)) w).0 in
      let b = fit_parts r.numbers (at_position x (pick_numbers s x r.cube here)) a in
      let g = from_good U s M qs p n (suc x) (suc v) here i f (omega arith) b.0 in
      let k = pick_at s x r.cube here g.cube (placed_fit x (pick_numbers s x r.cube here) b.1) in
      record {
        cube = put_in_fine s x m e r.cube (pick_fine s x r.cube here g.cube) g.cube;
        tree = (tt, (k, tt, g.tree, tt));
      }
  from_good (mine bs) s M [] p n x v e i f z w = absurd f
  from_good (mine bs) s M (quant.Exists ∷ qs) p n x v e i f z w = absurd f
  from_good (mine no_more) s M (quant.Forall ∷ qs) p n x v e i f z w = absurd f.0
  from_good (mine (branch mv U bs)) s M (quant.Forall ∷ qs) p n x v e i f z w =
      let here = extend e (value_of p v) in
      let r = guided_from U s M p (suc x) (suc v) here in
      let one = with_move s x mv e r in
      let a = rest_fit bs s M p x (suc v + nodes U) e one w in
      let g = from_good U s M qs p n (suc x) (suc v) here i f.1.2 (omega arith) (fit_parts r.numbers (at_position x (put_in_numbers s x mv e r.cube)) a).0 in
      let k = rest_good bs s M qs p n x (suc v + nodes U) e one i f.1.3 z w (move_good s qs x mv e r f.1.0 g) in
      record { cube = k.cube; tree = k.tree }

  rest_good : (bs : Branches) (s : Sort) (M : Matrix) (qs : List Quant) (p : Point) (n x v : ℕ) (e : Point) (f : Chosen) → IsFineMatrix M n → EachFollows bs s (flip_all qs) x → x + suc (length qs) ≡ n → AllFit (guided_rest bs s M p x v e f).numbers → IsGoodBelow s qs x f → IsGoodBelow s qs x (guided_rest bs s M p x v e f)
  rest_good no_more s M qs p n x v e f i g z w k = k
  rest_good (branch mv U bs) s M qs p n x v e f i g z w k =
      let here = extend e (value_of p v) in
      let r = guided_from U s M p (suc x) (suc v) here in
      let one = with_move s x mv e r in
      let a = fit_parts f.numbers one.numbers (rest_fit bs s M p x (suc v + nodes U) e (joined f one) w) in
      let h = from_good U s M qs p n (suc x) (suc v) here i g.2 (omega arith) (fit_parts r.numbers (at_position x (put_in_numbers s x mv e r.cube)) a.1).0 in
      let o = move_good s qs x mv e r g.0 h in
      rest_good bs s M qs p n x (suc v + nodes U) e (joined f one) i g.3 z w (record {
        cube = new_each (IsFineLit x) f.cube one.cube k.cube o.cube;
        tree = union_follows f.tree r.tree s qs (suc x) k.tree h.tree;
      })

-- ---- the root

-- a selected tree follows the prefix of its problem
pub selected_follows : (s : Sort) (P : Problem) (U C : Skeleton) → IsFineMatrix P.matrix (length P.prefix) → Follows U s (flip_all P.prefix) 0 → Selected s P U C → Follows C s P.prefix 0
selected_follows s P U C i f d =
    let g = from_good U s P.matrix P.prefix d.point (length P.prefix) 0 0 origin i f (omega arith) d.within in
    subst (λ (T : Skeleton). Follows T s P.prefix 0) (sym d.tree) g.tree
