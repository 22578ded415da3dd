-- At the root the cube of a selection holds, where a picked move keeps a cube true.
use lib.IntN.{*ℤ_comm}
use Rattle.std.specs.Prelude.{ℕ, suc, ◌+◌, ◌*◌, ◌≤◌, ◌≡◌, ℤ, pos, ◌+ℤ◌, ◌-ℤ◌, ◌*ℤ◌, Bool, true, false, if◌then◌else◌, List, [], ◌∷◌, ◌++◌, map, length}
use Rattle.std.proofs.Common.{arith, ap, ◌∙◌, sym, subst, refl, inl, inr, length-append, mul-le-mul}
use Rattle.std.proofs.lemmas.Int.{ints}
use Rattle.lin_term.specs.declared.Sort.{Sort}
use Rattle.lin_term.specs.declared.Sort.TheVariants.{Rat, Int}
use Rattle.lin_term.specs.declared.Lit.{Lit}
use Rattle.lin_term.specs.declared.Lit.TheVariants.{AtLeast, Above, Divides, NotDivides}
use Rattle.lin_term.specs.Form.{Form}
use Rattle.lin_term.specs.Linear.{Point, Value, IsValue, IsPoint, at, dot, extend, origin, Below, rename, floor_div}
use Rattle.lin_term.specs.Literal.{Holds, form_of, prim, IsOf}
use Rattle.lin_term.specs.Move.{Move, move_value}
use Rattle.lin_term.specs.PutIn.{coef, rest_of, put_form, put_raw, put_lit, occurs, less_residue, substituted}
use Rattle.lin_term.specs.Fixing.{HasValue}
use Rattle.lin_term.specs.Definition.{Definition, definition, rename_move, upper_form, lower_form}
use Rattle.dom_core.specs.declared.Quant.{Quant}
use Rattle.dom_core.specs.declared.Quant.TheVariants as quant
use Rattle.dom_core.specs.Game.{Matrix, lit, all, some, Matrices, none, more, HoldsIn, IsMatrix, AreMatrices, Problem, flip_all, rename_matrix}
use Rattle.dom_core.specs.Cube.{CubeHolds, assign}
use Rattle.game_tree.specs.Skeleton.{Skeleton, end, theirs, mine, Branches, no_more, branch, nodes, IsMoveAt, Follows, EachFollows}
use Rattle.lose_system.specs.Losing.{routes, branch_routes, definitions, branch_definitions, AllDefined, AllLose}
use Rattle.lin_term.proofs.Ring.{ring}
use Rattle.lin_term.proofs.Dots.{Agree, dot-rename}
use Rattle.lin_term.proofs.Fixed.{dot-upper, dot-upper_whole, dot-lower}
use Rattle.lin_term.proofs.PrimitiveLemmas.{prim_from, one_times, modulus_one}
use Rattle.dom_core.proofs.Assigning.{dot-assign, assign_last}
use Rattle.lose_system.proofs.Growing.{move_is_value, over_ℤ}
use Rattle.std.specs.List.{AllByRecursion}
use Rattle.game_play.specs.Beats.{Beats}
use Rattle.dom_core.specs.Pick.{played, pick}
use Rattle.dom_core.specs.PutMove.{remainder, evenness, put_in}
use Rattle.term_select.specs.Guided.{Chosen, value_of, implicant, with_move, joined, guided_from, guided_rest}
use Rattle.term_select.specs.Selected.{Selected}
use Rattle.dom_core.proofs.Reducing.{all_append}
use Rattle.dom_core.proofs.PutMoves.{new_each, new_holds, puts_back}
use Rattle.term_select.proofs.Implicants.{IsOfMatrix, IsOfSome, implicant_holds, implicant_of, matrix_from_names}
use Rattle.dom_core.proofs.Putting.{alike, floor_unique}
use Rattle.term_select.proofs.GuidedWins.{pick_divisor, guided_wins}
use Rattle.term_select.proofs.Descent.{Here, value_is, step, at_root, lose_parts, lost_matrix, lost_gives, lost_is_matrix}

-- the second law of a domain: a cube that holds with a value for x holds with the picked move's
pub record KeepsPicks (s : Sort) : Type 0 where
  pub keeps : (x : ℕ) (c : List Lit) (e : Point) (v : Value) → IsPoint s e → IsValue s v → length e.nums ≡ x → AllByRecursion (IsOf s) c → CubeHolds c (extend e v) → CubeHolds c (played s (pick s x c (extend e v)) e)

-- ---- one value written in two ways

same_value_z : (c r a n e d b : ℤ) → a *ℤ d ≡ n *ℤ b → d *ℤ (c *ℤ (a *ℤ e) +ℤ r *ℤ b) ≡ b *ℤ (c *ℤ (n *ℤ e) +ℤ r *ℤ d)
same_value_z c r a n e d b h =
    left c r a e d b ∙ ap (λ (z : ℤ). c *ℤ (z *ℤ e) +ℤ (d *ℤ r) *ℤ b) h ∙ right c r n e d b
  where
    left : (c r a e d b : ℤ) → d *ℤ (c *ℤ (a *ℤ e) +ℤ r *ℤ b) ≡ c *ℤ ((a *ℤ d) *ℤ e) +ℤ (d *ℤ r) *ℤ b
    left c r a e d b = simp ring

    right : (c r n e d b : ℤ) → c *ℤ ((n *ℤ b) *ℤ e) +ℤ (d *ℤ r) *ℤ b ≡ b *ℤ (c *ℤ (n *ℤ e) +ℤ r *ℤ d)
    right c r n e d b = simp ring

dens : (w v e : ℕ) → w * (e * v) ≡ v * (e * w)
dens w v e = omega arith

same_value : (l : Lit) (e : Point) (v w : Value) (x : ℕ) → 1 ≤ v.den → 1 ≤ w.den → v.num *ℤ pos w.den ≡ w.num *ℤ pos v.den → Holds l (assign e x v) → Holds l (assign e x w)
same_value l e v w x ov ow h k =
    alike l (assign e x w) (assign e x v) w.den v.den ow ov (dens w.den v.den e.den)
    (ap (λ (z : ℤ). pos w.den *ℤ z) (dot-assign (form_of l) e v x) ∙ same_value_z (coef (form_of l).terms x) (dot (rest_of (form_of l) x) e) v.num w.num (pos e.den) (pos w.den) (pos v.den) h ∙ ap (λ (z : ℤ). pos v.den *ℤ z) (sym (dot-assign (form_of l) e w x))) k

value_one : (s : Sort) (v : Value) → IsValue s v → 1 ≤ v.den
value_one Rat v h = h
value_one Int v h = omega arith

same_cube : (c : List Lit) (s : Sort) (e : Point) (v w : Value) (x : ℕ) → IsValue s v → IsValue s w → v.num *ℤ pos w.den ≡ w.num *ℤ pos v.den → CubeHolds c (assign e x v) → CubeHolds c (assign e x w)
same_cube [] s e v w x iv iw h k = tt
same_cube (l ∷ c) s e v w x iv iw h k =
    (same_value l e v w x (value_one s v iv) (value_one s w iw) h k.0, same_cube c s e v w x iv iw h k.1)

cube_at : (c : List Lit) (s : Sort) (e : Point) (v w : Value) (x : ℕ) → length e.nums ≡ x → IsValue s v → IsValue s w → v.num *ℤ pos w.den ≡ w.num *ℤ pos v.den → CubeHolds c (extend e v) → CubeHolds c (extend e w)
cube_at c s e v w x l iv iw h k =
    subst (λ (q : Point). CubeHolds c q) (assign_last e x w l) (same_cube c s e v w x iv iw h (subst (λ (q : Point). CubeHolds c q) (sym (assign_last e x v l)) k))

-- ---- the definition literals give the move's value

defined_from : (s : Sort) (m : Move) (names : List ℕ) (e q : Point) (v : ℕ) → IsPoint s e → IsPoint s q → 1 ≤ m.div → Agree names e q → Below (length names) m.numer → Holds (AtLeast (upper_form s (rename_move names m) v)) q → Holds (AtLeast (lower_form (rename_move names m) v)) q → HasValue q v (move_value s m e)
defined_from Rat m names e q v ie iq o a b hu hl =
    let r = dot-rename names e q a m.numer b in
    let u = dot-upper (rename names m.numer) (pos m.div) v q in
    let l = dot-lower (rename names m.numer) m.div v q in
    let t : pos m.div *ℤ at q.nums v ≡ dot (rename names m.numer) q = omega (arith, ints) in
    rat_all (at q.nums v) m.div e.den (dot (rename names m.numer) q) (dot m.numer e) (pos q.den) t r
  where
    rat_all : (y : ℤ) (d n : ℕ) (t f w : ℤ) → pos d *ℤ y ≡ t → f *ℤ w ≡ t *ℤ pos n → y *ℤ pos (d * n) ≡ f *ℤ w
    rat_all y d n t f w h k =
        let p : pos (d * n) ≡ pos d *ℤ pos n = omega (arith, ints) in
        ap (λ (z : ℤ). y *ℤ z) p ∙ over_ℤ y (pos d) (pos n) ∙ ap (λ (z : ℤ). z *ℤ pos n) (*ℤ_comm y (pos d) ∙ h) ∙ sym k
defined_from Int m names e q v ie iq o a b hu hl =
    let r = dot-rename names e q a m.numer b in
    let ne = one_times (dot m.numer e) q.den iq in
    let re = one_times (dot (rename names m.numer) q) e.den ie in
    let fe = one_times (floor_div (dot m.numer e) m.div) q.den iq in
    let u = dot-upper_whole (rename names m.numer) (pos m.div) (pos m.div -ℤ pos 1) v q in
    let w = one_times (pos m.div -ℤ pos 1) q.den iq in
    let l = dot-lower (rename names m.numer) m.div v q in
    let f = floor_unique (dot m.numer e) m.div (at q.nums v) o (omega (arith, ints)) (omega (arith, ints)) in
    (let g : at q.nums v *ℤ pos 1 ≡ at q.nums v = omega (arith, ints) in g) ∙ sym f ∙ sym fe

-- ---- literals of the sort

raw_of : (s : Sort) (x a : ℕ) (t : Form) (l : Lit) → 1 ≤ a → IsOf s l → IsOf s (prim s (put_raw x a t l))
raw_of Rat x a t (AtLeast f) h o = tt
raw_of Rat x a t (Above f) h o = tt
raw_of Rat x a t (Divides d f) h o = absurd o
raw_of Rat x a t (NotDivides d f) h o = absurd o
raw_of Int x a t (AtLeast f) h o = tt
raw_of Int x a t (Above f) h o = tt
raw_of Int x a t (Divides d f) h o = modulus_one (a * d) (put_form f x a t) (mul-le-mul h o)
raw_of Int x a t (NotDivides d f) h o = modulus_one (a * d) (put_form f x a t) (mul-le-mul h o)

put_of : (s : Sort) (x a : ℕ) (t : Form) (l : Lit) → 1 ≤ a → IsOf s l → IsOf s (put_lit s x a t l)
put_of s x a t l h o = by (occurs (form_of l).terms x)
  where
    by : (b : Bool) → IsOf s (if b then prim s (put_raw x a t l) else l)
    by true = raw_of s x a t l h o
    by false = o

all_of : (s : Sort) (x : ℕ) (m : Move) (r : ℕ) (c : List Lit) → 1 ≤ m.div → AllByRecursion (IsOf s) c → AllByRecursion (IsOf s) (map (λ l. substituted s l x m r) c)
all_of s x m r [] h o = tt
all_of s x m r (l ∷ c) h o = (put_of s x m.div (less_residue m r) l h o.0, all_of s x m r c h o.1)

even_of : (s : Sort) (m : Move) (r : ℕ) → 1 ≤ m.div → AllByRecursion (IsOf s) (evenness s m r)
even_of Rat m r h = tt
even_of Int m r h = (modulus_one m.div (less_residue m r) h, tt)

put_in_of : (s : Sort) (x : ℕ) (m : Move) (p : Point) (c : List Lit) → 1 ≤ m.div → AllByRecursion (IsOf s) c → AllByRecursion (IsOf s) (put_in s x m p c)
put_in_of s x m p c h o =
    let r = remainder s m p in
    new_each (IsOf s) [] (map (λ l. substituted s l x m r) c ++ evenness s m r) tt (all_append (IsOf s) (map (λ l. substituted s l x m r) c) (evenness s m r) (all_of s x m r c h o) (even_of s m r h))

mutual
  of_matrix : (M : Matrix) (s : Sort) (n : ℕ) (l : Lit) → IsMatrix M s n → IsOfMatrix l M → IsOf s l
  of_matrix (lit k) s n l i h = subst (λ (j : Lit). IsOf s j) (sym h) i.0
  of_matrix (all ms) s n l i h = of_some ms s n l i h
  of_matrix (some ms) s n l i h = of_some ms s n l i h

  of_some : (ms : Matrices) (s : Sort) (n : ℕ) (l : Lit) → AreMatrices ms s n → IsOfSome l ms → IsOf s l
  of_some none s n l i h = absurd h
  of_some (more m ms) s n l i (inl h) = of_matrix m s n l i.0 h
  of_some (more m ms) s n l i (inr h) = of_some ms s n l i.1 h

each_of : (M : Matrix) (s : Sort) (n : ℕ) (c : List Lit) → IsMatrix M s n → AllByRecursion (λ l. IsOfMatrix l M) c → AllByRecursion (IsOf s) c
each_of M s n [] i h = tt
each_of M s n (l ∷ c) i h = (of_matrix M s n l i h.0, each_of M s n c i h.1)

-- ---- the walk

-- literals of the sort that hold
abbrev Holding : Sort → List Lit → Point → Type 0
Holding s c e = AllByRecursion (IsOf s) c × CubeHolds c e

-- what does not change on the way
record Game (s : Sort) (M M' : Matrix) (p : Point) (n : ℕ) : Type 0 where
  keeps : KeepsPicks s
  matrix : IsMatrix M s n
  lost : IsMatrix M' s n
  gives : (e : Point) → IsPoint s e → HoldsIn M' e → HoldsIn M e

defined_parts : (ds es : List Definition) (p : Point) → AllDefined (ds ++ es) p → AllDefined ds p × AllDefined es p
defined_parts [] es p h = (tt, h)
defined_parts (d ∷ ds) es p h = let k = defined_parts ds es p h.2 in ((h.0, h.1, k.0), k.1)

put_back : (s : Sort) (mv : Move) (c : List Lit) (p e : Point) (x v : ℕ) (names : List ℕ) → Here s p e names → length names ≡ x → IsMoveAt s x mv → Holds (definition s mv names v).upper p → Holds (definition s mv names v).lower p → Holding s c (extend e (value_of p v)) → Holding s (put_in s x mv e c) e
put_back s mv c p e x v names h w i up low k =
    let o = i.written.1 in
    let b = subst (λ (j : ℕ). Below j mv.numer) (sym w) i.earlier in
    let y = defined_from s mv names e p v h.path_point h.whole_point o h.agree b (prim_from s (AtLeast (upper_form s (rename_move names mv) v)) p h.whole_point up) (prim_from s (AtLeast (lower_form (rename_move names mv) v)) p h.whole_point low) in
    let l = h.long ∙ w in
    let moved = cube_at c s e (value_of p v) (move_value s mv e) x l (value_is s p v h.whole_point) (move_is_value s mv e h.path_point o) y k.1 in
    (put_in_of s x mv e c o k.0, puts_back s x mv c e h.path_point l o moved)

mutual
  holds_from : (U : Skeleton) (s : Sort) (M M' : Matrix) (qs : List Quant) (p : Point) (n x v : ℕ) (e : Point) (names : List ℕ) → Game s M M' p n → Follows U s (flip_all qs) x → length names ≡ x → x + length qs ≡ n → Here s p e names → AllDefined (definitions U s names v) p → AllLose (map (rename_matrix M') (routes U names v)) p → Holding s (guided_from U s M p x v e).cube e
  holds_from end s M M' [] p n x v e names g f w z h d l =
      let long : n ≡ length names = (let u : n ≡ x = omega arith in u) ∙ sym w in
      let true_here : HoldsIn M e = g.gives e h.path_point (matrix_from_names M' s names e p h.path_point h.whole_point h.agree (subst (λ (j : ℕ). IsMatrix M' s j) long g.lost) l.0) in
      (each_of M s n (implicant M e) g.matrix (implicant_of M e true_here), implicant_holds M e true_here)
  holds_from end s M M' (quant.Exists ∷ qs) p n x v e names g f w z h d l = absurd f
  holds_from end s M M' (quant.Forall ∷ qs) p n x v e names g f w z h d l = absurd f
  holds_from (theirs U) s M M' [] p n x v e names g f w z h d l = absurd f
  holds_from (theirs U) s M M' (quant.Forall ∷ qs) p n x v e names g f w z h d l = absurd f
  holds_from (theirs U) s M M' (quant.Exists ∷ qs) p n x v e names g f w z h d l =
      let here = extend e (value_of p v) in
      let r = guided_from U s M p (suc x) (suc v) here in
      let k = holds_from U s M M' qs p n (suc x) (suc v) here (names ++ v ∷ []) g f (let len = length-append names (v ∷ []) in omega arith) (omega arith) (step s p e names v h) d l in
      let o = pick_divisor s x r.cube here in
      let m = pick s x r.cube here in
      let long = h.long ∙ w in
      let kept = g.keeps.keeps x r.cube e (value_of p v) h.path_point (value_is s p v h.whole_point) long k.0 k.1 in
      (put_in_of s x m e r.cube o k.0, puts_back s x m r.cube e h.path_point long o kept)
  holds_from (mine bs) s M M' [] p n x v e names g f w z h d l = absurd f
  holds_from (mine bs) s M M' (quant.Exists ∷ qs) p n x v e names g f w z h d l = absurd f
  holds_from (mine no_more) s M M' (quant.Forall ∷ qs) p n x v e names g f w z h d l = absurd f.0
  holds_from (mine (branch mv U bs)) s M M' (quant.Forall ∷ qs) p n x v e names g f w z h d l =
      let here = extend e (value_of p v) in
      let r = guided_from U s M p (suc x) (suc v) here in
      let dp = defined_parts (definitions U s (names ++ v ∷ []) (suc v)) (branch_definitions bs s names (suc v + nodes U)) p d.2 in
      let lp = lose_parts M' (routes U (names ++ v ∷ []) (suc v)) (branch_routes bs names (suc v + nodes U)) p l in
      let k = holds_from U s M M' qs p n (suc x) (suc v) here (names ++ v ∷ []) g f.1.2 (let len = length-append names (v ∷ []) in omega arith) (omega arith) (step s p e names v h) dp.0 lp.0 in
      rest_holds bs s M M' qs p n x (suc v + nodes U) e names (with_move s x mv e r) g f.1.3 w z h dp.1 lp.1 (put_back s mv r.cube p e x v names h w f.1.0 d.0 d.1 k)

  rest_holds : (bs : Branches) (s : Sort) (M M' : Matrix) (qs : List Quant) (p : Point) (n x v : ℕ) (e : Point) (names : List ℕ) (f : Chosen) → Game s M M' p n → EachFollows bs s (flip_all qs) x → length names ≡ x → x + suc (length qs) ≡ n → Here s p e names → AllDefined (branch_definitions bs s names v) p → AllLose (map (rename_matrix M') (branch_routes bs names v)) p → Holding s f.cube e → Holding s (guided_rest bs s M p x v e f).cube e
  rest_holds no_more s M M' qs p n x v e names f g t w z h d l k = k
  rest_holds (branch mv U bs) s M M' qs p n x v e names f g t w z h d l k =
      let here = extend e (value_of p v) in
      let r = guided_from U s M p (suc x) (suc v) here in
      let dp = defined_parts (definitions U s (names ++ v ∷ []) (suc v)) (branch_definitions bs s names (suc v + nodes U)) p d.2 in
      let lp = lose_parts M' (routes U (names ++ v ∷ []) (suc v)) (branch_routes bs names (suc v + nodes U)) p l in
      let a = holds_from U s M M' qs p n (suc x) (suc v) here (names ++ v ∷ []) g t.2 (let len = length-append names (v ∷ []) in omega arith) (omega arith) (step s p e names v h) dp.0 lp.0 in
      let b = put_back s mv r.cube p e x v names h w t.0 d.0 d.1 a in
      rest_holds bs s M M' qs p n x (suc v + nodes U) e names (joined f (with_move s x mv e r)) g t.3 w z h dp.1 lp.1
      (new_each (IsOf s) f.cube (put_in s x mv e r.cube) k.0 b.0, new_holds f.cube (put_in s x mv e r.cube) e k.1 b.1)

-- ---- the root

-- what is selected beats what it is selected against
pub selected_beats : (s : Sort) (P : Problem) (U C : Skeleton) → KeepsPicks s → IsMatrix P.matrix s (length P.prefix) → Follows U s (flip_all P.prefix) 0 → Selected s P U C → Beats s P C U
selected_beats s P U C k i f d =
    let h = holds_from U s P.matrix (lost_matrix s P) P.prefix d.point (length P.prefix) 0 0 origin []
    (record { keeps = k; matrix = i; lost = lost_is_matrix s P i; gives = λ e o g. lost_gives s P e i o g })
    f refl (omega arith) (at_root s d.point d.solves.point) d.solves.defined d.solves.lose in
    subst (λ (T : Skeleton). Beats s P T U) (sym d.tree)
    (guided_wins U s P.matrix P.prefix d.point 0 0 origin origin f (at_root s d.point d.solves.point).path_point refl h.1)
