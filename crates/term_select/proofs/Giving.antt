-- What is selected at a node, from what is selected below it.
use Rattle.std.specs.Prelude.{ℕ, ◌≡◌, ◌*◌, ℤ, pos, ◌+ℤ◌, ◌*ℤ◌, Some, None, Result, Ok, Err, List, [], ◌∷◌, ◌++◌, map, length}
use Rattle.std.proofs.Common.{arith, ap, ap₂, ◌∙◌, sym, subst, refl}
use Rattle.lin_term.specs.declared.Sort.{Sort}
use Rattle.lin_term.specs.declared.Sort.TheVariants.{Rat, Int}
use Rattle.lin_term.specs.declared.Short.{Short}
use Rattle.lin_term.specs.declared.Short.TheVariants as short
use Rattle.lin_term.specs.declared.Lit.{Lit}
use Rattle.lin_term.specs.Linear.{Form, Point, Value, IsPoint, at, dot_terms, dot, extend, Below, BelowTerms}
use Rattle.lin_term.specs.Literal.{residue}
use Rattle.lin_term.specs.Move.{Move}
use Rattle.lin_term.specs.declared.Wide.{Wide}
use Rattle.lin_term.specs.Wide.{first_past, Capped}
use Rattle.lin_term.proofs.Dots.{at-extend_old}
use Rattle.lin_term.proofs.PrimitiveLemmas.{one_times}
use Rattle.dom_core.specs.Pick.{pick, pick_numbers}
use Rattle.lin_term.specs.PutIn.{substituted}
use Rattle.dom_core.specs.Elimination.{cube_numbers}
use Rattle.dom_core.specs.PutMove.{with_new, remainder, evenness, put_in, put_in_numbers}
use Rattle.game_tree.specs.declared.Tree.{Tree}
use Rattle.game_tree.specs.Skeleton.{Skeleton, mine, no_more, branch}
use Rattle.game_tree.specs.View.{skeleton_of}
use Rattle.term_select.specs.declared.part.Part.{Part}
use Rattle.term_select.specs.declared.part.LowerPart.{LowerPart}
use Rattle.term_select.specs.declared.part.Stop.{Stop}
use Rattle.term_select.specs.Guided.{Chosen, value_of, at_position, first_wide, with_move, with_pick}
use Rattle.term_select.specs.Walk.{Gives, GivesBelow, CappedAt, stop_fault}
use Rattle.term_select.proofs.Alike.{AreAlike, pick_alike, pick_numbers_alike}
use Rattle.term_select.proofs.Wides.{found_at, wide_later, wide_first, placed_none, placed_some}

-- ---- a move over earlier positions put in, with the value of its own position at hand

terms_before : (ts : List (ℕ × ℤ)) (e : Point) (v : Value) → v.den ≡ 1 → BelowTerms (length e.nums) ts → dot_terms ts (extend e v).nums ≡ dot_terms ts e.nums
terms_before [] e v o b = refl
terms_before (t ∷ ts) e v o b =
    ap₂ (λ (a s : ℤ). t.1 *ℤ a +ℤ s) (at-extend_old e v t.0 b.0 ∙ one_times (at e.nums t.0) v.den o) (terms_before ts e v o b.1)

dot_before : (f : Form) (e : Point) (v : Value) → v.den ≡ 1 → Below (length e.nums) f → dot f (extend e v) ≡ dot f e
dot_before f e v o b =
    ap₂ (λ (s : ℤ) (d : ℕ). s +ℤ f.constant *ℤ pos d) (terms_before f.terms e v o b) (let g : e.den * v.den ≡ e.den = ap (λ (k : ℕ). e.den * k) o ∙ (let h : e.den * 1 ≡ e.den = omega arith in h) in g)

remainder_before : (s : Sort) (m : Move) (p e : Point) (v : ℕ) → IsPoint s p → Below (length e.nums) m.numer → remainder s m e ≡ remainder s m (extend e (value_of p v))
remainder_before Rat m p e v i b = refl
remainder_before Int m p e v i b = ap (λ (z : ℤ). residue z m.div) (sym (dot_before m.numer e (value_of p v) i b))

remainder_alike : (s : Sort) (m : Move) (e q : Point) → AreAlike s e q → remainder s m e ≡ remainder s m q
remainder_alike Rat m e q a = refl
remainder_alike Int m e q a = ap (λ (r : Point). remainder Int m r) a

pub put_same : (s : Sort) (x : ℕ) (m : Move) (p e q : Point) (v : ℕ) (c : List Lit) → IsPoint s p → length e.nums ≡ x → Below x m.numer → AreAlike s (extend e (value_of p v)) q → put_in s x m e c ≡ put_in s x m q c
put_same s x m p e q v c i l b a =
    ap (λ (r : ℕ). put_with r)
    (remainder_before s m p e v i (subst (λ (n : ℕ). Below n m.numer) (sym l) b) ∙ remainder_alike s m (extend e (value_of p v)) q a)
  where
    put_with : ℕ → List Lit
    put_with r = with_new [] (map (λ l. substituted s l x m r) c ++ evenness s m r)

-- ---- a node of the player who selects

-- what a picked move, the cube with it put in and the numbers of both make of what was selected below
abbrev made : ℕ → Chosen → Move → List ℤ → List Lit → Chosen
made x r m zs c = record {
  cube = c;
  tree = mine (branch m r.tree no_more);
  numbers = (r.numbers ++ at_position x zs) ++ at_position x (cube_numbers c);
}

pick_same : (s : Sort) (x : ℕ) (p e q : Point) (v : ℕ) (r : Chosen) → IsPoint s p → length e.nums ≡ x → Below x (pick s x r.cube (extend e (value_of p v))).numer → AreAlike s (extend e (value_of p v)) q → with_pick s x e (extend e (value_of p v)) r ≡ with_pick s x q q r
pick_same s x p e q v r i l b a =
    let here = extend e (value_of p v) in
    let m = pick s x r.cube here in
    ap (λ (c : List Lit). made x r m (pick_numbers s x r.cube here) c) (put_same s x m p e q v r.cube i l b a)
    ∙ ap (λ (zs : List ℤ). made x r m zs (put_in s x m q r.cube)) (pick_numbers_alike s x r.cube here q a)
    ∙ ap (λ (k : Move). made x r k (pick_numbers s x r.cube q) (put_in s x k q r.cube)) (pick_alike s x r.cube here q a)

same_chosen : (r : Chosen) (c : List Lit) (T : Skeleton) → c ≡ r.cube → T ≡ r.tree → (let f : Chosen = record { cube = c; tree = T; numbers = r.numbers } in f) ≡ r
same_chosen r c T h g = ap₂ (λ (d : List Lit) (S : Skeleton). let f : Chosen = record { cube = d; tree = S; numbers = r.numbers } in f) h g

pub theirs_given : (s : Sort) (x : ℕ) (p e : Point) (v n : ℕ) (r : Chosen) (below : LowerPart) (result : Result Part (Short Stop)) → IsPoint s p → length e.nums ≡ x → Below x (pick s x r.cube (extend e (value_of p v))).numer → AreAlike s (extend e (value_of p v)) below.here → GivesBelow r n (Ok below)
    → ((numbers : List (ℕ × ℤ)) → first_wide numbers ≡ None → Gives (with_pick s x below.here below.here (record { cube = below.part.cube; tree = skeleton_of below.part.tree; numbers = numbers })) below.part.next result)
    → Gives (with_pick s x e (extend e (value_of p v)) r) n result
theirs_given s x p e v n r below result i l b a g k =
    subst (λ (f : Chosen). Gives f n result) (sym (pick_same s x p e below.here v r i l b a))
    (subst (λ (f : Chosen). Gives (with_pick s x below.here below.here f) n result) (same_chosen r below.part.cube (skeleton_of below.part.tree) g.1 g.2)
    (subst (λ (j : ℕ). Gives (with_pick s x below.here below.here (record { cube = below.part.cube; tree = skeleton_of below.part.tree; numbers = r.numbers })) j result) g.3 (k r.numbers g.0)))

pub theirs_short : (s : Sort) (x : ℕ) (e here : Point) (n k : ℕ) (r : Chosen) (fault : Short Stop) → GivesBelow r n (Err fault) → Gives (with_pick s x e here r) k (Err fault)
theirs_short s x e here n k r (short.Fault stop) g =
    let m = pick s x r.cube here in
    wide_first (r.numbers ++ at_position x (pick_numbers s x r.cube here)) (at_position x (put_in_numbers s x m e r.cube)) (stop.var, stop.number)
    (wide_first r.numbers (at_position x (pick_numbers s x r.cube here)) (stop.var, stop.number) g)
theirs_short s x e here n k r short.Memory g = tt

-- ---- faults

pub stop_capped : {A : Type 0} (x : ℕ) (numbers : List ℤ) (value : A) (f : Short Wide) (g : Short Stop) → Capped numbers value (Err f) → g ≡ stop_fault x f → CappedAt x numbers value (Err g)
stop_capped {A} x numbers value f g h e = subst (λ (k : Short Stop). CappedAt x numbers value (Err k)) (sym e) (by f h)
  where
    by : (f : Short Wide) → Capped numbers value (Err f) → CappedAt x numbers value (Err (stop_fault x f))
    by (short.Fault w) h = (refl, h)
    by short.Memory h = tt

-- ---- a move put in

placed_at : (x : ℕ) (zs : List ℤ) (stop : Stop) → (stop.var ≡ x) × (first_past zs ≡ Some stop.number) → first_wide (at_position x zs) ≡ Some (stop.var, stop.number)
placed_at x zs stop h = placed_some x zs stop.number h.1 ∙ ap (λ (y : ℕ). found_at y stop.number) (sym h.0)

pub moved_short : (s : Sort) (x : ℕ) (m : Move) (e : Point) (n k : ℕ) (r : Chosen) (fault : Short Stop) → GivesBelow r n (Err fault) → Gives (with_move s x m e r) k (Err fault)
moved_short s x m e n k r (short.Fault stop) g = wide_first r.numbers (at_position x (put_in_numbers s x m e r.cube)) (stop.var, stop.number) g
moved_short s x m e n k r short.Memory g = tt

pub moved_wide : (s : Sort) (x : ℕ) (m : Move) (p e : Point) (v n k : ℕ) (r : Chosen) (below : LowerPart) (fault : Short Stop) → IsPoint s p → length e.nums ≡ x → Below x m.numer → AreAlike s (extend e (value_of p v)) below.here → GivesBelow r n (Ok below)
    → CappedAt x (put_in_numbers s x m below.here below.part.cube) (put_in s x m below.here below.part.cube) (Err fault) → Gives (with_move s x m e r) k (Err fault)
moved_wide s x m p e v n k r below (short.Fault stop) i l b a g h =
    let same : put_in s x m e r.cube ≡ put_in s x m below.here below.part.cube = put_same s x m p e below.here v r.cube i l b a ∙ ap (λ (c : List Lit). put_in s x m below.here c) (sym g.1) in
    wide_later r.numbers (at_position x (put_in_numbers s x m e r.cube)) g.0
    ∙ ap (λ (c : List Lit). first_wide (at_position x (cube_numbers c))) same
    ∙ placed_at x (put_in_numbers s x m below.here below.part.cube) stop h
moved_wide s x m p e v n k r below short.Memory i l b a g h = tt

pub moved_given : (s : Sort) (x : ℕ) (m : Move) (p e : Point) (v n : ℕ) (r : Chosen) (below : LowerPart) (c : List Lit) → IsPoint s p → length e.nums ≡ x → Below x m.numer → AreAlike s (extend e (value_of p v)) below.here → GivesBelow r n (Ok below)
    → (first_past (put_in_numbers s x m below.here below.part.cube) ≡ None) × (c ≡ put_in s x m below.here below.part.cube) → Gives (with_move s x m e r) n (Ok (record { cube = c; tree = below.part.tree; next = below.part.next }))
moved_given s x m p e v n r below c i l b a g h =
    let same : put_in s x m e r.cube ≡ put_in s x m below.here below.part.cube = put_same s x m p e below.here v r.cube i l b a ∙ ap (λ (d : List Lit). put_in s x m below.here d) (sym g.1) in (
      wide_later r.numbers (at_position x (put_in_numbers s x m e r.cube)) g.0
          ∙ ap (λ (d : List Lit). first_wide (at_position x (cube_numbers d))) same
          ∙ placed_none x (put_in_numbers s x m below.here below.part.cube) h.0,
      h.1 ∙ sym same,
      g.2,
      g.3,
    )

-- ---- a move picked and put in

pub pick_wide : (s : Sort) (x : ℕ) (q : Point) (c : List Lit) (T : Skeleton) (n : ℕ) (fault : Short Stop) (numbers : List (ℕ × ℤ)) → first_wide numbers ≡ None
    → CappedAt x (pick_numbers s x c q) (pick s x c q) (Err fault) → Gives (with_pick s x q q (record { cube = c; tree = T; numbers = numbers })) n (Err fault)
pick_wide s x q c T n (short.Fault stop) numbers e h =
    let m = pick s x c q in
    wide_first (numbers ++ at_position x (pick_numbers s x c q)) (at_position x (put_in_numbers s x m q c)) (stop.var, stop.number)
    (wide_later numbers (at_position x (pick_numbers s x c q)) e ∙ placed_at x (pick_numbers s x c q) stop h)
pick_wide s x q c T n short.Memory numbers e h = tt

picked_none : (s : Sort) (x : ℕ) (q : Point) (c : List Lit) (numbers : List (ℕ × ℤ)) → first_wide numbers ≡ None → first_past (pick_numbers s x c q) ≡ None → first_wide (numbers ++ at_position x (pick_numbers s x c q)) ≡ None
picked_none s x q c numbers e h = wide_later numbers (at_position x (pick_numbers s x c q)) e ∙ placed_none x (pick_numbers s x c q) h

pub put_wide : (s : Sort) (x : ℕ) (q : Point) (c : List Lit) (T : Skeleton) (n : ℕ) (m : Move) (fault : Short Stop) (numbers : List (ℕ × ℤ)) → first_wide numbers ≡ None
    → (first_past (pick_numbers s x c q) ≡ None) × (m ≡ pick s x c q) → CappedAt x (put_in_numbers s x m q c) (put_in s x m q c) (Err fault) → Gives (with_pick s x q q (record { cube = c; tree = T; numbers = numbers })) n (Err fault)
put_wide s x q c T n m (short.Fault stop) numbers e h k =
    wide_later (numbers ++ at_position x (pick_numbers s x c q)) (at_position x (put_in_numbers s x (pick s x c q) q c)) (picked_none s x q c numbers e h.0)
    ∙ ap (λ (j : Move). first_wide (at_position x (put_in_numbers s x j q c))) (sym h.1)
    ∙ placed_at x (put_in_numbers s x m q c) stop k
put_wide s x q c T n m short.Memory numbers e h k = tt

pub pick_given : (s : Sort) (x : ℕ) (q : Point) (c : List Lit) (t u : Tree) (n : ℕ) (m : Move) (d : List Lit) (numbers : List (ℕ × ℤ)) → first_wide numbers ≡ None
    → (first_past (pick_numbers s x c q) ≡ None) × (m ≡ pick s x c q) → (first_past (put_in_numbers s x m q c) ≡ None) × (d ≡ put_in s x m q c)
    → skeleton_of u ≡ mine (branch m (skeleton_of t) no_more) → Gives (with_pick s x q q (record { cube = c; tree = skeleton_of t; numbers = numbers })) n (Ok (record { cube = d; tree = u; next = n }))
pick_given s x q c t u n m d numbers e h k w = (
  wide_later (numbers ++ at_position x (pick_numbers s x c q)) (at_position x (put_in_numbers s x (pick s x c q) q c)) (picked_none s x q c numbers e h.0)
      ∙ ap (λ (j : Move). first_wide (at_position x (put_in_numbers s x j q c))) (sym h.1)
      ∙ placed_none x (put_in_numbers s x m q c) k.0,
  k.1 ∙ ap (λ (j : Move). put_in s x j q c) h.1,
  w ∙ ap (λ (j : Move). mine (branch j (skeleton_of t) no_more)) h.1,
  refl,
)
