-- A picked move and a cube with a move put in: their shape, where their numbers are within the cap.
use Rattle.std.specs.Prelude.{ℕ, suc, ◌*◌, ◌*ℤ◌, ◌≤◌, ◌≡◌, ℤ, pos, negsuc, ◌-ℤ◌, ◌≤ℤ◌, neg_ℤ, nat_abs, Bool, true, false, cond, Option, Some, None, Result, Ok, Err, IfOk, List, [], ◌∷◌, ◌++◌, map, length}
use Rattle.std.specs.List.{AllByRecursion}
use Rattle.std.proofs.Common.{arith, ap, ap₂, ◌∙◌, sym, subst, refl, mul-le-mul}
use Rattle.std.proofs.lemmas.Int.{ints}
use Rattle.lin_term.specs.declared.Sort.{Sort}
use Rattle.lin_term.specs.declared.Sort.TheVariants.{Rat, Int}
use Rattle.lin_term.specs.declared.Lit.{Lit}
use Rattle.lin_term.specs.declared.Lit.TheVariants.{AtLeast, Above, Divides, NotDivides}
use Rattle.lin_term.specs.declared.Short.{Short}
use Rattle.lin_term.specs.declared.Short.TheVariants as short
use Rattle.lin_term.specs.declared.Wide.{Wide}
use Rattle.lin_term.specs.Form.{Form, AreTerms, IsRow, cap}
use Rattle.lin_term.specs.Linear.{Point, Below, BelowTerms, dot, at, times, constant_form, floor_div}
use Rattle.lin_term.specs.Literal.{IsOf, form_of, prim, residue}
use Rattle.lin_term.specs.Move.{Move, IsMove, move_divisor, lowest}
use Rattle.lin_term.specs.Definition.{IsKeptMove, move_numbers, upper_literal, lower_literal, spare_node}
use Rattle.lin_term.specs.PutIn.{rest_of, put_raw, put_lit, put_form, occurs, less_residue, substituted}
use Rattle.lin_term.specs.Wide.{first_past, form_numbers, lit_numbers, Capped}
use Rattle.lin_term.proofs.Ascending.{ascend_from, quotient_ascend, row_from}
use Rattle.lin_term.proofs.Capping.{past-head, past-tail, past-append, past-append_some, past-append_left}
use Rattle.lin_term.proofs.Lowering.{divisor_pos, divisor_of_terms, lowest_again}
use Rattle.lin_term.proofs.PrimitiveLemmas.{modulus_one}
use Rattle.dom_core.specs.Cube.{IsPrimitiveCube}
use Rattle.dom_core.specs.Elimination.{size_at, is_lower, is_upper, delta, cube_numbers}
use Rattle.dom_core.specs.Pick.{rounding, lower_bound, upper_bound, lowers, uppers, greatest, least, constant_move, moved, middle, between, congruent, pick_between, pick, deltas_first, pick_numbers}
use Rattle.dom_core.specs.PutMove.{with_new, substituted_all, remainder, evenness, put_in, put_in_numbers}
use Rattle.dom_core.specs.Reduced.{AreRows, AreBelow, IsReduced}
use Rattle.dom_core.proofs.Picking.{HasDivisor, HasIt, lower_size, upper_size, greatest_has, least_has, lowest_divisor}
use Rattle.dom_core.proofs.PickInt.{each_map_filter}
use Rattle.dom_core.proofs.PutMoves.{new_each}
use Rattle.dom_core.specs.Adding.{AddsLit, AddsCube}
use Rattle.dom_core.proofs.AddingLemmas.{append_none, numbers-append}
use Rattle.dom_core.proofs.Bounding.{row_of}
use Rattle.dom_core.proofs.Cases.{each_map}
use Rattle.dom_core.proofs.Distincts.{new_past}
use Rattle.dom_core.proofs.Shifting.{MakesLowest}
use Rattle.dom_core.proofs.Reducing.{Lacks, lacks_from, lacks_to, quotient_lacks, IsFit, plus_fit, times_fit, rest_fit, raw_fit, Given, Promised, made, stays, reduced, given_all, past_right, terms_less, below_less, all_append, all_map}
use Rattle.dom_core.proofs.Renaming.{quotient_below}

-- ---- moves

-- its terms ascend, are below n and lack x; its divisor is 1 or more
abbrev pub IsFitMove : ℕ → ℕ → Move → Type 0
IsFitMove n x m = IsFit n x m.numer × HasDivisor m

lower_fit : (s : Sort) (n x : ℕ) (l : Lit) → Given s n l → is_lower x l ≡ true → IsFitMove n x (lower_bound s x l)
lower_fit s n x l g e =
    (plus_fit n x (constant_form (pos (rounding s (size_at x l)))) (times (negsuc 0) (rest_of (form_of l) x)) (tt, tt, tt) (times_fit n x (negsuc 0) (rest_of (form_of l) x) (rest_fit n x (form_of l) g.row g.below)), lower_size x l e)

upper_fit : (s : Sort) (n x : ℕ) (l : Lit) → Given s n l → is_upper x l ≡ true → IsFitMove n x (upper_bound x l)
upper_fit s n x l g e = (rest_fit n x (form_of l) g.row g.below, upper_size x l e)

constant_fit : (n x : ℕ) (z : ℤ) → IsFitMove n x (constant_move z)
constant_fit n x z = ((tt, tt, tt), omega arith)

moved_fit : (n x : ℕ) (m : Move) (z : ℤ) → IsFitMove n x m → IsFitMove n x (moved m z)
moved_fit n x m z f = (plus_fit n x m.numer (constant_form (pos m.div *ℤ z)) f.0 (tt, tt, tt), f.1)

middle_fit : (n x : ℕ) (m k : Move) → IsFitMove n x m → IsFitMove n x k → IsFitMove n x (middle m k)
middle_fit n x m k f g =
    (plus_fit n x (times (pos k.div) m.numer) (times (pos m.div) k.numer) (times_fit n x (pos k.div) m.numer f.0) (times_fit n x (pos m.div) k.numer g.0), twice (m.div * k.div) (mul-le-mul f.1 g.1))
  where
    twice : (d : ℕ) → 1 ≤ d → 1 ≤ 2 * d
    twice d h = omega arith

between_fit : (n x : ℕ) (low up : Option Move) → HasIt (IsFitMove n x) low → HasIt (IsFitMove n x) up → IsFitMove n x (between low up)
between_fit n x (Some m) (Some k) f g = middle_fit n x m k f g
between_fit n x (Some m) None f g = moved_fit n x m (pos 1) f
between_fit n x None (Some k) f g = moved_fit n x k (negsuc 0) g
between_fit n x None None f g = constant_fit n x (pos 0)

congruent_fit : (n x d : ℕ) (v : ℤ) (p : Point) (low up : Option Move) → HasIt (IsFitMove n x) low → HasIt (IsFitMove n x) up → IsFitMove n x (congruent d v p low up)
congruent_fit n x d v p (Some m) up f g = moved_fit n x m (pos (residue (v -ℤ floor_div (dot m.numer p) m.div) d)) f
congruent_fit n x d v p None (Some m) f g = moved_fit n x m (neg_ℤ (pos (residue (floor_div (dot m.numer p) m.div -ℤ v) d))) g
congruent_fit n x d v p None None f g = constant_fit n x (pos (residue v d))

pick_between_fit : (s : Sort) (n x : ℕ) (c : List Lit) (p : Point) (low up : Option Move) → HasIt (IsFitMove n x) low → HasIt (IsFitMove n x) up → IsFitMove n x (pick_between s x c p low up)
pick_between_fit Rat n x c p low up f g = between_fit n x low up f g
pick_between_fit Int n x c p low up f g = congruent_fit n x (delta c x) (at p.nums x) p low up f g

lowest_fit : (s : Sort) (n x : ℕ) (m : Move) → IsFitMove n x m → IsFitMove n x (lowest s m)
lowest_fit s n x m f =
    let g = move_divisor s m in (
      (
        quotient_ascend 0 m.numer.terms g (divisor_pos s m) (divisor_of_terms s m) f.0.0,
        quotient_below n m.numer.terms g f.0.1,
        quotient_lacks x m.numer.terms g f.0.2,
      ),
      lowest_divisor s m f.1,
    )

-- the move before it is brought to lowest form
abbrev picked : Sort → ℕ → List Lit → Point → Move
picked s x c p = pick_between s x c p (greatest s p (lowers s x c)) (least s p (uppers x c))

picked_fit : (s : Sort) (n x : ℕ) (c : List Lit) (p : Point) → IsPrimitiveCube s c → AreRows c → AreBelow n c → IsFitMove n x (pick s x c p)
picked_fit s n x c p i r b =
    let g = given_all s n c i r b in
    lowest_fit s n x (picked s x c p)
    (pick_between_fit s n x c p (greatest s p (lowers s x c)) (least s p (uppers x c))
    (greatest_has (IsFitMove n x) s p (lowers s x c) (each_map_filter (IsFitMove n x) (lower_bound s x) (is_lower x) c (each_map (Given s n) (λ l. is_lower x l ≡ true → IsFitMove n x (lower_bound s x l)) c (λ l a e. lower_fit s n x l a e) g)))
    (least_has (IsFitMove n x) s p (uppers x c) (each_map_filter (IsFitMove n x) (upper_bound x) (is_upper x) c (each_map (Given s n) (λ l. is_upper x l ≡ true → IsFitMove n x (upper_bound x l)) c (λ l a e. upper_fit s n x l a e) g))))

picked_within : (s : Sort) (x : ℕ) (c : List Lit) (p : Point) → first_past (pick_numbers s x c p) ≡ None → first_past (move_numbers s (pick s x c p)) ≡ None
picked_within s x c p e = past_right (deltas_first s x c) (move_numbers s (pick s x c p)) e

-- a move whose numbers are within the cap
fit_move : (s : Sort) (n x : ℕ) (m : Move) → IsFitMove n x m → first_past (move_numbers s m) ≡ None → IsMove m
fit_move s n x m f e =
    let defs : List ℤ = lit_numbers (upper_literal s m spare_node) ++ lit_numbers (lower_literal s m spare_node) in
    let all : List ℤ = form_numbers m.numer ++ defs in
    (row_from m.numer f.0.0 (past-append_left (form_numbers m.numer) defs (past-tail (pos m.div) all e)), f.1, past-head (pos m.div) all e)

-- ---- what is answered

abbrev pub Picks : Sort → ℕ → List Lit → Point → Result Move (Short Wide) → Type 0
Picks s x c p answer = Capped (pick_numbers s x c p) (pick s x c p) answer

pub picked_written : (s : Sort) (x : ℕ) (c : List Lit) (p : Point) (answer : Result Move (Short Wide)) → IsPrimitiveCube s c → AreRows c → AreBelow (length p.nums) c → Picks s x c p answer → IfOk answer IsMove
picked_written s x c p (Ok m) i r b h =
    subst IsMove (sym h.1) (fit_move s (length p.nums) x (pick s x c p) (picked_fit s (length p.nums) x c p i r b) (picked_within s x c p h.0))
picked_written s x c p (Err e) i r b h = tt

pub picked_kept : (s : Sort) (x : ℕ) (c : List Lit) (p : Point) (answer : Result Move (Short Wide)) → Picks s x c p answer → IfOk answer (λ m. IsKeptMove s m)
picked_kept s x c p (Ok m) h =
    subst (IsKeptMove s) (sym h.1) (record { is_lowest = lowest_again s (picked s x c p); within = picked_within s x c p h.0 })
picked_kept s x c p (Err e) h = tt

pub picked_without : (s : Sort) (x : ℕ) (c : List Lit) (p : Point) (answer : Result Move (Short Wide)) → IsPrimitiveCube s c → AreRows c → AreBelow (length p.nums) c → Picks s x c p answer → IfOk answer (λ m. occurs m.numer.terms x ≡ false)
picked_without s x c p (Ok m) i r b h =
    subst (λ (k : Move). occurs k.numer.terms x ≡ false) (sym h.1) (lacks_to (pick s x c p).numer.terms x (picked_fit s (length p.nums) x c p i r b).0.2)
picked_without s x c p (Err e) i r b h = tt

pub picked_earlier : (s : Sort) (x : ℕ) (c : List Lit) (p : Point) (answer : Result Move (Short Wide)) → IsPrimitiveCube s c → AreRows c → Picks s x c p answer → IfOk answer (λ m. AreBelow (suc x) c → Below x m.numer)
picked_earlier s x c p (Ok m) i r h = λ b.
    let f = picked_fit s (suc x) x c p i r b in
    subst (λ (k : Move). Below x k.numer) (sym h.1) (terms_less x (pick s x c p).numer.terms f.0.2 f.0.1)
picked_earlier s x c p (Err e) i r h = tt

-- ---- a move put in

-- a variable past those of a form is none of them
pub below_absent : (x : ℕ) (ts : List (ℕ × ℤ)) → BelowTerms x ts → occurs ts x ≡ false
below_absent x ts b = lacks_to ts x (lacks ts b)
  where
    lacks : (ts : List (ℕ × ℤ)) → BelowTerms x ts → Lacks x ts
    lacks [] b = tt
    lacks (t ∷ ts) b = ((λ e. let o = b.0 in absurd (omega arith)), lacks ts b.1)

raw_is_of : (s : Sort) (x a : ℕ) (t : Form) (l : Lit) → 1 ≤ a → IsOf s l → IsOf s (prim s (put_raw x a t l))
raw_is_of Rat x a t (AtLeast f) h o = tt
raw_is_of Rat x a t (Above f) h o = tt
raw_is_of Rat x a t (Divides d f) h o = absurd o
raw_is_of Rat x a t (NotDivides d f) h o = absurd o
raw_is_of Int x a t (AtLeast f) h o = tt
raw_is_of Int x a t (Above f) h o = tt
raw_is_of Int x a t (Divides d f) h o = modulus_one (a * d) (put_form f x a t) (mul-le-mul h o)
raw_is_of Int x a t (NotDivides d f) h o = modulus_one (a * d) (put_form f x a t) (mul-le-mul h o)

lit_put : (s : Sort) (n x a : ℕ) (t : Form) (l : Lit) → 1 ≤ a → IsFit n x t → Given s n l → Promised s n x (put_lit s x a t l)
lit_put s n x a t l h f g = by (occurs (form_of l).terms x) refl
  where
    by : (b : Bool) → occurs (form_of l).terms x ≡ b → Promised s n x (cond b (prim s (put_raw x a t l)) l)
    by true q = made s n x (put_raw x a t l) (raw_is_of s x a t l h g.primitive.0) (raw_fit n x a t l f g.row g.below)
    by false q = stays s n x l g q

less_fit : (n x r : ℕ) (m : Move) → IsRow m.numer → Below n m.numer → occurs m.numer.terms x ≡ false → IsFit n x (less_residue m r)
less_fit n x r m w b o =
    plus_fit n x m.numer (constant_form (neg_ℤ (pos r))) (ascend_from 0 m.numer.terms w.0, b, lacks_from m.numer.terms x o) (tt, tt, tt)

even_put : (s : Sort) (n x r : ℕ) (m : Move) → 1 ≤ m.div → IsFit n x (less_residue m r) → AllByRecursion (Promised s n x) (evenness s m r)
even_put Rat n x r m h f = tt
even_put Int n x r m h f = (made Int n x (Divides m.div (less_residue m r)) (modulus_one m.div (less_residue m r) h) f, tt)

put_promised : (s : Sort) (n x : ℕ) (m : Move) (p : Point) (c : List Lit) → IsMove m → IsPrimitiveCube s c → AreRows c → AreBelow n c → Below n m.numer → occurs m.numer.terms x ≡ false → AllByRecursion (Promised s n x) (put_in s x m p c)
put_promised s n x m p c w i r b k o =
    let q = remainder s m p in
    let f = less_fit n x q m w.0 k o in
    new_each (Promised s n x) [] (map (λ l. substituted s l x m q) c ++ evenness s m q) tt
    (all_append (Promised s n x) (map (λ l. substituted s l x m q) c) (evenness s m q)
    (all_map (Promised s n x) (λ l. substituted s l x m q) c (each_map (Given s n) (λ l. Promised s n x (substituted s l x m q)) c (λ l g. lit_put s n x m.div (less_residue m q) l w.1 f g) (given_all s n c i r b)))
    (even_put s n x q m w.1 f))

put_reduced : (s : Sort) (n x : ℕ) (m : Move) (p : Point) (c : List Lit) → IsMove m → IsPrimitiveCube s c → AreRows c → occurs m.numer.terms x ≡ false → first_past (put_in_numbers s x m p c) ≡ None → AreBelow n c → Below n m.numer → IsReduced s n x (put_in s x m p c)
put_reduced s n x m p c w i r o e b k = reduced s n x (put_in s x m p c) (put_promised s n x m p c w i r b k o) e

abbrev pub Puts : Sort → ℕ → Move → Point → List Lit → Result (List Lit) (Short Wide) → Type 0
Puts s x m p c answer = Capped (put_in_numbers s x m p c) (put_in s x m p c) answer

pub answer_put : (s : Sort) (x : ℕ) (m : Move) (p : Point) (c : List Lit) (answer : Result (List Lit) (Short Wide)) → IsMove m → IsPrimitiveCube s c → AreRows c → occurs m.numer.terms x ≡ false → Puts s x m p c answer → IfOk answer (λ d. (n : ℕ) → AreBelow n c → Below n m.numer → IsReduced s n x d)
answer_put s x m p c (Ok d) w i r o h = λ n b k. subst (IsReduced s n x) (sym h.1) (put_reduced s n x m p c w i r o h.0 b k)
answer_put s x m p c (Err e) w i r o h = tt

below_more : (x : ℕ) (ts : List (ℕ × ℤ)) → BelowTerms x ts → BelowTerms (suc x) ts
below_more x [] b = tt
below_more x (t ∷ ts) b = (let o = b.0 in omega arith, below_more x ts b.1)

reduced_last : (s : Sort) (x : ℕ) (d : List Lit) → IsReduced s (suc x) x d → IsReduced s x x d
reduced_last s x d k = record { primitive = k.primitive; rows = k.rows; below = below_less x d k.without k.below; without = k.without }

pub answer_last : (s : Sort) (x : ℕ) (m : Move) (p : Point) (c : List Lit) (answer : Result (List Lit) (Short Wide)) → IsMove m → IsPrimitiveCube s c → AreRows c → occurs m.numer.terms x ≡ false → Puts s x m p c answer → IfOk answer (λ d. AreBelow (suc x) c → Below x m.numer → IsReduced s x x d)
answer_last s x m p c (Ok d) w i r o h = λ b k.
    reduced_last s x d (subst (IsReduced s (suc x) x) (sym h.1) (put_reduced s (suc x) x m p c w i r o h.0 b (below_more x m.numer.terms k)))
answer_last s x m p c (Err e) w i r o h = tt

-- a move as it is read
pub move_read : (m : Move) (f : Form) (ts : List (ℕ × ℤ)) (k d : ℤ) → f ≡ m.numer → ts ≡ f.terms → AreTerms 0 ts → k ≡ f.constant → nat_abs k ≤ cap → d ≡ pos m.div → pos 1 ≤ℤ d → nat_abs d ≤ cap → IsMove m
move_read m f ts k d e q a r h s o g =
    (subst IsRow e (row_of f ts k q a r h), omega (arith, ints, s, o), omega (arith, ints, s, g))

-- ---- what is picked of given bounds

pub picked_rat : (x : ℕ) (c : List Lit) (p : Point) (low up : Option Move) (answer : Result Move (Short Wide)) → low ≡ greatest Rat p (lowers Rat x c) → up ≡ least Rat p (uppers x c) → MakesLowest Rat (between low up) answer → Picks Rat x c p answer
picked_rat x c p low up answer e f h = subst (λ (m : Move). MakesLowest Rat m answer) (ap₂ between e f) h

-- after the periods
pub picked_int : (x : ℕ) (c : List Lit) (p : Point) (n : ℕ) (answer : Result Move (Short Wide)) → first_past (deltas_first Int x c) ≡ None → n ≡ delta c x → MakesLowest Int (congruent n (at p.nums x) p (greatest Int p (lowers Int x c)) (least Int p (uppers x c))) answer → Picks Int x c p answer
picked_int x c p n (Ok m) h e k =
    let d : List ℤ = deltas_first Int x c in
    let q = subst (λ (y : ℕ). MakesLowest Int (congruent y (at p.nums x) p (greatest Int p (lowers Int x c)) (least Int p (uppers x c))) (Ok m)) e k in
    (past-append d (move_numbers Int (pick Int x c p)) h ∙ q.0, q.1)
picked_int x c p n (Err (short.Fault w)) h e k =
    let d : List ℤ = deltas_first Int x c in
    let q = subst (λ (y : ℕ). MakesLowest Int (congruent y (at p.nums x) p (greatest Int p (lowers Int x c)) (least Int p (uppers x c))) (Err (short.Fault w))) e k in
    past-append d (move_numbers Int (pick Int x c p)) h ∙ q
picked_int x c p n (Err short.Memory) h e k = tt

pub period_past : (x : ℕ) (c : List Lit) (p : Point) (w : Wide) → first_past (deltas_first Int x c) ≡ Some w.number → Picks Int x c p (Err (short.Fault w))
period_past x c p w h = past-append_some (deltas_first Int x c) (move_numbers Int (pick Int x c p)) w.number h

-- ---- a cube put together

pub put_rat : (x : ℕ) (m : Move) (p : Point) (c out : List Lit) (answer : Result (List Lit) (Short Wide)) → out ≡ [] ++ substituted_all Rat x m 0 c → Capped (cube_numbers (with_new [] out)) (with_new [] out) answer → Puts Rat x m p c answer
put_rat x m p c out answer e h = subst (λ (us : List Lit). Capped (cube_numbers (with_new [] us)) (with_new [] us) answer) (e ∙ sym (append_none (substituted_all Rat x m 0 c))) h

pub put_int : (x : ℕ) (m : Move) (p : Point) (c some out : List Lit) (r : ℕ) (answer : Result (List Lit) (Short Wide)) → r ≡ residue (dot m.numer p) m.div → some ≡ [] ++ substituted_all Int x m r c → out ≡ some ++ prim Int (Divides m.div (less_residue m r)) ∷ [] → Capped (cube_numbers (with_new [] out)) (with_new [] out) answer → Puts Int x m p c answer
put_int x m p c some out r answer e f g h =
    subst (λ (us : List Lit). Capped (cube_numbers (with_new [] us)) (with_new [] us) answer)
    (g ∙ ap (λ (us : List Lit). us ++ prim Int (Divides m.div (less_residue m r)) ∷ []) f ∙ ap (λ (n : ℕ). substituted_all Int x m n c ++ evenness Int m n) e) h

-- where a number of what was formed first is past the cap
pub put_past : (s : Sort) (x : ℕ) (m : Move) (p : Point) (c : List Lit) (z : ℤ) → first_past (cube_numbers (substituted_all s x m (remainder s m p) c ++ evenness s m (remainder s m p))) ≡ Some z → first_past (put_in_numbers s x m p c) ≡ Some z
put_past s x m p c z h = new_past [] (substituted_all s x m (remainder s m p) c ++ evenness s m (remainder s m p)) ∙ h

pub all_fit : (c d : List Lit) → first_past (cube_numbers c) ≡ None → first_past (cube_numbers d) ≡ None → first_past (cube_numbers (c ++ d)) ≡ None
all_fit c d h k = ap first_past (numbers-append c d) ∙ past-append (cube_numbers c) (cube_numbers d) h ∙ k

pub put_refused : (s : Sort) (x : ℕ) (m : Move) (p : Point) (c old new : List Lit) (r : ℕ) (e : Short Wide) → r ≡ remainder s m p → AddsCube old new (substituted_all s x m r c) (Err e) → Puts s x m p c (Err e)
put_refused s x m p c old new r (short.Fault w) q h =
    let ls : List Lit = substituted_all s x m (remainder s m p) c in
    let es : List Lit = evenness s m (remainder s m p) in
    let k : first_past (cube_numbers ls) ≡ Some w.number = subst (λ (n : ℕ). first_past (cube_numbers (substituted_all s x m n c)) ≡ Some w.number) q h in
    put_past s x m p c w.number (ap first_past (numbers-append ls es) ∙ past-append_some (cube_numbers ls) (cube_numbers es) w.number k)
put_refused s x m p c old new r short.Memory q h = tt

pub even_refused : (x : ℕ) (m : Move) (p : Point) (c old new : List Lit) (r : ℕ) (e : Short Wide) → r ≡ remainder Int m p → first_past (cube_numbers (substituted_all Int x m r c)) ≡ None → AddsLit old new (prim Int (Divides m.div (less_residue m r))) (Err e) → Puts Int x m p c (Err e)
even_refused x m p c old new r (short.Fault w) q f h =
    let ls : ℕ → List Lit = λ n. substituted_all Int x m n c in
    let es : ℕ → List Lit = λ n. evenness Int m n in
    let l : Lit = prim Int (Divides m.div (less_residue m r)) in
    let k : first_past (cube_numbers (ls r ++ es r)) ≡ Some w.number =
    ap first_past (numbers-append (ls r) (es r)) ∙ past-append (cube_numbers (ls r)) (cube_numbers (es r)) f ∙ past-append_some (lit_numbers l) [] w.number h in
    put_past Int x m p c w.number (subst (λ (n : ℕ). first_past (cube_numbers (ls n ++ es n)) ≡ Some w.number) q k)
even_refused x m p c old new r short.Memory q f h = tt

pub even_fits : (m : Move) (r : ℕ) → first_past (lit_numbers (prim Int (Divides m.div (less_residue m r)))) ≡ None → first_past (cube_numbers (evenness Int m r)) ≡ None
even_fits m r h = past-append (lit_numbers (prim Int (Divides m.div (less_residue m r)))) [] h
