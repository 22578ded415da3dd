-- Two points with the same values, over different denominators: what is selected at the one is selected at the other.
use Rattle.std.specs.Prelude.{ℕ, zero, suc, ◌*◌, ◌<◌, ◌≤◌, ◌≡◌, ℤ, pos, ◌+ℤ◌, ◌-ℤ◌, ◌*ℤ◌, ◌<ℤ◌, int_le, int_lt, Bool, true, false, ◌&&◌, ◌||◌, if◌then◌else◌, Option, Some, List, [], ◌∷◌, map, length, get_or}
use Rattle.std.proofs.Common.{arith, ap, ap₂, ◌∙◌, sym, subst, refl, inl, inr}
use Rattle.std.proofs.lemmas.Int.{ints}
use Rattle.std.proofs.lemmas.Bool.{cases_lt}
use Rattle.std.proofs.lemmas.List.{length-map}
use Rattle.lin_term.specs.declared.Sort.{Sort}
use Rattle.lin_term.specs.declared.Sort.TheVariants.{Rat, Int}
use Rattle.lin_term.specs.declared.Lit.{Lit}
use Rattle.lin_term.specs.declared.Lit.TheVariants.{AtLeast, Above, Divides, NotDivides}
use Rattle.lin_term.specs.Linear.{Form, Point, at, dot_terms, dot}
use Rattle.lin_term.specs.Literal.{IsOf}
use Rattle.lin_term.specs.Fixing.{at_names}
use Rattle.lin_term.specs.Move.{Move, move_value, lowest}
use Rattle.lin_term.specs.Definition.{move_numbers}
use Rattle.lin_term.proofs.Ring.{ring, pos_mul, pos_across, nonneg_across}
use Rattle.lin_term.proofs.PrimitiveLemmas.{one_times}
use Rattle.dom_core.specs.Game.{Matrix, lit, all, some, Matrices, none, more, IsMatrix, AreMatrices}
use Rattle.dom_core.specs.Pick.{lowers, uppers, is_less, greatest_with, greatest, least_with, least, between, pick, pick_numbers}
use Rattle.dom_core.specs.PutMove.{with_new}
use Rattle.term_select.specs.Guided.{holds_at, true_at, all_true, some_true, implicant, implicants, first_implicant}
use Rattle.term_select.proofs.Descent.{Here}

-- in Rat the same values; in Int the same point
abbrev pub AreAlike : Sort → Point → Point → Type 0
AreAlike Rat e q = (1 ≤ e.den) × (1 ≤ q.den) × ((i : ℕ) → at e.nums i *ℤ pos q.den ≡ at q.nums i *ℤ pos e.den)
AreAlike Int e q = e ≡ q

-- ---- values

term_alike : (a m n d e : ℤ) → m *ℤ e ≡ n *ℤ d → (a *ℤ m) *ℤ e ≡ (a *ℤ n) *ℤ d
term_alike a m n d e h =
    let x : (a *ℤ m) *ℤ e ≡ a *ℤ (m *ℤ e) = simp ring in
    let y : a *ℤ (n *ℤ d) ≡ (a *ℤ n) *ℤ d = simp ring in
    x ∙ ap (λ (z : ℤ). a *ℤ z) h ∙ y

sum_alike : (k l m n d e : ℤ) → k *ℤ e ≡ l *ℤ d → m *ℤ e ≡ n *ℤ d → (k +ℤ m) *ℤ e ≡ (l +ℤ n) *ℤ d
sum_alike k l m n d e h g =
    let x : (k +ℤ m) *ℤ e ≡ k *ℤ e +ℤ m *ℤ e = simp ring in
    let y : l *ℤ d +ℤ n *ℤ d ≡ (l +ℤ n) *ℤ d = simp ring in
    x ∙ ap₂ (λ (u w : ℤ). u +ℤ w) h g ∙ y

last_alike : (c d e : ℤ) → (c *ℤ d) *ℤ e ≡ (c *ℤ e) *ℤ d
last_alike c d e = simp ring

terms_alike : (ts : List (ℕ × ℤ)) (e q : Point) → ((i : ℕ) → at e.nums i *ℤ pos q.den ≡ at q.nums i *ℤ pos e.den) → dot_terms ts e.nums *ℤ pos q.den ≡ dot_terms ts q.nums *ℤ pos e.den
terms_alike [] e q h = omega (arith, ints)
terms_alike (t ∷ ts) e q h =
    sum_alike (t.1 *ℤ at e.nums t.0) (t.1 *ℤ at q.nums t.0) (dot_terms ts e.nums) (dot_terms ts q.nums) (pos e.den) (pos q.den)
    (term_alike t.1 (at e.nums t.0) (at q.nums t.0) (pos e.den) (pos q.den) (h t.0)) (terms_alike ts e q h)

dot_alike : (f : Form) (e q : Point) → ((i : ℕ) → at e.nums i *ℤ pos q.den ≡ at q.nums i *ℤ pos e.den) → dot f e *ℤ pos q.den ≡ dot f q *ℤ pos e.den
dot_alike f e q h =
    sum_alike (dot_terms f.terms e.nums) (dot_terms f.terms q.nums) (f.constant *ℤ pos e.den) (f.constant *ℤ pos q.den) (pos e.den) (pos q.den)
    (terms_alike f.terms e q h) (last_alike f.constant (pos e.den) (pos q.den))

-- ---- the truth of a matrix

le_alike : (a b d e : ℤ) → pos 0 <ℤ d → pos 0 <ℤ e → a *ℤ d ≡ b *ℤ e → int_le (pos 0) a ≡ int_le (pos 0) b
le_alike a b d e p q h = by (int_le (pos 0) a) (int_le (pos 0) b) refl refl
  where
    by : (s t : Bool) → int_le (pos 0) a ≡ s → int_le (pos 0) b ≡ t → s ≡ t
    by true true u w = refl
    by false false u w = refl
    by true false u w = let z = nonneg_across a b d e p q h (omega (arith, ints)) in absurd (omega (arith, ints))
    by false true u w = let z = nonneg_across b a e d q p (sym h) (omega (arith, ints)) in absurd (omega (arith, ints))

lt_alike : (a b d e : ℤ) → pos 0 <ℤ d → pos 0 <ℤ e → a *ℤ d ≡ b *ℤ e → int_lt (pos 0) a ≡ int_lt (pos 0) b
lt_alike a b d e p q h = by (int_lt (pos 0) a) (int_lt (pos 0) b) refl refl
  where
    by : (s t : Bool) → int_lt (pos 0) a ≡ s → int_lt (pos 0) b ≡ t → s ≡ t
    by true true u w = refl
    by false false u w = refl
    by true false u w = let z = pos_across a b d e p q h (omega (arith, ints)) in absurd (omega (arith, ints))
    by false true u w = let z = pos_across b a e d q p (sym h) (omega (arith, ints)) in absurd (omega (arith, ints))

over_zero : (d : ℕ) → 1 ≤ d → pos 0 <ℤ pos d
over_zero d o = omega (arith, ints)

holds_alike : (s : Sort) (l : Lit) (e q : Point) → IsOf s l → AreAlike s e q → holds_at l e ≡ holds_at l q
holds_alike Rat (AtLeast f) e q o a = le_alike (dot f e) (dot f q) (pos q.den) (pos e.den) (over_zero q.den a.1) (over_zero e.den a.0) (dot_alike f e q a.2)
holds_alike Rat (Above f) e q o a = lt_alike (dot f e) (dot f q) (pos q.den) (pos e.den) (over_zero q.den a.1) (over_zero e.den a.0) (dot_alike f e q a.2)
holds_alike Rat (Divides d f) e q o a = absurd o
holds_alike Rat (NotDivides d f) e q o a = absurd o
holds_alike Int l e q o a = ap (λ (p : Point). holds_at l p) a

mutual
  pub true_alike : (m : Matrix) (s : Sort) (n : ℕ) (e q : Point) → IsMatrix m s n → AreAlike s e q → true_at m e ≡ true_at m q
  true_alike (lit l) s n e q i a = holds_alike s l e q i.0 a
  true_alike (all ms) s n e q i a = all_alike ms s n e q i a
  true_alike (some ms) s n e q i a = some_alike ms s n e q i a

  all_alike : (ms : Matrices) (s : Sort) (n : ℕ) (e q : Point) → AreMatrices ms s n → AreAlike s e q → all_true ms e ≡ all_true ms q
  all_alike none s n e q i a = refl
  all_alike (more m ms) s n e q i a = ap₂ (λ (b c : Bool). b && c) (true_alike m s n e q i.0 a) (all_alike ms s n e q i.1 a)

  some_alike : (ms : Matrices) (s : Sort) (n : ℕ) (e q : Point) → AreMatrices ms s n → AreAlike s e q → some_true ms e ≡ some_true ms q
  some_alike none s n e q i a = refl
  some_alike (more m ms) s n e q i a = ap₂ (λ (b c : Bool). b || c) (true_alike m s n e q i.0 a) (some_alike ms s n e q i.1 a)

chosen_alike : (b c : Bool) (x y u v : List Lit) → b ≡ c → x ≡ u → y ≡ v → (if b then x else y) ≡ (if c then u else v)
chosen_alike b c x y u v h g k = subst (λ (t : Bool). (if b then x else y) ≡ (if t then u else v)) h (ap₂ (λ (w z : List Lit). if b then w else z) g k)

mutual
  pub implicant_alike : (m : Matrix) (s : Sort) (n : ℕ) (e q : Point) → IsMatrix m s n → AreAlike s e q → implicant m e ≡ implicant m q
  implicant_alike (lit l) s n e q i a = refl
  implicant_alike (all ms) s n e q i a = implicants_alike ms s n e q i a
  implicant_alike (some ms) s n e q i a = first_alike ms s n e q i a

  implicants_alike : (ms : Matrices) (s : Sort) (n : ℕ) (e q : Point) → AreMatrices ms s n → AreAlike s e q → implicants ms e ≡ implicants ms q
  implicants_alike none s n e q i a = refl
  implicants_alike (more m ms) s n e q i a = ap₂ (λ (c d : List Lit). with_new c d) (implicant_alike m s n e q i.0 a) (implicants_alike ms s n e q i.1 a)

  first_alike : (ms : Matrices) (s : Sort) (n : ℕ) (e q : Point) → AreMatrices ms s n → AreAlike s e q → first_implicant ms e ≡ first_implicant ms q
  first_alike none s n e q i a = refl
  first_alike (more m ms) s n e q i a =
      chosen_alike (true_at m e) (true_at m q) (implicant m e) (first_implicant ms e) (implicant m q) (first_implicant ms q)
      (true_alike m s n e q i.0 a) (implicant_alike m s n e q i.0 a) (first_alike ms s n e q i.1 a)

-- ---- a picked move

-- a common factor of both sides changes no order
lt_scaled : (a b c d k l : ℤ) → pos 0 <ℤ k → pos 0 <ℤ l → a *ℤ k ≡ c *ℤ l → b *ℤ k ≡ d *ℤ l → int_lt a b ≡ int_lt c d
lt_scaled a b c d k l p q h g = sym (zero_lt a b) ∙ lt_alike (b -ℤ a) (d -ℤ c) k l p q (minus_alike b d a c l k g h) ∙ zero_lt c d
  where
    zero_lt : (a b : ℤ) → int_lt (pos 0) (b -ℤ a) ≡ int_lt a b
    zero_lt a b = by (int_lt (pos 0) (b -ℤ a)) (int_lt a b) refl refl
      where
        by : (s t : Bool) → int_lt (pos 0) (b -ℤ a) ≡ s → int_lt a b ≡ t → s ≡ t
        by true true u w = refl
        by false false u w = refl
        by true false u w = absurd (omega (arith, ints))
        by false true u w = absurd (omega (arith, ints))

    minus_alike : (k l m n d e : ℤ) → k *ℤ e ≡ l *ℤ d → m *ℤ e ≡ n *ℤ d → (k -ℤ m) *ℤ e ≡ (l -ℤ n) *ℤ d
    minus_alike k l m n d e h g =
        let x : (k -ℤ m) *ℤ e ≡ k *ℤ e -ℤ m *ℤ e = simp ring (omega (arith, ints)) in
        let y : l *ℤ d -ℤ n *ℤ d ≡ (l -ℤ n) *ℤ d = simp ring (omega (arith, ints)) in
        x ∙ ap₂ (λ (u w : ℤ). u -ℤ w) h g ∙ y

factors : (a b m d e : ℤ) → a *ℤ e ≡ b *ℤ d → (a *ℤ (m *ℤ d)) *ℤ (e *ℤ e) ≡ (b *ℤ (m *ℤ e)) *ℤ (d *ℤ d)
factors a b m d e h =
    let x : (a *ℤ (m *ℤ d)) *ℤ (e *ℤ e) ≡ (a *ℤ e) *ℤ ((m *ℤ d) *ℤ e) = simp ring in
    let y : (b *ℤ d) *ℤ ((m *ℤ d) *ℤ e) ≡ (b *ℤ (m *ℤ e)) *ℤ (d *ℤ d) = simp ring in
    x ∙ ap (λ (z : ℤ). z *ℤ ((m *ℤ d) *ℤ e)) h ∙ y

over_product : (z : ℤ) (k d : ℕ) → z *ℤ pos (k * d) ≡ z *ℤ (pos k *ℤ pos d)
over_product z k d = let p : pos (k * d) ≡ pos k *ℤ pos d = omega (arith, ints) in ap (λ (w : ℤ). z *ℤ w) p

less_alike : (m n : Move) (e q : Point) → AreAlike Rat e q → is_less (move_value Rat m e) (move_value Rat n e) ≡ is_less (move_value Rat m q) (move_value Rat n q)
less_alike m n e q a =
    let E : ℤ = pos e.den in
    let Q : ℤ = pos q.den in
    lt_scaled (dot m.numer e *ℤ pos (n.div * e.den)) (dot n.numer e *ℤ pos (m.div * e.den)) (dot m.numer q *ℤ pos (n.div * q.den)) (dot n.numer q *ℤ pos (m.div * q.den)) (Q *ℤ Q) (E *ℤ E)
    (pos_mul Q Q (over_zero q.den a.1) (over_zero q.den a.1)) (pos_mul E E (over_zero e.den a.0) (over_zero e.den a.0))
    (ap (λ (z : ℤ). z *ℤ (Q *ℤ Q)) (over_product (dot m.numer e) n.div e.den) ∙ factors (dot m.numer e) (dot m.numer q) (pos n.div) E Q (dot_alike m.numer e q a.2) ∙ ap (λ (z : ℤ). z *ℤ (E *ℤ E)) (sym (over_product (dot m.numer q) n.div q.den)))
    (ap (λ (z : ℤ). z *ℤ (Q *ℤ Q)) (over_product (dot n.numer e) m.div e.den) ∙ factors (dot n.numer e) (dot n.numer q) (pos m.div) E Q (dot_alike n.numer e q a.2) ∙ ap (λ (z : ℤ). z *ℤ (E *ℤ E)) (sym (over_product (dot n.numer q) m.div q.den)))

greatest_with_alike : (m : Move) (ms : List Move) (e q : Point) → AreAlike Rat e q → greatest_with Rat e m ms ≡ greatest_with Rat q m ms
greatest_with_alike m [] e q a = refl
greatest_with_alike m (n ∷ ns) e q a =
    let b : Bool = is_less (move_value Rat m q) (move_value Rat n q) in
    ap (λ (c : Bool). greatest_with Rat e (if c then n else m) ns) (less_alike m n e q a) ∙ greatest_with_alike (if b then n else m) ns e q a

greatest_alike : (ms : List Move) (e q : Point) → AreAlike Rat e q → greatest Rat e ms ≡ greatest Rat q ms
greatest_alike [] e q a = refl
greatest_alike (m ∷ ms) e q a = ap Some (greatest_with_alike m ms e q a)

least_with_alike : (m : Move) (ms : List Move) (e q : Point) → AreAlike Rat e q → least_with Rat e m ms ≡ least_with Rat q m ms
least_with_alike m [] e q a = refl
least_with_alike m (n ∷ ns) e q a =
    let b : Bool = is_less (move_value Rat n q) (move_value Rat m q) in
    ap (λ (c : Bool). least_with Rat e (if c then n else m) ns) (less_alike n m e q a) ∙ least_with_alike (if b then n else m) ns e q a

least_alike : (ms : List Move) (e q : Point) → AreAlike Rat e q → least Rat e ms ≡ least Rat q ms
least_alike [] e q a = refl
least_alike (m ∷ ms) e q a = ap Some (least_with_alike m ms e q a)

pub pick_alike : (s : Sort) (x : ℕ) (c : List Lit) (e q : Point) → AreAlike s e q → pick s x c e ≡ pick s x c q
pick_alike Rat x c e q a = ap₂ (λ (low up : Option Move). lowest Rat (between low up)) (greatest_alike (lowers Rat x c) e q a) (least_alike (uppers x c) e q a)
pick_alike Int x c e q a = ap (λ (p : Point). pick Int x c p) a

pub pick_numbers_alike : (s : Sort) (x : ℕ) (c : List Lit) (e q : Point) → AreAlike s e q → pick_numbers s x c e ≡ pick_numbers s x c q
pick_numbers_alike Rat x c e q a = ap (λ (m : Move). move_numbers Rat m) (pick_alike Rat x c e q a)
pick_numbers_alike Int x c e q a = ap (λ (p : Point). pick_numbers Int x c p) a

-- ---- the values of a path

at_past : (xs : List ℤ) (i : ℕ) → length xs ≤ i → at xs i ≡ pos 0
at_past [] i h = refl
at_past (x ∷ xs) zero h = absurd (omega arith)
at_past (x ∷ xs) (suc i) h = at_past xs i (omega arith)

at_mapped : (g : ℕ → ℤ) (names : List ℕ) (i : ℕ) → i < length names → at (map g names) i ≡ g (get_or names i 0)
at_mapped g [] i h = absurd (omega arith)
at_mapped g (v ∷ names) zero h = refl
at_mapped g (v ∷ names) (suc i) h = at_mapped g names i (omega arith)

same_numbers : (xs ys : List ℤ) → length xs ≡ length ys → ((i : ℕ) → i < length xs → at xs i ≡ at ys i) → xs ≡ ys
same_numbers [] [] l h = refl
same_numbers [] (y ∷ ys) l h = absurd (omega arith)
same_numbers (x ∷ xs) [] l h = absurd (omega arith)
same_numbers (x ∷ xs) (y ∷ ys) l h = ap₂ (λ (z : ℤ) (zs : List ℤ). z ∷ zs) (h 0 (omega arith)) (same_numbers xs ys (omega arith) (λ i k. h (suc i) (omega arith)))

same_point : (e q : Point) → e.den ≡ q.den → e.nums ≡ q.nums → e ≡ q
same_point e q h g = ap₂ (λ (d : ℕ) (ns : List ℤ). let p : Point = record { den = d; nums = ns } in p) h g

pub path_length : (p : Point) (names : List ℕ) → length (at_names names p).nums ≡ length names
path_length p names = length-map names (λ (i : ℕ). at p.nums i)

both_zero : (xs ys : List ℤ) (i d e n : ℕ) → length xs ≡ n → length ys ≡ n → n ≤ i → at xs i *ℤ pos d ≡ at ys i *ℤ pos e
both_zero xs ys i d e n k l h =
    ap (λ (z : ℤ). z *ℤ pos d) (at_past xs i (omega arith)) ∙ (let z : pos 0 *ℤ pos d ≡ pos 0 *ℤ pos e = omega (arith, ints) in z) ∙ ap (λ (z : ℤ). z *ℤ pos e) (sym (at_past ys i (omega arith)))

pub alike_here : (s : Sort) (p e : Point) (names : List ℕ) → Here s p e names → AreAlike s e (at_names names p)
alike_here Rat p e names h = (h.path_point, h.whole_point, λ i. by i)
  where
    by : (i : ℕ) → at e.nums i *ℤ pos p.den ≡ at (at_names names p).nums i *ℤ pos e.den
    by i =
        elim (cases_lt i (length names)) [
          | inl l ↦ h.agree.same i l ∙ ap (λ (z : ℤ). z *ℤ pos e.den) (sym (at_mapped (λ (j : ℕ). at p.nums j) names i l))
          | inr l ↦ both_zero e.nums (at_names names p).nums i p.den e.den (length names) h.long (path_length p names) l
        ]
alike_here Int p e names h =
    same_point e (at_names names p) (h.path_point ∙ sym h.whole_point)
    (same_numbers e.nums (at_names names p).nums (h.long ∙ sym (path_length p names)) (λ i l. by i (omega (arith, h.long))))
  where
    by : (i : ℕ) → i < length names → at e.nums i ≡ at (at_names names p).nums i
    by i l =
        sym (one_times (at e.nums i) p.den h.whole_point) ∙ h.agree.same i l ∙ one_times (at p.nums (get_or names i 0)) e.den h.path_point ∙ sym (at_mapped (λ (j : ℕ). at p.nums j) names i l)
