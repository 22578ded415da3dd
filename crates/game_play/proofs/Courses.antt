-- Courses, part by part: what is left of a course behind a part that does not decide, and where one ends.
use Rattle.std.specs.Prelude.{ℕ, zero, suc, ◌+◌, ◌<◌, ◌≤◌, ◌≡◌, ℤ, Bool, true, false, ◌&&◌, ◌||◌, if◌then◌else◌, Some, None, List, [], ◌∷◌, drop, get_or, length}
use Rattle.std.proofs.Common.{arith, ap, ◌∙◌, sym, subst}
use Rattle.std.proofs.lemmas.List.{at_drop_more, at_drop_all}
use Rattle.lin_term.specs.declared.Sort.{Sort}
use Rattle.lin_term.specs.Linear.{Value}
use Rattle.lin_term.specs.Wide.{first_past}
use Rattle.lin_term.proofs.Capping.{past-append, past-append_some}
use Rattle.dom_core.specs.declared.Matrix.{Matrix as Written}
use Rattle.dom_core.specs.Game.{Matrix, Matrices, lit, all, some, none, more, IsMatrix, AreMatrices}
use Rattle.dom_core.specs.View.{matrix_of, matrices_of}
use Rattle.game_play.specs.Course.{Course, IsOver, AreOver, after, or_else, and_then, tested, all_tested, some_tested}

-- no number is past the cap, and the answer is this
abbrev pub Ends : Course → Bool → Type 0
Ends c b = (first_past c.numbers ≡ None) × (b ≡ c.wins)

-- the first number past the cap is this
abbrev pub Stops : Course → ℤ → Type 0
Stops c z = first_past c.numbers ≡ Some z

-- the same answer, and the same first number past the cap
abbrev pub Alike : Course → Course → Type 0
Alike c d = (first_past c.numbers ≡ first_past d.numbers) × (c.wins ≡ d.wins)

pub alike_ends : (c d : Course) (b : Bool) → Alike c d → Ends c b → Ends d b
alike_ends c d b a h = (sym a.0 ∙ h.0, h.1 ∙ a.1)

pub alike_stops : (c d : Course) (z : ℤ) → Alike c d → Stops c z → Stops d z
alike_stops c d z a h = sym a.0 ∙ h

-- ---- numbers before

pub after_ends : (zs : List ℤ) (c : Course) (b : Bool) → first_past zs ≡ None → Ends c b → Ends (after zs c) b
after_ends zs c b n h = (past-append zs c.numbers n ∙ h.0, h.1)

pub after_stops : (zs : List ℤ) (c : Course) (z : ℤ) → first_past zs ≡ None → Stops c z → Stops (after zs c) z
after_stops zs c z n h = past-append zs c.numbers n ∙ h

pub before_stops : (zs : List ℤ) (c : Course) (z : ℤ) → first_past zs ≡ Some z → Stops (after zs c) z
before_stops zs c z h = past-append_some zs c.numbers z h

-- ---- two parts

pub and_stops : (a b : Course) (z : ℤ) → Stops a z → Stops (and_then a b) z
and_stops a b z h = past-append_some a.numbers (if a.wins then b.numbers else []) z h

pub and_ends : (a b : Course) → Ends a false → Ends (and_then a b) false
and_ends a b h =
    (past-append a.numbers (if a.wins then b.numbers else []) h.0 ∙ ap (λ (w : Bool). first_past (if w then b.numbers else [])) (sym h.1), ap (λ (w : Bool). w && b.wins) h.1)

pub and_on : (a b : Course) → Ends a true → Alike b (and_then a b)
and_on a b h =
    (sym (past-append a.numbers (if a.wins then b.numbers else []) h.0 ∙ ap (λ (w : Bool). first_past (if w then b.numbers else [])) (sym h.1)), ap (λ (w : Bool). w && b.wins) h.1)

pub or_stops : (a b : Course) (z : ℤ) → Stops a z → Stops (or_else a b) z
or_stops a b z h = past-append_some a.numbers (if a.wins then [] else b.numbers) z h

pub or_ends : (a b : Course) → Ends a true → Ends (or_else a b) true
or_ends a b h =
    (past-append a.numbers (if a.wins then [] else b.numbers) h.0 ∙ ap (λ (w : Bool). first_past (if w then [] else b.numbers)) (sym h.1), ap (λ (w : Bool). w || b.wins) h.1)

pub or_on : (a b : Course) → Ends a false → Alike b (or_else a b)
or_on a b h =
    (sym (past-append a.numbers (if a.wins then [] else b.numbers) h.0 ∙ ap (λ (w : Bool). first_past (if w then [] else b.numbers)) (sym h.1)), ap (λ (w : Bool). w || b.wins) h.1)

pub alike_then : (a b c : Course) → Alike a b → Alike b c → Alike a c
alike_then a b c h k = (h.0 ∙ k.0, h.1 ∙ k.1)

-- ---- the parts of a matrix

pub part_is : (ts : List Written) (n i : ℕ) (t : Written) → i < length ts → t ≡ get_or ts i t → AreOver (matrices_of ts) n → IsOver (matrix_of t) n
part_is ts n i t h e k = subst (λ (u : Written). IsOver (matrix_of u) n) (sym e) (at ts i t h k)
  where
    at : (ts : List Written) (i : ℕ) (d : Written) → i < length ts → AreOver (matrices_of ts) n → IsOver (matrix_of (get_or ts i d)) n
    at [] i d h k = absurd (omega arith)
    at (u ∷ ts) zero d h k = k.0
    at (u ∷ ts) (suc i) d h k = at ts i d (omega arith) k.1

mutual
  pub over_from : (m : Matrix) (s : Sort) (n : ℕ) → IsMatrix m s n → IsOver m n
  over_from (lit l) s n h = h.1
  over_from (all ms) s n h = each_over ms s n h
  over_from (some ms) s n h = each_over ms s n h

  each_over : (ms : Matrices) (s : Sort) (n : ℕ) → AreMatrices ms s n → AreOver ms n
  each_over none s n h = tt
  each_over (more m ms) s n h = (over_from m s n h.0, each_over ms s n h.1)

pub parts_at : (ts : List Written) (i : ℕ) (t : Written) → i < length ts → t ≡ get_or ts i t → matrices_of (drop i ts) ≡ more (matrix_of t) (matrices_of (drop (i + 1) ts))
parts_at ts i t l e = at_drop_more matrices_of ts i t l ∙ ap (λ (u : Written). more (matrix_of u) (matrices_of (drop (i + 1) ts))) (sym e)

abbrev pub AllFrom : List Written → List Value → ℕ → Type 0
AllFrom ts vs i = Alike (all_tested (matrices_of (drop i ts)) vs) (all_tested (matrices_of ts) vs)

abbrev pub SomeFrom : List Written → List Value → ℕ → Type 0
SomeFrom ts vs i = Alike (some_tested (matrices_of (drop i ts)) vs) (some_tested (matrices_of ts) vs)

all_here : (ts : List Written) (vs : List Value) (i : ℕ) (t : Written) → i < length ts → t ≡ get_or ts i t → AllFrom ts vs i
    → Alike (and_then (tested (matrix_of t) vs) (all_tested (matrices_of (drop (i + 1) ts)) vs)) (all_tested (matrices_of ts) vs)
all_here ts vs i t l e a = subst (λ (ms : Matrices). Alike (all_tested ms vs) (all_tested (matrices_of ts) vs)) (parts_at ts i t l e) a

some_here : (ts : List Written) (vs : List Value) (i : ℕ) (t : Written) → i < length ts → t ≡ get_or ts i t → SomeFrom ts vs i
    → Alike (or_else (tested (matrix_of t) vs) (some_tested (matrices_of (drop (i + 1) ts)) vs)) (some_tested (matrices_of ts) vs)
some_here ts vs i t l e a = subst (λ (ms : Matrices). Alike (some_tested ms vs) (some_tested (matrices_of ts) vs)) (parts_at ts i t l e) a

pub all_stops : (ts : List Written) (vs : List Value) (i : ℕ) (t : Written) (z : ℤ) → i < length ts → t ≡ get_or ts i t → AllFrom ts vs i → Stops (tested (matrix_of t) vs) z → Stops (all_tested (matrices_of ts) vs) z
all_stops ts vs i t z l e a h =
    let c = tested (matrix_of t) vs in
    let d = all_tested (matrices_of (drop (i + 1) ts)) vs in
    alike_stops (and_then c d) (all_tested (matrices_of ts) vs) z (all_here ts vs i t l e a) (and_stops c d z h)

pub all_ends : (ts : List Written) (vs : List Value) (i : ℕ) (t : Written) (b : Bool) → i < length ts → t ≡ get_or ts i t → AllFrom ts vs i → b ≡ false → Ends (tested (matrix_of t) vs) b → Ends (all_tested (matrices_of ts) vs) false
all_ends ts vs i t b l e a f h =
    let c = tested (matrix_of t) vs in
    let d = all_tested (matrices_of (drop (i + 1) ts)) vs in
    alike_ends (and_then c d) (all_tested (matrices_of ts) vs) false (all_here ts vs i t l e a) (and_ends c d (subst (Ends c) f h))

pub all_more : (ts : List Written) (vs : List Value) (i : ℕ) (t : Written) (b : Bool) → i < length ts → t ≡ get_or ts i t → AllFrom ts vs i → b ≡ true → Ends (tested (matrix_of t) vs) b → AllFrom ts vs (i + 1)
all_more ts vs i t b l e a f h =
    let c = tested (matrix_of t) vs in
    let d = all_tested (matrices_of (drop (i + 1) ts)) vs in
    alike_then d (and_then c d) (all_tested (matrices_of ts) vs) (and_on c d (subst (Ends c) f h)) (all_here ts vs i t l e a)

pub all_done : (ts : List Written) (vs : List Value) (i : ℕ) → length ts ≤ i → AllFrom ts vs i → Ends (all_tested (matrices_of ts) vs) true
all_done ts vs i l a =
    let h = subst (λ (ms : Matrices). Alike (all_tested ms vs) (all_tested (matrices_of ts) vs)) (at_drop_all matrices_of ts i l) a in (sym h.0, h.1)

pub some_stops : (ts : List Written) (vs : List Value) (i : ℕ) (t : Written) (z : ℤ) → i < length ts → t ≡ get_or ts i t → SomeFrom ts vs i → Stops (tested (matrix_of t) vs) z → Stops (some_tested (matrices_of ts) vs) z
some_stops ts vs i t z l e a h =
    let c = tested (matrix_of t) vs in
    let d = some_tested (matrices_of (drop (i + 1) ts)) vs in
    alike_stops (or_else c d) (some_tested (matrices_of ts) vs) z (some_here ts vs i t l e a) (or_stops c d z h)

pub some_ends : (ts : List Written) (vs : List Value) (i : ℕ) (t : Written) (b : Bool) → i < length ts → t ≡ get_or ts i t → SomeFrom ts vs i → b ≡ true → Ends (tested (matrix_of t) vs) b → Ends (some_tested (matrices_of ts) vs) true
some_ends ts vs i t b l e a f h =
    let c = tested (matrix_of t) vs in
    let d = some_tested (matrices_of (drop (i + 1) ts)) vs in
    alike_ends (or_else c d) (some_tested (matrices_of ts) vs) true (some_here ts vs i t l e a) (or_ends c d (subst (Ends c) f h))

pub some_more : (ts : List Written) (vs : List Value) (i : ℕ) (t : Written) (b : Bool) → i < length ts → t ≡ get_or ts i t → SomeFrom ts vs i → b ≡ false → Ends (tested (matrix_of t) vs) b → SomeFrom ts vs (i + 1)
some_more ts vs i t b l e a f h =
    let c = tested (matrix_of t) vs in
    let d = some_tested (matrices_of (drop (i + 1) ts)) vs in
    alike_then d (or_else c d) (some_tested (matrices_of ts) vs) (or_on c d (subst (Ends c) f h)) (some_here ts vs i t l e a)

pub some_done : (ts : List Written) (vs : List Value) (i : ℕ) → length ts ≤ i → SomeFrom ts vs i → Ends (some_tested (matrices_of ts) vs) false
some_done ts vs i l a =
    let h = subst (λ (ms : Matrices). Alike (some_tested ms vs) (some_tested (matrices_of ts) vs)) (at_drop_all matrices_of ts i l) a in (sym h.0, h.1)
