-- Literals that are gathered from the parts of a matrix, one part after the other.
use Rattle.std.specs.Prelude.{ℕ, ◌+◌, ◌<◌, ◌≤◌, ◌≡◌, Bool, true, false, ◌&&◌, ◌||◌, if◌then◌else◌, List, [], ◌∷◌, ◌++◌, take, drop, get_or, length}
use Rattle.std.proofs.Common.{arith, ap, ap₂, ◌∙◌, sym, subst, refl, append_assoc, append-nil, length-append}
use Rattle.std.proofs.lemmas.List.{at_drop_all}
use Rattle.lin_term.specs.declared.Lit.{Lit}
use Rattle.lin_term.specs.Linear.{Point}
use Rattle.lin_term.specs.Literal.{Holds}
use Rattle.dom_core.specs.declared.Matrix.{Matrix as Written}
use Rattle.dom_core.specs.Game.{Matrices, none}
use Rattle.dom_core.specs.View.{matrix_of, matrices_of}
use Rattle.game_play.proofs.Courses.{parts_at}
use Rattle.term_select.specs.Guided.{holds_at, true_at, all_true, some_true}
use Rattle.term_select.specs.Gathered.{literals, all_literals, some_literals, StartsWith, Gathers}
use Rattle.term_select.proofs.Implicants.{now_holds, now_fails}

pub starts_same : (old : List Lit) → StartsWith old old
starts_same old = record { rest = []; is = sym (append-nil old) }

pub starts_then : (a b c : List Lit) → StartsWith a b → StartsWith b c → StartsWith a c
starts_then a b c h k = record { rest = h.rest ++ k.rest; is = k.is ∙ ap (λ (ls : List Lit). ls ++ k.rest) h.is ∙ append_assoc a h.rest k.rest }

pub starts_short : (old new : List Lit) → StartsWith old new → length old ≤ length new
starts_short old new h = let e = ap length h.is in let l = length-append old h.rest in omega arith

take_first : (a b : List Lit) → take (length a) (a ++ b) ≡ a
take_first [] b = refl
take_first (l ∷ a) b = ap (λ (ls : List Lit). l ∷ ls) (take_first a b)

-- cut back to the length of the old ones
pub starts_cut : (old new : List Lit) (n : ℕ) → n ≡ length old → StartsWith old new → take n new ≡ old
starts_cut old new n e h = ap₂ (λ (k : ℕ) (ls : List Lit). take k ls) e h.is ∙ take_first old h.rest

-- ---- all parts

-- the parts so far are true and their literals were added
pub record AllGathered (ts : List Written) (p : Point) (old out : List Lit) (i : ℕ) : Type 0 where
  pub truth : all_true (matrices_of (drop i ts)) p ≡ all_true (matrices_of ts) p
  pub found : out ++ all_literals (matrices_of (drop i ts)) p ≡ old ++ all_literals (matrices_of ts) p
  pub starts : StartsWith old out

pub all_first : (ts : List Written) (p : Point) (old : List Lit) → AllGathered ts p old old 0
all_first ts p old = record { truth = refl; found = refl; starts = starts_same old }

all_head : (ts : List Written) (p : Point) (i : ℕ) (t : Written) → i < length ts → t ≡ get_or ts i t → all_true (matrices_of (drop i ts)) p ≡ (true_at (matrix_of t) p && all_true (matrices_of (drop (i + 1) ts)) p)
all_head ts p i t l e = ap (λ (ms : Matrices). all_true ms p) (parts_at ts i t l e)

and_false : (b c : Bool) → b ≡ false → (b && c) ≡ false
and_false b c e = ap (λ (d : Bool). d && c) e

and_true : (b c : Bool) → b ≡ true → (b && c) ≡ c
and_true b c e = ap (λ (d : Bool). d && c) e

-- a part is not true
pub all_stop : (ts : List Written) (p : Point) (old out new : List Lit) (i : ℕ) (t : Written) (b : Bool) → i < length ts → t ≡ get_or ts i t → AllGathered ts p old out i → b ≡ false → b ≡ true_at (matrix_of t) p → Gathers b out new (literals (matrix_of t) p)
    → (false ≡ all_true (matrices_of ts) p) × Gathers false old new (all_literals (matrices_of ts) p)
all_stop ts p old out new i t b l e a f h g = (
  sym (sym a.truth ∙ all_head ts p i t l e ∙ and_false (true_at (matrix_of t) p) (all_true (matrices_of (drop (i + 1) ts)) p) (sym h ∙ f)),
  starts_then old out new a.starts (subst (λ (c : Bool). Gathers c out new (literals (matrix_of t) p)) f g),
)

-- a part is true
pub all_more : (ts : List Written) (p : Point) (old out new : List Lit) (i : ℕ) (t : Written) (b : Bool) → i < length ts → t ≡ get_or ts i t → AllGathered ts p old out i → b ≡ true → b ≡ true_at (matrix_of t) p → Gathers b out new (literals (matrix_of t) p) → AllGathered ts p old new (i + 1)
all_more ts p old out new i t b l e a f h g =
    let ls = literals (matrix_of t) p in
    let rest = matrices_of (drop (i + 1) ts) in
    let n : new ≡ out ++ ls = subst (λ (c : Bool). Gathers c out new ls) f g in
    record {
      truth = sym (all_head ts p i t l e ∙ and_true (true_at (matrix_of t) p) (all_true rest p) (sym h ∙ f)) ∙ a.truth;
      found = ap (λ (ms : List Lit). ms ++ all_literals rest p) n ∙ append_assoc out ls (all_literals rest p)
          ∙ ap (λ (ms : Matrices). out ++ all_literals ms p) (sym (parts_at ts i t l e)) ∙ a.found;
      starts = starts_then old out new a.starts (record { rest = ls; is = n });
    }

none_left : (ts : List Written) (i : ℕ) → length ts ≤ i → matrices_of (drop i ts) ≡ none
none_left ts i l = at_drop_all matrices_of ts i l

pub all_done : (ts : List Written) (p : Point) (old out : List Lit) (i : ℕ) → length ts ≤ i → AllGathered ts p old out i → (true ≡ all_true (matrices_of ts) p) × Gathers true old out (all_literals (matrices_of ts) p)
all_done ts p old out i l a =
    let n = none_left ts i l in (
      ap (λ (ms : Matrices). all_true ms p) (sym n) ∙ a.truth,
      sym (append-nil out) ∙ ap (λ (ms : Matrices). out ++ all_literals ms p) (sym n) ∙ a.found,
    )

-- ---- the first part that is true

-- none of the parts so far is true, and nothing was added
pub record NoneGathered (ts : List Written) (p : Point) (old out : List Lit) (i : ℕ) : Type 0 where
  pub truth : some_true (matrices_of (drop i ts)) p ≡ some_true (matrices_of ts) p
  pub found : some_literals (matrices_of (drop i ts)) p ≡ some_literals (matrices_of ts) p
  pub same : out ≡ old

pub none_first : (ts : List Written) (p : Point) (old : List Lit) → NoneGathered ts p old old 0
none_first ts p old = record { truth = refl; found = refl; same = refl }

some_head : (ts : List Written) (p : Point) (i : ℕ) (t : Written) → i < length ts → t ≡ get_or ts i t → some_true (matrices_of (drop i ts)) p ≡ (true_at (matrix_of t) p || some_true (matrices_of (drop (i + 1) ts)) p)
some_head ts p i t l e = ap (λ (ms : Matrices). some_true ms p) (parts_at ts i t l e)

literals_head : (ts : List Written) (p : Point) (i : ℕ) (t : Written) → i < length ts → t ≡ get_or ts i t → some_literals (matrices_of (drop i ts)) p ≡ (if true_at (matrix_of t) p then literals (matrix_of t) p else some_literals (matrices_of (drop (i + 1) ts)) p)
literals_head ts p i t l e = ap (λ (ms : Matrices). some_literals ms p) (parts_at ts i t l e)

-- a part is true
pub first_found : (ts : List Written) (p : Point) (old out new : List Lit) (i : ℕ) (t : Written) (b : Bool) → i < length ts → t ≡ get_or ts i t → NoneGathered ts p old out i → b ≡ true → b ≡ true_at (matrix_of t) p → Gathers b out new (literals (matrix_of t) p)
    → (true ≡ some_true (matrices_of ts) p) × Gathers true old new (some_literals (matrices_of ts) p)
first_found ts p old out new i t b l e a f h g =
    let ls = literals (matrix_of t) p in
    let rest = matrices_of (drop (i + 1) ts) in
    let n : new ≡ out ++ ls = subst (λ (c : Bool). Gathers c out new ls) f g in
    let u : true_at (matrix_of t) p ≡ true = sym h ∙ f in (
      sym (sym a.truth ∙ some_head ts p i t l e ∙ ap (λ (c : Bool). c || some_true rest p) u),
      n ∙ ap₂ (λ (ms ns : List Lit). ms ++ ns) a.same (sym (ap (λ (c : Bool). if c then ls else some_literals rest p) u) ∙ sym (literals_head ts p i t l e) ∙ a.found),
    )

-- a part is not true, and what it added was taken off again
pub none_more : (ts : List Written) (p : Point) (old out new back : List Lit) (n i : ℕ) (t : Written) (b : Bool) → i < length ts → t ≡ get_or ts i t → NoneGathered ts p old out i → b ≡ false → b ≡ true_at (matrix_of t) p → Gathers b out new (literals (matrix_of t) p) → n ≡ length old → back ≡ take n new → NoneGathered ts p old back (i + 1)
none_more ts p old out new back n i t b l e a f h g k c =
    let rest = matrices_of (drop (i + 1) ts) in
    let u : true_at (matrix_of t) p ≡ false = sym h ∙ f in
    let s : StartsWith old new = subst (λ (o : List Lit). StartsWith o new) a.same (subst (λ (d : Bool). Gathers d out new (literals (matrix_of t) p)) f g) in
    record {
      truth = sym (some_head ts p i t l e ∙ ap (λ (d : Bool). d || some_true rest p) u) ∙ a.truth;
      found = sym (literals_head ts p i t l e ∙ ap (λ (d : Bool). if d then literals (matrix_of t) p else some_literals rest p) u) ∙ a.found;
      same = c ∙ starts_cut old new n k s;
    }

pub none_done : (ts : List Written) (p : Point) (old out : List Lit) (i : ℕ) → length ts ≤ i → NoneGathered ts p old out i → (false ≡ some_true (matrices_of ts) p) × Gathers false old out (some_literals (matrices_of ts) p)
none_done ts p old out i l a =
    (ap (λ (ms : Matrices). some_true ms p) (sym (none_left ts i l)) ∙ a.truth, subst (λ (o : List Lit). StartsWith o out) a.same (starts_same out))

-- ---- a literal

pub literal_false : (l : Lit) (p : Point) (b : Bool) → (b ≡ true → Holds l p) × (Holds l p → b ≡ true) → b ≡ false → false ≡ holds_at l p
literal_false l p b d e = by (holds_at l p) refl
  where
    by : (c : Bool) → holds_at l p ≡ c → false ≡ holds_at l p
    by true u = let k = d.1 (now_holds l p u) in absurd (cc)
    by false u = sym u

pub literal_true : (l : Lit) (p : Point) (b : Bool) → (b ≡ true → Holds l p) × (Holds l p → b ≡ true) → b ≡ true → true ≡ holds_at l p
literal_true l p b d e = by (holds_at l p) refl
  where
    by : (c : Bool) → holds_at l p ≡ c → true ≡ holds_at l p
    by true u = sym u
    by false u = absurd (now_fails l p u (d.0 e))
