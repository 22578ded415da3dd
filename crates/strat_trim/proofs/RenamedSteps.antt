-- A line that needs nothing but the facts, at other names: it meets its rule as before, and leaves the same contexts.
use Rattle.std.specs.Prelude.{ℕ, zero, suc, ◌<◌, ◌≡◌, ℤ, pos, nat_abs, Bool, true, false, ◌&&◌, ◌||◌, not, nat_lt, nat_le, nat_eq, int_le, is_none, Option, Some, option_and_then, option_map, slice_get, List, [], ◌∷◌, ◌++◌, map, length, get_or, ⊤}
use Rattle.std.specs.List.{list_all}
use Rattle.std.proofs.Common.{ap, ap₂, ◌∙◌, sym, subst, refl}
use Rattle.std.proofs.lemmas.Bool.{and_parts, lt-ltb}
use Rattle.std.proofs.lemmas.List.{map-append, length-map}
use Rattle.lin_term.specs.Form.{Form}
use Rattle.lin_term.specs.declared.Sort.{Sort}
use Rattle.lin_term.specs.declared.Sort.TheVariants.{Rat, Int}
use Rattle.lin_term.specs.declared.Lit.{Lit}
use Rattle.lin_term.specs.declared.Lit.TheVariants.{AtLeast, Above, Divides, NotDivides}
use Rattle.lin_term.specs.Linear.{rename, rename_terms, plus, times}
use Rattle.lin_term.specs.Literal.{form_of, rename_lit, prim, neg, divisor}
use Rattle.lin_term.specs.Sum.{sum_of, is_strict, inequality_with}
use Rattle.lin_term.specs.Truth.{truth_of}
use Rattle.lin_term.specs.Same.{same_literal}
use Rattle.lin_term.specs.Wide.{first_past, lit_numbers}
use Rattle.lin_term.proofs.Comparing.{literal_decides}
use Rattle.dom_core.specs.Game.{Matrix, lit, all, some, Matrices, none, more, rename_matrix, rename_matrices}
use Rattle.dom_core.specs.Elimination.{cooper, elimination_numbers}
use Rattle.cube_rules.specs.declared.Step.{Step}
use Rattle.cube_rules.specs.declared.Step.TheVariants.{Path, Def, Part, Cases, Sum, Split, Cube, Least, Learn, False}
use Rattle.cube_rules.specs.Context.{Context, with_fact, cube_context}
use Rattle.cube_rules.specs.Facts.{guard, child, count, and_child, or_children, literal_of, literal_at, literals_at, all_literals, is_inequality, is_of, is_primitive, all_below}
use Rattle.cube_rules.specs.Lines.{goes_on, each_child, cases_line, is_sum, sum_line, is_split, split_line, is_learn, leaves, either_of, learn_line, cube_line, is_int, is_least, least_cases, least_line, is_false, false_line, cube_step}
use Rattle.cube_rules.proofs.Comparing.{primitive_is}
use Rattle.cube_rules.proofs.Sound.{guard_some, map_some, then_some, some_same}
use Rattle.strat_trim.specs.Renamed.{rename_step}
use Rattle.strat_trim.proofs.RenamedForms.{Keeps, Within, LitWithin, within_plus, within_times, within_prim, within_neg, plus_renamed, times_renamed, prim_renamed, neg_renamed, numbers_renamed, divisor_of_renamed, truth_renamed}
use Rattle.strat_trim.proofs.RenamedCases.{CubeWithin, CubesWithin, rename_cube, rename_cubes, form_renamed, cooper_renamed, within_cooper, elimination_numbers_renamed}

-- ---- matrices and contexts

abbrev mutual
  pub MatrixWithin : Matrix → (ℕ → Type 0) → Type 0
  MatrixWithin (lit l) K = LitWithin K l
  MatrixWithin (all ms) K = MatricesWithin ms K
  MatrixWithin (some ms) K = MatricesWithin ms K

  pub MatricesWithin : Matrices → (ℕ → Type 0) → Type 0
  MatricesWithin none K = ⊤
  MatricesWithin (more m ms) K = MatrixWithin m K × MatricesWithin ms K

abbrev pub FactsWithin : (ℕ → Type 0) → List Matrix → Type 0
FactsWithin K [] = ⊤
FactsWithin K (m ∷ ms) = MatrixWithin m K × FactsWithin K ms

abbrev pub rename_facts : List ℕ → List Matrix → List Matrix
rename_facts names ms = map (λ m. rename_matrix m names) ms

abbrev pub rename_context : List ℕ → Context → Context
rename_context names c = record { bare = c.bare; facts = rename_facts names c.facts }

abbrev pub rename_contexts : List ℕ → List Context → List Context
rename_contexts names cs = map (rename_context names) cs

abbrev pub ContextsWithin : (ℕ → Type 0) → List Context → Type 0
ContextsWithin K [] = ⊤
ContextsWithin K (c ∷ cs) = FactsWithin K c.facts × ContextsWithin K cs

pub facts_push : (K : ℕ → Type 0) (ms : List Matrix) (m : Matrix) → FactsWithin K ms → MatrixWithin m K → FactsWithin K (ms ++ m ∷ [])
facts_push K [] m w v = (v, tt)
facts_push K (n ∷ ms) m w v = (w.0, facts_push K ms m w.1 v)

facts_append : (K : ℕ → Type 0) (ms ns : List Matrix) → FactsWithin K ms → FactsWithin K ns → FactsWithin K (ms ++ ns)
facts_append K [] ns w v = v
facts_append K (m ∷ ms) ns w v = (w.0, facts_append K ms ns w.1 v)

facts_get : (K : ℕ → Type 0) (ms : List Matrix) (i : ℕ) (m : Matrix) → FactsWithin K ms → slice_get ms i ≡ Some m → MatrixWithin m K
facts_get K [] i m w e = absurd (cc)
facts_get K (n ∷ ms) zero m w e = subst (λ (x : Matrix). MatrixWithin x K) (some_same n m e) w.0
facts_get K (n ∷ ms) (suc i) m w e = facts_get K ms i m w.1 e

renamed_get : (names : List ℕ) (ms : List Matrix) (i : ℕ) (m : Matrix) → slice_get ms i ≡ Some m → slice_get (rename_facts names ms) i ≡ Some (rename_matrix m names)
renamed_get names [] i m e = absurd (cc)
renamed_get names (n ∷ ms) zero m e = ap (λ (x : Matrix). Some (rename_matrix x names)) (some_same n m e)
renamed_get names (n ∷ ms) (suc i) m e = renamed_get names ms i m e

pub push_renamed : (names : List ℕ) (c : Context) (m : Matrix) → with_fact (rename_context names c) (rename_matrix m names) ≡ rename_context names (with_fact c m)
push_renamed names c m =
    ap (λ (fs : List Matrix). let x : Context = record { bare = c.bare; facts = fs } in x) (sym (map-append (λ n. rename_matrix n names) c.facts (m ∷ [])))

-- what a line at other names leaves
pub record Same (names : List ℕ) (K : ℕ → Type 0) (o : Option (List Context)) (ks : List Context) : Type 0 where
  pub leaves : o ≡ Some (rename_contexts names ks)
  pub within : ContextsWithin K ks

pub goes_renamed : (names : List ℕ) (K : ℕ → Type 0) (c : Context) (m : Matrix) (ks : List Context) → FactsWithin K c.facts → MatrixWithin m K → goes_on c m ≡ ks → Same names K (Some (goes_on (rename_context names c) (rename_matrix m names))) ks
goes_renamed names K c m ks w v e =
    subst (λ (x : List Context). Same names K (Some (goes_on (rename_context names c) (rename_matrix m names))) x) e (record {
      leaves = ap (λ (x : Context). Some (x ∷ [])) (push_renamed names c m);
      within = (facts_push K c.facts m w v, tt);
    })

-- ---- parts and cases

child_renamed : (names : List ℕ) (K : ℕ → Type 0) (ms : Matrices) (i : ℕ) (m : Matrix) → MatricesWithin ms K → child ms i ≡ Some m → (child (rename_matrices ms names) i ≡ Some (rename_matrix m names)) × MatrixWithin m K
child_renamed names K none i m w e = absurd (cc)
child_renamed names K (more n ms) zero m w e =
    (ap (λ (x : Matrix). Some (rename_matrix x names)) (some_same n m e), subst (λ (x : Matrix). MatrixWithin x K) (some_same n m e) w.0)
child_renamed names K (more n ms) (suc i) m w e = child_renamed names K ms i m w.1 e

and_child_renamed : (names : List ℕ) (K : ℕ → Type 0) (x : Matrix) (i : ℕ) (m : Matrix) → MatrixWithin x K → and_child i x ≡ Some m → (and_child i (rename_matrix x names) ≡ Some (rename_matrix m names)) × MatrixWithin m K
and_child_renamed names K (lit l) i m w e = absurd (cc)
and_child_renamed names K (all ms) i m w e = child_renamed names K ms i m w e
and_child_renamed names K (some ms) i m w e = absurd (cc)

part_renamed : (names : List ℕ) (K : ℕ → Type 0) (c : Context) (f i : ℕ) (ks : List Context) → FactsWithin K c.facts → option_map (goes_on c) (option_and_then (and_child i) (slice_get c.facts f)) ≡ Some ks → Same names K (option_map (goes_on (rename_context names c)) (option_and_then (and_child i) (slice_get (rename_facts names c.facts) f))) ks
part_renamed names K c f i ks w e =
    let p = map_some (goes_on c) (option_and_then (and_child i) (slice_get c.facts f)) ks e in
    let q = then_some (and_child i) (slice_get c.facts f) p.0 p.1 in
    let r = and_child_renamed names K q.0 i p.0 (facts_get K c.facts f q.0 w q.1) q.2 in
    let s : option_and_then (and_child i) (slice_get (rename_facts names c.facts) f) ≡ Some (rename_matrix p.0 names) = ap (option_and_then (and_child i)) (renamed_get names c.facts f q.0 q.1) ∙ r.0 in
    subst (λ (o : Option Matrix). Same names K (option_map (goes_on (rename_context names c)) o) ks) (sym s) (goes_renamed names K c p.0 ks w r.1 p.2)

or_children_renamed : (names : List ℕ) (K : ℕ → Type 0) (x : Matrix) (ms : Matrices) → MatrixWithin x K → or_children x ≡ Some ms → (or_children (rename_matrix x names) ≡ Some (rename_matrices ms names)) × MatricesWithin ms K
or_children_renamed names K (lit l) ms w e = absurd (cc)
or_children_renamed names K (all ns) ms w e = absurd (cc)
or_children_renamed names K (some ns) ms w e =
    (ap (λ (x : Matrices). Some (rename_matrices x names)) (some_same ns ms e), subst (λ (x : Matrices). MatricesWithin x K) (some_same ns ms e) w)

count_renamed : (names : List ℕ) (ms : Matrices) → count (rename_matrices ms names) ≡ count ms
count_renamed names none = refl
count_renamed names (more m ms) = ap suc (count_renamed names ms)

each_child_renamed : (names : List ℕ) (c : Context) (ms : Matrices) → each_child (rename_context names c) (rename_matrices ms names) ≡ rename_contexts names (each_child c ms)
each_child_renamed names c none = refl
each_child_renamed names c (more m ms) = ap₂ (λ (x : Context) (xs : List Context). x ∷ xs) (push_renamed names c m) (each_child_renamed names c ms)

each_child_within : (K : ℕ → Type 0) (c : Context) (ms : Matrices) → FactsWithin K c.facts → MatricesWithin ms K → ContextsWithin K (each_child c ms)
each_child_within K c none w v = tt
each_child_within K c (more m ms) w v = (facts_push K c.facts m w v.0, each_child_within K c ms w v.1)

cases_renamed : (names : List ℕ) (K : ℕ → Type 0) (c : Context) (f n : ℕ) (ks : List Context) → FactsWithin K c.facts → option_and_then (cases_line c n) (option_and_then or_children (slice_get c.facts f)) ≡ Some ks → Same names K (option_and_then (cases_line (rename_context names c) n) (option_and_then or_children (slice_get (rename_facts names c.facts) f))) ks
cases_renamed names K c f n ks w e =
    let p = then_some (cases_line c n) (option_and_then or_children (slice_get c.facts f)) ks e in
    let q = then_some or_children (slice_get c.facts f) p.0 p.1 in
    let r = or_children_renamed names K q.0 p.0 (facts_get K c.facts f q.0 w q.1) q.2 in
    let s : option_and_then or_children (slice_get (rename_facts names c.facts) f) ≡ Some (rename_matrices p.0 names) = ap (option_and_then or_children) (renamed_get names c.facts f q.0 q.1) ∙ r.0 in
    let g = guard_some (nat_eq (count p.0) n) (Some (each_child c p.0)) ks p.2 in
    let k = some_same (each_child c p.0) ks g.1 in
    record {
      leaves = ap (option_and_then (cases_line (rename_context names c) n)) s
          ∙ ap (λ (i : ℕ). guard (nat_eq i n) (Some (each_child (rename_context names c) (rename_matrices p.0 names)))) (count_renamed names p.0)
          ∙ ap (λ (b : Bool). guard b (Some (each_child (rename_context names c) (rename_matrices p.0 names)))) g.0
          ∙ ap Some (each_child_renamed names c p.0 ∙ ap (rename_contexts names) k);
      within = subst (λ (x : List Context). ContextsWithin K x) k (each_child_within K c p.0 w r.1);
    }

-- ---- literals among the facts

literal_of_renamed : (names : List ℕ) (K : ℕ → Type 0) (x : Matrix) (l : Lit) → MatrixWithin x K → literal_of x ≡ Some l → (literal_of (rename_matrix x names) ≡ Some (rename_lit names l)) × LitWithin K l
literal_of_renamed names K (lit k) l w e =
    (ap (λ (x : Lit). Some (rename_lit names x)) (some_same k l e), subst (λ (x : Lit). LitWithin K x) (some_same k l e) w)
literal_of_renamed names K (all ms) l w e = absurd (cc)
literal_of_renamed names K (some ms) l w e = absurd (cc)

literal_at_renamed : (names : List ℕ) (K : ℕ → Type 0) (c : Context) (f : ℕ) (l : Lit) → FactsWithin K c.facts → literal_at c f ≡ Some l → (literal_at (rename_context names c) f ≡ Some (rename_lit names l)) × LitWithin K l
literal_at_renamed names K c f l w e =
    let q = then_some literal_of (slice_get c.facts f) l e in
    let r = literal_of_renamed names K q.0 l (facts_get K c.facts f q.0 w q.1) q.2 in
    (ap (option_and_then literal_of) (renamed_get names c.facts f q.0 q.1) ∙ r.0, r.1)

literals_at_renamed : (names : List ℕ) (K : ℕ → Type 0) (c : Context) (fs : List ℕ) (ls : List Lit) → FactsWithin K c.facts → literals_at c fs ≡ Some ls → (literals_at (rename_context names c) fs ≡ Some (rename_cube names ls)) × CubeWithin K ls
literals_at_renamed names K c [] ls w e =
    let k = some_same [] ls e in (ap (λ (x : List Lit). Some (rename_cube names x)) k, subst (λ (x : List Lit). CubeWithin K x) k tt)
literals_at_renamed names K c (f ∷ fs) ls w e =
    let p = then_some (λ l. option_map (λ ks. l ∷ ks) (literals_at c fs)) (literal_at c f) ls e in
    let q = map_some (λ ks. p.0 ∷ ks) (literals_at c fs) ls p.2 in
    let a = literal_at_renamed names K c f p.0 w p.1 in
    let b = literals_at_renamed names K c fs q.0 w q.1 in (
      ap (option_and_then (λ l. option_map (λ ks. l ∷ ks) (literals_at (rename_context names c) fs))) a.0
          ∙ ap (option_map (λ ks. rename_lit names p.0 ∷ ks)) b.0
          ∙ ap (λ (x : List Lit). Some (rename_cube names x)) q.2,
      subst (λ (x : List Lit). CubeWithin K x) q.2 (a.1, b.1),
    )

all_literals_renamed : (names : List ℕ) (K : ℕ → Type 0) (ms : List Matrix) (ls : List Lit) → FactsWithin K ms → all_literals ms ≡ Some ls → (all_literals (rename_facts names ms) ≡ Some (rename_cube names ls)) × CubeWithin K ls
all_literals_renamed names K [] ls w e =
    let k = some_same [] ls e in (ap (λ (x : List Lit). Some (rename_cube names x)) k, subst (λ (x : List Lit). CubeWithin K x) k tt)
all_literals_renamed names K (m ∷ ms) ls w e =
    let p = then_some (λ l. option_map (λ ks. l ∷ ks) (all_literals ms)) (literal_of m) ls e in
    let q = map_some (λ ks. p.0 ∷ ks) (all_literals ms) ls p.2 in
    let a = literal_of_renamed names K m p.0 w.0 p.1 in
    let b = all_literals_renamed names K ms q.0 w.1 q.1 in (
      ap (option_and_then (λ l. option_map (λ ks. l ∷ ks) (all_literals (rename_facts names ms)))) a.0
          ∙ ap (option_map (λ ks. rename_lit names p.0 ∷ ks)) b.0
          ∙ ap (λ (x : List Lit). Some (rename_cube names x)) q.2,
      subst (λ (x : List Lit). CubeWithin K x) q.2 (a.1, b.1),
    )

lits_renamed : (names : List ℕ) (ls : List Lit) → map lit (rename_cube names ls) ≡ rename_facts names (map lit ls)
lits_renamed names [] = refl
lits_renamed names (l ∷ ls) = ap (λ (ms : List Matrix). lit (rename_lit names l) ∷ ms) (lits_renamed names ls)

lits_within : (K : ℕ → Type 0) (ls : List Lit) → CubeWithin K ls → FactsWithin K (map lit ls)
lits_within K [] w = tt
lits_within K (l ∷ ls) w = (w.0, lits_within K ls w.1)

cube_context_renamed : (names : List ℕ) (ls : List Lit) → cube_context (rename_cube names ls) ≡ rename_context names (cube_context ls)
cube_context_renamed names ls = ap (λ (ms : List Matrix). let x : Context = record { bare = true; facts = ms } in x) (lits_renamed names ls)

-- ---- sums

inequality_renamed : (names : List ℕ) (l : Lit) → is_inequality (rename_lit names l) ≡ is_inequality l
inequality_renamed names (AtLeast f) = refl
inequality_renamed names (Above f) = refl
inequality_renamed names (Divides d f) = refl
inequality_renamed names (NotDivides d f) = refl

strict_renamed : (names : List ℕ) (l : Lit) → is_strict (rename_lit names l) ≡ is_strict l
strict_renamed names (AtLeast f) = refl
strict_renamed names (Above f) = refl
strict_renamed names (Divides d f) = refl
strict_renamed names (NotDivides d f) = refl

with_renamed : (names : List ℕ) (b : Bool) (f : Form) → inequality_with b (rename names f) ≡ rename_lit names (inequality_with b f)
with_renamed names true f = refl
with_renamed names false f = refl

with_within : (K : ℕ → Type 0) (b : Bool) (f : Form) → Within K f.terms → LitWithin K (inequality_with b f)
with_within K true f w = w
with_within K false f w = w

sum_within : (K : ℕ → Type 0) (p : ℤ) (a : Lit) (q : ℤ) (b : Lit) → LitWithin K a → LitWithin K b → LitWithin K (sum_of p a q b)
sum_within K p a q b v w =
    with_within K (is_strict a || is_strict b) (plus (times p (form_of a)) (times q (form_of b)))
    (within_plus K (times p (form_of a)).terms (times q (form_of b)).terms (within_times K p (form_of a).terms v) (within_times K q (form_of b).terms w))

sum_of_renamed : (names : List ℕ) (K : ℕ → Type 0) (p : ℤ) (a : Lit) (q : ℤ) (b : Lit) → Keeps names K → LitWithin K a → LitWithin K b → sum_of p (rename_lit names a) q (rename_lit names b) ≡ rename_lit names (sum_of p a q b)
sum_of_renamed names K p a q b k v w =
    let fa : Form = form_of a in
    let fb : Form = form_of b in
    ap₂ (λ (x y : Bool). inequality_with (x || y) (plus (times p (form_of (rename_lit names a))) (times q (form_of (rename_lit names b))))) (strict_renamed names a) (strict_renamed names b)
    ∙ ap₂ (λ (f g : Form). inequality_with (is_strict a || is_strict b) (plus (times p f) (times q g))) (form_renamed names a) (form_renamed names b)
    ∙ ap₂ (λ (f g : Form). inequality_with (is_strict a || is_strict b) (plus f g)) (times_renamed names p fa) (times_renamed names q fb)
    ∙ ap (inequality_with (is_strict a || is_strict b)) (plus_renamed names K (times p fa) (times q fb) k (within_times K p fa.terms v) (within_times K q fb.terms w))
    ∙ with_renamed names (is_strict a || is_strict b) (plus (times p fa) (times q fb))

-- the test of a sum, with what it reads of the literals handed in
abbrev sum_test : Bool → Bool → ℤ → ℤ → ℤ → ℕ → Option ℤ → Bool
sum_test x y p q g d o = x && y && int_le (pos 1) p && int_le (pos 1) q && int_le (pos 1) g && nat_eq (nat_abs g) d && is_none o

is_sum_renamed : (s : Sort) (names : List ℕ) (K : ℕ → Type 0) (p : ℤ) (a : Lit) (q : ℤ) (b : Lit) (g : ℤ) → Keeps names K → LitWithin K a → LitWithin K b → is_sum s p (rename_lit names a) q (rename_lit names b) g ≡ is_sum s p a q b g
is_sum_renamed s names K p a q b g k v w =
    let sum : Lit = sum_of p a q b in
    let new : Lit = sum_of p (rename_lit names a) q (rename_lit names b) in
    let e = sum_of_renamed names K p a q b k v w in
    let i = sum_within K p a q b v w in
    ap₂ (λ (x y : Bool). sum_test x y p q g (divisor s (form_of new)) (first_past (lit_numbers (prim s new)))) (inequality_renamed names a) (inequality_renamed names b)
    ∙ ap₂ (λ (d : ℕ) (o : Option ℤ). sum_test (is_inequality a) (is_inequality b) p q g d o)
    (ap (λ (l : Lit). divisor s (form_of l)) e ∙ ap (divisor s) (form_renamed names sum) ∙ divisor_of_renamed s names (form_of sum))
    (ap (λ (l : Lit). first_past (lit_numbers (prim s l))) e ∙ ap (λ (l : Lit). first_past (lit_numbers l)) (prim_renamed s names K sum k i) ∙ ap first_past (numbers_renamed names (prim s sum)))

sum_line_renamed : (s : Sort) (names : List ℕ) (K : ℕ → Type 0) (c : Context) (p : ℤ) (a : Lit) (q : ℤ) (b : Lit) (g : ℤ) (ks : List Context) → Keeps names K → FactsWithin K c.facts → LitWithin K a → LitWithin K b → sum_line s c p a q b g ≡ Some ks → Same names K (sum_line s (rename_context names c) p (rename_lit names a) q (rename_lit names b) g) ks
sum_line_renamed s names K c p a q b g ks k h v w e =
    let t = guard_some (is_sum s p a q b g) (Some (goes_on c (lit (prim s (sum_of p a q b))))) ks e in
    let i = sum_within K p a q b v w in
    let r = goes_renamed names K c (lit (prim s (sum_of p a q b))) ks h (within_prim K s (sum_of p a q b) i) (some_same (goes_on c (lit (prim s (sum_of p a q b)))) ks t.1) in
    record {
      leaves = ap₂ (λ (x : Bool) (l : Lit). guard x (Some (goes_on (rename_context names c) (lit (prim s l))))) (is_sum_renamed s names K p a q b g k v w ∙ t.0) (sum_of_renamed names K p a q b k v w)
          ∙ ap (λ (l : Lit). Some (goes_on (rename_context names c) (lit l))) (prim_renamed s names K (sum_of p a q b) k i)
          ∙ r.leaves;
      within = r.within;
    }

sum_renamed : (s : Sort) (names : List ℕ) (K : ℕ → Type 0) (c : Context) (p : ℤ) (f : ℕ) (q : ℤ) (h : ℕ) (g : ℤ) (ks : List Context) → Keeps names K → FactsWithin K c.facts → option_and_then (λ a. option_and_then (λ b. sum_line s c p a q b g) (literal_at c h)) (literal_at c f) ≡ Some ks → Same names K (option_and_then (λ a. option_and_then (λ b. sum_line s (rename_context names c) p a q b g) (literal_at (rename_context names c) h)) (literal_at (rename_context names c) f)) ks
sum_renamed s names K c p f q h g ks k w e =
    let x = then_some (λ a. option_and_then (λ b. sum_line s c p a q b g) (literal_at c h)) (literal_at c f) ks e in
    let y = then_some (λ b. sum_line s c p x.0 q b g) (literal_at c h) ks x.2 in
    let a = literal_at_renamed names K c f x.0 w x.1 in
    let b = literal_at_renamed names K c h y.0 w y.1 in
    let r = sum_line_renamed s names K c p x.0 q y.0 g ks k w a.1 b.1 y.2 in
    record {
      leaves = ap (option_and_then (λ a. option_and_then (λ b. sum_line s (rename_context names c) p a q b g) (literal_at (rename_context names c) h))) a.0
          ∙ ap (option_and_then (λ b. sum_line s (rename_context names c) p (rename_lit names x.0) q b g)) b.0
          ∙ r.leaves;
      within = r.within;
    }

-- ---- literals that a line writes

of_renamed : (s : Sort) (names : List ℕ) (l : Lit) → is_of s (rename_lit names l) ≡ is_of s l
of_renamed Rat names (AtLeast f) = refl
of_renamed Rat names (Above f) = refl
of_renamed Rat names (Divides d f) = refl
of_renamed Rat names (NotDivides d f) = refl
of_renamed Int names (AtLeast f) = refl
of_renamed Int names (Above f) = refl
of_renamed Int names (Divides d f) = refl
of_renamed Int names (NotDivides d f) = refl

primitive_renamed : (s : Sort) (names : List ℕ) (K : ℕ → Type 0) (l : Lit) → Keeps names K → LitWithin K l → is_primitive s l ≡ true → is_primitive s (rename_lit names l) ≡ true
primitive_renamed s names K l k w e =
    let a = and_parts (is_of s l) (same_literal (prim s l) l) e in
    let p = primitive_is s l e in
    let d = literal_decides (prim s (rename_lit names l)) (rename_lit names l) in
    ap₂ (λ (x y : Bool). x && y) (of_renamed s names l ∙ a.0) (d.1 (prim_renamed s names K l k w ∙ ap (rename_lit names) p.1))

below_renamed : (names : List ℕ) (K : ℕ → Type 0) (n : ℕ) (ts : List (ℕ × ℤ)) → ((v : ℕ) → K v → get_or names v 0 < n) → Within K ts → all_below n (rename_terms names ts) ≡ true
below_renamed names K n [] h w = refl
below_renamed names K n (t ∷ ts) h w =
    ap₂ (λ (x y : Bool). x && y) (lt-ltb (get_or names t.0 0) n (h t.0 w.0)) (below_renamed names K n ts h w.1)

is_split_renamed : (s : Sort) (n m : ℕ) (names : List ℕ) (K : ℕ → Type 0) (l : Lit) → Keeps names K → ((v : ℕ) → K v → get_or names v 0 < m) → LitWithin K l → is_split s n l ≡ true → is_split s m (rename_lit names l) ≡ true
is_split_renamed s n m names K l k h w e =
    let a = and_parts (is_primitive s l && all_below n (form_of l).terms) (is_none (first_past (lit_numbers (neg s l)))) e in
    let b = and_parts (is_primitive s l) (all_below n (form_of l).terms) a.0 in
    ap₂ (λ (x y : Bool). x && y)
    (ap₂ (λ (x y : Bool). x && y) (primitive_renamed s names K l k w b.0) (ap (λ (f : Form). all_below m f.terms) (form_renamed names l) ∙ below_renamed names K m (form_of l).terms h w))
    (ap (λ (x : Lit). is_none (first_past (lit_numbers x))) (neg_renamed s names K l k w) ∙ ap (λ (zs : List ℤ). is_none (first_past zs)) (numbers_renamed names (neg s l)) ∙ a.1)

split_renamed : (s : Sort) (n m : ℕ) (names : List ℕ) (K : ℕ → Type 0) (c : Context) (l : Lit) (ks : List Context) → Keeps names K → ((v : ℕ) → K v → get_or names v 0 < m) → FactsWithin K c.facts → LitWithin K l → split_line s n c l ≡ Some ks → Same names K (split_line s m (rename_context names c) (rename_lit names l)) ks
split_renamed s n m names K c l ks k h w v e =
    let t = guard_some (is_split s n l) (Some (with_fact c (lit l) ∷ with_fact c (lit (neg s l)) ∷ [])) ks e in
    let q = some_same (with_fact c (lit l) ∷ with_fact c (lit (neg s l)) ∷ []) ks t.1 in
    record {
      leaves = ap₂ (λ (x : Bool) (y : Lit). guard x (Some (with_fact (rename_context names c) (lit (rename_lit names l)) ∷ with_fact (rename_context names c) (lit y) ∷ []))) (is_split_renamed s n m names K l k h v t.0) (neg_renamed s names K l k v)
          ∙ ap₂ (λ (x y : Context). Some (x ∷ y ∷ [])) (push_renamed names c (lit l)) (push_renamed names c (lit (neg s l)))
          ∙ ap (λ (x : List Context). Some (rename_contexts names x)) q;
      within = subst (λ (x : List Context). ContextsWithin K x) q (facts_push K c.facts (lit l) w v, (facts_push K c.facts (lit (neg s l)) w (within_neg K s l v), tt));
    }

all_split_renamed : (s : Sort) (n m : ℕ) (names : List ℕ) (K : ℕ → Type 0) (ls : List Lit) → Keeps names K → ((v : ℕ) → K v → get_or names v 0 < m) → CubeWithin K ls → list_all (is_split s n) ls ≡ true → list_all (is_split s m) (rename_cube names ls) ≡ true
all_split_renamed s n m names K [] k h w e = refl
all_split_renamed s n m names K (l ∷ ls) k h w e =
    let a = and_parts (is_split s n l) (list_all (is_split s n) ls) e in
    ap₂ (λ (x y : Bool). x && y) (is_split_renamed s n m names K l k h w.0 a.0) (all_split_renamed s n m names K ls k h w.1 a.1)

negations_renamed : (s : Sort) (names : List ℕ) (K : ℕ → Type 0) (ls : List Lit) → Keeps names K → CubeWithin K ls → map (neg s) (rename_cube names ls) ≡ rename_cube names (map (neg s) ls)
negations_renamed s names K [] k w = refl
negations_renamed s names K (l ∷ ls) k w = ap₂ (λ (x : Lit) (xs : List Lit). x ∷ xs) (neg_renamed s names K l k w.0) (negations_renamed s names K ls k w.1)

negations_within : (s : Sort) (K : ℕ → Type 0) (ls : List Lit) → CubeWithin K ls → CubeWithin K (map (neg s) ls)
negations_within s K [] w = tt
negations_within s K (l ∷ ls) w = (within_neg K s l w.0, negations_within s K ls w.1)

leaves_renamed : (names : List ℕ) (ls : List Lit) → leaves (rename_cube names ls) ≡ rename_matrices (leaves ls) names
leaves_renamed names [] = refl
leaves_renamed names (l ∷ ls) = ap (λ (ms : Matrices). more (lit (rename_lit names l)) ms) (leaves_renamed names ls)

leaves_within : (K : ℕ → Type 0) (ls : List Lit) → CubeWithin K ls → MatricesWithin (leaves ls) K
leaves_within K [] w = tt
leaves_within K (l ∷ ls) w = (w.0, leaves_within K ls w.1)

either_renamed : (names : List ℕ) (ls : List Lit) → either_of (rename_cube names ls) ≡ rename_matrix (either_of ls) names
either_renamed names [] = refl
either_renamed names (l ∷ []) = refl
either_renamed names (l ∷ k ∷ ls) = ap (λ (ms : Matrices). some (more (lit (rename_lit names l)) (more (lit (rename_lit names k)) ms))) (leaves_renamed names ls)

either_within : (K : ℕ → Type 0) (ls : List Lit) → CubeWithin K ls → MatrixWithin (either_of ls) K
either_within K [] w = tt
either_within K (l ∷ []) w = w.0
either_within K (l ∷ k ∷ ls) w = (w.0, (w.1.0, leaves_within K ls w.1.1))

-- the two contexts behind a line `learn`
abbrev learnt : Context → List Matrix → Matrix → List Context
learnt c ms m = record c { facts = c.facts ++ ms } ∷ with_fact c m ∷ []

learn_renamed : (s : Sort) (n m : ℕ) (names : List ℕ) (K : ℕ → Type 0) (c : Context) (ls : List Lit) (ks : List Context) → Keeps names K → ((v : ℕ) → K v → get_or names v 0 < m) → FactsWithin K c.facts → CubeWithin K ls → learn_line s n c ls ≡ Some ks → Same names K (learn_line s m (rename_context names c) (rename_cube names ls)) ks
learn_renamed s n m names K c ls ks k h w v e =
    let negs : List Lit = map (neg s) ls in
    let t = guard_some (not c.bare && is_learn s n ls) (Some (learnt c (map lit negs) (either_of ls))) ks e in
    let q = some_same (learnt c (map lit negs) (either_of ls)) ks t.1 in
    let a = and_parts (not c.bare) (is_learn s n ls) t.0 in
    let b = and_parts (nat_le 1 (length ls)) (list_all (is_split s n) ls) a.1 in
    let old : List Matrix = rename_facts names c.facts in
    record {
      leaves = ap₂ (λ (x : Bool) (ms : List Lit). guard (not c.bare && x) (Some (learnt (rename_context names c) (map lit ms) (either_of (rename_cube names ls)))))
          (ap₂ (λ (x y : Bool). x && y) (ap (nat_le 1) (length-map ls (rename_lit names)) ∙ b.0) (all_split_renamed s n m names K ls k h v b.1))
          (negations_renamed s names K ls k v)
          ∙ ap (λ (x : Bool). guard (x && true) (Some (learnt (rename_context names c) (map lit (rename_cube names negs)) (either_of (rename_cube names ls))))) a.0
          ∙ ap₂ (λ (ms : List Matrix) (x : Matrix). Some (learnt (rename_context names c) ms x)) (lits_renamed names negs) (either_renamed names ls)
          ∙ ap₂ (λ (fs : List Matrix) (x : Context). let y : Context = record { bare = c.bare; facts = fs } in Some (y ∷ x ∷ [])) (sym (map-append (λ x. rename_matrix x names) c.facts (map lit negs))) (push_renamed names c (either_of ls))
          ∙ ap (λ (x : List Context). Some (rename_contexts names x)) q;
      within = subst (λ (x : List Context). ContextsWithin K x) q (facts_append K c.facts (map lit negs) w (lits_within K negs (negations_within s K ls v)), (facts_push K c.facts (either_of ls) w (either_within K ls v), tt));
    }

-- ---- cubes and eliminations

cube_renamed : (names : List ℕ) (K : ℕ → Type 0) (c : Context) (fs : List ℕ) (ks : List Context) → FactsWithin K c.facts → cube_line c fs ≡ Some ks → Same names K (cube_line (rename_context names c) fs) ks
cube_renamed names K c [] ks w e = absurd (cc)
cube_renamed names K c (f ∷ fs) ks w e =
    let p = map_some (λ ls. cube_context ls ∷ []) (literals_at c (f ∷ fs)) ks e in
    let a = literals_at_renamed names K c (f ∷ fs) p.0 w p.1 in
    record {
      leaves = ap (option_map (λ ls. cube_context ls ∷ [])) a.0
          ∙ ap (λ (x : Context). Some (x ∷ [])) (cube_context_renamed names p.0)
          ∙ ap (λ (x : List Context). Some (rename_contexts names x)) p.2;
      within = subst (λ (x : List Context). ContextsWithin K x) p.2 (lits_within K p.0 a.1, tt);
    }

contexts_renamed : (names : List ℕ) (cs : List (List Lit)) → map cube_context (rename_cubes names cs) ≡ rename_contexts names (map cube_context cs)
contexts_renamed names [] = refl
contexts_renamed names (c ∷ cs) = ap₂ (λ (x : Context) (xs : List Context). x ∷ xs) (cube_context_renamed names c) (contexts_renamed names cs)

contexts_within : (K : ℕ → Type 0) (cs : List (List Lit)) → CubesWithin K cs → ContextsWithin K (map cube_context cs)
contexts_within K [] w = tt
contexts_within K (c ∷ cs) w = (lits_within K c w.0, contexts_within K cs w.1)

least_cases_renamed : (names : List ℕ) (K : ℕ → Type 0) (v i : ℕ) (c : List Lit) (ks : List Context) → Keeps names K → K v → CubeWithin K c → least_cases v i c ≡ Some ks → Same names K (least_cases (get_or names v 0) i (rename_cube names c)) ks
least_cases_renamed names K v i c ks k h w e =
    let t = guard_some (is_least v i c) (Some (map cube_context (cooper c v))) ks e in
    let q = some_same (map cube_context (cooper c v)) ks t.1 in
    let y : ℕ = get_or names v 0 in
    record {
      leaves = ap₂ (λ (cs : List (List Lit)) (zs : List ℤ). guard (nat_eq (length cs) i && is_none (first_past zs)) (Some (map cube_context cs))) (cooper_renamed names K v c k h w) (elimination_numbers_renamed names K v c k h w)
          ∙ ap (λ (j : ℕ). guard (nat_eq j i && is_none (first_past (elimination_numbers Int c v))) (Some (map cube_context (rename_cubes names (cooper c v))))) (length-map (cooper c v) (rename_cube names))
          ∙ ap (λ (x : Bool). guard x (Some (map cube_context (rename_cubes names (cooper c v))))) t.0
          ∙ ap Some (contexts_renamed names (cooper c v))
          ∙ ap (λ (x : List Context). Some (rename_contexts names x)) q;
      within = subst (λ (x : List Context). ContextsWithin K x) q (contexts_within K (cooper c v) (within_cooper K v c w));
    }

least_renamed : (s : Sort) (n m : ℕ) (names : List ℕ) (K : ℕ → Type 0) (c : Context) (v i : ℕ) (ks : List Context) → Keeps names K → ((u : ℕ) → K u → get_or names u 0 < m) → FactsWithin K c.facts → K v → least_line s n c v i ≡ Some ks → Same names K (least_line s m (rename_context names c) (get_or names v 0) i) ks
least_renamed s n m names K c v i ks k h w kv e =
    let y : ℕ = get_or names v 0 in
    let g = guard_some (is_int s && c.bare && nat_lt v n) (option_and_then (least_cases v i) (all_literals c.facts)) ks e in
    let a = and_parts (is_int s && c.bare) (nat_lt v n) g.0 in
    let p = then_some (least_cases v i) (all_literals c.facts) ks g.1 in
    let b = all_literals_renamed names K c.facts p.0 w p.1 in
    let r = least_cases_renamed names K v i p.0 ks k kv b.1 p.2 in
    record {
      leaves = ap₂ (λ (x z : Bool). guard (x && z) (option_and_then (least_cases y i) (all_literals (rename_facts names c.facts)))) a.0 (lt-ltb y m (h v kv))
          ∙ ap (option_and_then (least_cases y i)) b.0
          ∙ r.leaves;
      within = r.within;
    }

false_renamed : (names : List ℕ) (K : ℕ → Type 0) (c : Context) (f : ℕ) (ks : List Context) → FactsWithin K c.facts → option_and_then false_line (literal_at c f) ≡ Some ks → Same names K (option_and_then false_line (literal_at (rename_context names c) f)) ks
false_renamed names K c f ks w e =
    let p = then_some false_line (literal_at c f) ks e in
    let a = literal_at_renamed names K c f p.0 w p.1 in
    let none_left : List Context = [] in
    let g = guard_some (is_false (truth_of p.0)) (Some none_left) ks p.2 in
    let q = some_same none_left ks g.1 in
    record {
      leaves = ap (option_and_then false_line) a.0
          ∙ ap (λ (o : Option Bool). guard (is_false o) (Some none_left)) (truth_renamed names p.0)
          ∙ ap (λ (x : Bool). guard x (Some none_left)) g.0
          ∙ ap (λ (x : List Context). Some (rename_contexts names x)) q;
      within = subst (λ (x : List Context). ContextsWithin K x) q tt;
    }

-- ---- all of them

-- the nodes that the line names are kept, and so is the path
abbrev pub StepWithin : (ℕ → Type 0) → (ℕ → Type 0) → Step → Type 0
StepWithin Q K (Path k) = Q k
StepWithin Q K (Def v i) = K v
StepWithin Q K (Part f i) = ⊤
StepWithin Q K (Cases f n) = ⊤
StepWithin Q K (Sum p f q h g) = ⊤
StepWithin Q K (Split l) = LitWithin K l
StepWithin Q K (Cube fs) = ⊤
StepWithin Q K (Least v n) = K v
StepWithin Q K (Learn ls) = CubeWithin K ls
StepWithin Q K (False f) = ⊤

pub step_renamed : (s : Sort) (n m : ℕ) (numbers names : List ℕ) (Q K : ℕ → Type 0) (c : Context) (l : Step) (ks : List Context) → Keeps names K → ((v : ℕ) → K v → get_or names v 0 < m) → FactsWithin K c.facts → StepWithin Q K l → cube_step s n c l ≡ Some ks → Same names K (cube_step s m (rename_context names c) (rename_step numbers names l)) ks
step_renamed s n m numbers names Q K c (Path j) ks k h w v e = absurd (cc)
step_renamed s n m numbers names Q K c (Def u i) ks k h w v e = absurd (cc)
step_renamed s n m numbers names Q K c (Part f i) ks k h w v e = part_renamed names K c f i ks w e
step_renamed s n m numbers names Q K c (Cases f i) ks k h w v e = cases_renamed names K c f i ks w e
step_renamed s n m numbers names Q K c (Sum p f q j g) ks k h w v e = sum_renamed s names K c p f q j g ks k w e
step_renamed s n m numbers names Q K c (Split l) ks k h w v e = split_renamed s n m names K c l ks k h w v e
step_renamed s n m numbers names Q K c (Cube fs) ks k h w v e = cube_renamed names K c fs ks w e
step_renamed s n m numbers names Q K c (Least u i) ks k h w v e = least_renamed s n m names K c u i ks k h w v e
step_renamed s n m numbers names Q K c (Learn ls) ks k h w v e = learn_renamed s n m names K c ls ks k h w v e
step_renamed s n m numbers names Q K c (False f) ks k h w v e = false_renamed names K c f ks w e
