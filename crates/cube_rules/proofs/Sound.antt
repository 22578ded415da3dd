-- Each line is sound: at a point where the facts hold, the facts of one of the contexts that it leaves hold.
use Rattle.std.specs.Prelude.{ℕ, zero, suc, ◌*◌, ◌%◌, ◌≤◌, ◌≡◌, ℤ, pos, negsuc, ◌+ℤ◌, ◌*ℤ◌, ◌≤ℤ◌, ◌<ℤ◌, nat_abs, Bool, true, false, ◌&&◌, ◌||◌, not, nat_lt, nat_le, nat_eq, int_le, is_none, Option, Some, None, option_and_then, option_map, slice_get, List, [], ◌∷◌, ◌++◌, map, length, ⊤}
use Rattle.std.specs.List.{list_all, AllByRecursion}
use Rattle.std.proofs.Common.{arith, ap, ap₂, ◌∙◌, sym, subst, refl, inl, inr, true≢false}
use Rattle.std.proofs.lemmas.Int.{ints}
use Rattle.std.proofs.lemmas.Bool.{and_parts, not-false, eq-eqb, eqb-true}
use Rattle.std.proofs.Math.Nat.{mod-eq-zero_of_dvd, dvd_of_mod-eq-zero, dvd_of_mul-dvd-mul_right, mul-dvd-mul_right}
use Rattle.lin_term.specs.declared.Sort.{Sort}
use Rattle.lin_term.specs.declared.Sort.TheVariants.{Rat, Int}
use Rattle.lin_term.specs.declared.Lit.{Lit}
use Rattle.lin_term.specs.declared.Lit.TheVariants.{AtLeast, Above, Divides, NotDivides}
use Rattle.lin_term.specs.Form.{Form}
use Rattle.lin_term.specs.Linear.{Point, IsPoint, dot, plus, times, BelowTerms}
use Rattle.lin_term.specs.Literal.{Holds, IsOf, prim, neg, divisor, form_of}
use Rattle.lin_term.specs.Same.{same_literal}
use Rattle.lin_term.specs.Sum.{sum_of, is_strict, inequality_with}
use Rattle.lin_term.specs.Truth.{truth_of, truth_at, truth_without}
use Rattle.lin_term.specs.Wide.{first_past, lit_numbers}
use Rattle.lin_term.proofs.Ring.{nonneg_mul, pos_mul, nonneg_from_mul, pos_from_mul}
use Rattle.lin_term.proofs.Dots.{dot-plus, dot-times}
use Rattle.lin_term.proofs.Holding.{one_den}
use Rattle.lin_term.proofs.PrimitiveLemmas.{prim_to, neg_from}
use Rattle.dom_core.specs.Game.{Matrix, lit, all, some, Matrices, none, more, HoldsIn, AllHold, AllFail}
use Rattle.dom_core.specs.Cube.{CubeHolds, SomeHolds, IsCube}
use Rattle.dom_core.specs.Elimination.{eliminated}
use Rattle.dom_core.proofs.Renaming.{neg_is_matrix}
use Rattle.dom_core.proofs.Cooper.{least_covers}
use Rattle.cube_rules.proofs.Cases.{cases_are}
use Rattle.cube_rules.specs.declared.step.Step.{Step}
use Rattle.cube_rules.specs.declared.step.Step.TheVariants.{Path, Def, Part, Cases, Sum, Split, Cube, Least, Learn, False}
use Rattle.cube_rules.specs.Context.{Context, with_fact, cube_context}
use Rattle.cube_rules.specs.Closing.{Proof, line, Proofs, no_proof, proof, Rules, Closes, CloseAll}
use Rattle.cube_rules.specs.Facts.{guard, child, count, and_child, or_children, literal_of, literal_at, literals_at, all_literals, is_inequality, is_of, is_primitive, all_below}
use Rattle.cube_rules.specs.Lines.{goes_on, each_child, cases_line, is_sum, sum_line, is_split, split_line, is_learn, leaves, either_of, learn_line, cube_line, is_least, least_cases, least_line, is_false, false_line, cube_step}

-- ---- options that are Some

pub guard_some : {A : Type 0} (b : Bool) (o : Option A) (x : A) → guard b o ≡ Some x → (b ≡ true) × (o ≡ Some x)
guard_some true o x e = (refl, e)
guard_some false o x e = absurd (cc)

pub map_some : {A B : Type 0} (f : A → B) (o : Option A) (y : B) → option_map f o ≡ Some y → (x : A) × (o ≡ Some x) × (f x ≡ y)
map_some f None y e = absurd (cc)
map_some f (Some x) y e = (x, refl, cc)

pub then_some : {A B : Type 0} (f : A → Option B) (o : Option A) (y : B) → option_and_then f o ≡ Some y → (x : A) × (o ≡ Some x) × (f x ≡ Some y)
then_some f None y e = absurd (cc)
then_some f (Some x) y e = (x, refl, e)

pub some_same : {A : Type 0} (x y : A) → Some x ≡ Some y → x ≡ y
some_same x y e = cc

-- ---- facts at a point

-- each literal is of the sort
abbrev mutual
  pub OfSort : Matrix → Sort → Type 0
  OfSort (lit l) s = IsOf s l
  OfSort (all ms) s = EachOfSort ms s
  OfSort (some ms) s = EachOfSort ms s

  pub EachOfSort : Matrices → Sort → Type 0
  EachOfSort none s = ⊤
  EachOfSort (more m ms) s = OfSort m s × EachOfSort ms s

-- of the sort, and true at the point
pub record Fact (s : Sort) (p : Point) (m : Matrix) : Type 0 where
  pub of_sort : OfSort m s
  pub holds : HoldsIn m p

abbrev pub Facts : Sort → Point → List Matrix → Type 0
Facts s p [] = ⊤
Facts s p (m ∷ ms) = Fact s p m × Facts s p ms

abbrev pub NoneHolds : Sort → Point → List Context → Type 0
NoneHolds s p [] = ⊤
NoneHolds s p (k ∷ ks) = ¬ Facts s p k.facts × NoneHolds s p ks

pub facts_push : (s : Sort) (p : Point) (ms : List Matrix) (m : Matrix) → Facts s p ms → Fact s p m → Facts s p (ms ++ m ∷ [])
facts_push s p [] m h k = (k, tt)
facts_push s p (n ∷ ms) m h k = (h.0, facts_push s p ms m h.1 k)

pub facts_get : (s : Sort) (p : Point) (ms : List Matrix) (i : ℕ) (m : Matrix) → Facts s p ms → slice_get ms i ≡ Some m → Fact s p m
facts_get s p [] i m h e = absurd (cc)
facts_get s p (n ∷ ms) zero m h e = subst (λ (x : Matrix). Fact s p x) (some_same n m e) h.0
facts_get s p (n ∷ ms) (suc i) m h e = facts_get s p ms i m h.1 e

child_holds : (s : Sort) (p : Point) (ms : Matrices) (i : ℕ) (m : Matrix) → EachOfSort ms s → AllHold ms p → child ms i ≡ Some m → Fact s p m
child_holds s p none i m o h e = absurd (cc)
child_holds s p (more n ms) zero m o h e = subst (λ (x : Matrix). Fact s p x) (some_same n m e) (record { of_sort = o.0; holds = h.0 })
child_holds s p (more n ms) (suc i) m o h e = child_holds s p ms i m o.1 h.1 e

and_child_holds : (s : Sort) (p : Point) (n : Matrix) (i : ℕ) (m : Matrix) → Fact s p n → and_child i n ≡ Some m → Fact s p m
and_child_holds s p (all ms) i m h e = child_holds s p ms i m h.of_sort h.holds e
and_child_holds s p (lit l) i m h e = absurd (cc)
and_child_holds s p (some ms) i m h e = absurd (cc)

literal_holds : (s : Sort) (p : Point) (n : Matrix) (l : Lit) → Fact s p n → literal_of n ≡ Some l → Fact s p (lit l)
literal_holds s p (lit k) l h e = subst (λ (x : Lit). Fact s p (lit x)) (some_same k l e) h
literal_holds s p (all ms) l h e = absurd (cc)
literal_holds s p (some ms) l h e = absurd (cc)

literal_at_holds : (s : Sort) (p : Point) (c : Context) (i : ℕ) (l : Lit) → Facts s p c.facts → literal_at c i ≡ Some l → Fact s p (lit l)
literal_at_holds s p c i l h e =
    let t = then_some literal_of (slice_get c.facts i) l e in
    literal_holds s p t.0 l (facts_get s p c.facts i t.0 h t.1) t.2

literals_at_hold : (s : Sort) (p : Point) (c : Context) (is : List ℕ) (ls : List Lit) → Facts s p c.facts → literals_at c is ≡ Some ls → Facts s p (map lit ls)
literals_at_hold s p c [] ls h e = subst (λ (x : List Lit). Facts s p (map lit x)) (some_same [] ls e) tt
literals_at_hold s p c (i ∷ is) ls h e =
    let t = then_some (λ l. option_map (λ ks. l ∷ ks) (literals_at c is)) (literal_at c i) ls e in
    let u = map_some (λ ks. t.0 ∷ ks) (literals_at c is) ls t.2 in
    subst (λ (x : List Lit). Facts s p (map lit x)) u.2 (literal_at_holds s p c i t.0 h t.1, literals_at_hold s p c is u.0 h u.1)

-- ---- the rules, one by one

pub one_left : (s : Sort) (p : Point) (ks : List Context) (c : Context) (m : Matrix) → goes_on c m ≡ ks → Facts s p c.facts → Fact s p m → NoneHolds s p ks → ⊥
one_left s p ks c m e h k n =
    let n' : NoneHolds s p (goes_on c m) = subst (λ (x : List Context). NoneHolds s p x) (sym e) n in
    n'.0 (facts_push s p c.facts m h k)

each_fails : (s : Sort) (p : Point) (ms : Matrices) (c : Context) → EachOfSort ms s → Facts s p c.facts → NoneHolds s p (each_child c ms) → AllFail ms p
each_fails s p none c o h n = tt
each_fails s p (more m ms) c o h n =
    (λ k. n.0 (facts_push s p c.facts m h (record { of_sort = o.0; holds = k })), each_fails s p ms c o.1 h n.1)

or_children_hold : (s : Sort) (p : Point) (m : Matrix) (ms : Matrices) → or_children m ≡ Some ms → Fact s p m → EachOfSort ms s × (¬ AllFail ms p)
or_children_hold s p (lit l) ms e h = absurd (cc)
or_children_hold s p (all ns) ms e h = absurd (cc)
or_children_hold s p (some ns) ms e h = subst (λ (x : Matrices). EachOfSort x s × (¬ AllFail x p)) (some_same ns ms e) (h.of_sort, h.holds)

cases_sound : (s : Sort) (p : Point) (ms : Matrices) (c : Context) (n : ℕ) (ks : List Context) → Facts s p c.facts → EachOfSort ms s → ¬ AllFail ms p → cases_line c n ms ≡ Some ks → NoneHolds s p ks → ⊥
cases_sound s p ms c n ks h o k e x =
    let g = guard_some (nat_eq (count ms) n) (Some (each_child c ms)) ks e in
    k (each_fails s p ms c o h (subst (λ (y : List Context). NoneHolds s p y) (sym (some_same (each_child c ms) ks g.1)) x))

-- the value of a sum
sum_value : (p q : ℤ) (f g : Form) (x : Point) → dot (plus (times p f) (times q g)) x ≡ p *ℤ dot f x +ℤ q *ℤ dot g x
sum_value p q f g x =
    let a = dot-plus (times p f) (times q g) x in
    let b = dot-times p f x in
    let c = dot-times q g x in
    omega (arith, ints)

sum_holds : (p : ℤ) (a : Lit) (q : ℤ) (b : Lit) (x : Point) → pos 1 ≤ℤ p → pos 1 ≤ℤ q → is_inequality a ≡ true → is_inequality b ≡ true → Holds a x → Holds b x → Holds (sum_of p a q b) x
sum_holds p (AtLeast f) q (AtLeast g) x hp hq ia ib ha hb =
    let s = sum_value p q f g x in
    let u = nonneg_mul p (dot f x) (omega (arith, ints)) ha in
    let v = nonneg_mul q (dot g x) (omega (arith, ints)) hb in
    omega (arith, ints)
sum_holds p (AtLeast f) q (Above g) x hp hq ia ib ha hb =
    let s = sum_value p q f g x in
    let u = nonneg_mul p (dot f x) (omega (arith, ints)) ha in
    let v = pos_mul q (dot g x) (omega (arith, ints)) hb in
    omega (arith, ints)
sum_holds p (Above f) q (AtLeast g) x hp hq ia ib ha hb =
    let s = sum_value p q f g x in
    let u = pos_mul p (dot f x) (omega (arith, ints)) ha in
    let v = nonneg_mul q (dot g x) (omega (arith, ints)) hb in
    omega (arith, ints)
sum_holds p (Above f) q (Above g) x hp hq ia ib ha hb =
    let s = sum_value p q f g x in
    let u = pos_mul p (dot f x) (omega (arith, ints)) ha in
    let v = pos_mul q (dot g x) (omega (arith, ints)) hb in
    omega (arith, ints)
sum_holds p (Divides d f) q b x hp hq ia ib ha hb = absurd (cc)
sum_holds p (NotDivides d f) q b x hp hq ia ib ha hb = absurd (cc)
sum_holds p (AtLeast f) q (Divides d g) x hp hq ia ib ha hb = absurd (cc)
sum_holds p (AtLeast f) q (NotDivides d g) x hp hq ia ib ha hb = absurd (cc)
sum_holds p (Above f) q (Divides d g) x hp hq ia ib ha hb = absurd (cc)
sum_holds p (Above f) q (NotDivides d g) x hp hq ia ib ha hb = absurd (cc)

inequality_of : (s : Sort) (l : Lit) → is_inequality l ≡ true → IsOf s (prim s l)
inequality_of Rat (AtLeast f) e = tt
inequality_of Rat (Above f) e = tt
inequality_of Int (AtLeast f) e = tt
inequality_of Int (Above f) e = tt
inequality_of s (Divides d f) e = absurd (cc)
inequality_of s (NotDivides d f) e = absurd (cc)

inequality_sum : (b : Bool) (f : Form) → is_inequality (inequality_with b f) ≡ true
inequality_sum true f = refl
inequality_sum false f = refl

pub record IsSum (s : Sort) (p : ℤ) (a : Lit) (q : ℤ) (b : Lit) (g : ℤ) : Type 0 where
  pub first : is_inequality a ≡ true
  pub second : is_inequality b ≡ true
  pub multiplier_a : pos 1 ≤ℤ p
  pub multiplier_b : pos 1 ≤ℤ q

int_le_at_least : (p : ℤ) → int_le (pos 1) p ≡ true → pos 1 ≤ℤ p
int_le_at_least p e = omega (arith, ints)

sum_parts : (s : Sort) (p : ℤ) (a : Lit) (q : ℤ) (b : Lit) (g : ℤ) → is_sum s p a q b g ≡ true → IsSum s p a q b g
sum_parts s p a q b g e =
    let r1 = and_parts (is_inequality a && is_inequality b && int_le (pos 1) p && int_le (pos 1) q && int_le (pos 1) g && nat_eq (nat_abs g) (divisor s (form_of (sum_of p a q b)))) (is_none (first_past (lit_numbers (prim s (sum_of p a q b))))) e in
    let r2 = and_parts (is_inequality a && is_inequality b && int_le (pos 1) p && int_le (pos 1) q && int_le (pos 1) g) (nat_eq (nat_abs g) (divisor s (form_of (sum_of p a q b)))) r1.0 in
    let r3 = and_parts (is_inequality a && is_inequality b && int_le (pos 1) p && int_le (pos 1) q) (int_le (pos 1) g) r2.0 in
    let r4 = and_parts (is_inequality a && is_inequality b && int_le (pos 1) p) (int_le (pos 1) q) r3.0 in
    let r5 = and_parts (is_inequality a && is_inequality b) (int_le (pos 1) p) r4.0 in
    let r6 = and_parts (is_inequality a) (is_inequality b) r5.0 in
    record { first = r6.0; second = r6.1; multiplier_a = int_le_at_least p r5.1; multiplier_b = int_le_at_least q r4.1 }

sum_sound : (s : Sort) (p : Point) (c : Context) (x : ℤ) (a : Lit) (y : ℤ) (b : Lit) (g : ℤ) (ks : List Context) → IsPoint s p → Facts s p c.facts → Fact s p (lit a) → Fact s p (lit b) → sum_line s c x a y b g ≡ Some ks → NoneHolds s p ks → ⊥
sum_sound s p c x a y b g ks ip f ha hb e n =
    let l : Lit = sum_of x a y b in
    let u = guard_some (is_sum s x a y b g) (Some (goes_on c (lit (prim s l)))) ks e in
    let r = sum_parts s x a y b g u.0 in
    let v = sum_holds x a y b p r.multiplier_a r.multiplier_b r.first r.second ha.holds hb.holds in
    one_left s p ks c (lit (prim s l)) (some_same (goes_on c (lit (prim s l))) ks u.1) f
    (record { of_sort = inequality_of s l (inequality_sum (is_strict a || is_strict b) (plus (times x (form_of a)) (times y (form_of b)))); holds = prim_to s l p ip v }) n

pub is_of_true : (s : Sort) (l : Lit) → is_of s l ≡ true → IsOf s l
is_of_true Rat (AtLeast f) e = tt
is_of_true Rat (Above f) e = tt
is_of_true Rat (Divides d f) e = absurd (cc)
is_of_true Rat (NotDivides d f) e = absurd (cc)
is_of_true Int (AtLeast f) e = tt
is_of_true Int (Above f) e = absurd (cc)
is_of_true Int (Divides d f) e = grind arith
is_of_true Int (NotDivides d f) e = grind arith

all_below_true : (n : ℕ) (ts : List (ℕ × ℤ)) → all_below n ts ≡ true → BelowTerms n ts
all_below_true n [] e = tt
all_below_true n (t ∷ ts) e =
    let a = and_parts (nat_lt t.0 n) (all_below n ts) e in
    let h = a.0 in
    (grind arith, all_below_true n ts a.1)

-- what may be split upon is of the sort, and over the first n variables
split_of_sort : (s : Sort) (n : ℕ) (l : Lit) → is_split s n l ≡ true → IsOf s l × BelowTerms n (form_of l).terms
split_of_sort s n l e =
    let r1 = and_parts (is_primitive s l && all_below n (form_of l).terms) (is_none (first_past (lit_numbers (neg s l)))) e in
    let r2 = and_parts (is_primitive s l) (all_below n (form_of l).terms) r1.0 in
    let r3 = and_parts (is_of s l) (same_literal (prim s l) l) r2.0 in
    (is_of_true s l r3.0, all_below_true n (form_of l).terms r2.1)

split_sound : (s : Sort) (p : Point) (n : ℕ) (c : Context) (l : Lit) (ks : List Context) → IsPoint s p → Facts s p c.facts → split_line s n c l ≡ Some ks → NoneHolds s p ks → ⊥
split_sound s p n c l ks ip f e x =
    let g = guard_some (is_split s n l) (Some (with_fact c (lit l) ∷ with_fact c (lit (neg s l)) ∷ [])) ks e in
    let o = split_of_sort s n l g.0 in
    let no = neg_is_matrix (lit l) s n o in
    let x' : NoneHolds s p (with_fact c (lit l) ∷ with_fact c (lit (neg s l)) ∷ []) = subst (λ (y : List Context). NoneHolds s p y) (sym (some_same (with_fact c (lit l) ∷ with_fact c (lit (neg s l)) ∷ []) ks g.1)) x in
    x'.1.0 (facts_push s p c.facts (lit (neg s l)) f (record {
      of_sort = no.0;
      holds = neg_from s l p o.0 ip (λ k. x'.0 (facts_push s p c.facts (lit l) f (record { of_sort = o.0; holds = k })));
    }))

-- ---- a disjunction that is learnt

facts_append : (s : Sort) (p : Point) (ms ns : List Matrix) → Facts s p ms → Facts s p ns → Facts s p (ms ++ ns)
facts_append s p [] ns h k = k
facts_append s p (m ∷ ms) ns h k = (h.0, facts_append s p ms ns h.1 k)

-- each literal is of the sort, and over the first n variables
abbrev Splittable : Sort → ℕ → List Lit → Type 0
Splittable s n [] = ⊤
Splittable s n (l ∷ ls) = (IsOf s l × BelowTerms n (form_of l).terms) × Splittable s n ls

all_split : (s : Sort) (n : ℕ) (ls : List Lit) → list_all (is_split s n) ls ≡ true → Splittable s n ls
all_split s n [] e = tt
all_split s n (l ∷ ls) e =
    let a = and_parts (is_split s n l) (list_all (is_split s n) ls) e in
    (split_of_sort s n l a.0, all_split s n ls a.1)

leaves_of_sort : (s : Sort) (n : ℕ) (ls : List Lit) → Splittable s n ls → EachOfSort (leaves ls) s
leaves_of_sort s n [] h = tt
leaves_of_sort s n (l ∷ ls) h = (h.0.0, leaves_of_sort s n ls h.1)

-- where all literals fail, all their negations hold
negations_hold : (s : Sort) (p : Point) (n : ℕ) (ls : List Lit) → IsPoint s p → Splittable s n ls → AllFail (leaves ls) p → Facts s p (map lit (map (neg s) ls))
negations_hold s p n [] ip h f = tt
negations_hold s p n (l ∷ ls) ip h f =
    let no = neg_is_matrix (lit l) s n h.0 in
    (record { of_sort = no.0; holds = neg_from s l p h.0.0 ip f.0 }, negations_hold s p n ls ip h.1 f.1)

-- either the disjunction is true, or all fail
either_or : (s : Sort) (p : Point) (n : ℕ) (ls : List Lit) → Splittable s n ls → (¬ Fact s p (either_of ls)) → (AllFail (leaves ls) p → ⊥) → ⊥
either_or s p n [] h wrong k = k tt
either_or s p n (l ∷ []) h wrong k = k ((λ t. wrong (record { of_sort = h.0.0; holds = t })), tt)
either_or s p n (l ∷ m ∷ ls) h wrong k = wrong (record { of_sort = leaves_of_sort s n (l ∷ m ∷ ls) h; holds = k })

learn_sound : (s : Sort) (p : Point) (n : ℕ) (c : Context) (ls : List Lit) (ks : List Context) → IsPoint s p → Facts s p c.facts → learn_line s n c ls ≡ Some ks → NoneHolds s p ks → ⊥
learn_sound s p n c ls ks ip f e x =
    let first : Context = record c { facts = c.facts ++ map lit (map (neg s) ls) } in
    let both : List Context = first ∷ with_fact c (either_of ls) ∷ [] in
    let g = guard_some (not c.bare && is_learn s n ls) (Some both) ks e in
    let r1 = and_parts (not c.bare) (is_learn s n ls) g.0 in
    let r2 = and_parts (nat_le 1 (length ls)) (list_all (is_split s n) ls) r1.1 in
    let h = all_split s n ls r2.1 in
    let x' : NoneHolds s p both = subst (λ (y : List Context). NoneHolds s p y) (sym (some_same both ks g.1)) x in
    either_or s p n ls h (λ k. x'.1.0 (facts_push s p c.facts (either_of ls) f k))
    (λ k. x'.0 (facts_append s p c.facts (map lit (map (neg s) ls)) f (negations_hold s p n ls ip h k)))

cube_sound : (s : Sort) (p : Point) (c : Context) (is : List ℕ) (ks : List Context) → Facts s p c.facts → cube_line c is ≡ Some ks → NoneHolds s p ks → ⊥
cube_sound s p c [] ks f e n = absurd (cc)
cube_sound s p c (i ∷ is) ks f e n =
    let m = map_some (λ ls. cube_context ls ∷ []) (literals_at c (i ∷ is)) ks e in
    let n' : NoneHolds s p (cube_context m.0 ∷ []) = subst (λ (x : List Context). NoneHolds s p x) (sym m.2) n in
    n'.0 (literals_at_hold s p c (i ∷ is) m.0 f m.1)

-- ---- the cases of an elimination

all_literals_are : (ms : List Matrix) (c : List Lit) → all_literals ms ≡ Some c → ms ≡ map lit c
all_literals_are [] c e = ap (map lit) (some_same [] c e)
all_literals_are (m ∷ ms) c e =
    let t = then_some (λ l. option_map (λ ls. l ∷ ls) (all_literals ms)) (literal_of m) c e in
    let u = map_some (λ ls. t.0 ∷ ls) (all_literals ms) c t.2 in
    ap₂ (λ (n : Matrix) (ns : List Matrix). n ∷ ns) (literal_is m t.0 t.1) (all_literals_are ms u.0 u.1) ∙ ap (map lit) u.2
  where
    literal_is : (n : Matrix) (l : Lit) → literal_of n ≡ Some l → n ≡ lit l
    literal_is (lit k) l e = ap lit (some_same k l e)
    literal_is (all ns) l e = absurd (cc)
    literal_is (some ns) l e = absurd (cc)

-- a cube that holds, as facts
pub cube_of_facts : (s : Sort) (p : Point) (c : List Lit) → Facts s p (map lit c) → IsCube s c × CubeHolds c p
cube_of_facts s p [] h = (tt, tt)
cube_of_facts s p (l ∷ ls) h =
    let k = cube_of_facts s p ls h.1 in ((h.0.of_sort, k.0), (h.0.holds, k.1))

pub facts_of_cube : (s : Sort) (p : Point) (c : List Lit) → IsCube s c → CubeHolds c p → Facts s p (map lit c)
facts_of_cube s p [] o h = tt
facts_of_cube s p (l ∷ ls) o h = (record { of_sort = o.0; holds = h.0 }, facts_of_cube s p ls o.1 h.1)

some_case : (p : Point) (cs : List (List Lit)) → AllByRecursion (IsCube Int) cs → SomeHolds cs p → NoneHolds Int p (map cube_context cs) → ⊥
some_case p [] o h n = h
some_case p (c ∷ cs) o h n =
    elim h [ inl k ↦ n.0 (facts_of_cube Int p c o.0 k) | inr k ↦ some_case p cs o.1 k n.1 ]

least_sound : (s : Sort) (p : Point) (n : ℕ) (c : Context) (v k : ℕ) (ks : List Context) → IsPoint s p → Facts s p c.facts → least_line s n c v k ≡ Some ks → NoneHolds s p ks → ⊥
least_sound Rat p n c v k ks ip f e x = absurd (cc)
least_sound Int p n c v k ks ip f e x =
    let g = guard_some (c.bare && nat_lt v n) (option_and_then (least_cases v k) (all_literals c.facts)) ks e in
    let t = then_some (least_cases v k) (all_literals c.facts) ks g.1 in
    let u = guard_some (is_least v k t.0) (Some (map cube_context (eliminated Int t.0 v))) ks t.2 in
    let h = cube_of_facts Int p t.0 (subst (λ (ms : List Matrix). Facts Int p ms) (all_literals_are c.facts t.0 t.1) f) in
    some_case p (eliminated Int t.0 v) (cases_are t.0 v h.0) (least_covers t.0 v p ip h.0 h.1)
    (subst (λ (y : List Context). NoneHolds Int p y) (sym (some_same (map cube_context (eliminated Int t.0 v)) ks u.1)) x)

-- ---- literals without variables

abs_times : (c : ℤ) (n : ℕ) → nat_abs (c *ℤ pos n) ≡ nat_abs c * n
abs_times (pos c) n = refl
abs_times (negsuc c) zero = omega (arith, ints)
abs_times (negsuc c) (suc n) = omega (arith, ints)

-- c*n is a multiple of d*n exactly where c is one of d
mod_from : (c d n : ℕ) → 1 ≤ n → (c * n) % (d * n) ≡ 0 → c % d ≡ 0
mod_from c d n h e =
    mod-eq-zero_of_dvd d (dvd_of_mul-dvd-mul_right {k = n} d h (dvd_of_mod-eq-zero (d * n) e))

mod_to : (c d n : ℕ) → c % d ≡ 0 → (c * n) % (d * n) ≡ 0
mod_to c d n e = mod-eq-zero_of_dvd (d * n) (mul-dvd-mul_right d (dvd_of_mod-eq-zero d e) n)

-- a constant form's value
dot_closed : (l : Lit) (f : Form) (c : Bool) (p : Point) → truth_without f.terms l f.constant ≡ Some c → (dot f p ≡ f.constant *ℤ pos p.den) × (truth_at l f.constant ≡ c)
dot_closed l f c p e = by f.terms f.constant e
  where
    by : (ts : List (ℕ × ℤ)) (k : ℤ) → truth_without ts l k ≡ Some c → (dot (record { terms = ts; constant = k }) p ≡ k *ℤ pos p.den) × (truth_at l k ≡ c)
    by [] k e = (omega (arith, ints), some_same (truth_at l k) c e)
    by (t ∷ ts) k e = absurd (cc)

false_fails : (l : Lit) (p : Point) → 1 ≤ p.den → truth_of l ≡ Some false → Holds l p → ⊥
false_fails (AtLeast f) p h e k =
    let d = dot_closed (AtLeast f) f false p e in
    let i : pos 0 ≤ℤ f.constant = nonneg_from_mul f.constant (pos p.den) (omega (arith, ints)) (subst (λ (x : ℤ). pos 0 ≤ℤ x) d.0 k) in
    let g = d.1 in
    omega (arith, ints)
false_fails (Above f) p h e k =
    let d = dot_closed (Above f) f false p e in
    let i : pos 0 <ℤ f.constant = pos_from_mul f.constant (pos p.den) (omega (arith, ints)) (subst (λ (x : ℤ). pos 0 <ℤ x) d.0 k) in
    let g = d.1 in
    omega (arith, ints)
false_fails (Divides m f) p h e k =
    let d = dot_closed (Divides m f) f false p e in
    let a : nat_abs (dot f p) ≡ nat_abs f.constant * p.den = ap nat_abs d.0 ∙ abs_times f.constant p.den in
    let r = mod_from (nat_abs f.constant) m p.den h (subst (λ (x : ℕ). x % (m * p.den) ≡ 0) a k) in
    true≢false (sym (eq-eqb (nat_abs f.constant % m) 0 r) ∙ d.1)
false_fails (NotDivides m f) p h e k =
    let d = dot_closed (NotDivides m f) f false p e in
    let a : nat_abs (dot f p) ≡ nat_abs f.constant * p.den = ap nat_abs d.0 ∙ abs_times f.constant p.den in
    k (subst (λ (x : ℕ). x % (m * p.den) ≡ 0) (sym a) (mod_to (nat_abs f.constant) m p.den (eqb-true (nat_abs f.constant % m) 0 (not-false (nat_eq (nat_abs f.constant % m) 0) d.1))))

is_false_some : (o : Option Bool) → is_false o ≡ true → o ≡ Some false
is_false_some None e = absurd (cc)
is_false_some (Some true) e = absurd (cc)
is_false_some (Some false) e = refl

-- ---- each line

pub cube_step_sound : (s : Sort) (n : ℕ) (c : Context) (l : Step) (ks : List Context) (p : Point) → IsPoint s p → Facts s p c.facts → cube_step s n c l ≡ Some ks → NoneHolds s p ks → ⊥
cube_step_sound s n c (Path k) ks p ip f e x = absurd (cc)
cube_step_sound s n c (Def v i) ks p ip f e x = absurd (cc)
cube_step_sound s n c (Part a i) ks p ip f e x =
    let m = map_some (goes_on c) (option_and_then (and_child i) (slice_get c.facts a)) ks e in
    let t = then_some (and_child i) (slice_get c.facts a) m.0 m.1 in
    one_left s p ks c m.0 m.2 f (and_child_holds s p t.0 i m.0 (facts_get s p c.facts a t.0 f t.1) t.2) x
cube_step_sound s n c (Cases a i) ks p ip f e x =
    let t = then_some (cases_line c i) (option_and_then or_children (slice_get c.facts a)) ks e in
    let u = then_some or_children (slice_get c.facts a) t.0 t.1 in
    let o = or_children_hold s p u.0 t.0 u.2 (facts_get s p c.facts a u.0 f u.1) in
    cases_sound s p t.0 c i ks f o.0 o.1 t.2 x
cube_step_sound s n c (Sum y a z b g) ks p ip f e x =
    let t = then_some (λ k. option_and_then (λ l. sum_line s c y k z l g) (literal_at c b)) (literal_at c a) ks e in
    let u = then_some (λ l. sum_line s c y t.0 z l g) (literal_at c b) ks t.2 in
    sum_sound s p c y t.0 z u.0 g ks ip f (literal_at_holds s p c a t.0 f t.1) (literal_at_holds s p c b u.0 f u.1) u.2 x
cube_step_sound s n c (Split l) ks p ip f e x = split_sound s p n c l ks ip f e x
cube_step_sound s n c (Cube is) ks p ip f e x = cube_sound s p c is ks f e x
cube_step_sound s n c (Least v k) ks p ip f e x = least_sound s p n c v k ks ip f e x
cube_step_sound s n c (Learn ls) ks p ip f e x = learn_sound s p n c ls ks ip f e x
cube_step_sound s n c (False a) ks p ip f e x =
    let t = then_some false_line (literal_at c a) ks e in
    let g = guard_some (is_false (truth_of t.0)) (Some []) ks t.2 in
    false_fails t.0 p (one_den s p ip) (is_false_some (truth_of t.0) g.0) (literal_at_holds s p c a t.0 f t.1).holds

-- ---- whole trees

mutual
  pub tree_sound : (t : Proof) (s : Sort) (p : Point) (rules : Rules) (c : Context) → ((c : Context) (l : Step) (ks : List Context) → Facts s p c.facts → rules c l ≡ Some ks → NoneHolds s p ks → ⊥) → Closes t rules c → Facts s p c.facts → ⊥
  tree_sound (line l ts) s p rules c sound k f = sound c l k.0 f k.1 (trees_sound ts s p rules k.0 sound k.2)

  pub trees_sound : (ts : Proofs) (s : Sort) (p : Point) (rules : Rules) (ks : List Context) → ((c : Context) (l : Step) (ks : List Context) → Facts s p c.facts → rules c l ≡ Some ks → NoneHolds s p ks → ⊥) → CloseAll ts rules ks → NoneHolds s p ks
  trees_sound no_proof s p rules [] sound k = tt
  trees_sound no_proof s p rules (c ∷ ks) sound k = absurd k
  trees_sound (proof t ts) s p rules [] sound k = absurd k
  trees_sound (proof t ts) s p rules (c ∷ ks) sound k =
      (λ f. tree_sound t s p rules c sound k.0 f, trees_sound ts s p rules ks sound k.1)
