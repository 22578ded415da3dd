-- Proofs without a system: what they refute, and under which other rules they stand.
use Rattle.std.specs.Prelude.{ℕ, ◌≤◌, ◌≡◌, Bool, true, false, ℤ, ◌&&◌, not, nat_lt, nat_le, is_none, Option, Some, option_and_then, option_map, List, [], ◌∷◌, ◌++◌, map, length}
use Rattle.std.specs.List.{list_all}
use Rattle.std.proofs.Common.{arith, ap, ◌∙◌, refl, append-nil}
use Rattle.std.proofs.lemmas.Bool.{and_parts, le-leb}
use Rattle.lin_term.specs.declared.Sort.{Sort}
use Rattle.lin_term.specs.declared.Lit.{Lit}
use Rattle.lin_term.specs.Linear.{Point, IsPoint}
use Rattle.lin_term.specs.Literal.{neg, form_of}
use Rattle.lin_term.specs.Wide.{first_past, lit_numbers}
use Rattle.dom_core.specs.Cube.{IsCube, CubeHolds}
use Rattle.dom_core.specs.Game.{lit}
use Rattle.cube_rules.specs.declared.step.Step.{Step}
use Rattle.cube_rules.specs.declared.step.Step.TheVariants.{Path, Def, Part, Cases, Sum, Split, Cube, Least, Learn, False}
use Rattle.cube_rules.specs.Context.{Context, with_fact, cube_context}
use Rattle.cube_rules.specs.Closing.{Proof, line, Proofs, no_proof, proof, preorder, Rules, Closes, CloseAll, ClosesBy}
use Rattle.cube_rules.specs.Facts.{guard, literals_at, all_literals, is_primitive, all_below}
use Rattle.cube_rules.specs.Limits.{is_within}
use Rattle.cube_rules.specs.Lines.{is_split, is_learn, either_of, is_int, least_cases, cube_line, cube_step}
use Rattle.cube_rules.specs.Bare.{bare_rules, ClosesBare, AllowsBare}
use Rattle.cube_rules.proofs.Sound.{guard_some, cube_step_sound, facts_of_cube, tree_sound}

-- ---- the cube is empty

pub bare_is_empty : (s : Sort) (n : ℕ) (cube : List Lit) (steps : List Step) → ClosesBare s n cube steps → IsCube s cube → (p : Point) → IsPoint s p → CubeHolds cube p → ⊥
bare_is_empty s n cube steps k o p ip h =
    tree_sound k.tree s p (bare_rules s n) (cube_context cube)
    (λ c l ks f e. cube_step_sound s n c l ks p ip f ((guard_some (is_within l) (cube_step s n c l) ks e).1))
    k.closes (facts_of_cube s p cube o h)

-- ---- other rules that allow the same lines

mutual
  pub closes_too : (t : Proof) (rules others : Rules) → ((c : Context) (l : Step) (ks : List Context) → rules c l ≡ Some ks → others c l ≡ Some ks) → (c : Context) → Closes t rules c → Closes t others c
  closes_too (line l ts) rules others more c k = (k.0, more c l k.0 k.1, close_too ts rules others more k.0 k.2)

  pub close_too : (ts : Proofs) (rules others : Rules) → ((c : Context) (l : Step) (ks : List Context) → rules c l ≡ Some ks → others c l ≡ Some ks) → (ks : List Context) → CloseAll ts rules ks → CloseAll ts others ks
  close_too no_proof rules others more [] k = tt
  close_too no_proof rules others more (c ∷ ks) k = absurd k
  close_too (proof t ts) rules others more [] k = absurd k
  close_too (proof t ts) rules others more (c ∷ ks) k =
      (closes_too t rules others more c k.0, close_too ts rules others more ks k.1)

-- ---- more variables

true_and : (a b : Bool) → a ≡ true → b ≡ true → (a && b) ≡ true
true_and true b e f = f
true_and false b e f = absurd (cc)

guarded : {A : Type 0} (b : Bool) (o : Option A) → b ≡ true → guard b o ≡ o
guarded true o e = refl
guarded false o e = absurd (cc)

lt_more : (i n m : ℕ) → n ≤ m → nat_lt i n ≡ true → nat_lt i m ≡ true
lt_more i n m h e = grind arith

below_more : (n m : ℕ) (ts : List (ℕ × ℤ)) → n ≤ m → all_below n ts ≡ true → all_below m ts ≡ true
below_more n m [] h e = refl
below_more n m (t ∷ ts) h e =
    let a = and_parts (nat_lt t.0 n) (all_below n ts) e in
    true_and (nat_lt t.0 m) (all_below m ts) (lt_more t.0 n m h a.0) (below_more n m ts h a.1)

split_more : (s : Sort) (n m : ℕ) (l : Lit) → n ≤ m → is_split s n l ≡ true → is_split s m l ≡ true
split_more s n m l h e =
    let a = and_parts (is_primitive s l && all_below n (form_of l).terms) (is_none (first_past (lit_numbers (neg s l)))) e in
    let b = and_parts (is_primitive s l) (all_below n (form_of l).terms) a.0 in
    true_and (is_primitive s l && all_below m (form_of l).terms) (is_none (first_past (lit_numbers (neg s l))))
    (true_and (is_primitive s l) (all_below m (form_of l).terms) b.0 (below_more n m (form_of l).terms h b.1)) a.1

splits_more : (s : Sort) (n m : ℕ) (ls : List Lit) → n ≤ m → list_all (is_split s n) ls ≡ true → list_all (is_split s m) ls ≡ true
splits_more s n m [] h e = refl
splits_more s n m (l ∷ ls) h e =
    let a = and_parts (is_split s n l) (list_all (is_split s n) ls) e in
    true_and (is_split s m l) (list_all (is_split s m) ls) (split_more s n m l h a.0) (splits_more s n m ls h a.1)

-- a line over n variables is one over more
pub step_more : (s : Sort) (n m : ℕ) (c : Context) (l : Step) (ks : List Context) → n ≤ m → cube_step s n c l ≡ Some ks → cube_step s m c l ≡ Some ks
step_more s n m c (Path k) ks h e = e
step_more s n m c (Def v i) ks h e = e
step_more s n m c (Part f i) ks h e = e
step_more s n m c (Cases f k) ks h e = e
step_more s n m c (Sum p f q g d) ks h e = e
step_more s n m c (Split l) ks h e =
    let both : Option (List Context) = Some (with_fact c (lit l) ∷ with_fact c (lit (neg s l)) ∷ []) in
    let g = guard_some (is_split s n l) both ks e in
    guarded (is_split s m l) both (split_more s n m l h g.0) ∙ g.1
step_more s n m c (Cube fs) ks h e = e
step_more s n m c (Least v k) ks h e =
    let rest = option_and_then (least_cases v k) (all_literals c.facts) in
    let g = guard_some (is_int s && c.bare && nat_lt v n) rest ks e in
    let a = and_parts (is_int s && c.bare) (nat_lt v n) g.0 in
    guarded (is_int s && c.bare && nat_lt v m) rest (true_and (is_int s && c.bare) (nat_lt v m) a.0 (lt_more v n m h a.1)) ∙ g.1
step_more s n m c (Learn ls) ks h e =
    let both : Option (List Context) = Some (record c { facts = c.facts ++ map lit (map (neg s) ls) } ∷ with_fact c (either_of ls) ∷ []) in
    let g = guard_some (not c.bare && is_learn s n ls) both ks e in
    let a = and_parts (not c.bare) (is_learn s n ls) g.0 in
    let b = and_parts (nat_le 1 (length ls)) (list_all (is_split s n) ls) a.1 in
    guarded (not c.bare && is_learn s m ls) both (true_and (not c.bare) (is_learn s m ls) a.0 (true_and (nat_le 1 (length ls)) (list_all (is_split s m) ls) b.0 (splits_more s n m ls h b.1))) ∙ g.1
step_more s n m c (False f) ks h e = e

pub bare_more : (s : Sort) (n m : ℕ) → n ≤ m → AllowsBare s n (bare_rules s m)
bare_more s n m h c l ks e =
    let g = guard_some (is_within l) (cube_step s n c l) ks e in
    guarded (is_within l) (cube_step s m c l) g.0 ∙ step_more s n m c l ks h g.1

-- ---- behind a line that takes the literals from the facts

taken : (c : Context) (facts : List ℕ) (cube : List Lit) → literals_at c facts ≡ Some cube → 1 ≤ length facts → cube_line c facts ≡ Some (cube_context cube ∷ [])
taken c [] cube e h = absurd (omega arith)
taken c (f ∷ fs) cube e h = ap (option_map (λ ls. cube_context ls ∷ [])) e

pub spliced : (rules : Rules) (s : Sort) (n : ℕ) (c : Context) (facts : List ℕ) (cube : List Lit) (steps : List Step) → AllowsBare s n rules → literals_at c facts ≡ Some cube → 1 ≤ length facts → ClosesBare s n cube steps → ClosesBy rules c (Cube facts ∷ steps)
spliced rules s n c facts cube steps a e h k = record {
  tree = line (Cube facts) (proof k.tree no_proof);
  lines = ap (λ (ls : List Step). Cube facts ∷ ls) (append-nil (preorder k.tree) ∙ k.lines);
  closes = (
    cube_context cube ∷ [],
    a c (Cube facts) (cube_context cube ∷ []) (guarded (is_within (Cube facts)) (cube_line c facts) (le-leb 1 (length facts) h) ∙ taken c facts cube e h),
    (closes_too k.tree (bare_rules s n) rules a (cube_context cube) k.closes, tt),
  );
}
