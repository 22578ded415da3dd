-- A line in a context of which some facts do not stay: where those that it reads do, it meets its rule as before.
use Rattle.std.specs.Prelude.{ℕ, ◌<◌, ◌≡◌, ℤ, Bool, true, false, ◌&&◌, not, nat_lt, nat_le, nat_eq, Option, Some, option_and_then, option_map, slice_get, List, [], ◌∷◌, ◌++◌, map, length, ⊤}
use Rattle.std.proofs.Common.{ap, ap₂, ◌∙◌, sym, refl}
use Rattle.std.proofs.lemmas.List.{length-map}
use Rattle.lin_term.specs.declared.Sort.{Sort}
use Rattle.lin_term.specs.declared.Lit.{Lit}
use Rattle.lin_term.specs.Literal.{prim, neg}
use Rattle.lin_term.specs.Sum.{sum_of}
use Rattle.lin_term.specs.Truth.{truth_of}
use Rattle.dom_core.specs.Game.{Matrix, lit, Matrices, none, more}
use Rattle.lose_system.specs.Losing.{System, literal_number, definition_at}
use Rattle.cube_rules.specs.declared.Step.{Step}
use Rattle.cube_rules.specs.declared.Step.TheVariants.{Path, Def, Part, Cases, Sum, Split, Cube, Least, Learn, False}
use Rattle.cube_rules.specs.Context.{Context, with_fact, cube_context}
use Rattle.cube_rules.specs.Facts.{guard, count, and_child, or_children, literal_of, literal_at, literals_at, all_literals}
use Rattle.cube_rules.specs.Limits.{is_within}
use Rattle.cube_rules.specs.Lines.{goes_on, each_child, cases_line, is_sum, sum_line, is_split, is_learn, either_of, is_int, least_cases, is_false, false_line}
use Rattle.cube_rules.proofs.Sound.{guard_some, map_some, then_some, some_same}
use Rattle.proof_rules.specs.Rules.{rule_line, apply}
use Rattle.proof_rules.specs.Idle.{is_cube}
use Rattle.proof_idle.specs.Walk.{added}
use Rattle.proof_prune.specs.Counting.{facts_read}
use Rattle.proof_prune.specs.Writing.{renumbered, new_number}
use Rattle.proof_prune.proofs.Kept.{ranks}
use Rattle.proof_prune.proofs.Ranks.{stays, thinned, new_get}

abbrev pub thin : List Bool → Context → Context
thin us c = record { bare = c.bare; facts = thinned us c.facts }

abbrev pub more_facts : Context → List Matrix → Context
more_facts c ms = record { bare = c.bare; facts = c.facts ++ ms }

-- contexts with these facts besides
abbrev pub with_each : Context → List (List Matrix) → List Context
with_each c xss = map (more_facts c) xss

-- so many facts in the first list, one in each other
abbrev pub HasCounts : ℕ → List (List Matrix) → Type 0
HasCounts a [] = ⊤
HasCounts a (ms ∷ mss) = (length ms ≡ a) × HasCounts 1 mss

-- those of these facts that there are stay
abbrev pub Stay : List Bool → List ℕ → Type 0
Stay us [] = ⊤
Stay us (k ∷ ks) = (k < length us → stays us k ≡ true) × Stay us ks

-- what a line leaves before and after
pub record Adds (a : ℕ) (c d : Context) (ks : List Context) (o : Option (List Context)) : Type 0 where
  pub facts : List (List Matrix)
  pub counts : HasCounts a facts
  pub before : ks ≡ with_each c facts
  pub after : o ≡ Some (with_each d facts)

-- the same for lines that keep nothing of the context
abbrev pub Leaves : List Bool → Context → Step → List Context → Option (List Context) → Type 0
Leaves us c l ks o = Adds (added l) c (thin us c) ks o

one_more : (a : ℕ) (us : List Bool) (c : Context) (m : Matrix) (ks : List Context) (o : Option (List Context)) → a ≡ 1 → goes_on c m ≡ ks → o ≡ Some (goes_on (thin us c) m) → Adds a c (thin us c) ks o
one_more a us c m ks o e b x = record { facts = (m ∷ []) ∷ []; counts = (sym e, tt); before = sym b; after = x }

-- ---- facts at their new numbers

literal_new : (us : List Bool) (c : Context) (f : ℕ) (l : Lit) → length c.facts ≡ length us → literal_at c f ≡ Some l → (f < length us → stays us f ≡ true) → literal_at (thin us c) (new_number (ranks us) f) ≡ Some l
literal_new us c f l n e s =
    let t = then_some literal_of (slice_get c.facts f) l e in
    ap (option_and_then literal_of) (new_get us c.facts f t.0 n t.1 s) ∙ t.2

literals_new : (us : List Bool) (c : Context) (fs : List ℕ) (ls : List Lit) → length c.facts ≡ length us → literals_at c fs ≡ Some ls → Stay us fs → literals_at (thin us c) (map (new_number (ranks us)) fs) ≡ Some ls
literals_new us c [] ls n e s = e
literals_new us c (f ∷ fs) ls n e s =
    let t = then_some (λ l. option_map (λ ls. l ∷ ls) (literals_at c fs)) (literal_at c f) ls e in
    let m = map_some (λ ls. t.0 ∷ ls) (literals_at c fs) ls t.2 in
    let g = map (new_number (ranks us)) fs in
    ap (option_and_then (λ l. option_map (λ ls. l ∷ ls) (literals_at (thin us c) g))) (literal_new us c f t.0 n t.1 s.0)
    ∙ ap (option_map (λ ls. t.0 ∷ ls)) (literals_new us c fs m.0 n m.1 s.1)
    ∙ ap Some m.2

-- ---- each rule

abbrev ones : Matrices → List (List Matrix)
ones none = []
ones (more m ms) = (m ∷ []) ∷ ones ms

ones_are : (c : Context) (ms : Matrices) → each_child c ms ≡ with_each c (ones ms)
ones_are c none = refl
ones_are c (more m ms) = ap (λ (xs : List Context). with_fact c m ∷ xs) (ones_are c ms)

ones_count : (ms : Matrices) → HasCounts 1 (ones ms)
ones_count none = tt
ones_count (more m ms) = (refl, ones_count ms)

never_bare : (a b c : Bool) → b ≡ false → (a && b && c) ≡ true → ⊥
never_bare true true c e h = absurd (cc)
never_bare true false true e h = absurd (cc)
never_bare true false false e h = absurd (cc)
never_bare false true true e h = absurd (cc)
never_bare false true false e h = absurd (cc)
never_bare false false true e h = absurd (cc)
never_bare false false false e h = absurd (cc)

path_thin : (s : Sort) (sys : System) (us : List Bool) (c : Context) (k : ℕ) (ks : List Context) → rule_line s sys c (Path k) ≡ Some ks → Leaves us c (Path k) ks (rule_line s sys (thin us c) (Path k))
path_thin s sys us c k ks e =
    let g = guard_some (not c.bare) (option_map (goes_on c) (slice_get sys.paths k)) ks e in
    let m = map_some (goes_on c) (slice_get sys.paths k) ks g.1 in
    one_more 1 us c m.0 ks (rule_line s sys (thin us c) (Path k)) refl m.2
    (ap₂ (λ (b : Bool) (o : Option Matrix). guard b (option_map (goes_on (thin us c)) o)) g.0 m.1)

def_thin : (s : Sort) (sys : System) (us : List Bool) (c : Context) (v i : ℕ) (ks : List Context) → rule_line s sys c (Def v i) ≡ Some ks → Leaves us c (Def v i) ks (rule_line s sys (thin us c) (Def v i))
def_thin s sys us c v i ks e =
    let o = option_and_then (literal_number i) (definition_at sys.defs v) in
    let g = guard_some (not c.bare) (option_map (λ l. goes_on c (lit l)) o) ks e in
    let m = map_some (λ l. goes_on c (lit l)) o ks g.1 in
    one_more 1 us c (lit m.0) ks (rule_line s sys (thin us c) (Def v i)) refl m.2
    (ap₂ (λ (b : Bool) (p : Option Lit). guard b (option_map (λ l. goes_on (thin us c) (lit l)) p)) g.0 m.1)

part_thin : (s : Sort) (sys : System) (us : List Bool) (c : Context) (f i : ℕ) (ks : List Context) → length c.facts ≡ length us → Stay us (f ∷ []) → rule_line s sys c (Part f i) ≡ Some ks
    → Leaves us c (Part f i) ks (rule_line s sys (thin us c) (renumbered (ranks us) (Part f i)))
part_thin s sys us c f i ks n y e =
    let m = map_some (goes_on c) (option_and_then (and_child i) (slice_get c.facts f)) ks e in
    let q = then_some (and_child i) (slice_get c.facts f) m.0 m.1 in
    one_more 1 us c m.0 ks (rule_line s sys (thin us c) (renumbered (ranks us) (Part f i))) refl m.2
    (ap (λ (o : Option Matrix). option_map (goes_on (thin us c)) (option_and_then (and_child i) o)) (new_get us c.facts f q.0 n q.1 y.0)
    ∙ ap (option_map (goes_on (thin us c))) q.2)

cases_thin : (s : Sort) (sys : System) (us : List Bool) (c : Context) (f k : ℕ) (ks : List Context) → length c.facts ≡ length us → Stay us (f ∷ []) → rule_line s sys c (Cases f k) ≡ Some ks
    → Leaves us c (Cases f k) ks (rule_line s sys (thin us c) (renumbered (ranks us) (Cases f k)))
cases_thin s sys us c f k ks n y e =
    let t = then_some (cases_line c k) (option_and_then or_children (slice_get c.facts f)) ks e in
    let q = then_some or_children (slice_get c.facts f) t.0 t.1 in
    let g = guard_some (nat_eq (count t.0) k) (Some (each_child c t.0)) ks t.2 in
    record {
      facts = ones t.0;
      counts = ones_count t.0;
      before = sym (some_same (each_child c t.0) ks g.1) ∙ ones_are c t.0;
      after = ap (λ (o : Option Matrix). option_and_then (cases_line (thin us c) k) (option_and_then or_children o)) (new_get us c.facts f q.0 n q.1 y.0)
          ∙ ap (option_and_then (cases_line (thin us c) k)) q.2
          ∙ ap (λ (b : Bool). guard b (Some (each_child (thin us c) t.0))) g.0
          ∙ ap Some (ones_are (thin us c) t.0);
    }

sum_thin : (s : Sort) (sys : System) (us : List Bool) (c : Context) (p : ℤ) (f : ℕ) (q : ℤ) (h : ℕ) (d : ℤ) (ks : List Context) → length c.facts ≡ length us → Stay us (f ∷ h ∷ []) → rule_line s sys c (Sum p f q h d) ≡ Some ks
    → Leaves us c (Sum p f q h d) ks (rule_line s sys (thin us c) (renumbered (ranks us) (Sum p f q h d)))
sum_thin s sys us c p f q h d ks n y e =
    let t = then_some (λ a. option_and_then (λ b. sum_line s c p a q b d) (literal_at c h)) (literal_at c f) ks e in
    let u = then_some (λ b. sum_line s c p t.0 q b d) (literal_at c h) ks t.2 in
    let m : Matrix = lit (prim s (sum_of p t.0 q u.0)) in
    let x = guard_some (is_sum s p t.0 q u.0 d) (Some (goes_on c m)) ks u.2 in
    let c' = thin us c in
    one_more 1 us c m ks (rule_line s sys c' (renumbered (ranks us) (Sum p f q h d))) refl (some_same (goes_on c m) ks x.1)
    (ap (option_and_then (λ a. option_and_then (λ b. sum_line s c' p a q b d) (literal_at c' (new_number (ranks us) h)))) (literal_new us c f t.0 n t.1 y.0)
    ∙ ap (option_and_then (λ b. sum_line s c' p t.0 q b d)) (literal_new us c h u.0 n u.1 y.1.0)
    ∙ ap (λ (b : Bool). guard b (Some (goes_on c' m))) x.0)

split_thin : (s : Sort) (sys : System) (us : List Bool) (c : Context) (l : Lit) (ks : List Context) → rule_line s sys c (Split l) ≡ Some ks → Leaves us c (Split l) ks (rule_line s sys (thin us c) (Split l))
split_thin s sys us c l ks e =
    let both : List Context = with_fact c (lit l) ∷ with_fact c (lit (neg s l)) ∷ [] in
    let g = guard_some (is_split s sys.count l) (Some both) ks e in
    let c' = thin us c in
    record {
      facts = (lit l ∷ []) ∷ (lit (neg s l) ∷ []) ∷ [];
      counts = (refl, (refl, tt));
      before = sym (some_same both ks g.1);
      after = ap (λ (b : Bool). guard b (Some (with_fact c' (lit l) ∷ with_fact c' (lit (neg s l)) ∷ []))) g.0;
    }

learn_thin : (s : Sort) (sys : System) (us : List Bool) (c : Context) (ls : List Lit) (ks : List Context) → rule_line s sys c (Learn ls) ≡ Some ks → Leaves us c (Learn ls) ks (rule_line s sys (thin us c) (Learn ls))
learn_thin s sys us c ls ks e =
    let first : List Matrix = map lit (map (neg s) ls) in
    let both : List Context = record c { facts = c.facts ++ first } ∷ with_fact c (either_of ls) ∷ [] in
    let g = guard_some (not c.bare && is_learn s sys.count ls) (Some both) ks e in
    let c' = thin us c in
    record {
      facts = first ∷ (either_of ls ∷ []) ∷ [];
      counts = (length-map (map (neg s) ls) lit ∙ length-map ls (neg s), (refl, tt));
      before = sym (some_same both ks g.1);
      after = ap (λ (b : Bool). guard b (Some (record c' { facts = c'.facts ++ first } ∷ with_fact c' (either_of ls) ∷ []))) g.0;
    }

false_thin : (s : Sort) (sys : System) (us : List Bool) (c : Context) (f : ℕ) (ks : List Context) → length c.facts ≡ length us → Stay us (f ∷ []) → rule_line s sys c (False f) ≡ Some ks
    → Leaves us c (False f) ks (rule_line s sys (thin us c) (renumbered (ranks us) (False f)))
false_thin s sys us c f ks n y e =
    let t = then_some false_line (literal_at c f) ks e in
    let none : List Context = [] in
    let g = guard_some (is_false (truth_of t.0)) (Some none) ks t.2 in
    record {
      facts = [];
      counts = tt;
      before = sym (some_same none ks g.1);
      after = ap (option_and_then false_line) (literal_new us c f t.0 n t.1 y.0) ∙ ap (λ (b : Bool). guard b (Some none)) g.0;
    }

rule_thin : (s : Sort) (sys : System) (us : List Bool) (c : Context) (l : Step) (ks : List Context) → c.bare ≡ false → length c.facts ≡ length us → Stay us (facts_read l) → is_cube l ≡ false → rule_line s sys c l ≡ Some ks
    → Leaves us c l ks (rule_line s sys (thin us c) (renumbered (ranks us) l))
rule_thin s sys us c (Path k) ks o n y z e = path_thin s sys us c k ks e
rule_thin s sys us c (Def v i) ks o n y z e = def_thin s sys us c v i ks e
rule_thin s sys us c (Part f i) ks o n y z e = part_thin s sys us c f i ks n y e
rule_thin s sys us c (Cases f k) ks o n y z e = cases_thin s sys us c f k ks n y e
rule_thin s sys us c (Sum p f q h d) ks o n y z e = sum_thin s sys us c p f q h d ks n y e
rule_thin s sys us c (Split l) ks o n y z e = split_thin s sys us c l ks e
rule_thin s sys us c (Cube fs) ks o n y z e = absurd (cc)
rule_thin s sys us c (Least v k) ks o n y z e =
    let g = guard_some (is_int s && c.bare && nat_lt v sys.count) (option_and_then (least_cases v k) (all_literals c.facts)) ks e in
    absurd (never_bare (is_int s) c.bare (nat_lt v sys.count) o g.0)
rule_thin s sys us c (Learn ls) ks o n y z e = learn_thin s sys us c ls ks e
rule_thin s sys us c (False f) ks o n y z e = false_thin s sys us c f ks n y e

within_new : (names : List ℕ) (l : Step) → is_within (renumbered names l) ≡ is_within l
within_new names (Path k) = refl
within_new names (Def v i) = refl
within_new names (Part f i) = refl
within_new names (Cases f k) = refl
within_new names (Sum p f q h d) = refl
within_new names (Split l) = refl
within_new names (Cube fs) = ap (nat_le 1) (length-map fs (new_number names))
within_new names (Least v k) = refl
within_new names (Learn ls) = refl
within_new names (False f) = refl

-- ---- whole lines

-- what a line that is not `cube` leaves, before and after
pub record Thinned (us : List Bool) (s : Sort) (sys : System) (c : Context) (l : Step) (ks : List Context) : Type 0 where
  pub facts : List (List Matrix)
  pub counts : HasCounts (added l) facts
  pub before : ks ≡ with_each c facts
  pub after : apply s sys (thin us c) (renumbered (ranks us) l) ≡ Some (with_each (thin us c) facts)

pub line_thin : (s : Sort) (sys : System) (us : List Bool) (c : Context) (l : Step) (ks : List Context) → c.bare ≡ false → length c.facts ≡ length us → Stay us (facts_read l) → is_cube l ≡ false → apply s sys c l ≡ Some ks → Thinned us s sys c l ks
line_thin s sys us c l ks o n y z e =
    let g = guard_some (is_within l) (rule_line s sys c l) ks e in
    let r = rule_thin s sys us c l ks o n y z g.1 in
    record {
      facts = r.facts;
      counts = r.counts;
      before = r.before;
      after = ap (λ (b : Bool). guard b (rule_line s sys (thin us c) (renumbered (ranks us) l))) (within_new (ranks us) l ∙ g.0) ∙ r.after;
    }

-- a `cube` leaves the same
cube_rule : (s : Sort) (sys : System) (us : List Bool) (c : Context) (l : Step) (ks : List Context) → length c.facts ≡ length us → Stay us (facts_read l) → is_cube l ≡ true → rule_line s sys c l ≡ Some ks → rule_line s sys (thin us c) (renumbered (ranks us) l) ≡ Some ks
cube_rule s sys us c (Path k) ks n y z e = absurd (cc)
cube_rule s sys us c (Def v i) ks n y z e = absurd (cc)
cube_rule s sys us c (Part f i) ks n y z e = absurd (cc)
cube_rule s sys us c (Cases f k) ks n y z e = absurd (cc)
cube_rule s sys us c (Sum p f q h d) ks n y z e = absurd (cc)
cube_rule s sys us c (Split l) ks n y z e = absurd (cc)
cube_rule s sys us c (Cube []) ks n y z e = absurd (cc)
cube_rule s sys us c (Cube (f ∷ fs)) ks n y z e =
    let m = map_some (λ ls. cube_context ls ∷ []) (literals_at c (f ∷ fs)) ks e in
    ap (option_map (λ ls. cube_context ls ∷ [])) (literals_new us c (f ∷ fs) m.0 n m.1 y) ∙ ap Some m.2
cube_rule s sys us c (Least v k) ks n y z e = absurd (cc)
cube_rule s sys us c (Learn ls) ks n y z e = absurd (cc)
cube_rule s sys us c (False f) ks n y z e = absurd (cc)

pub cube_thin : (s : Sort) (sys : System) (us : List Bool) (c : Context) (l : Step) (ks : List Context) → length c.facts ≡ length us → Stay us (facts_read l) → is_cube l ≡ true → apply s sys c l ≡ Some ks → apply s sys (thin us c) (renumbered (ranks us) l) ≡ Some ks
cube_thin s sys us c l ks n y z e =
    let g = guard_some (is_within l) (rule_line s sys c l) ks e in
    ap (λ (b : Bool). guard b (rule_line s sys (thin us c) (renumbered (ranks us) l))) (within_new (ranks us) l ∙ g.0) ∙ cube_rule s sys us c l ks n y z g.1
