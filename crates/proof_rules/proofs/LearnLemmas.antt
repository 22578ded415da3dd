-- The line `learn`: its literals one after the other, and their disjunction as a fact.
use Rattle.std.specs.Prelude.{ℕ, zero, suc, ◌+◌, ◌<◌, ◌≤◌, ◌≡◌, ◌≢◌, Bool, true, false, ◌&&◌, not, nat_le, nat_eq, is_none, Option, Some, None, option_map, slice_get, List, [], ◌∷◌, ◌++◌, map, drop, get_or, length}
use Rattle.std.specs.List.{list_all}
use Rattle.std.proofs.Common.{arith, ap, ap₂, ◌∙◌, sym, subst, refl, append_assoc, append-nil}
use Rattle.std.proofs.lemmas.Bool.{and_parts}
use Rattle.std.proofs.lemmas.List.{map-append, at_drop_more, at_drop_all}
use Rattle.lin_term.specs.declared.Sort.{Sort}
use Rattle.lin_term.specs.declared.Lit.{Lit}
use Rattle.lin_term.specs.Literal.{neg}
use Rattle.lin_term.specs.Wide.{first_past, lit_numbers}
use Rattle.dom_core.specs.Cube.{IsPrimitiveCube}
use Rattle.dom_core.specs.Game.{Matrix, lit, some}
use Rattle.lose_system.specs.Written.{WrittenSystem}
use Rattle.cube_rules.specs.declared.Step.TheVariants as step
use Rattle.cube_rules.specs.Context.{Context, with_fact}
use Rattle.cube_rules.specs.Facts.{guard}
use Rattle.cube_rules.specs.Limits.{has_modulus, is_literal_within, is_within}
use Rattle.cube_rules.specs.Lines.{is_split, is_learn, leaves, either_of, learn_line}
use Rattle.proof_rules.specs.declared.fact.Fact.{Fact}
use Rattle.proof_rules.specs.declared.fact.Next.{Next}
use Rattle.proof_rules.specs.declared.fact.Next.TheVariants.{Learn}
use Rattle.proof_rules.specs.Held.{fact_of, context_of, next_of, IsKnown, IsFact, AreFacts, IsKeptNext, Leaves}
use Rattle.proof_rules.proofs.LineLemmas.{some_same, breaks, leaves as left_by}
use Rattle.proof_rules.proofs.LeastLemmas.{primitive-push}
use Rattle.proof_rules.proofs.StackLemmas.{facts-push}
use Rattle.proof_rules.proofs.MadeLemmas.{pair, split_known, guard_is, guard_true}

-- the negation of each, in order
abbrev pub negs : Sort → List Lit → List Matrix
negs s ls = map lit (map (neg s) ls)

-- ---- the literals of a clause, behind its references

pub map_get : {A B : Type 0} (f : A → B) (xs : List A) (i : ℕ) → slice_get (map f xs) i ≡ option_map f (slice_get xs i)
map_get f [] i = refl
map_get f (x ∷ xs) zero = refl
map_get f (x ∷ xs) (suc i) = map_get f xs i

pub map_length : {A B : Type 0} (f : A → B) (xs : List A) → length (map f xs) ≡ length xs
map_length f [] = refl
map_length f (x ∷ xs) = ap suc (map_length f xs)

-- ---- the disjunction as a fact

pub either_many : (ls : List Lit) → length ls ≢ 1 → some (leaves ls) ≡ either_of ls
either_many [] h = refl
either_many (l ∷ []) h = absurd (h refl)
either_many (l ∷ k ∷ ls) h = refl

pub either_one : (ls : List Lit) (l : Lit) → length ls ≡ 1 → Some l ≡ slice_get ls 0 → lit l ≡ either_of ls
either_one [] l h e = absurd (cc)
either_one (x ∷ []) l h e = ap lit (some_same l x e)
either_one (x ∷ y ∷ ls) l h e = absurd (omega arith)

pub one_known : (s : Sort) (ls : List Lit) (l : Lit) → Some l ≡ slice_get ls 0 → IsPrimitiveCube s ls → IsKnown s l
one_known s [] l e p = absurd (cc)
one_known s (x ∷ ls) l e p = subst (λ (y : Lit). IsKnown s y) (sym (some_same l x e)) (p.0, p.1)

pub one_there : (ls : List Lit) → length ls ≡ 1 → None ≡ slice_get ls 0 → ⊥
one_there [] h e = absurd (omega arith)
one_there (x ∷ ls) h e = cc

-- ---- one literal after the other

within_at : (ls : List Lit) (i : ℕ) (l : Lit) → list_all is_literal_within ls ≡ true → i < length ls → l ≡ get_or ls i l → first_past (lit_numbers l) ≡ None
within_at [] i l e h q = absurd (omega arith)
within_at (x ∷ ls) zero l e h q =
    let a = and_parts (is_literal_within x) (list_all is_literal_within ls) e in
    let b = and_parts (is_none (first_past (lit_numbers x))) (has_modulus x) a.0 in
    subst (λ (y : Lit). first_past (lit_numbers y) ≡ None) (sym q) (no_past (first_past (lit_numbers x)) b.0)
  where
    no_past : {A : Type 0} (o : Option A) → is_none o ≡ true → o ≡ None
    no_past None h = refl
    no_past (Some y) h = absurd (cc)
within_at (x ∷ ls) (suc i) l e h q =
    let a = and_parts (is_literal_within x) (list_all is_literal_within ls) e in within_at ls i l a.1 (omega arith) q

pub literal_within : (ls : List Lit) (i : ℕ) (l : Lit) → is_within (step.Learn ls) ≡ true → i < length ls → l ≡ get_or ls i l → first_past (lit_numbers l) ≡ None
literal_within ls i l e h q =
    let a = and_parts (nat_le 1 (length ls)) (list_all is_literal_within ls) e in within_at ls i l a.1 h q

-- the literals before i are in the clause, and their negations are facts
pub record LearntSo (s : Sort) (w : WrittenSystem) (n : ℕ) (ls : List Lit) (i : ℕ) (clause : List Lit) (facts : List Fact) : Type 0 where
  pub tested : list_all (is_split s n) ls ≡ list_all (is_split s n) (drop i ls)
  pub literals : clause ++ drop i ls ≡ ls
  pub negated : map (fact_of s w) facts ++ negs s (drop i ls) ≡ negs s ls
  pub clause_known : IsPrimitiveCube s clause
  pub facts_known : AreFacts s w facts

pub learnt_none : (s : Sort) (w : WrittenSystem) (n : ℕ) (ls : List Lit) (clause : List Lit) (facts : List Fact) → clause ≡ [] → facts ≡ [] → LearntSo s w n ls 0 clause facts
learnt_none s w n ls clause facts e f =
    subst (λ (c : List Lit). LearntSo s w n ls 0 c facts) (sym e)
    (subst (λ (fs : List Fact). LearntSo s w n ls 0 [] fs) (sym f)
    (record { tested = refl; literals = refl; negated = refl; clause_known = tt; facts_known = tt }))

here : (ls : List Lit) (i : ℕ) (l : Lit) → i < length ls → l ≡ get_or ls i l → drop i ls ≡ l ∷ drop (i + 1) ls
here ls i l h e =
    at_drop_more (λ (xs : List Lit). xs) ls i l h ∙ ap (λ (y : Lit). y ∷ drop (i + 1) ls) (sym e)

and_true : (a b : Bool) → a ≡ true → (a && b) ≡ b
and_true true b e = refl
and_true false b e = absurd (cc)

and_false : (a b : Bool) → a ≡ false → (a && b) ≡ false
and_false true b e = absurd (cc)
and_false false b e = refl

-- one more, which may be split upon
pub learnt_more : (s : Sort) (w : WrittenSystem) (n : ℕ) (ls : List Lit) (i : ℕ) (clause new : List Lit) (facts more : List Fact) (l a b x y : Lit) (f : Fact) → LearntSo s w n ls i clause facts → i < length ls → l ≡ get_or ls i l → first_past (lit_numbers l) ≡ None → Some (pair a b) ≡ guard (is_split s n l) (Some (pair l (neg s l))) → x ≡ a → y ≡ b → new ≡ clause ++ x ∷ [] → more ≡ facts ++ f ∷ [] → fact_of s w f ≡ lit y → IsFact s w f ≡ IsKnown s y → LearntSo s w n ls (i + 1) new more
learnt_more s w n ls i clause new facts more l a b x y f k h e t p xa yb en em fe fk =
    let d = here ls i l h e in
    let q = guard_is (is_split s n l) (pair a b) (pair l (neg s l)) p in
    let ok = guard_true (is_split s n l) (pair a b) (pair l (neg s l)) p in
    let xl : x ≡ l = xa ∙ ap (λ (z : Lit × Lit). z.0) q in
    let yl : y ≡ neg s l = yb ∙ ap (λ (z : Lit × Lit). z.1) q in
    let known = split_known s n l t ok in
    subst (λ (c : List Lit). LearntSo s w n ls (i + 1) c more) (sym en)
    (subst (λ (fs : List Fact). LearntSo s w n ls (i + 1) (clause ++ x ∷ []) fs) (sym em)
    (record {
      tested = k.tested ∙ ap (list_all (is_split s n)) d ∙ and_true (is_split s n l) (list_all (is_split s n) (drop (i + 1) ls)) ok;
      literals = append_assoc clause (x ∷ []) (drop (i + 1) ls) ∙ ap (λ (z : Lit). clause ++ z ∷ drop (i + 1) ls) xl ∙ ap (λ (xs : List Lit). clause ++ xs) (sym d) ∙ k.literals;
      negated = ap (λ (ms : List Matrix). ms ++ negs s (drop (i + 1) ls)) (map-append (fact_of s w) facts (f ∷ []))
          ∙ append_assoc (map (fact_of s w) facts) (fact_of s w f ∷ []) (negs s (drop (i + 1) ls))
          ∙ ap (λ (m : Matrix). map (fact_of s w) facts ++ m ∷ negs s (drop (i + 1) ls)) (fe ∙ ap lit yl)
          ∙ ap (λ (xs : List Lit). map (fact_of s w) facts ++ negs s xs) (sym d)
          ∙ k.negated;
      clause_known = primitive-push s clause x k.clause_known (subst (λ (z : Lit). IsKnown s z) (sym xl) known.0);
      facts_known = facts-push s w facts f k.facts_known (subst (λ (T : Type 0). T) (sym fk) (subst (λ (z : Lit). IsKnown s z) (sym yl) known.1));
    }))

-- ---- what the line leaves

pub learn_bare : (s : Sort) (w : WrittenSystem) (n : ℕ) (fs : List Fact) (bare : Bool) (ls : List Lit) → bare ≡ true → Leaves s w (context_of s w bare fs) (learn_line s n (context_of s w bare fs) ls) None
learn_bare s w n fs true ls e = breaks s w (context_of s w true fs) (learn_line s n (context_of s w true fs) ls) refl
learn_bare s w n fs false ls e = absurd (cc)

guard_not : {A : Type 0} (b : Bool) (o : Option A) → b ≡ false → guard b o ≡ None
guard_not true o e = absurd (cc)
guard_not false o e = refl

not_split : {A : Type 0} (b : Bool) (x : A) → None ≡ guard b (Some x) → b ≡ false
not_split true x e = absurd (cc)
not_split false x e = refl

both_false : (a b c : Bool) → c ≡ false → (a && (b && c)) ≡ false
both_false true true c e = e
both_false true false c e = refl
both_false false b c e = refl

-- a literal that may not be split upon
pub learn_broken : (s : Sort) (w : WrittenSystem) (n : ℕ) (fs : List Fact) (bare : Bool) (ls : List Lit) (i : ℕ) (clause : List Lit) (facts : List Fact) (l : Lit) → LearntSo s w n ls i clause facts → i < length ls → l ≡ get_or ls i l → None ≡ guard (is_split s n l) (Some (pair l (neg s l))) → Leaves s w (context_of s w bare fs) (learn_line s n (context_of s w bare fs) ls) None
learn_broken s w n fs bare ls i clause facts l k h e p =
    let all : list_all (is_split s n) ls ≡ false =
    k.tested ∙ ap (list_all (is_split s n)) (here ls i l h e) ∙ and_false (is_split s n l) (list_all (is_split s n) (drop (i + 1) ls)) (not_split (is_split s n l) (pair l (neg s l)) p) in
    breaks s w (context_of s w bare fs) (learn_line s n (context_of s w bare fs) ls)
    (guard_not (not bare && is_learn s n ls) _ (both_false (not bare) (nat_le 1 (length ls)) (list_all (is_split s n) ls) all))

all_passed : (s : Sort) (w : WrittenSystem) (n : ℕ) (ls : List Lit) (i : ℕ) (clause : List Lit) (facts : List Fact) → LearntSo s w n ls i clause facts → length ls ≤ i → list_all (is_split s n) ls ≡ true
all_passed s w n ls i clause facts k h =
    k.tested ∙ ap (list_all (is_split s n)) (at_drop_all (λ (xs : List Lit). xs) ls i h)

both_true : (a b c : Bool) → a ≡ false → b ≡ true → c ≡ true → (not a && (b && c)) ≡ true
both_true true b c e f g = absurd (cc)
both_true false true c e f g = g
both_true false false c e f g = absurd (cc)

guard_yes : {A : Type 0} (b : Bool) (o : Option A) → b ≡ true → guard b o ≡ o
guard_yes true o e = refl
guard_yes false o e = absurd (cc)

-- all may be split upon
pub learn_made : (s : Sort) (w : WrittenSystem) (n : ℕ) (fs : List Fact) (bare : Bool) (ls : List Lit) (i : ℕ) (clause : List Lit) (facts : List Fact) (f : Fact) (m : Next) → LearntSo s w n ls i clause facts → length ls ≤ i → bare ≡ false → is_within (step.Learn ls) ≡ true → fact_of s w f ≡ either_of clause → (IsPrimitiveCube s clause → IsFact s w f) → next_of s w (context_of s w bare fs) m ≡ (record (context_of s w bare fs) { facts = (context_of s w bare fs).facts ++ map (fact_of s w) facts } ∷ with_fact (context_of s w bare fs) (fact_of s w f) ∷ []) → IsKeptNext s w m ≡ (AreFacts s w facts × IsFact s w f) → Leaves s w (context_of s w bare fs) (learn_line s n (context_of s w bare fs) ls) (Some m)
learn_made s w n fs bare ls i clause facts f m k h b t fe fk me mk =
    let some_one = and_parts (nat_le 1 (length ls)) (list_all is_literal_within ls) t in
    let nil = at_drop_all (λ (xs : List Lit). xs) ls i h in
    let whole : clause ≡ ls = sym (append-nil clause) ∙ ap (λ (xs : List Lit). clause ++ xs) (sym nil) ∙ k.literals in
    let same : map (fact_of s w) facts ≡ negs s ls =
    sym (append-nil (map (fact_of s w) facts)) ∙ ap (λ (xs : List Lit). map (fact_of s w) facts ++ negs s xs) (sym nil) ∙ k.negated in
    left_by s w (context_of s w bare fs) (learn_line s n (context_of s w bare fs) ls) m
    (guard_yes (not bare && is_learn s n ls) _ (both_true bare (nat_le 1 (length ls)) (list_all (is_split s n) ls) b some_one.0 (all_passed s w n ls i clause facts k h))
    ∙ ap₂ (λ (ms : List Matrix) (x : Matrix). Some (record (context_of s w bare fs) { facts = (context_of s w bare fs).facts ++ ms } ∷ with_fact (context_of s w bare fs) x ∷ [])) (sym same) (ap either_of (sym whole) ∙ sym fe)
    ∙ ap Some (sym me))
    (subst (λ (T : Type 0). T) (sym mk) (k.facts_known, fk k.clause_known))
