-- The facts that a cube keeps, one after the other.
use Rattle.std.specs.Prelude.{ℕ, zero, suc, ◌+◌, ◌<◌, ◌≤◌, ◌≡◌, Bool, true, false, is_some, ◌==◌, Option, Some, None, option_map, option_and_then, slice_get, List, [], ◌∷◌, ◌++◌, map, take, get_or, length}
use Rattle.std.proofs.Common.{arith, ap, ap₂, ◌∙◌, sym, subst, refl, true≢false}
use Rattle.std.proofs.lemmas.List.{map-append, take_more}
use Rattle.lin_term.specs.declared.Sort.{Sort}
use Rattle.lin_term.specs.declared.Lit.{Lit}
use Rattle.dom_core.specs.Game.{Matrix, lit, all, some}
use Rattle.lose_system.specs.Written.{WrittenSystem}
use Rattle.cube_rules.specs.Context.{Context, cube_context}
use Rattle.cube_rules.specs.Facts.{literal_of, literal_at, literals_at}
use Rattle.cube_rules.specs.Lines.{cube_line}
use Rattle.cube_rules.proofs.Sound.{then_some, map_some, some_same}
use Rattle.proof_rules.specs.declared.fact.Fact.{Fact}
use Rattle.proof_rules.specs.declared.fact.Next.TheVariants.{Cube}
use Rattle.proof_rules.specs.Held.{fact_of, context_of, IsFact, AreFacts, Leaves}
use Rattle.proof_rules.proofs.FactLemmas.{fact_at, literal_found, seen_at}
use Rattle.proof_rules.proofs.LineLemmas.{breaks, leaves}

-- the literals of the numbers so far are the facts that are kept
pub record Kept (s : Sort) (w : WrittenSystem) (c : Context) (numbers : List ℕ) (kept : List Fact) : Type 0 where
  pub same : option_map (map lit) (literals_at c numbers) ≡ Some (map (fact_of s w) kept)
  pub facts : AreFacts s w kept

pub kept_none : (s : Sort) (w : WrittenSystem) (c : Context) → Kept s w c [] []
kept_none s w c = record { same = refl; facts = tt }

facts-append : (s : Sort) (w : WrittenSystem) (fs gs : List Fact) → AreFacts s w fs → AreFacts s w gs → AreFacts s w (fs ++ gs)
facts-append s w [] gs a b = b
facts-append s w (f ∷ fs) gs a b = (a.0, facts-append s w fs gs a.1 b)

literals_more : (c : Context) (is : List ℕ) (i : ℕ) (ls : List Lit) (l : Lit) → literals_at c is ≡ Some ls → literal_at c i ≡ Some l → literals_at c (is ++ i ∷ []) ≡ Some (ls ++ l ∷ [])
literals_more c [] i ls l e f =
    ap (option_and_then (λ k. option_map (λ ks. k ∷ ks) (Some []))) f ∙ ap (λ (xs : List Lit). Some (xs ++ l ∷ [])) (some_same [] ls e)
literals_more c (j ∷ js) i ls l e f =
    let t = then_some (λ k. option_map (λ ks. k ∷ ks) (literals_at c js)) (literal_at c j) ls e in
    let u = map_some (λ ks. t.0 ∷ ks) (literals_at c js) ls t.2 in
    ap (option_and_then (λ x. option_map (λ xs. x ∷ xs) (literals_at c (js ++ i ∷ [])))) t.1
    ∙ ap (option_map (λ xs. t.0 ∷ xs)) (literals_more c js i u.0 l u.1 f)
    ∙ ap (λ (xs : List Lit). Some (xs ++ l ∷ [])) u.2

none_after : {A B : Type 0} (f : A → B → B) (o : Option A) → option_and_then (λ x. option_map (f x) None) o ≡ None
none_after f None = refl
none_after f (Some x) = refl

literals_fail : (c : Context) (is : List ℕ) (i : ℕ) → i < length is → literal_at c (get_or is i 0) ≡ None → literals_at c is ≡ None
literals_fail c [] i h e = absurd (omega arith)
literals_fail c (j ∷ js) zero h e = ap (option_and_then (λ k. option_map (λ ks. k ∷ ks) (literals_at c js))) e
literals_fail c (j ∷ js) (suc i) h e =
    ap (λ (o : Option (List Lit)). option_and_then (λ k. option_map (λ ks. k ∷ ks) o) (literal_at c j)) (literals_fail c js i (omega arith) e)
    ∙ none_after (λ k ks. k ∷ ks) (literal_at c j)

line_fails : (c : Context) (is : List ℕ) → literals_at c is ≡ None → cube_line c is ≡ None
line_fails c [] e = refl
line_fails c (i ∷ is) e = ap (option_map (λ ls. cube_context ls ∷ [])) e

literal_is : (m : Matrix) → is_some (literal_of m) ≡ true → (l : Lit) × (m ≡ lit l)
literal_is (lit l) e = (l, refl)
literal_is (all ms) e = absurd (cc)
literal_is (some ms) e = absurd (cc)

no_literal : (m : Matrix) → is_some (literal_of m) ≡ false → literal_of m ≡ None
no_literal (lit l) e = absurd (cc)
no_literal (all ms) e = refl
no_literal (some ms) e = refl

pub cube_more : (s : Sort) (w : WrittenSystem) (bare : Bool) (facts : List Fact) (numbers : List ℕ) (i : ℕ) (kept new : List Fact) (fact f : Fact) → AreFacts s w facts → Kept s w (context_of s w bare facts) (take i numbers) kept → i < length numbers → Some fact ≡ slice_get facts (get_or numbers i 0) → is_some (literal_of (fact_of s w fact)) ≡ true → fact_of s w f ≡ fact_of s w fact → (IsFact s w fact → IsFact s w f) → new ≡ kept ++ f ∷ [] → Kept s w (context_of s w bare facts) (take (i + 1) numbers) new
cube_more s w bare facts numbers i kept new fact f a k l e t q g n =
    let c : Context = context_of s w bare facts in
    let j : ℕ = get_or numbers i 0 in
    let u = map_some (map lit) (literals_at c (take i numbers)) (map (fact_of s w) kept) k.same in
    let m = literal_is (fact_of s w fact) t in
    let here : literal_at c j ≡ Some m.0 = literal_found s w facts j fact bare (sym e) ∙ ap literal_of m.1 in
    record {
      same = ap (λ (is : List ℕ). option_map (map lit) (literals_at c is)) (take_more numbers i 0 l)
          ∙ ap (option_map (map lit)) (literals_more c (take i numbers) j u.0 m.0 u.1 here)
          ∙ ap Some (map-append lit u.0 (m.0 ∷ []) ∙ ap₂ (λ (xs : List Matrix) (x : Matrix). xs ++ x ∷ []) u.2 (sym m.1 ∙ sym q) ∙ sym (map-append (fact_of s w) kept (f ∷ [])) ∙ ap (map (fact_of s w)) (sym n));
      facts = subst (λ (fs : List Fact). AreFacts s w fs) (sym n) (facts-append s w kept (f ∷ []) k.facts (g (fact_at s w facts j fact a (sym e)), tt));
    }

pub cube_missing : (s : Sort) (w : WrittenSystem) (bare : Bool) (facts : List Fact) (numbers : List ℕ) (i : ℕ) → i < length numbers → None ≡ slice_get facts (get_or numbers i 0) → Leaves s w (context_of s w bare facts) (cube_line (context_of s w bare facts) numbers) None
cube_missing s w bare facts numbers i l e =
    breaks s w (context_of s w bare facts) (cube_line (context_of s w bare facts) numbers) (line_fails (context_of s w bare facts) numbers
    (literals_fail (context_of s w bare facts) numbers i l (ap (option_and_then literal_of) (seen_at s w facts (get_or numbers i 0) ∙ ap (option_map (fact_of s w)) (sym e)))))

pub cube_other : (s : Sort) (w : WrittenSystem) (bare : Bool) (facts : List Fact) (numbers : List ℕ) (i : ℕ) (fact : Fact) → i < length numbers → Some fact ≡ slice_get facts (get_or numbers i 0) → is_some (literal_of (fact_of s w fact)) ≡ false → Leaves s w (context_of s w bare facts) (cube_line (context_of s w bare facts) numbers) None
cube_other s w bare facts numbers i fact l e t =
    breaks s w (context_of s w bare facts) (cube_line (context_of s w bare facts) numbers) (line_fails (context_of s w bare facts) numbers
    (literals_fail (context_of s w bare facts) numbers i l (literal_found s w facts (get_or numbers i 0) fact bare (sym e) ∙ no_literal (fact_of s w fact) t)))

pub cube_empty : (s : Sort) (w : WrittenSystem) (c : Context) (numbers : List ℕ) → numbers ≡ [] → Leaves s w c (cube_line c numbers) None
cube_empty s w c numbers e = breaks s w c (cube_line c numbers) (ap (cube_line c) e)

take-all : {A : Type 0} (xs : List A) (i : ℕ) → length xs ≤ i → take i xs ≡ xs
take-all [] zero h = refl
take-all [] (suc i) h = refl
take-all (x ∷ xs) zero h = absurd (omega arith)
take-all (x ∷ xs) (suc i) h = ap (λ (ys : List _). x ∷ ys) (take-all xs i (omega arith))

line_holds : (c : Context) (is : List ℕ) (ls : List Lit) → (is ≡ [] → ⊥) → literals_at c is ≡ Some ls → cube_line c is ≡ Some (cube_context ls ∷ [])
line_holds c [] ls n e = absurd (n refl)
line_holds c (i ∷ is) ls n e = ap (option_map (λ xs. cube_context xs ∷ [])) e

pub cube_done : (s : Sort) (w : WrittenSystem) (c : Context) (numbers : List ℕ) (i : ℕ) (kept : List Fact) → Kept s w c (take i numbers) kept → length numbers ≤ i → (numbers ≡ [] → ⊥) → Leaves s w c (cube_line c numbers) (Some (Cube kept))
cube_done s w c numbers i kept k l n =
    let all : literals_at c numbers ≡ literals_at c (take i numbers) = ap (literals_at c) (sym (take-all numbers i l)) in
    let u = map_some (map lit) (literals_at c (take i numbers)) (map (fact_of s w) kept) k.same in
    leaves s w c (cube_line c numbers) (Cube kept)
    (line_holds c numbers u.0 n (all ∙ u.1) ∙ ap (λ (ms : List Matrix). Some (record { bare = true; facts = ms } ∷ [])) u.2) k.facts

pub not_empty : (xs : List ℕ) (b : Bool) → b ≡ (length xs == 0) → b ≡ false → xs ≡ [] → ⊥
not_empty xs b e f h = true≢false (sym (e ∙ ap (λ (ys : List ℕ). length ys == 0) h) ∙ f)
