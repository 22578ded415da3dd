-- One list of facts for all contexts: more facts at the end leave what waits as it is.
use Rattle.std.specs.Prelude.{ℕ, zero, suc, ◌<◌, ◌≤◌, ◌≡◌, ◌-◌, ◌==◌, Bool, true, false, if◌then◌else◌, slice_get, Option, Some, None, Result, Ok, Err, OnOk, List, [], ◌∷◌, ◌++◌, map, take, drop, get_or, length, reverse}
use Rattle.std.proofs.Common.{arith, ap, ap₂, ◌∙◌, sym, subst, refl, length-append, true≢false, Bor}
use Rattle.std.proofs.lemmas.List.{map-append, reverse-append, drop_at}
use Rattle.lin_term.specs.declared.Sort.{Sort}
use Rattle.lin_term.specs.declared.Sort.TheVariants.{Int}
use Rattle.lin_term.specs.declared.Lit.{Lit}
use Rattle.dom_core.specs.Cube.{IsPrimitiveCube}
use Rattle.dom_core.specs.declared.Matrix.{Matrix as Tree}
use Rattle.dom_core.specs.Game.{Matrix, lit, AreMatrices}
use Rattle.dom_core.specs.Problem.{HaveNegations}
use Rattle.dom_core.specs.View.{matrices_of}
use Rattle.lose_system.specs.Written.{WrittenSystem}
use Rattle.cube_rules.specs.Context.{Context, with_fact, cube_context}
use Rattle.cube_rules.specs.Lines.{goes_on, each_child, leaves}
use Rattle.proof_rules.specs.declared.fact.Fact.{Fact}
use Rattle.proof_rules.specs.declared.fact.Fact.TheVariants.{OnPath}
use Rattle.proof_rules.specs.declared.fact.Next.{Next}
use Rattle.proof_rules.specs.declared.fact.Next.TheVariants.{Goes}
use Rattle.proof_rules.specs.declared.state.Rest.TheVariants.{Children, Least}
use Rattle.proof_rules.specs.declared.state.Frame.{Frame}
use Rattle.proof_rules.specs.declared.state.ProofState.{ProofState}
use Rattle.proof_rules.specs.Held.{fact_of, context_of, next_of, parts_on, IsPath, IsKnown, IsFact, AreFacts, IsKeptNext}
use Rattle.proof_rules.specs.Left.{Left, left_cases, all_left}
use Rattle.proof_rules.proofs.PartLemmas.{differ}
use Rattle.proof_rules.specs.Stack.{rest_of, frame_of, waiting_of, current_of, rest_of_stack, stack_of, IsRest, AreFrames, IsState, Moved, added, waited, frame_now}
use Rattle.proof_rules.specs.declared.state.Rest.{Rest}

pub take-push : {A : Type 0} (xs : List A) (x : A) (n : ℕ) → n ≤ length xs → take n (xs ++ x ∷ []) ≡ take n xs
take-push [] x zero h = refl
take-push [] x (suc n) h = absurd (omega arith)
take-push (y ∷ ys) x zero h = refl
take-push (y ∷ ys) x (suc n) h = ap (λ (zs : List _). y ∷ zs) (take-push ys x n (omega arith))

pub drop-push : {A : Type 0} (xs : List A) (x : A) (n : ℕ) → n ≤ length xs → drop n (xs ++ x ∷ []) ≡ drop n xs ++ x ∷ []
drop-push xs x zero h = refl
drop-push [] x (suc n) h = absurd (omega arith)
drop-push (y ∷ ys) x (suc n) h = drop-push ys x n (omega arith)

pub take-whole : {A : Type 0} (xs : List A) (i : ℕ) → length xs ≤ i → take i xs ≡ xs
take-whole [] zero h = refl
take-whole [] (suc i) h = refl
take-whole (x ∷ xs) zero h = absurd (omega arith)
take-whole (x ∷ xs) (suc i) h = ap (λ (ys : List _). x ∷ ys) (take-whole xs i (omega arith))

pub cut_one : {A : Type 0} (old new : List A) (x : A) (n : ℕ) → old ≡ new ++ x ∷ [] → n < length old → take n new ≡ take n old
cut_one old new x n e h =
    let l = ap length e in
    let k = length-append new (x ∷ []) in
    let m : n ≤ length new = omega arith in
    sym (ap (take n) e ∙ take-push new x n m)

reverse_push : {A : Type 0} (xs : List A) (x : A) → reverse (xs ++ x ∷ []) ≡ x ∷ reverse xs
reverse_push xs x = reverse-append xs (x ∷ [])

pub facts-push : (s : Sort) (w : WrittenSystem) (fs : List Fact) (f : Fact) → AreFacts s w fs → IsFact s w f → AreFacts s w (fs ++ f ∷ [])
facts-push s w [] f a k = (k, tt)
facts-push s w (g ∷ fs) f a k = (a.0, facts-push s w fs f a.1 k)

facts-take : (s : Sort) (w : WrittenSystem) (fs : List Fact) (n : ℕ) → AreFacts s w fs → AreFacts s w (take n fs)
facts-take s w [] zero a = tt
facts-take s w [] (suc n) a = tt
facts-take s w (f ∷ fs) zero a = tt
facts-take s w (f ∷ fs) (suc n) a = (a.0, facts-take s w fs n a.1)

length-take_at : {A : Type 0} (xs : List A) (n : ℕ) → n ≤ length xs → length (take n xs) ≡ n
length-take_at [] zero h = refl
length-take_at [] (suc n) h = absurd (omega arith)
length-take_at (x ∷ xs) zero h = refl
length-take_at (x ∷ xs) (suc n) h = ap suc (length-take_at xs n (omega arith))

frames_longer : (s : Sort) (w : WrittenSystem) (fs : List Frame) (m n : ℕ) → m ≤ n → AreFrames s w fs m → AreFrames s w fs n
frames_longer s w [] m n h a = tt
frames_longer s w (f ∷ fs) m n h a = (let l = a.0 in omega arith, a.1, a.2, a.3)

waiting-push : (s : Sort) (w : WrittenSystem) (fs : List Frame) (facts : List Fact) (x : Fact) → AreFrames s w fs (length facts) → waiting_of s w fs (facts ++ x ∷ []) ≡ waiting_of s w fs facts
waiting-push s w [] facts x a = refl
waiting-push s w (f ∷ fs) facts x a =
    ap (λ (ys : List Fact). frame_of s w ys f ++ waiting_of s w fs ys) (take-push facts x f.len a.0)

-- ---- one more fact

open_stack : (s : Sort) (w : WrittenSystem) (st : ProofState) → st.closed ≡ false → stack_of s w st ≡ current_of s w st ∷ rest_of_stack s w st
open_stack s w st e = ap (λ (b : Bool). if b then [] else (current_of s w st ∷ rest_of_stack s w st)) e

context-push : (s : Sort) (w : WrittenSystem) (bare : Bool) (fs : List Fact) (x : Fact) → context_of s w bare (fs ++ x ∷ []) ≡ with_fact (context_of s w bare fs) (fact_of s w x)
context-push s w bare fs x = ap (made bare) (map-append (fact_of s w) fs (x ∷ []))
  where
    made : Bool → List Matrix → Context
    made b ms = record { bare = b; facts = ms }

pub add_moves : (s : Sort) (w : WrittenSystem) (st : ProofState) (x : Fact) → IsState s w st → st.closed ≡ false → IsFact s w x → Moved s w (goes_on (current_of s w st) (fact_of s w x)) st (added st x)
add_moves s w st x i e k = record {
  stack = open_stack s w (added st x) e
      ∙ ap₂ (λ (c : Context) (cs : List Context). c ∷ cs)
      (ap (context_of s w st.bare) (drop-push st.facts x st.base i.base) ∙ context-push s w st.bare (drop st.base st.facts) x)
      (waiting-push s w (reverse st.waiting) st.facts x i.frames);
  kept = record {
    facts = facts-push s w st.facts x i.facts k;
    base = let l = length-append st.facts (x ∷ []) in let b = i.base in omega arith;
    frames = frames_longer s w (reverse st.waiting) (length st.facts) (length (st.facts ++ x ∷ [])) (let l = length-append st.facts (x ∷ []) in omega arith) i.frames;
  };
}

-- ---- one more frame

pub wait_state : (s : Sort) (w : WrittenSystem) (st : ProofState) (r : Rest) → IsState s w st → IsRest s w r → IsState s w (waited st r)
wait_state s w st r i k = record {
  facts = i.facts;
  base = i.base;
  frames = subst (λ (fs : List Frame). AreFrames s w fs (length st.facts)) (sym (reverse_push st.waiting (frame_now st r))) (omega arith, i.base, k, i.frames);
}

pub wait_rest : (s : Sort) (w : WrittenSystem) (st : ProofState) (r : Rest) → rest_of_stack s w (waited st r) ≡ rest_of s w (current_of s w st) r ++ rest_of_stack s w st
wait_rest s w st r =
    ap (λ (fs : List Frame). waiting_of s w fs st.facts) (reverse_push st.waiting (frame_now st r))
    ∙ ap (λ (ys : List Fact). rest_of s w (context_of s w st.bare (drop st.base ys)) r ++ waiting_of s w (reverse st.waiting) ys) (take-whole st.facts (length st.facts) (omega arith))

-- one frame waits, and one more fact is added
pub add_after_wait : (s : Sort) (w : WrittenSystem) (st : ProofState) (r : Rest) (x : Fact) → IsState s w st → st.closed ≡ false → IsRest s w r → IsFact s w x → Moved s w (with_fact (current_of s w st) (fact_of s w x) ∷ rest_of s w (current_of s w st) r) st (added (waited st r) x)
add_after_wait s w st r x i e k f =
    let m = add_moves s w (waited st r) x (wait_state s w st r i k) e f in
    record {
      stack = m.stack ∙ ap (λ (cs : List Context). with_fact (current_of s w st) (fact_of s w x) ∷ cs) (wait_rest s w st r);
      kept = m.kept;
    }

-- ---- the first child, and the others wait

pub split_first : (ps : List Tree) (x : Tree) → 1 ≤ length ps → x ≡ get_or ps 0 x → ps ≡ x ∷ take (length ps - 1) (drop 1 ps)
split_first [] x h e = absurd (omega arith)
split_first (p ∷ ps) x h e =
    ap₂ (λ (q : Tree) (qs : List Tree). q ∷ qs) (sym e) (sym (take-whole ps (length (p ∷ ps) - 1) (omega arith)))

pub no_parts : (xs : List Tree) (b : Bool) → b ≡ (length xs == 0) → b ≡ true → xs ≡ []
no_parts [] b e f = refl
no_parts (x ∷ xs) b e f = absurd (true≢false (sym f ∙ e ∙ not_zero (length xs)))
  where
    not_zero : (n : ℕ) → (suc n == 0) ≡ false
    not_zero n = differ (suc n) 0 (λ q. omega arith)

pub some_parts : (xs : List Tree) (b : Bool) → b ≡ (length xs == 0) → b ≡ false → 1 ≤ length xs
some_parts [] b e f = absurd (true≢false (sym e ∙ f))
some_parts (x ∷ xs) b e f = omega arith

abbrev pub ArePartsOf : Sort → WrittenSystem → ℕ → List Tree → Type 0
ArePartsOf s w k ps = IsPath w k × AreMatrices (matrices_of ps) s (length w.problem.prefix) × HaveNegations (matrices_of ps) s

pub first_alone : (s : Sort) (w : WrittenSystem) (st new : ProofState) (k : ℕ) (ps : List Tree) (x : Bor Tree) → IsState s w st → st.closed ≡ false → ArePartsOf s w k ps → ps ≡ x.now ∷ [] → new ≡ added st (OnPath k x) → Moved s w (each_child (current_of s w st) (parts_on s w k (matrices_of ps))) st new
first_alone s w st new k ps x i e h p n =
    subst (λ (t : ProofState). Moved s w (each_child (current_of s w st) (parts_on s w k (matrices_of ps))) st t) (sym n)
    (subst (λ (qs : List Tree). Moved s w (each_child (current_of s w st) (parts_on s w k (matrices_of qs))) st (added st (OnPath k x))) (sym p)
    (let q = subst (λ (qs : List Tree). ArePartsOf s w k qs) p h in add_moves s w st (OnPath k x) i e (q.0, q.1.0, q.2.0)))

pub first_of_many : (s : Sort) (w : WrittenSystem) (st mid new : ProofState) (k : ℕ) (ps : List Tree) (x : Bor Tree) (more : Bor (List Tree)) → IsState s w st → st.closed ≡ false → ArePartsOf s w k ps → ps ≡ x.now ∷ more.now → 1 ≤ length more.now → mid ≡ waited st (Children k more) → new ≡ added mid (OnPath k x) → Moved s w (each_child (current_of s w st) (parts_on s w k (matrices_of ps))) st new
first_of_many s w st mid new k ps x more i e h p l m n =
    subst (λ (t : ProofState). Moved s w (each_child (current_of s w st) (parts_on s w k (matrices_of ps))) st t) (sym (n ∙ ap (λ (t : ProofState). added t (OnPath k x)) m))
    (subst (λ (qs : List Tree). Moved s w (each_child (current_of s w st) (parts_on s w k (matrices_of qs))) st (added (waited st (Children k more)) (OnPath k x))) (sym p)
    (let q = subst (λ (qs : List Tree). ArePartsOf s w k qs) p h in add_after_wait s w st (Children k more) (OnPath k x) i e (l, q.0, q.1.1, q.2.1) (q.0, q.1.0, q.2.0)))

-- ---- the facts of a cube alone

waiting-append : (s : Sort) (w : WrittenSystem) (fs : List Frame) (facts more : List Fact) → AreFrames s w fs (length facts) → waiting_of s w fs (facts ++ more) ≡ waiting_of s w fs facts
waiting-append s w [] facts more a = refl
waiting-append s w (f ∷ fs) facts more a =
    ap (λ (ys : List Fact). frame_of s w ys f ++ waiting_of s w fs ys) (take-append facts more f.len a.0)
  where
    take-append : (xs ys : List Fact) (n : ℕ) → n ≤ length xs → take n (xs ++ ys) ≡ take n xs
    take-append [] ys zero h = take-none ys
      where
        take-none : (zs : List Fact) → take 0 zs ≡ []
        take-none [] = refl
        take-none (z ∷ zs) = refl
    take-append [] ys (suc n) h = absurd (omega arith)
    take-append (x ∷ xs) ys zero h = refl
    take-append (x ∷ xs) ys (suc n) h = ap (λ (zs : List Fact). x ∷ zs) (take-append xs ys n (omega arith))

facts-append : (s : Sort) (w : WrittenSystem) (fs gs : List Fact) → AreFacts s w fs → AreFacts s w gs → AreFacts s w (fs ++ gs)
facts-append s w [] gs a b = b
facts-append s w (f ∷ fs) gs a b = (a.0, facts-append s w fs gs a.1 b)

abbrev pub kept_alone : ProofState → List Fact → ProofState
kept_alone st fs = record st { facts = st.facts ++ fs; base = length st.facts; bare = true }

pub keep_moves : (s : Sort) (w : WrittenSystem) (st : ProofState) (fs : List Fact) → IsState s w st → st.closed ≡ false → AreFacts s w fs → Moved s w (context_of s w true fs ∷ []) st (kept_alone st fs)
keep_moves s w st fs i e k = record {
  stack = open_stack s w (kept_alone st fs) e
      ∙ ap₂ (λ (ys : List Fact) (cs : List Context). context_of s w true ys ∷ cs) (drop_at st.facts fs (length st.facts) refl) (waiting-append s w (reverse st.waiting) st.facts fs i.frames);
  kept = record {
    facts = facts-append s w st.facts fs i.facts k;
    base = let l = length-append st.facts fs in omega arith;
    frames = frames_longer s w (reverse st.waiting) (length st.facts) (length (st.facts ++ fs)) (let l = length-append st.facts fs in omega arith) i.frames;
  };
}

pub keep_made : (s : Sort) (w : WrittenSystem) (st : ProofState) (fs facts : List Fact) (base : ℕ) → IsState s w st → st.closed ≡ false → AreFacts s w fs → facts ≡ st.facts ++ fs → base ≡ length st.facts → Moved s w (context_of s w true fs ∷ []) st (record st { facts = facts; base = base; bare = true })
keep_made s w st fs facts base i e k p q =
    subst (λ (ys : List Fact). Moved s w (context_of s w true fs ∷ []) st (record st { facts = ys; base = base; bare = true })) (sym p)
    (subst (λ (b : ℕ). Moved s w (context_of s w true fs ∷ []) st (record st { facts = st.facts ++ fs; base = b; bare = true })) (sym q) (keep_moves s w st fs i e k))

-- ---- the literals of a disjunction

drop_here : (ls : List Lit) (i : ℕ) (l : Lit) → Some l ≡ slice_get ls i → drop i ls ≡ l ∷ drop (suc i) ls
drop_here [] i l e = absurd (cc)
drop_here (x ∷ ls) zero l e = let h : l ≡ x = cc in ap (λ (y : Lit). y ∷ ls) (sym h)
drop_here (x ∷ ls) (suc i) l e = drop_here ls i l e

drop_behind : (ls : List Lit) (i : ℕ) → length ls ≤ i → drop i ls ≡ []
drop_behind [] zero h = refl
drop_behind [] (suc i) h = refl
drop_behind (x ∷ ls) zero h = absurd (omega arith)
drop_behind (x ∷ ls) (suc i) h = drop_behind ls i (omega arith)

cube_at : (s : Sort) (ls : List Lit) (i : ℕ) (l : Lit) → IsPrimitiveCube s ls → Some l ≡ slice_get ls i → IsKnown s l
cube_at s [] i l p e = absurd (cc)
cube_at s (x ∷ ls) zero l p e = let h : l ≡ x = cc in subst (λ (y : Lit). IsKnown s y) (sym h) (p.0, p.1)
cube_at s (x ∷ ls) (suc i) l p e = cube_at s ls i l p.2 e

pub get_within : (ls : List Lit) (i : ℕ) → i < length ls → None ≡ slice_get ls i → ⊥
get_within [] i h e = absurd (omega arith)
get_within (x ∷ ls) zero h e = absurd (cc)
get_within (x ∷ ls) (suc i) h e = get_within ls i (omega arith) e

-- what is added is the literal in place i
pub record Adds (s : Sort) (w : WrittenSystem) (ls : List Lit) (i : ℕ) (x : Fact) : Type 0 where
  pub literal : Lit
  pub here : Some literal ≡ slice_get ls i
  pub value : fact_of s w x ≡ lit literal
  pub kept : IsFact s w x

pub adds : (s : Sort) (w : WrittenSystem) (ls : List Lit) (i : ℕ) (x : Fact) (l : Lit) → Some l ≡ slice_get ls i → fact_of s w x ≡ lit l → IsFact s w x ≡ IsKnown s l → IsPrimitiveCube s ls → Adds s w ls i x
adds s w ls i x l e v q p = record { literal = l; here = e; value = v; kept = subst (λ (T : Type 0). T) (sym q) (cube_at s ls i l p e) }

pub last_literal : (s : Sort) (w : WrittenSystem) (st new : ProofState) (ls : List Lit) (i : ℕ) (x : Fact) → IsState s w st → st.closed ≡ false → Adds s w ls i x → length ls ≤ suc i → new ≡ added st x → Moved s w (each_child (current_of s w st) (leaves (drop i ls))) st new
last_literal s w st new ls i x k e a h n =
    let d : drop i ls ≡ a.literal ∷ [] = drop_here ls i a.literal a.here ∙ ap (λ (ys : List Lit). a.literal ∷ ys) (drop_behind ls (suc i) h) in
    subst (λ (ys : List Lit). Moved s w (each_child (current_of s w st) (leaves ys)) st new) (sym d)
    (subst (λ (m : Matrix). Moved s w (goes_on (current_of s w st) m) st new) a.value
    (subst (λ (t : ProofState). Moved s w (goes_on (current_of s w st) (fact_of s w x)) st t) (sym n) (add_moves s w st x k e a.kept)))

pub more_literals : (s : Sort) (w : WrittenSystem) (st mid new : ProofState) (ls : List Lit) (i : ℕ) (x : Fact) (r : Rest) → IsState s w st → st.closed ≡ false → Adds s w ls i x → rest_of s w (current_of s w st) r ≡ each_child (current_of s w st) (leaves (drop (suc i) ls)) → IsRest s w r → mid ≡ waited st r → new ≡ added mid x → Moved s w (each_child (current_of s w st) (leaves (drop i ls))) st new
more_literals s w st mid new ls i x r k e a q f m n =
    subst (λ (ys : List Lit). Moved s w (each_child (current_of s w st) (leaves ys)) st new) (sym (drop_here ls i a.literal a.here))
    (subst (λ (cs : List Context). Moved s w (with_fact (current_of s w st) (lit a.literal) ∷ cs) st new) q
    (subst (λ (y : Matrix). Moved s w (with_fact (current_of s w st) y ∷ rest_of s w (current_of s w st) r) st new) a.value
    (subst (λ (t : ProofState). Moved s w (with_fact (current_of s w st) (fact_of s w x) ∷ rest_of s w (current_of s w st) r) st t) (sym (n ∙ ap (λ (t : ProofState). added t x) m))
    (add_after_wait s w st r x k e f a.kept))))

-- ---- several more facts

context-append : (s : Sort) (w : WrittenSystem) (bare : Bool) (fs gs : List Fact) → context_of s w bare (fs ++ gs) ≡ record { bare = bare; facts = map (fact_of s w) fs ++ map (fact_of s w) gs }
context-append s w bare fs gs = ap (λ (ms : List Matrix). let c : Context = record { bare = bare; facts = ms } in c) (map-append (fact_of s w) fs gs)

drop-append : (xs ys : List Fact) (n : ℕ) → n ≤ length xs → drop n (xs ++ ys) ≡ drop n xs ++ ys
drop-append xs ys zero h = refl
drop-append [] ys (suc n) h = absurd (omega arith)
drop-append (x ∷ xs) ys (suc n) h = drop-append xs ys n (omega arith)

abbrev pub added_all : ProofState → List Fact → ProofState
added_all st fs = record st { facts = st.facts ++ fs }

abbrev pub with_all : Sort → WrittenSystem → Context → List Fact → Context
with_all s w c fs = record c { facts = c.facts ++ map (fact_of s w) fs }

add_all_moves : (s : Sort) (w : WrittenSystem) (st : ProofState) (fs : List Fact) → IsState s w st → st.closed ≡ false → AreFacts s w fs → Moved s w (with_all s w (current_of s w st) fs ∷ []) st (added_all st fs)
add_all_moves s w st fs i e k = record {
  stack = open_stack s w (added_all st fs) e
      ∙ ap₂ (λ (c : Context) (cs : List Context). c ∷ cs)
      (ap (context_of s w st.bare) (drop-append st.facts fs st.base i.base) ∙ context-append s w st.bare (drop st.base st.facts) fs)
      (waiting-append s w (reverse st.waiting) st.facts fs i.frames);
  kept = record {
    facts = facts-append s w st.facts fs i.facts k;
    base = let l = length-append st.facts fs in let b = i.base in omega arith;
    frames = frames_longer s w (reverse st.waiting) (length st.facts) (length (st.facts ++ fs)) (let l = length-append st.facts fs in omega arith) i.frames;
  };
}

pub learn_moves : (s : Sort) (w : WrittenSystem) (st mid new : ProofState) (fs facts : List Fact) (r : Rest) → IsState s w st → st.closed ≡ false → AreFacts s w fs → IsRest s w r → mid ≡ waited st r → facts ≡ mid.facts ++ fs → new ≡ record mid { facts = facts } → Moved s w (with_all s w (current_of s w st) fs ∷ rest_of s w (current_of s w st) r) st new
learn_moves s w st mid new fs facts r i e k f m p n =
    let same : new ≡ added_all (waited st r) fs =
    n ∙ ap (λ (ys : List Fact). record mid { facts = ys }) p ∙ ap (λ (t : ProofState). added_all t fs) m in
    subst (λ (t : ProofState). Moved s w (with_all s w (current_of s w st) fs ∷ rest_of s w (current_of s w st) r) st t) (sym same)
    (let d = add_all_moves s w (waited st r) fs (wait_state s w st r i f) e k in
    record {
      stack = d.stack ∙ ap (λ (cs : List Context). with_all s w (current_of s w st) fs ∷ cs) (wait_rest s w st r);
      kept = d.kept;
    })

-- ---- the next context that waits

abbrev pub popped : ProofState → List Frame → Frame → List Fact → ProofState
popped st ws f facts =
    record { facts = facts; base = f.base; bare = f.bare; closed = st.closed; waiting = ws }

pub record Popped (s : Sort) (w : WrittenSystem) (st : ProofState) (ws : List Frame) (f : Frame) (facts : List Fact) : Type 0 where
  pub state : IsState s w (popped st ws f facts)
  pub rest : IsRest s w f.rest
  pub stack : rest_of_stack s w st ≡ rest_of s w (current_of s w (popped st ws f facts)) f.rest ++ rest_of_stack s w (popped st ws f facts)

pub pop_state : (s : Sort) (w : WrittenSystem) (st : ProofState) (ws : List Frame) (f : Frame) (facts : List Fact) → IsState s w st → st.waiting ≡ ws ++ f ∷ [] → facts ≡ take f.len st.facts → Popped s w st ws f facts
pop_state s w st ws f facts i p q =
    let turned : reverse st.waiting ≡ f ∷ reverse ws = ap reverse p ∙ reverse_push ws f in
    let a = subst (λ (fs : List Frame). AreFrames s w fs (length st.facts)) turned i.frames in
    let len : length facts ≡ f.len = ap length q ∙ length-take_at st.facts f.len a.0 in
    record {
      state = record {
        facts = subst (λ (ys : List Fact). AreFacts s w ys) (sym q) (facts-take s w st.facts f.len i.facts);
        base = let b = a.1 in omega arith;
        frames = subst (λ (n : ℕ). AreFrames s w (reverse ws) n) (sym len) a.3;
      };
      rest = a.2;
      stack = ap (λ (fs : List Frame). waiting_of s w fs st.facts) turned ∙ ap (λ (ys : List Fact). frame_of s w ys f ++ waiting_of s w (reverse ws) ys) (sym q);
    }

pub popped_moves : (s : Sort) (w : WrittenSystem) (st new : ProofState) (ws : List Frame) (f : Frame) (facts : List Fact) (cs : List Context) → Popped s w st ws f facts → rest_of s w (current_of s w (popped st ws f facts)) f.rest ≡ cs → Moved s w cs (popped st ws f facts) new → Moved s w [] st new
popped_moves s w st new ws f facts cs p e m = record {
  stack = m.stack ∙ ap (λ (xs : List Context). xs ++ rest_of_stack s w (popped st ws f facts)) (sym e) ∙ sym p.stack;
  kept = m.kept;
}

pub OnOk_with : {A E : Type 0} {P Q : Type 0} (r : Result A E) → (P → Q) → OnOk r P → OnOk r Q
OnOk_with (Ok x) f h = f h
OnOk_with (Err e) f h = tt

pub added_moves : (s : Sort) (w : WrittenSystem) (st new : ProofState) (x : Fact) → IsState s w st → st.closed ≡ false → IsFact s w x → new ≡ added st x → Moved s w (goes_on (current_of s w st) (fact_of s w x)) st new
added_moves s w st new x i e k n =
    subst (λ (t : ProofState). Moved s w (goes_on (current_of s w st) (fact_of s w x)) st t) (sym n) (add_moves s w st x i e k)

pub goes_moves : (s : Sort) (w : WrittenSystem) (st new : ProofState) (next : Next) (x : Fact) → IsState s w st → st.closed ≡ false → IsKeptNext s w next → next ≡ Goes x → new ≡ added st x → Moved s w (next_of s w (current_of s w st) next) st new
goes_moves s w st new next x i e k p n =
    subst (λ (m : Next). Moved s w (next_of s w (current_of s w st) m) st new) (sym p)
    (added_moves s w st new x i e (subst (λ (m : Next). IsKeptNext s w m) p k) n)

pub split_moves : (s : Sort) (w : WrittenSystem) (st mid new : ProofState) (next m : Next) (x : Fact) (r : Rest) → IsState s w st → st.closed ≡ false → IsKeptNext s w next → next ≡ m → (IsKeptNext s w m → IsRest s w r × IsFact s w x) → next_of s w (current_of s w st) m ≡ with_fact (current_of s w st) (fact_of s w x) ∷ rest_of s w (current_of s w st) r → mid ≡ waited st r → new ≡ added mid x → Moved s w (next_of s w (current_of s w st) next) st new
split_moves s w st mid new next m x r i e k p f q a b =
    let both = f (subst (λ (y : Next). IsKeptNext s w y) p k) in
    subst (λ (y : Next). Moved s w (next_of s w (current_of s w st) y) st new) (sym p)
    (subst (λ (cs : List Context). Moved s w cs st new) (sym q)
    (subst (λ (t : ProofState). Moved s w (with_fact (current_of s w st) (fact_of s w x) ∷ rest_of s w (current_of s w st) r) st t) (sym (b ∙ ap (λ (t : ProofState). added t x) a))
    (add_after_wait s w st r x i e both.0 both.1)))

-- ---- the next case of an elimination

pub waited_state : (s : Sort) (w : WrittenSystem) (st mid : ProofState) (r : Rest) → IsState s w st → IsRest s w r → mid ≡ waited st r → IsState s w mid
waited_state s w st mid r i k e = subst (λ (t : ProofState). IsState s w t) (sym e) (wait_state s w st r i k)

pub waited_open : (st mid : ProofState) (r : Rest) → st.closed ≡ false → mid ≡ waited st r → mid.closed ≡ false
waited_open st mid r o e = ap (λ (t : ProofState). t.closed) e ∙ o

pub int_cube : (s : Sort) (c : List Lit) → s ≡ Int → IsPrimitiveCube Int c → IsPrimitiveCube s c
int_cube s c e p = subst (λ (z : Sort). IsPrimitiveCube z c) (sym e) p

kept_case : (s : Sort) (w : WrittenSystem) (fs : List Fact) (case : List Lit) → map (fact_of s w) fs ≡ map lit case → context_of s w true fs ≡ cube_context case
kept_case s w fs case e = ap (λ (ms : List Matrix). let c : Context = record { bare = true; facts = ms } in c) e

pub last_case : (s : Sort) (w : WrittenSystem) (st new : ProofState) (fs : List Fact) (case : List Lit) (l : Left) (o : Option Left) → map (fact_of s w) fs ≡ map lit case → case ∷ all_left o ≡ left_cases l → o ≡ None → Moved s w (context_of s w true fs ∷ []) st new → Moved s w (map cube_context (left_cases l)) st new
last_case s w st new fs case l o f e n m =
    subst (λ (cs : List Context). Moved s w cs st new)
    (ap (λ (c : Context). c ∷ []) (kept_case s w fs case f) ∙ ap (map cube_context) (ap (λ (x : Option Left). case ∷ all_left x) (sym n) ∙ e)) m

pub next_case : (s : Sort) (w : WrittenSystem) (st mid new : ProofState) (fs : List Fact) (case : List Lit) (l more : Left) (o : Option Left) → map (fact_of s w) fs ≡ map lit case → case ∷ all_left o ≡ left_cases l → o ≡ Some more → mid ≡ waited st (Least more) → Moved s w (context_of s w true fs ∷ []) mid new → Moved s w (map cube_context (left_cases l)) st new
next_case s w st mid new fs case l more o f e n q m = record {
  stack = m.stack
      ∙ ap₂ (λ (c : Context) (t : ProofState). c ∷ rest_of_stack s w t) (kept_case s w fs case f) q
      ∙ ap (λ (cs : List Context). cube_context case ∷ cs) (wait_rest s w st (Least more))
      ∙ ap (λ (cs : List (List Lit)). map cube_context cs ++ rest_of_stack s w st) (ap (λ (x : Option Left). case ∷ all_left x) (sym n) ∙ e);
  kept = m.kept;
}
