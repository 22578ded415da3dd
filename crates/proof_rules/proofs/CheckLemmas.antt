-- The check, line by line.
use Rattle.std.specs.Prelude.{ℕ, zero, suc, ◌+◌, ◌<◌, ◌≤◌, ◌≡◌, ◌^◌, ℤ, nat_abs, nat_le, Bool, true, false, ◌&&◌, if◌then◌else◌, is_none, Option, Some, None, IfSome, Result, Err, option_map, List, [], ◌∷◌, ◌++◌, drop, get_or, length}
use Rattle.std.proofs.Common.{arith, ap, ap₂, ◌∙◌, sym, subst, refl, w64, to_z, of_z}
use mir.Syntax.{w128}
use Rattle.lin_term.specs.Form.{cap}
use Rattle.lin_term.specs.declared.Lit.{Lit}
use Rattle.lin_term.specs.Wide.{fits, first_past, lit_numbers}
use Rattle.lin_term.proofs.Terms.{word_of, wide_of}
use Rattle.cube_rules.specs.declared.Step.TheVariants as step
use Rattle.std.proofs.lemmas.Bool.{and_parts}
use Rattle.std.proofs.lemmas.List.{at_drop_more, at_drop_all}
use Rattle.lin_term.specs.declared.Sort.{Sort}
use Rattle.lose_system.specs.Written.{WrittenSystem, system_of}
use Rattle.cube_rules.specs.declared.Step.{Step}
use Rattle.cube_rules.specs.declared.Rule.{Rule}
use Rattle.cube_rules.specs.declared.Rule.TheVariants.{Form}
use Rattle.lin_term.specs.declared.Short.{Short}
use Rattle.lin_term.specs.declared.Short.TheVariants as short
use Rattle.cube_rules.specs.Closing.{Rules}
use Rattle.cube_rules.specs.Context.{Context, open_context}
use Rattle.cube_rules.specs.Facts.{guard}
use Rattle.cube_rules.specs.Limits.{divisor_cap, has_modulus, is_within, IsStep}
use Rattle.cube_rules.specs.Lines.{rule_of, cube_step}
use Rattle.proof_rules.specs.Rules.{rule_line, apply}
use Rattle.proof_rules.specs.Checked.{bad_line, first_bad_from}
use Rattle.proof_rules.specs.Stepping.{after_line, rule_broken, IsTaken}
use Rattle.proof_rules.specs.Writable.{AreSteps}
use Rattle.proof_rules.specs.declared.bad_line.BadLine.{BadLine}
use Rattle.proof_rules.specs.declared.fact.Fact.{Fact}
use Rattle.proof_rules.specs.declared.fact.Next.{Next}
use Rattle.proof_rules.specs.declared.state.ProofState.{ProofState}
use Rattle.proof_rules.specs.Held.{next_of, AreFacts, Leaves}
use Rattle.proof_rules.proofs.Walk.{walk_line, walk_broken}
use Rattle.proof_rules.specs.Stack.{current_of, rest_of_stack, stack_of, IsState, Moved}

-- ---- one line

pub under : (s : Sort) (w : WrittenSystem) (c : Context) (l m : Step) (o : Option Next) → l ≡ m → is_within l ≡ true → Leaves s w c (rule_line s (system_of s w) c m) o → Leaves s w c (apply s (system_of s w) c l) o
under s w c l m o e h k =
    subst (λ (b : Bool). Leaves s w c (guard b (rule_line s (system_of s w) c l)) o) (sym h)
    (subst (λ (x : Step). Leaves s w c (rule_line s (system_of s w) c x) o) (sym e) k)

pub record Within (p q g : ℤ) : Type 0 where
  pub first : nat_abs p ≤ cap
  pub second : nat_abs q ≤ cap
  pub third : nat_abs g ≤ divisor_cap

pub within_sum : (p : ℤ) (f : ℕ) (q : ℤ) (h : ℕ) (g : ℤ) → is_within (step.Sum p f q h g) ≡ true → Within p q g
within_sum p f q h g e =
    let r1 = and_parts (fits p && fits q) (nat_le (nat_abs g) divisor_cap) e in
    let r2 = and_parts (fits p) (fits q) r1.0 in
    let a = r2.0 in
    let b = r2.1 in
    let c = r1.1 in
    record { first = grind arith; second = grind arith; third = grind arith }

pub split_within : (l : Lit) → is_within (step.Split l) ≡ true → first_past (lit_numbers l) ≡ None
split_within l e = by (first_past (lit_numbers l)) (and_parts (is_none (first_past (lit_numbers l))) (has_modulus l) e).0
  where
    by : {A : Type 0} (o : Option A) → is_none o ≡ true → o ≡ None
    by None h = refl
    by (Some x) h = absurd (cc)

pub if_any : {A P : Type 0} (o : Option A) → P → IfSome o (λ _. P)
if_any None p = tt
if_any (Some x) p = p

-- numbers of the line go through words unchanged
pub sum_same : (s : Sort) (w : WrittenSystem) (c : Context) (n f h : ℕ) (p q g : ℤ) (o : Option Next) → is_within (step.Sum p f q h g) ≡ true → Leaves s w c (cube_step s n c (step.Sum (to_z w64 (of_z w64 p)) f (to_z w64 (of_z w64 q)) h (to_z w128 (of_z w128 g)))) o → Leaves s w c (cube_step s n c (step.Sum p f q h g)) o
sum_same s w c n f h p q g o e k =
    let r = within_sum p f q h g e in
    let third = r.third in
    let size : nat_abs g ≤ 2 ^ 106 = omega arith in
    subst (λ (x : ℤ). Leaves s w c (cube_step s n c (step.Sum x f q h g)) o) (word_of p r.first)
    (subst (λ (x : ℤ). Leaves s w c (cube_step s n c (step.Sum (to_z w64 (of_z w64 p)) f x h g)) o) (word_of q r.second)
    (subst (λ (x : ℤ). Leaves s w c (cube_step s n c (step.Sum (to_z w64 (of_z w64 p)) f (to_z w64 (of_z w64 q)) h x)) o) (wide_of g size) k))

-- ---- one line of the state

closed_stack : (s : Sort) (w : WrittenSystem) (st : ProofState) → st.closed ≡ true → stack_of s w st ≡ []
closed_stack s w st e = ap (λ (b : Bool). if b then [] else (current_of s w st ∷ rest_of_stack s w st)) e

open_stack : (s : Sort) (w : WrittenSystem) (st : ProofState) → st.closed ≡ false → stack_of s w st ≡ current_of s w st ∷ rest_of_stack s w st
open_stack s w st e = ap (λ (b : Bool). if b then [] else (current_of s w st ∷ rest_of_stack s w st)) e

pub nothing_left : (s : Sort) (w : WrittenSystem) (st : ProofState) (b : Bool) → b ≡ st.closed → (b ≡ true → stack_of s w st ≡ []) × (stack_of s w st ≡ [] → b ≡ true)
nothing_left s w st true e = (λ _. closed_stack s w st (sym e), λ _. refl)
nothing_left s w st false e = (λ h. absurd (cc), λ h. absurd (let k = sym (open_stack s w st (sym e)) ∙ h in cc))

-- nothing is open
pub none_open : (s : Sort) (w : WrittenSystem) (st : ProofState) (l : Step) → st.closed ≡ true → (after_line (apply s (system_of s w)) (stack_of s w st) l ≡ None) × (Form ≡ rule_broken (stack_of s w st) l)
none_open s w st l e =
    let c = sym (closed_stack s w st e) in
    (subst (λ (cs : List Context). after_line (apply s (system_of s w)) cs l ≡ None) c refl, subst (λ (cs : List Context). Form ≡ rule_broken cs l) c refl)

-- the line breaks its rule
pub none_left : (s : Sort) (w : WrittenSystem) (st : ProofState) (l : Step) (r : Rule) → st.closed ≡ false → Leaves s w (current_of s w st) (apply s (system_of s w) (current_of s w st) l) None → r ≡ rule_of l → (after_line (apply s (system_of s w)) (stack_of s w st) l ≡ None) × (r ≡ rule_broken (stack_of s w st) l)
none_left s w st l r e k q =
    let c = sym (open_stack s w st e) in (
      subst (λ (cs : List Context). after_line (apply s (system_of s w)) cs l ≡ None) c
          (ap (option_map (λ ks. ks ++ rest_of_stack s w st)) (sym k.contexts)),
      subst (λ (cs : List Context). r ≡ rule_broken cs l) c q,
    )

-- the line is taken
pub line_taken : (s : Sort) (w : WrittenSystem) (st new : ProofState) (l : Step) (next : Next) → st.closed ≡ false → Leaves s w (current_of s w st) (apply s (system_of s w) (current_of s w st) l) (Some next) → Moved s w (next_of s w (current_of s w st) next) st new → after_line (apply s (system_of s w)) (stack_of s w st) l ≡ Some (stack_of s w new)
line_taken s w st new l next e k m =
    ap (λ (cs : List Context). after_line (apply s (system_of s w)) cs l) (open_stack s w st e)
    ∙ ap (option_map (λ ks. ks ++ rest_of_stack s w st)) (sym k.contexts)
    ∙ ap Some (sym m.stack)

abbrev pub failed : Short Rule → Result (Unit {0}) (Short Rule)
failed e = Err e

-- a line that is refused for its rule
pub fault_taken : (rules : Rules) (old : List Context) (l : Step) (new : List Context) (e : Short Rule) (r : Rule) → e ≡ short.Fault r → IsTaken rules old l new (failed e) → (after_line rules old l ≡ None) × (r ≡ rule_broken old l)
fault_taken rules old l new e r q h = subst (λ (x : Short Rule). IsTaken rules old l new (failed x)) q h

-- ---- what the loop keeps

pub record Going (s : Sort) (w : WrittenSystem) (st : ProofState) (proof : List Step) (i n : ℕ) : Type 0 where
  pub state : IsState s w st
  pub same : first_bad_from (apply s (system_of s w)) (stack_of s w st) (drop i proof) n ≡ first_bad_from (apply s (system_of s w)) (open_context ∷ []) proof 0
  pub number : n ≡ i
  pub steps : AreSteps (drop i proof) → AreSteps proof

pub going_first : (s : Sort) (w : WrittenSystem) (st : ProofState) (proof : List Step) → st ≡ record { facts = []; base = 0; bare = false; closed = false; waiting = [] } → Going s w st proof 0 0
going_first s w st proof e =
    subst (λ (t : ProofState). Going s w t proof 0 0) (sym e) (record { state = record { facts = tt; base = omega arith; frames = tt }; same = refl; number = refl; steps = λ h. h })

here : (s : Sort) (w : WrittenSystem) (st : ProofState) (proof : List Step) (i n : ℕ) (l : Step) → Going s w st proof i n → i < length proof → l ≡ get_or proof i l → first_bad_from (apply s (system_of s w)) (open_context ∷ []) proof 0 ≡ first_bad_from (apply s (system_of s w)) (stack_of s w st) (l ∷ drop (i + 1) proof) n
here s w st proof i n l g h e =
    sym g.same
    ∙ at_drop_more (λ (ls : List Step). first_bad_from (apply s (system_of s w)) (stack_of s w st) ls n) proof i l h
    ∙ ap (λ (x : Step). first_bad_from (apply s (system_of s w)) (stack_of s w st) (x ∷ drop (i + 1) proof) n) (sym e)

-- the line breaks its rule
pub broken : (s : Sort) (w : WrittenSystem) (st : ProofState) (proof : List Step) (i n : ℕ) (l : Step) (r : Rule) → Going s w st proof i n → i < length proof → l ≡ get_or proof i l → (after_line (apply s (system_of s w)) (stack_of s w st) l ≡ None) × (r ≡ rule_broken (stack_of s w st) l) → Some (bad_line n r) ≡ first_bad_from (apply s (system_of s w)) (open_context ∷ []) proof 0
broken s w st proof i n l r g h e k =
    sym (here s w st proof i n l g h e
    ∙ walk_broken (apply s (system_of s w)) (stack_of s w st) l (drop (i + 1) proof) n k.0
    ∙ ap (λ (x : Rule). Some (bad_line n x)) (sym k.1))

-- the line is taken
pub going_more : (s : Sort) (w : WrittenSystem) (st new : ProofState) (proof : List Step) (i n : ℕ) (l : Step) → Going s w st proof i n → i < length proof → l ≡ get_or proof i l → after_line (apply s (system_of s w)) (stack_of s w st) l ≡ Some (stack_of s w new) → IsState s w new → IsStep l → Going s w new proof (i + 1) (n + 1)
going_more s w st new proof i n l g h e k m q =
    let sn : n + 1 ≡ suc n = omega arith in
    record {
      state = m;
      same = ap (λ (j : ℕ). first_bad_from (apply s (system_of s w)) (stack_of s w new) (drop (i + 1) proof) j) sn
          ∙ sym (walk_line (apply s (system_of s w)) (stack_of s w st) (stack_of s w new) l (drop (i + 1) proof) n k)
          ∙ sym (here s w st proof i n l g h e);
      number = let p = g.number in omega arith;
      steps = λ a. g.steps (subst (λ (ls : List Step). AreSteps ls) (sym (at_drop_more (λ (ls : List Step). ls) proof i l h)) (subst (λ (x : Step). IsStep x) e q, a));
    }

-- no line is left
pub done : (s : Sort) (w : WrittenSystem) (st : ProofState) (proof : List Step) (i n : ℕ) → Going s w st proof i n → length proof ≤ i → st.closed ≡ true → None ≡ first_bad_from (apply s (system_of s w)) (open_context ∷ []) proof 0
done s w st proof i n g h e =
    sym (ap₂ (λ (cs : List Context) (ls : List Step). first_bad_from (apply s (system_of s w)) cs ls n) (closed_stack s w st e) (at_drop_all (λ (ls : List Step). ls) proof i h)) ∙ g.same

pub missing : (s : Sort) (w : WrittenSystem) (st : ProofState) (proof : List Step) (i n : ℕ) → Going s w st proof i n → length proof ≤ i → st.closed ≡ false → Some (bad_line n Form) ≡ first_bad_from (apply s (system_of s w)) (open_context ∷ []) proof 0
missing s w st proof i n g h e =
    sym (ap₂ (λ (cs : List Context) (ls : List Step). first_bad_from (apply s (system_of s w)) cs ls n) (open_stack s w st e) (at_drop_all (λ (ls : List Step). ls) proof i h)) ∙ g.same

pub all_steps : (s : Sort) (w : WrittenSystem) (st : ProofState) (proof : List Step) (i n : ℕ) → Going s w st proof i n → length proof ≤ i → AreSteps proof
all_steps s w st proof i n g h =
    g.steps (subst (λ (ls : List Step). AreSteps ls) (sym (at_drop_all (λ (ls : List Step). ls) proof i h)) tt)

facts-drop : (s : Sort) (w : WrittenSystem) (fs : List Fact) (n : ℕ) → AreFacts s w fs → AreFacts s w (drop n fs)
facts-drop s w fs zero a = a
facts-drop s w [] (suc n) a = tt
facts-drop s w (f ∷ fs) (suc n) a = facts-drop s w fs n a.1

pub current_facts : (s : Sort) (w : WrittenSystem) (st : ProofState) (facts : List Fact) → IsState s w st → facts ≡ drop st.base st.facts → AreFacts s w facts
current_facts s w st facts i e =
    subst (λ (fs : List Fact). AreFacts s w fs) (sym e) (facts-drop s w st.facts st.base i.facts)

pub none_some : (b : BadLine) → None ≡ Some b → ⊥
none_some b e = cc
