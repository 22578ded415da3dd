-- Sums and splits.
use Rattle.std.specs.Prelude.{ℕ, ℤ, ◌≡◌, Bool, true, false, ◌&&◌, ◌||◌, is_none, Option, Some, None, option_map, option_and_then, [], ◌∷◌}
use Rattle.std.proofs.Common.{ap, ◌∙◌, sym, subst, refl}
use Rattle.std.proofs.lemmas.Bool.{and_parts}
use Rattle.lin_term.specs.declared.Sort.{Sort}
use Rattle.lin_term.specs.declared.Sort.TheVariants.{Rat, Int}
use Rattle.lin_term.specs.declared.Lit.{Lit}
use Rattle.lin_term.specs.declared.Lit.TheVariants.{AtLeast, Above, Divides, NotDivides}
use Rattle.lin_term.specs.Form.{Form}
use Rattle.lin_term.specs.Linear.{plus, times}
use Rattle.lin_term.specs.Primable.{IsPrimable}
use Rattle.lin_term.specs.Literal.{IsOf, prim, neg, opposite, form_of}
use Rattle.lin_term.specs.Sum.{sum_of, is_strict, inequality_with}
use Rattle.lin_term.specs.Wide.{first_past, lit_numbers}
use Rattle.lin_term.proofs.PrimitiveLemmas.{modulus_one}
use Rattle.lin_term.proofs.Lowest.{prim_is_primitive}
use Rattle.dom_core.specs.Game.{Matrix, lit}
use Rattle.lose_system.specs.Written.{WrittenSystem}
use Rattle.cube_rules.specs.declared.Step.TheVariants as step
use Rattle.cube_rules.specs.Context.{Context, with_fact}
use Rattle.cube_rules.specs.Facts.{guard, is_primitive, all_below, literal_at}
use Rattle.cube_rules.specs.Lines.{goes_on, is_sum, sum_line, is_split, split_line, cube_step}
use Rattle.cube_rules.proofs.Comparing.{primitive_is}
use Rattle.proof_rules.specs.declared.fact.Fact.{Fact}
use Rattle.proof_rules.specs.declared.fact.Next.{Next}
use Rattle.proof_rules.specs.declared.fact.Next.TheVariants.{Goes}
use Rattle.proof_rules.specs.Held.{fact_of, next_of, IsKnown, IsFact, IsKeptNext, Leaves}
use Rattle.proof_rules.proofs.FactLemmas.{primable_within}
use Rattle.proof_rules.proofs.LineLemmas.{some_same, breaks, leaves}

guard_map : {A B : Type 0} (g : A → B) (b : Bool) (x : A) → option_map g (guard b (Some x)) ≡ guard b (Some (g x))
guard_map g true x = refl
guard_map g false x = refl

-- ---- sums

sum_of_sort : (s : Sort) (b : Bool) (f : Form) → IsOf s (prim s (inequality_with b f))
sum_of_sort Rat true f = tt
sum_of_sort Rat false f = tt
sum_of_sort Int true f = tt
sum_of_sort Int false f = tt

sum_primable : (s : Sort) (b : Bool) (f : Form) → IsPrimable s (prim s (inequality_with b f))
sum_primable Rat true f = tt
sum_primable Rat false f = tt
sum_primable Int true f = tt
sum_primable Int false f = tt

sum_known : (s : Sort) (p : ℤ) (a : Lit) (q : ℤ) (b : Lit) → IsKnown s (prim s (sum_of p a q b))
sum_known s p a q b =
    let strict = is_strict a || is_strict b in
    let form = plus (times p (form_of a)) (times q (form_of b)) in
    (prim_is_primitive s (sum_of p a q b) (sum_of_sort s strict form), sum_primable s strict form)

sum_rule : (s : Sort) (w : WrittenSystem) (c : Context) (n f h : ℕ) (p q g : ℤ) (a b : Lit) (o : Option Lit) → Some a ≡ literal_at c f → Some b ≡ literal_at c h → o ≡ guard (is_sum s p a q b g) (Some (prim s (sum_of p a q b))) → cube_step s n c (step.Sum p f q h g) ≡ option_map (λ l. goes_on c (lit l)) o
sum_rule s w c n f h p q g a b o ea eb e =
    ap (option_and_then (λ x. option_and_then (λ y. sum_line s c p x q y g) (literal_at c h))) (sym ea)
    ∙ ap (option_and_then (λ y. sum_line s c p a q y g)) (sym eb)
    ∙ sym (guard_map (λ l. goes_on c (lit l)) (is_sum s p a q b g) (prim s (sum_of p a q b)))
    ∙ ap (option_map (λ l. goes_on c (lit l))) (sym e)

pub first_missing : (s : Sort) (w : WrittenSystem) (c : Context) (n f h : ℕ) (p q g : ℤ) → None ≡ literal_at c f → Leaves s w c (cube_step s n c (step.Sum p f q h g)) None
first_missing s w c n f h p q g e =
    breaks s w c (cube_step s n c (step.Sum p f q h g)) (ap (option_and_then (λ x. option_and_then (λ y. sum_line s c p x q y g) (literal_at c h))) (sym e))

pub second_missing : (s : Sort) (w : WrittenSystem) (c : Context) (n f h : ℕ) (p q g : ℤ) (a : Lit) → Some a ≡ literal_at c f → None ≡ literal_at c h → Leaves s w c (cube_step s n c (step.Sum p f q h g)) None
second_missing s w c n f h p q g a ea e =
    breaks s w c (cube_step s n c (step.Sum p f q h g))
    (ap (option_and_then (λ x. option_and_then (λ y. sum_line s c p x q y g) (literal_at c h))) (sym ea) ∙ ap (option_and_then (λ y. sum_line s c p a q y g)) (sym e))

pub sum_broken : (s : Sort) (w : WrittenSystem) (c : Context) (n f h : ℕ) (p q g : ℤ) (a b : Lit) → Some a ≡ literal_at c f → Some b ≡ literal_at c h → None ≡ guard (is_sum s p a q b g) (Some (prim s (sum_of p a q b))) → Leaves s w c (cube_step s n c (step.Sum p f q h g)) None
sum_broken s w c n f h p q g a b ea eb e =
    breaks s w c (cube_step s n c (step.Sum p f q h g)) (sum_rule s w c n f h p q g a b None ea eb e)

pub guard_is : {A : Type 0} (b : Bool) (x y : A) → Some x ≡ guard b (Some y) → x ≡ y
guard_is true x y e = some_same x y e
guard_is false x y e = absurd (cc)

pub sum_made : (s : Sort) (w : WrittenSystem) (c : Context) (n f h : ℕ) (p q g : ℤ) (a b l x : Lit) (m : Fact) → Some a ≡ literal_at c f → Some b ≡ literal_at c h → Some l ≡ guard (is_sum s p a q b g) (Some (prim s (sum_of p a q b))) → x ≡ l → fact_of s w m ≡ lit x → IsFact s w m ≡ IsKnown s x → Leaves s w c (cube_step s n c (step.Sum p f q h g)) (Some (Goes m))
sum_made s w c n f h p q g a b l x m ea eb e xe me ke =
    leaves s w c (cube_step s n c (step.Sum p f q h g)) (Goes m)
    (sum_rule s w c n f h p q g a b (Some l) ea eb e ∙ ap (λ (y : Matrix). Some (goes_on c y)) (sym (me ∙ ap lit xe)))
    (subst (λ (T : Type 0). T) (sym ke) (subst (λ (y : Lit). IsKnown s y) (sym (xe ∙ guard_is (is_sum s p a q b g) l (prim s (sum_of p a q b)) e)) (sum_known s p a q b)))

-- what `summed` gives, at the literals behind the references
pub summed_as : (s : Sort) (p q g : ℤ) (t : Sort) (a b x y : Lit) (o : Option Lit) → o ≡ guard (is_sum t p x q y g) (Some (prim t (sum_of p x q y))) → t ≡ s → x ≡ a → y ≡ b → o ≡ guard (is_sum s p a q b g) (Some (prim s (sum_of p a q b)))
summed_as s p q g t a b x y o e ts xa yb =
    e ∙ ap (λ (u : Sort). guard (is_sum u p x q y g) (Some (prim u (sum_of p x q y)))) ts
    ∙ ap (λ (u : Lit). guard (is_sum s p u q y g) (Some (prim s (sum_of p u q y)))) xa
    ∙ ap (λ (u : Lit). guard (is_sum s p a q u g) (Some (prim s (sum_of p a q u)))) yb

-- ---- splits

negated_of : (s : Sort) (l : Lit) → IsOf s l → IsOf s (neg s l)
negated_of Rat (AtLeast f) o = tt
negated_of Rat (Above f) o = tt
negated_of Rat (Divides d f) o = absurd o
negated_of Rat (NotDivides d f) o = absurd o
negated_of Int (AtLeast f) o = tt
negated_of Int (Above f) o = absurd o
negated_of Int (Divides d f) o = modulus_one d f o
negated_of Int (NotDivides d f) o = modulus_one d f o

none_is : {A : Type 0} (o : Option A) → is_none o ≡ true → o ≡ None
none_is None e = refl
none_is (Some x) e = absurd (cc)

pub split_known : (s : Sort) (n : ℕ) (l : Lit) → first_past (lit_numbers l) ≡ None → is_split s n l ≡ true → IsKnown s l × IsKnown s (neg s l)
split_known s n l h e =
    let r1 = and_parts (is_primitive s l && all_below n (form_of l).terms) (is_none (first_past (lit_numbers (neg s l)))) e in
    let r2 = and_parts (is_primitive s l) (all_below n (form_of l).terms) r1.0 in
    let p = primitive_is s l r2.0 in
    let o = negated_of s l p.0 in
    ((p, primable_within s l p.0 h), (prim_is_primitive s (opposite s l) o, primable_within s (neg s l) o (none_is (first_past (lit_numbers (neg s l))) r1.1)))

abbrev pub pair : Lit → Lit → Lit × Lit
pair a b = (a, b)

pub guard_true : {A : Type 0} (b : Bool) (x y : A) → Some x ≡ guard b (Some y) → b ≡ true
guard_true true x y e = refl
guard_true false x y e = absurd (cc)

pub split_broken : (s : Sort) (w : WrittenSystem) (c : Context) (n : ℕ) (l : Lit) → None ≡ guard (is_split s n l) (Some (pair l (neg s l))) → Leaves s w c (split_line s n c l) None
split_broken s w c n l e =
    breaks s w c (split_line s n c l)
    (sym (guard_map (λ (p : Lit × Lit). with_fact c (lit p.0) ∷ with_fact c (lit p.1) ∷ []) (is_split s n l) (pair l (neg s l))) ∙ ap (option_map (λ (p : Lit × Lit). with_fact c (lit p.0) ∷ with_fact c (lit p.1) ∷ [])) (sym e))

pub split_made : (s : Sort) (w : WrittenSystem) (c : Context) (n : ℕ) (l a b : Lit) (m : Next) (x y : Lit) → Some (pair a b) ≡ guard (is_split s n l) (Some (pair l (neg s l))) → x ≡ a → y ≡ b → next_of s w c m ≡ with_fact c (lit x) ∷ with_fact c (lit y) ∷ [] → IsKeptNext s w m ≡ (IsKnown s x × IsKnown s y) → first_past (lit_numbers l) ≡ None → Leaves s w c (split_line s n c l) (Some m)
split_made s w c n l a b m x y e xe ye me ke h =
    let t = guard_true (is_split s n l) (pair a b) (pair l (neg s l)) e in
    let q = guard_is (is_split s n l) (pair a b) (pair l (neg s l)) e in
    let k = split_known s n l h t in
    let xl : x ≡ l = xe ∙ ap (λ (p : Lit × Lit). p.0) q in
    let yl : y ≡ neg s l = ye ∙ ap (λ (p : Lit × Lit). p.1) q in
    leaves s w c (split_line s n c l) m
    (ap (λ (v : Bool). guard v (Some (with_fact c (lit l) ∷ with_fact c (lit (neg s l)) ∷ []))) t
    ∙ ap (λ (v : Lit). Some (with_fact c (lit v) ∷ with_fact c (lit (neg s l)) ∷ [])) (sym xl)
    ∙ ap (λ (v : Lit). Some (with_fact c (lit x) ∷ with_fact c (lit v) ∷ [])) (sym yl)
    ∙ ap Some (sym me))
    (subst (λ (T : Type 0). T) (sym ke) (subst (λ (v : Lit). IsKnown s v) (sym xl) k.0, subst (λ (v : Lit). IsKnown s v) (sym yl) k.1))
