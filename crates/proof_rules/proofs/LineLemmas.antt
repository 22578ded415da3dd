-- What each line leaves.
use Rattle.std.specs.Prelude.{ℕ, zero, suc, ◌≡◌, Bool, true, false, Option, Some, None, option_map, option_and_then, slice_get, List, [], map}
use Rattle.std.proofs.Common.{ap, ◌∙◌, sym, subst, refl}
use Rattle.lin_term.specs.declared.Sort.{Sort}
use Rattle.lin_term.specs.declared.Sort.TheVariants.{Rat, Int}
use Rattle.lin_term.specs.declared.Lit.{Lit}
use Rattle.lin_term.specs.declared.Lit.TheVariants.{AtLeast}
use Rattle.lin_term.specs.Literal.{prim}
use Rattle.lin_term.specs.Move.{Move}
use Rattle.lin_term.specs.Definition.{definition, rename_move, upper_form, lower_form}
use Rattle.lin_term.specs.Truth.{truth_of}
use Rattle.lin_term.proofs.Lowest.{prim_is_primitive}
use Rattle.dom_core.specs.Game.{Matrix, lit}
use Rattle.game_tree.specs.View.{skeleton_of}
use Rattle.lose_system.specs.Losing.{literal_number}
use Rattle.lose_system.specs.Written.{WrittenSystem, system_of, definition_literal}
use Rattle.lose_system.specs.Place.{Place}
use Rattle.lose_system.specs.Table.{places, route, definition_of}
use Rattle.lose_system.proofs.Found.{all_definitions}
use Rattle.cube_rules.specs.declared.Step.TheVariants as step
use Rattle.cube_rules.specs.Context.{Context}
use Rattle.cube_rules.specs.Facts.{guard, and_child, or_children, literal_at}
use Rattle.cube_rules.specs.Lines.{goes_on, cases_line, is_false, false_line, cube_step}
use Rattle.proof_rules.specs.Rules.{def_line}
use Rattle.proof_rules.specs.declared.fact.Fact.{Fact}
use Rattle.proof_rules.specs.declared.fact.Next.{Next}
use Rattle.proof_rules.specs.declared.fact.Next.TheVariants.{Goes, Closed}
use Rattle.proof_rules.specs.Held.{fact_of, context_of, next_of, IsKnown, IsFact, AreFacts, IsKeptNext, Leaves}
use Rattle.proof_rules.proofs.FactLemmas.{fact_at, seen_at}

pub some_same : {A : Type 0} (x y : A) → Some x ≡ Some y → x ≡ y
some_same x y e = cc

no_next : (n : Next) → None ≡ Some n → ⊥
no_next n e = cc

-- the line breaks its rule
pub breaks : (s : Sort) (w : WrittenSystem) (c : Context) (rule : Option (List Context)) → rule ≡ None → Leaves s w c rule None
breaks s w c rule e = record { contexts = sym e; kept = λ n h. absurd (no_next n h) }

pub leaves : (s : Sort) (w : WrittenSystem) (c : Context) (rule : Option (List Context)) (n : Next) → rule ≡ Some (next_of s w c n) → IsKeptNext s w n → Leaves s w c rule (Some n)
leaves s w c rule n e k = record { contexts = sym e; kept = λ m h. subst (λ (x : Next). IsKeptNext s w x) (some_same n m h) k }

pub seen : (s : Sort) (w : WrittenSystem) (fs : List Fact) (i : ℕ) (o : Option Fact) → o ≡ slice_get fs i → slice_get (map (fact_of s w) fs) i ≡ option_map (fact_of s w) o
seen s w fs i o e = seen_at s w fs i ∙ ap (option_map (fact_of s w)) (sym e)

-- ---- part, cases

pub part_rule : (s : Sort) (w : WrittenSystem) (bare : Bool) (n f i : ℕ) (fs : List Fact) (o : Option Fact) → o ≡ slice_get fs f → cube_step s n (context_of s w bare fs) (step.Part f i) ≡ option_map (goes_on (context_of s w bare fs)) (option_and_then (and_child i) (option_map (fact_of s w) o))
part_rule s w bare n f i fs o e =
    ap (λ (x : Option Matrix). option_map (goes_on (context_of s w bare fs)) (option_and_then (and_child i) x)) (seen s w fs f o e)

pub part_none : (s : Sort) (w : WrittenSystem) (bare : Bool) (n f i : ℕ) (fs : List Fact) → None ≡ slice_get fs f → Leaves s w (context_of s w bare fs) (cube_step s n (context_of s w bare fs) (step.Part f i)) None
part_none s w bare n f i fs e =
    breaks s w (context_of s w bare fs) (cube_step s n (context_of s w bare fs) (step.Part f i)) (part_rule s w bare n f i fs None e)

pub part_child : (s : Sort) (w : WrittenSystem) (bare : Bool) (n f i : ℕ) (fs : List Fact) (x : Fact) (o : Option Fact) → Some x ≡ slice_get fs f → option_map (fact_of s w) o ≡ and_child i (fact_of s w x) → AreFacts s w fs → (IsFact s w x → (y : Fact) → o ≡ Some y → IsFact s w y) → Leaves s w (context_of s w bare fs) (cube_step s n (context_of s w bare fs) (step.Part f i)) (option_map Goes o)
part_child s w bare n f i fs x None e p a k =
    breaks s w (context_of s w bare fs) (cube_step s n (context_of s w bare fs) (step.Part f i))
    (part_rule s w bare n f i fs (Some x) e ∙ ap (option_map (goes_on (context_of s w bare fs))) (sym p))
part_child s w bare n f i fs x (Some y) e p a k =
    leaves s w (context_of s w bare fs) (cube_step s n (context_of s w bare fs) (step.Part f i)) (Goes y)
    (part_rule s w bare n f i fs (Some x) e ∙ ap (option_map (goes_on (context_of s w bare fs))) (sym p))
    (k (fact_at s w fs f x a (sym e)) y refl)

pub cases_rule : (s : Sort) (w : WrittenSystem) (bare : Bool) (n f k : ℕ) (fs : List Fact) (o : Option Fact) → o ≡ slice_get fs f → cube_step s n (context_of s w bare fs) (step.Cases f k) ≡ option_and_then (cases_line (context_of s w bare fs) k) (option_and_then or_children (option_map (fact_of s w) o))
cases_rule s w bare n f k fs o e =
    ap (λ (x : Option Matrix). option_and_then (cases_line (context_of s w bare fs) k) (option_and_then or_children x)) (seen s w fs f o e)

pub cases_none : (s : Sort) (w : WrittenSystem) (bare : Bool) (n f k : ℕ) (fs : List Fact) → None ≡ slice_get fs f → Leaves s w (context_of s w bare fs) (cube_step s n (context_of s w bare fs) (step.Cases f k)) None
cases_none s w bare n f k fs e =
    breaks s w (context_of s w bare fs) (cube_step s n (context_of s w bare fs) (step.Cases f k)) (cases_rule s w bare n f k fs None e)

pub cases_found : (s : Sort) (w : WrittenSystem) (bare : Bool) (n f k : ℕ) (fs : List Fact) (x : Fact) (o : Option Next) → Some x ≡ slice_get fs f → option_map (next_of s w (context_of s w bare fs)) o ≡ option_and_then (cases_line (context_of s w bare fs) k) (or_children (fact_of s w x)) → AreFacts s w fs → (IsFact s w x → (m : Next) → o ≡ Some m → IsKeptNext s w m) → Leaves s w (context_of s w bare fs) (cube_step s n (context_of s w bare fs) (step.Cases f k)) o
cases_found s w bare n f k fs x o e p a q = record {
  contexts = p ∙ sym (cases_rule s w bare n f k fs (Some x) e);
  kept = q (fact_at s w fs f x a (sym e));
}

-- ---- definitions

defined_known : (s : Sort) (m : Move) (names : List ℕ) (v i : ℕ) (l : Lit) → literal_number i (definition s m names v) ≡ Some l → IsKnown s l
defined_known s m names v zero l e =
    subst (λ (x : Lit). IsKnown s x) (some_same (definition s m names v).upper l e) (at_least s (upper_form s (rename_move names m) v))
  where
    at_least : (s : Sort) (f : _) → IsKnown s (prim s (AtLeast f))
    at_least Rat f = (prim_is_primitive Rat (AtLeast f) tt, tt)
    at_least Int f = (prim_is_primitive Int (AtLeast f) tt, tt)
defined_known s m names v (suc zero) l e =
    subst (λ (x : Lit). IsKnown s x) (some_same (definition s m names v).lower l e) (at_least s (lower_form (rename_move names m) v))
  where
    at_least : (s : Sort) (f : _) → IsKnown s (prim s (AtLeast f))
    at_least Rat f = (prim_is_primitive Rat (AtLeast f) tt, tt)
    at_least Int f = (prim_is_primitive Int (AtLeast f) tt, tt)
defined_known s m names v (suc (suc i)) l e = absurd (cc)

place_known : (s : Sort) (t : List Place) (v i : ℕ) (l : Lit) (o : Option Place) → option_and_then (literal_number i) (option_and_then (definition_of s t v) o) ≡ Some l → IsKnown s l
place_known s t v i l None e = absurd (cc)
place_known s t v i l (Some p) e = by p.term e
  where
    by : (x : Option Move) → option_and_then (literal_number i) (option_map (λ m. definition s m (route p.depth t p.above) v) x) ≡ Some l → IsKnown s l
    by None e = absurd (cc)
    by (Some m) e = defined_known s m (route p.depth t p.above) v i l e

pub definition_known : (s : Sort) (w : WrittenSystem) (v i : ℕ) (l : Lit) → definition_literal s w v i ≡ Some l → IsKnown s l
definition_known s w v i l e =
    place_known s (places (skeleton_of w.tree) 0 0 0) v i l (slice_get (places (skeleton_of w.tree) 0 0 0) v)
    (sym (ap (option_and_then (literal_number i)) (all_definitions (skeleton_of w.tree) s v)) ∙ e)

pub def_found : (s : Sort) (w : WrittenSystem) (fs : List Fact) (v i : ℕ) (l : Lit) (n : Fact) → fact_of s w n ≡ lit l → IsFact s w n ≡ IsKnown s l → Some l ≡ definition_literal s w v i → Leaves s w (context_of s w false fs) (def_line (system_of s w) (context_of s w false fs) v i) (Some (Goes n))
def_found s w fs v i l n e q p =
    leaves s w (context_of s w false fs) (def_line (system_of s w) (context_of s w false fs) v i) (Goes n)
    (ap (option_map (λ k. goes_on (context_of s w false fs) (lit k))) (sym p) ∙ ap (λ (m : Matrix). Some (goes_on (context_of s w false fs) m)) (sym e))
    (subst (λ (T : Type 0). T) (sym q) (definition_known s w v i l (sym p)))

-- ---- false

pub false_none : (s : Sort) (w : WrittenSystem) (bare : Bool) (n f : ℕ) (fs : List Fact) → None ≡ literal_at (context_of s w bare fs) f → Leaves s w (context_of s w bare fs) (cube_step s n (context_of s w bare fs) (step.False f)) None
false_none s w bare n f fs e =
    breaks s w (context_of s w bare fs) (cube_step s n (context_of s w bare fs) (step.False f)) (ap (option_and_then false_line) (sym e))

pub false_found : (s : Sort) (w : WrittenSystem) (bare : Bool) (n f : ℕ) (fs : List Fact) (l : Lit) → Some l ≡ literal_at (context_of s w bare fs) f → truth_of l ≡ Some false → Leaves s w (context_of s w bare fs) (cube_step s n (context_of s w bare fs) (step.False f)) (Some Closed)
false_found s w bare n f fs l e t =
    leaves s w (context_of s w bare fs) (cube_step s n (context_of s w bare fs) (step.False f)) Closed
    (ap (option_and_then false_line) (sym e) ∙ ap (λ (o : Option Bool). guard (is_false o) (Some [])) t) tt

pub false_not : (s : Sort) (w : WrittenSystem) (bare : Bool) (n f : ℕ) (fs : List Fact) (l : Lit) → Some l ≡ literal_at (context_of s w bare fs) f → is_false (truth_of l) ≡ false → Leaves s w (context_of s w bare fs) (cube_step s n (context_of s w bare fs) (step.False f)) None
false_not s w bare n f fs l e t =
    breaks s w (context_of s w bare fs) (cube_step s n (context_of s w bare fs) (step.False f))
    (ap (option_and_then false_line) (sym e) ∙ ap (λ (b : Bool). guard b (Some [])) t)

pub false_tested : (s : Sort) (w : WrittenSystem) (bare : Bool) (n f : ℕ) (fs : List Fact) (l : Lit) (b : Bool) → Some l ≡ literal_at (context_of s w bare fs) f → is_false (truth_of l) ≡ b → Leaves s w (context_of s w bare fs) (cube_step s n (context_of s w bare fs) (step.False f)) (guard b (Some Closed))
false_tested s w bare n f fs l false e t = false_not s w bare n f fs l e t
false_tested s w bare n f fs l true e t = false_found s w bare n f fs l e (by (truth_of l) t)
  where
    by : (o : Option Bool) → is_false o ≡ true → o ≡ Some false
    by None h = absurd (cc)
    by (Some true) h = absurd (cc)
    by (Some false) h = refl

pub def_open : (s : Sort) (w : WrittenSystem) (fs : List Fact) (v i : ℕ) (l : Lit) (bare : Bool) (n : Fact) → fact_of s w n ≡ lit l → (x : Lit) → x ≡ l → IsFact s w n ≡ IsKnown s x → bare ≡ false → Some l ≡ definition_literal s w v i → Leaves s w (context_of s w bare fs) (def_line (system_of s w) (context_of s w bare fs) v i) (Some (Goes n))
def_open s w fs v i l true n e x xe q b p = absurd (cc)
def_open s w fs v i l false n e x xe q b p = def_found s w fs v i l n e (q ∙ ap (λ (y : Lit). IsKnown s y) xe) p
