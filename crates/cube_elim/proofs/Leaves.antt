-- Where no variable is left, a cube of which no literal is false determines the point of no variables.
use Rattle.std.specs.Prelude.{ℕ, ◌*◌, ◌≡◌, ℤ, pos, ◌+ℤ◌, ◌*ℤ◌, Bool, true, false, not, ◌&&◌, cond, Some, None, List, [], ◌∷◌}
use Rattle.std.specs.List.{AllByRecursion}
use Rattle.std.proofs.Common.{arith, ap, ◌∙◌, sym, subst, refl}
use Rattle.std.proofs.lemmas.Int.{ints}
use Rattle.lin_term.specs.declared.Sort.{Sort}
use Rattle.lin_term.specs.declared.Lit.{Lit}
use Rattle.lin_term.specs.declared.Lit.TheVariants.{AtLeast, Above, Divides, NotDivides}
use Rattle.lin_term.specs.Linear.{Point, Below, BelowTerms, dot, dot_terms, origin}
use Rattle.lin_term.specs.Literal.{form_of}
use Rattle.lin_term.specs.Truth.{truth_of, truth_at, truth_without, divides_number}
use Rattle.dom_core.specs.Reduced.{AreBelow}
use Rattle.cube_rules.specs.Lines.{is_false}
use Rattle.cube_elim.specs.Determined.{holds_at, all_hold_at, start}
use Rattle.cube_elim.specs.Searching.{IsDetermined}

closed_dot : (ts : List (ℕ × ℤ)) (k : ℤ) → BelowTerms 0 ts → dot_terms ts [] +ℤ k *ℤ pos 1 ≡ k
closed_dot [] k b = omega (arith, ints)
closed_dot (t ∷ ts) k b = absurd (let h = b.0 in omega arith)

closed_truth : (ts : List (ℕ × ℤ)) (l : Lit) (k : ℤ) → BelowTerms 0 ts → truth_without ts l k ≡ Some (truth_at l k)
closed_truth [] l k b = refl
closed_truth (t ∷ ts) l k b = absurd (let h = b.0 in omega arith)

holds_closed : (l : Lit) → truth_at l (dot (form_of l) origin) ≡ holds_at l origin
holds_closed (AtLeast f) = refl
holds_closed (Above f) = refl
holds_closed (Divides d f) = ap (λ (m : ℕ). divides_number m (dot f origin)) (let e : d ≡ d * 1 = omega arith in e)
holds_closed (NotDivides d f) = ap (λ (m : ℕ). not (divides_number m (dot f origin))) (let e : d ≡ d * 1 = omega arith in e)

not_false : (b : Bool) → not b ≡ false → b ≡ true
not_false true e = refl
not_false false e = absurd (cc)

leaf_lit : (l : Lit) → Below 0 (form_of l) → is_false (truth_of l) ≡ false → holds_at l origin ≡ true
leaf_lit l b e =
    let t = closed_truth (form_of l).terms l (form_of l).constant b in
    let d = closed_dot (form_of l).terms (form_of l).constant b in
    sym (holds_closed l) ∙ ap (λ (z : ℤ). truth_at l z) d
    ∙ not_false (truth_at l (form_of l).constant) (ap is_false (sym t) ∙ e)

both : (a b : Bool) → a ≡ true → b ≡ true → (a && b) ≡ true
both true b e f = f
both false b e f = absurd (cc)

leaf_lits : (c : List Lit) → AreBelow 0 c → AllByRecursion (λ l. is_false (truth_of l) ≡ false) c → all_hold_at c origin ≡ true
leaf_lits [] b e = refl
leaf_lits (l ∷ c) b e =
    both (holds_at l origin) (all_hold_at c origin) (leaf_lit l b.0 e.0) (leaf_lits c b.1 e.1)

pub leaf_ends : (s : Sort) (c : List Lit) (p : Point) → p ≡ origin → AreBelow 0 c → AllByRecursion (λ l. is_false (truth_of l) ≡ false) c → IsDetermined s 0 c p
leaf_ends s c p q b e =
    subst (λ (y : Point). IsDetermined s 0 c y) (sym q)
    (record { numbers = []; determines = ap (λ (t : Bool). cond t (Some start) None) (leaf_lits c b e); fits = refl })
