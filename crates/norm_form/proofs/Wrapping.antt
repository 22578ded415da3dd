-- Quantifiers around a formula, one for each variable.
use Rattle.std.specs.Prelude.{ℕ, zero, suc, ◌≡◌, ◌+◌, Bool, List, [], ◌∷◌, ◌++◌, length, Option, None, Some, Err}
use Rattle.std.proofs.Common.{arith, ap, ◌∙◌, sym, refl}
use Rattle.lin_truth.specs.declared.term.VarSort.{VarSort}
use Rattle.lin_form.specs.declared.Bound.{Bound}
use Rattle.lin_form.specs.declared.FormFault.{FormFault}
use Rattle.lin_form.specs.declared.FormFault.TheVariants as faults
use Rattle.norm_form.specs.declared.normal.LevelForm.{LevelForm as Built}
use Rattle.norm_form.specs.Cap.{capped_maker, over}
use Rattle.norm_form.specs.Norm.{bind_one, gbind}
use Rattle.norm_form.specs.Normal.{Normal}
use Rattle.norm_form.specs.View.{shape_of, IsBuilt}
use Rattle.norm_form.specs.Walk.{all_bound, wrapped}

wrapped_none : (q : Bool) (n : ℕ) (o : Option Normal) → o ≡ None → wrapped q n o ≡ None
wrapped_none q zero o e = e
wrapped_none q (suc n) o e = ap (over (bind_one q)) (wrapped_none q n o e)

pub wrapped_stops : (q : Bool) (n : ℕ) (o : Option Normal) (z : FormFault) → IsBuilt o (Err z) → IsBuilt (wrapped q n o) (Err z)
wrapped_stops q n o faults.Number h = wrapped_none q n o h
wrapped_stops q n o faults.Memory h = h
wrapped_stops q n o faults.Size h = h
wrapped_stops q n o faults.Variables h = h

pub wrapped_more : (q : Bool) (i j : ℕ) (o : Option Normal) (n m : Built) → j ≡ i + 1 → wrapped q i o ≡ Some (shape_of n) → shape_of m ≡ bind_one q (shape_of n) → wrapped q j o ≡ Some (shape_of m)
wrapped_more q i j o n m e h g =
    let f : j ≡ suc i = omega (arith, e) in
    ap (λ (k : ℕ). wrapped q k o) f ∙ ap (over (bind_one q)) h ∙ ap Some (sym g)

wrapped_in : (q : Bool) (n : ℕ) (o : Option Normal) → over (bind_one q) (wrapped q n o) ≡ wrapped q n (over (bind_one q) o)
wrapped_in q zero o = refl
wrapped_in q (suc n) o = ap (over (bind_one q)) (wrapped_in q n o)

shifted : (d n : ℕ) → suc d + n ≡ d + suc n
shifted d n = omega arith

pub bind_is : (q : Bool) (vs : List VarSort) (f : List Bound → ℕ → Option Normal) (ctx : List Bound) (d : ℕ) → gbind capped_maker q vs f ctx d ≡ wrapped q (length vs) (f (all_bound ctx vs d) (d + length vs))
bind_is q [] f ctx d = ap (f ctx) (plus_none d)
  where
    plus_none : (d : ℕ) → d ≡ d + 0
    plus_none d = omega arith
bind_is q (v ∷ vs) f ctx d =
    ap (over (bind_one q)) (bind_is q vs f (ctx ++ (record { sort = v; level = d }) ∷ []) (suc d))
    ∙ ap (λ (e : ℕ). over (bind_one q) (wrapped q (length vs) (f (all_bound (ctx ++ (record { sort = v; level = d }) ∷ []) vs (suc d)) e))) (shifted d (length vs))
