-- What is done with one form.
use Rattle.std.specs.Prelude.{ℕ, suc, ◌≡◌, ℤ, Bool, true, false, ◌&&◌, List, [], ◌∷◌, ◌++◌, Option, None, Some, Ok, Err}
use Rattle.std.proofs.Common.{ap, ap₂, ◌∙◌, sym, refl}
use Rattle.lin_term.specs.declared.Sort.{Sort}
use Rattle.lin_term.specs.declared.Lit.TheVariants.{AtLeast}
use Rattle.lin_form.specs.declared.FormFault.{FormFault}
use Rattle.lin_form.specs.declared.FormFault.TheVariants as faults
use Rattle.lin_form.specs.Lin.{Lin, lin_variable, lin_minus, lin_neg}
use Rattle.lin_form.specs.Kept.{within, lins_numbers}
use Rattle.lin_form.specs.Outcome.{Formed}
use Rattle.lin_form.proofs.Forming.{within_both}
use Rattle.norm_form.specs.declared.bounds.Bounds.{Bounds}
use Rattle.norm_form.specs.declared.literal.Signs.{Signs}
use Rattle.norm_form.specs.declared.branches.Case.{Case}
use Rattle.norm_form.specs.declared.branches.Case.TheVariants as cases
use Rattle.norm_form.specs.declared.change.Change.TheVariants as changes
use Rattle.norm_form.specs.declared.normal.LevelForm.{LevelForm as Built}
use Rattle.norm_form.specs.Bounds.{AreBounds}
use Rattle.norm_form.specs.Cap.{capped_maker, keep_if, over, over2, over4, atom_numbers, div_numbers}
use Rattle.norm_form.specs.Cases.{between, changed, chosen, run_back, AreBack}
use Rattle.norm_form.specs.Literal.{AreSigned}
use Rattle.norm_form.specs.Norm.{abs_form, ite_form, div_forms, div_low, div_high, div_top, multiple}
use Rattle.norm_form.specs.Normal.{Normal}
use Rattle.norm_form.specs.View.{shape_of, IsBuilt}

both_kept : (a b : Bool) (z : Option Normal) → a && b ≡ true → z ≡ keep_if a (keep_if b z)
both_kept true true z h = refl
both_kept true false z h = absurd (cc)
both_kept false b z h = absurd (cc)

both_lost : (a b : Bool) (z : Option Normal) → a && b ≡ false → keep_if a (keep_if b z) ≡ None
both_lost true true z h = absurd (cc)
both_lost true false z h = refl
both_lost false b z h = refl

pub bounds_back : (s : Sort) (n : ℤ) (x : Lin) (d : ℕ) (b : Bounds) (r : Lin) (more : List Case) → AreBounds s n x d (Ok b) → ((k : ℕ → Lin → Option Normal) (rs : List (Option Normal)) → run_back more k rs ≡ over (between (shape_of b.low) (shape_of b.high)) (k (suc d) r) ∷ rs) → AreBack (λ k. capped_maker.formed (div_forms n x d) (capped_maker.div_form s n x d (k (suc d) r))) (Ok more)
bounds_back s n x d b r more h m k rs =
    m k rs ∙ ap₂ (λ (l u : Normal). over (between l u) (k (suc d) r) ∷ rs) h.1 h.2
    ∙ ap (λ (z : Option Normal). z ∷ rs) (both_kept (within (lins_numbers (div_forms n x d))) (within (div_numbers s n x d)) (over (between (div_low s n x d) (div_high s n x d)) (k (suc d) r)) h.0)

pub bounds_stop : (s : Sort) (n : ℤ) (x : Lin) (d : ℕ) (r : Lin) (z : FormFault) → AreBounds s n x d (Err z) → AreBack (λ k. capped_maker.formed (div_forms n x d) (capped_maker.div_form s n x d (k (suc d) r))) (Err z)
bounds_stop s n x d r faults.Number h = λ k. both_lost (within (lins_numbers (div_forms n x d))) (within (div_numbers s n x d)) (over (between (div_low s n x d) (div_high s n x d)) (k (suc d) r)) h
bounds_stop s n x d r faults.Memory h = tt
bounds_stop s n x d r faults.Size h = h
bounds_stop s n x d r faults.Variables h = h

pub variable_stops : (s : Sort) (n : ℤ) (x : Lin) (d : ℕ) (r : Lin) (z : FormFault) → Formed (lin_variable d ∷ []) (lin_variable d) (Err z) → AreBack (λ k. capped_maker.formed (div_forms n x d) (capped_maker.div_form s n x d (k (suc d) r))) (Err z)
variable_stops s n x d r faults.Number h =
    λ k. ap (λ (b : Bool). keep_if b (capped_maker.div_form s n x d (k (suc d) r)))
    (within_both (lin_variable d ∷ []) (multiple n d ∷ lin_minus x (multiple n d) ∷ div_top n d ∷ lin_minus (div_top n d) x ∷ [])
    ∙ ap (λ (b : Bool). b && within (lins_numbers (multiple n d ∷ lin_minus x (multiple n d) ∷ div_top n d ∷ lin_minus (div_top n d) x ∷ []))) h)
variable_stops s n x d r faults.Memory h = tt
variable_stops s n x d r faults.Size h = h
variable_stops s n x d r faults.Variables h = h

over2_none : (f : Normal → Normal → Normal) (a : Option Normal) → over2 f a None ≡ None
over2_none f None = refl
over2_none f (Some a) = refl

pub minus_stops : (s : Sort) (d : ℕ) (x : Lin) (z : FormFault) → AreBack (λ k. capped_maker.formed (lin_neg x ∷ []) (k d (lin_neg x))) (Err z) → AreBack (λ k. changed changes.Absolute s k d x) (Err z)
minus_stops s d x faults.Number h =
    λ k. ap (λ (y : Option Normal). keep_if (within (atom_numbers s (AtLeast x.form))) (over2 (abs_form s x) (k d x) y)) (h k)
    ∙ ap (keep_if (within (atom_numbers s (AtLeast x.form)))) (over2_none (abs_form s x) (k d x)) ∙ keep_none (within (atom_numbers s (AtLeast x.form)))
  where
    keep_none : (b : Bool) → keep_if {A = Normal} b None ≡ None
    keep_none true = refl
    keep_none false = refl
minus_stops s d x faults.Memory h = tt
minus_stops s d x faults.Size h = h
minus_stops s d x faults.Variables h = h

pub signs_stop : (s : Sort) (d : ℕ) (x : Lin) (z : FormFault) → AreSigned s (AtLeast x.form) (Err z) → AreBack (λ k. changed changes.Absolute s k d x) (Err z)
signs_stop s d x faults.Number h = λ k. ap (λ (b : Bool). keep_if b (over2 (abs_form s x) (k d x) (capped_maker.formed (lin_neg x ∷ []) (k d (lin_neg x))))) h
signs_stop s d x faults.Memory h = tt
signs_stop s d x faults.Size h = h
signs_stop s d x faults.Variables h = h

back_two : (ms : List Case) (c d : Case) (k : ℕ → Lin → Option Normal) (rs : List (Option Normal)) → run_back ((ms ++ c ∷ []) ++ d ∷ []) k rs ≡ run_back (c ∷ d ∷ []) k (run_back ms k rs)
back_two [] c d k rs = refl
back_two (m ∷ ms) c d k rs = back_two ms c d k (put_one m k rs)
  where
    put_one : Case → (ℕ → Lin → Option Normal) → List (Option Normal) → List (Option Normal)
    put_one m k rs = run_back (m ∷ []) k rs

pub choice_back : (s : Sort) (d : ℕ) (x : Lin) (ms all : List Case) (z : Signs) → AreBack (λ k. capped_maker.formed (lin_neg x ∷ []) (k d (lin_neg x))) (Ok ms) → AreSigned s (AtLeast x.form) (Ok z) → all ≡ (ms ++ cases.Form d x ∷ []) ++ cases.Choice z.yes z.no ∷ [] → AreBack (λ k. changed changes.Absolute s k d x) (Ok all)
choice_back s d x ms all z h g e k rs =
    ap (λ (cs : List Case). run_back cs k rs) e
    ∙ back_two ms (cases.Form d x) (cases.Choice z.yes z.no) k rs
    ∙ ap (λ (us : List (Option Normal)). chosen (shape_of z.yes) (shape_of z.no) (k d x ∷ us)) (h k rs)
    ∙ ap₂ (λ (c n : Normal). over2 (ite_form c n) (k d x) (capped_maker.formed (lin_neg x ∷ []) (k d (lin_neg x))) ∷ rs) g.1 g.2
    ∙ ap (λ (b : Bool). keep_if b (over2 (abs_form s x) (k d x) (capped_maker.formed (lin_neg x ∷ []) (k d (lin_neg x)))) ∷ rs) (sym g.0)

-- ---- one of two forms

second_none : (p n z w : Option Normal) → n ≡ None → over4 ite_form p n z w ≡ None
second_none None n z w e = refl
second_none (Some p) n z w e = ap (λ (m : Option Normal). over4 ite_form (Some p) m z w) e

pub test_stops : (d : ℕ) (x y : Lin) (p n : Option Normal) (z : FormFault) → IsBuilt p (Err z) → AreBack (λ k. capped_maker.ite_form p n (k d x) (k d y)) (Err z)
test_stops d x y p n faults.Number h = λ k. ap (λ (m : Option Normal). over4 ite_form m n (k d x) (k d y)) h
test_stops d x y p n faults.Memory h = h
test_stops d x y p n faults.Size h = h
test_stops d x y p n faults.Variables h = h

pub untest_stops : (d : ℕ) (x y : Lin) (p n : Option Normal) (z : FormFault) → IsBuilt n (Err z) → AreBack (λ k. capped_maker.ite_form p n (k d x) (k d y)) (Err z)
untest_stops d x y p n faults.Number h = λ k. second_none p n (k d x) (k d y) h
untest_stops d x y p n faults.Memory h = h
untest_stops d x y p n faults.Size h = h
untest_stops d x y p n faults.Variables h = h

pub pair_back : (d : ℕ) (x y : Lin) (p n : Option Normal) (c m : Built) (all : List Case) → p ≡ Some (shape_of c) → n ≡ Some (shape_of m) → all ≡ ((cases.Form d y ∷ []) ++ cases.Form d x ∷ []) ++ cases.Choice c m ∷ [] → AreBack (λ k. capped_maker.ite_form p n (k d x) (k d y)) (Ok all)
pair_back d x y p n c m all e f g k rs =
    ap (λ (cs : List Case). run_back cs k rs) g ∙ ap₂ (λ (a b : Option Normal). over4 ite_form a b (k d x) (k d y) ∷ rs) (sym e) (sym f)
