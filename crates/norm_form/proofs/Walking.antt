-- The walk over a body, step by step.
use Rattle.std.specs.Prelude.{ℕ, suc, ◌≡◌, Bool, true, false, ◌&&◌, List, [], ◌∷◌, ◌++◌, map, Option, None, Some, Result, Ok, Err}
use Rattle.std.proofs.Common.{ap, ◌∙◌, sym, subst, refl}
use Rattle.lin_term.specs.declared.Sort.{Sort}
use Rattle.lin_truth.specs.Term.{Term, Terms, negative, absolute, minus, quotient_of, div_of, mod_of, equal, ite, plus_of, times_of, no_term, term_and}
use Rattle.lin_truth.specs.Value.{zero_value, one_value}
use Rattle.lin_truth.specs.Constant.{is_constant, are_constant}
use Rattle.lin_form.specs.declared.Bound.{Bound}
use Rattle.lin_form.specs.declared.FormFault.{FormFault}
use Rattle.lin_form.specs.declared.FormFault.TheVariants as faults
use Rattle.lin_form.specs.Lin.{Lin, lin_plus, lin_times, lin_neg, lin_minus, lin_over, lin_variable}
use Rattle.lin_form.specs.Kept.{within, lins_numbers}
use Rattle.lin_form.proofs.Forming.{within_both}
use Rattle.norm_form.specs.declared.change.Division.TheVariants as divisions
use Rattle.lin_form.specs.Low.{as_lin, low, low_sum, low_product, steps}
use Rattle.norm_form.specs.declared.branches.Case.{Case}
use Rattle.norm_form.specs.declared.normal.LevelForm.{LevelForm as Built}
use Rattle.norm_form.specs.Cap.{capped_maker, keep_if, over, over2}
use Rattle.norm_form.specs.Cases.{run, HasNone, AreCases, AreTurned, divided}
use Rattle.norm_form.specs.Norm.{gnorm, gnorms, glin, glin_sum, glin_product, glin_of, gchoose, joined_by, div_forms, multiple}
use Rattle.norm_form.specs.Normal.{Normal, Normals, no_part, part}
use Rattle.lin_truth.specs.Truth.{is_formula}
use Rattle.lin_form.specs.Scope.{bound_sort}
use Rattle.norm_form.specs.Pairing.{other_part, paired_form}
use Rattle.norm_form.specs.View.{shape_of, shapes_of, IsBuilt}
use Rattle.lin_form.specs.Direct.{is_direct, direct, made}
use Rattle.norm_form.proofs.Directly.{capped_direct, not_direct_not_constant}
use Rattle.norm_form.proofs.Running.{none_one}
use Rattle.norm_form.proofs.Shapes.{push_part, shapes_push}

-- ---- constant terms, and others

lin_else : {R : Type 0} (b : Bool) (x : Lin) (d : ℕ) (k : ℕ → Lin → R) (n : R) → b ≡ false → glin_of b x d k n ≡ n
lin_else {R} b x d k n h = ap (λ (t : Bool). glin_of t x d k n) h

lin_then : {R : Type 0} (b : Bool) (x : Lin) (d : ℕ) (k : ℕ → Lin → R) (n : R) → b ≡ true → glin_of b x d k n ≡ k d x
lin_then {R} b x d k n h = ap (λ (t : Bool). glin_of t x d k n) h

false_true : false ≡ true → ⊥
false_true h = absurd (cc)

pub cases_same : (g h : (ℕ → Lin → Option Normal) → Option Normal) (r : Result (List Case) FormFault) → ((k : ℕ → Lin → Option Normal) → g k ≡ h k) → AreCases g r → AreCases h r
cases_same g h (Ok cs) e a = λ k rs. a k rs ∙ ap (λ (o : Option Normal). o ∷ rs) (e k)
cases_same g h (Err faults.Number) e a = λ k. sym (e k) ∙ a k
cases_same g h (Err faults.Memory) e a = a
cases_same g h (Err faults.Size) e a = a
cases_same g h (Err faults.Variables) e a = a

-- the cases of a term that is not constant
pub choose_cases : (b : Bool) (x : Lin) (d : ℕ) (j : (ℕ → Lin → Option Normal) → ℕ → Lin → Option Normal) (n : (ℕ → Lin → Option Normal) → Option Normal) (r : Result (List Case) FormFault) → b ≡ false → AreCases n r → AreCases (λ k. glin_of b x d (j k) (n k)) r
choose_cases b x d j n r h a = cases_same n (λ k. glin_of b x d (j k) (n k)) r (λ k. sym (lin_else b x d (j k) (n k) h)) a

-- ---- sums and products

abbrev pub SumStands : Sort → List Bound → ℕ → Terms → Terms → List Case → Type 0
SumStands s ctx d ts us cs = (k : ℕ → Lin → Option Normal) (rs : List (Option Normal)) → run cs (λ e x. glin_sum capped_maker us s ctx e x k) rs ≡ glin_sum capped_maker ts s ctx d (as_lin zero_value) k ∷ rs

abbrev pub ProductStands : Sort → List Bound → ℕ → Terms → Terms → List Case → Type 0
ProductStands s ctx d ts us cs = (k : ℕ → Lin → Option Normal) (rs : List (Option Normal)) → run cs (λ e x. glin_product capped_maker us s ctx e x k) rs ≡ glin_product capped_maker ts s ctx d (as_lin one_value) k ∷ rs

abbrev pub Stepping : Sort → List Bound → Term → (Lin → Lin → Lin) → (ℕ → Lin → Option Normal) → ℕ → Lin → Option Normal
Stepping s ctx t f k e x = glin capped_maker t s ctx e (λ m y. capped_maker.formed (f x y ∷ []) (k m (f x y)))

pub sum_more : (s : Sort) (ctx : List Bound) (d : ℕ) (ts us : Terms) (t : Term) (cs new : List Case) → SumStands s ctx d ts (term_and t us) cs → AreTurned (Stepping s ctx t lin_plus) cs (Ok new) → SumStands s ctx d ts us new
sum_more s ctx d ts us t cs new h a k rs = a (λ e x. glin_sum capped_maker us s ctx e x k) rs ∙ h k rs

pub product_more : (s : Sort) (ctx : List Bound) (d : ℕ) (ts us : Terms) (t : Term) (cs new : List Case) → ProductStands s ctx d ts (term_and t us) cs → AreTurned (Stepping s ctx t lin_times) cs (Ok new) → ProductStands s ctx d ts us new
product_more s ctx d ts us t cs new h a k rs = a (λ e x. glin_product capped_maker us s ctx e x k) rs ∙ h k rs

pub sum_stops : (s : Sort) (ctx : List Bound) (d : ℕ) (ts us : Terms) (t : Term) (cs : List Case) (z : FormFault) → SumStands s ctx d ts (term_and t us) cs → AreTurned (Stepping s ctx t lin_plus) cs (Err z) → AreCases (λ k. glin_sum capped_maker ts s ctx d (as_lin zero_value) k) (Err z)
sum_stops s ctx d ts us t cs faults.Number h a = λ k. none_one (glin_sum capped_maker ts s ctx d (as_lin zero_value) k) (subst HasNone (h k []) (a (λ e x. glin_sum capped_maker us s ctx e x k)))
sum_stops s ctx d ts us t cs faults.Memory h a = a
sum_stops s ctx d ts us t cs faults.Size h a = a
sum_stops s ctx d ts us t cs faults.Variables h a = a

pub product_stops : (s : Sort) (ctx : List Bound) (d : ℕ) (ts us : Terms) (t : Term) (cs : List Case) (z : FormFault) → ProductStands s ctx d ts (term_and t us) cs → AreTurned (Stepping s ctx t lin_times) cs (Err z) → AreCases (λ k. glin_product capped_maker ts s ctx d (as_lin one_value) k) (Err z)
product_stops s ctx d ts us t cs faults.Number h a = λ k. none_one (glin_product capped_maker ts s ctx d (as_lin one_value) k) (subst HasNone (h k []) (a (λ e x. glin_product capped_maker us s ctx e x k)))
product_stops s ctx d ts us t cs faults.Memory h a = a
product_stops s ctx d ts us t cs faults.Size h a = a
product_stops s ctx d ts us t cs faults.Variables h a = a

-- ---- conjunctions and disjunctions

abbrev pub joined_parts : Normals → Normals → Normals
joined_parts no_part ms = ms
joined_parts (part n ns) ms = part n (joined_parts ns ms)

abbrev pub PartsStand : Sort → Bool → List Bound → ℕ → Terms → Terms → List Built → Type 0
PartsStand s q ctx d ts us ns = over (joined_parts (shapes_of ns)) (gnorms capped_maker us s q ctx d) ≡ gnorms capped_maker ts s q ctx d

joined_push : (ns : Normals) (n : Normal) (ms : Normals) → joined_parts (push_part ns n) ms ≡ joined_parts ns (part n ms)
joined_push no_part n ms = refl
joined_push (part m ns) n ms = ap (part m) (joined_push ns n ms)

over_push : (ns : Normals) (n : Normal) (o : Option Normals) → over (joined_parts (push_part ns n)) o ≡ over (joined_parts ns) (over2 part (Some n) o)
over_push ns n None = refl
over_push ns n (Some ms) = ap Some (joined_push ns n ms)

pub parts_more : (s : Sort) (q : Bool) (ctx : List Bound) (d : ℕ) (ts us : Terms) (t : Term) (ns new : List Built) (n : Built) → PartsStand s q ctx d ts (term_and t us) ns → new ≡ ns ++ n ∷ [] → gnorm capped_maker t s q ctx d ≡ Some (shape_of n) → PartsStand s q ctx d ts us new
parts_more s q ctx d ts us t ns new n h e f =
    ap (λ (ms : Normals). over (joined_parts ms) (gnorms capped_maker us s q ctx d)) (ap shapes_of e ∙ shapes_push ns n)
    ∙ over_push (shapes_of ns) (shape_of n) (gnorms capped_maker us s q ctx d)
    ∙ ap (λ (o : Option Normal). over (joined_parts (shapes_of ns)) (over2 part o (gnorms capped_maker us s q ctx d))) (sym f)
    ∙ h

pub parts_stop : (s : Sort) (q : Bool) (ctx : List Bound) (d : ℕ) (all : Bool) (ts us : Terms) (t : Term) (ns : List Built) (z : FormFault) → PartsStand s q ctx d ts (term_and t us) ns → IsBuilt (gnorm capped_maker t s q ctx d) (Err z) → IsBuilt (capped_maker.joined_by all (gnorms capped_maker ts s q ctx d)) (Err z)
parts_stop s q ctx d all ts us t ns faults.Number h f =
    ap (over (joined_by all)) (sym h ∙ ap (λ (o : Option Normal). over (joined_parts (shapes_of ns)) (over2 part o (gnorms capped_maker us s q ctx d))) f)
parts_stop s q ctx d all ts us t ns faults.Memory h f = f
parts_stop s q ctx d all ts us t ns faults.Size h f = f
parts_stop s q ctx d all ts us t ns faults.Variables h f = f

joined_none : (ns : Normals) → joined_parts ns no_part ≡ ns
joined_none no_part = refl
joined_none (part n ns) = ap (part n) (joined_none ns)

pub parts_end : (s : Sort) (q : Bool) (ctx : List Bound) (d : ℕ) (all : Bool) (ts : Terms) (ns : List Built) (n : Built) → PartsStand s q ctx d ts no_term ns → shape_of n ≡ joined_by all (shapes_of ns) → IsBuilt (capped_maker.joined_by all (gnorms capped_maker ts s q ctx d)) (Ok n)
parts_end s q ctx d all ts ns n h e =
    ap (over (joined_by all)) (sym h ∙ ap Some (joined_none (shapes_of ns))) ∙ ap Some (sym e)

-- ---- terms that are not constant

fun_same : (f h : ℕ → Lin → Option Normal) → ((e : ℕ) (x : Lin) → f e x ≡ h e x) → f ≡ h
fun_same f h p = λ i e x. p e x i

keep_and : (a b : Bool) (o : Option Normal) → keep_if a (keep_if b o) ≡ keep_if (a && b) o
keep_and true b o = refl
keep_and false b o = refl

kept_split : (xs ys : List Lin) (o : Option Normal) → capped_maker.formed xs (capped_maker.formed ys o) ≡ capped_maker.formed (xs ++ ys) o
kept_split xs ys o = keep_and (within (lins_numbers xs)) (within (lins_numbers ys)) o ∙ ap (λ (b : Bool). keep_if b o) (sym (within_both xs ys))

-- the one case of a term without a choice
pub direct_cases : (T : Term) (s : Sort) (ctx : List Bound) (d : ℕ) (r : Result (List Case) FormFault) → is_direct T ≡ true → AreCases (λ k. capped_maker.formed (made T ctx) (k d (direct T ctx))) r → AreCases (λ k. glin capped_maker T s ctx d k) r
direct_cases T s ctx d r h a = cases_same (λ k. capped_maker.formed (made T ctx) (k d (direct T ctx))) (λ k. glin capped_maker T s ctx d k) r (λ k. sym (capped_direct T s ctx d k h)) a

not_constant : (T U : Term) → T ≡ U → is_direct T ≡ false → is_constant U ≡ false
not_constant T U e h = ap is_constant (sym e) ∙ not_direct_not_constant T h

pub negative_cases : (T A : Term) (s : Sort) (ctx : List Bound) (d : ℕ) (r : Result (List Case) FormFault) → T ≡ negative A → is_direct T ≡ false → AreCases (λ k. glin capped_maker A s ctx d (λ e x. capped_maker.formed (lin_neg x ∷ []) (k e (lin_neg x)))) r → AreCases (λ k. glin capped_maker T s ctx d k) r
negative_cases T A s ctx d r e h a =
    subst (λ (u : Term). AreCases (λ k. glin capped_maker u s ctx d k) r) (sym e)
    (choose_cases (is_constant A) (as_lin (low (negative A))) d (λ k e y. capped_maker.formed (steps (negative A)) (k e y)) _ r (not_constant T (negative A) e h) a)

pub absolute_cases : (T A : Term) (s : Sort) (ctx : List Bound) (d : ℕ) (r : Result (List Case) FormFault) → T ≡ absolute A → is_direct T ≡ false → AreCases (λ k. glin capped_maker A s ctx d (λ e x. capped_maker.abs_form s x (k e x) (capped_maker.formed (lin_neg x ∷ []) (k e (lin_neg x))))) r → AreCases (λ k. glin capped_maker T s ctx d k) r
absolute_cases T A s ctx d r e h a =
    subst (λ (u : Term). AreCases (λ k. glin capped_maker u s ctx d k) r) (sym e)
    (choose_cases (is_constant A) (as_lin (low (absolute A))) d (λ k e y. capped_maker.formed (steps (absolute A)) (k e y)) _ r (not_constant T (absolute A) e h) a)

pub minus_cases : (T A B : Term) (s : Sort) (ctx : List Bound) (d : ℕ) (r : Result (List Case) FormFault) → T ≡ minus A B → is_direct T ≡ false → AreCases (λ k. glin capped_maker A s ctx d (λ e x. glin capped_maker B s ctx e (λ f y. capped_maker.formed (lin_minus x y ∷ []) (k f (lin_minus x y))))) r → AreCases (λ k. glin capped_maker T s ctx d k) r
minus_cases T A B s ctx d r e h a =
    subst (λ (u : Term). AreCases (λ k. glin capped_maker u s ctx d k) r) (sym e)
    (choose_cases (is_constant A && is_constant B) (as_lin (low (minus A B))) d (λ k e y. capped_maker.formed (steps (minus A B)) (k e y)) _ r (not_constant T (minus A B) e h) a)

pub quotient_cases : (T A B : Term) (s : Sort) (ctx : List Bound) (d : ℕ) (r : Result (List Case) FormFault) → T ≡ quotient_of A B → is_direct T ≡ false → AreCases (λ k. glin capped_maker A s ctx d (λ e x. capped_maker.formed (steps B) (divided divisions.Over (as_lin (low B)) s k e x))) r → AreCases (λ k. glin capped_maker T s ctx d k) r
quotient_cases T A B s ctx d r e h a =
    subst (λ (u : Term). AreCases (λ k. glin capped_maker u s ctx d k) r) (sym e)
    (choose_cases (is_constant A && is_constant B) (as_lin (low (quotient_of A B))) d (λ k e y. capped_maker.formed (steps (quotient_of A B)) (k e y)) (λ k. glin capped_maker A s ctx d (λ e x. capped_maker.formed (steps B ++ lin_over x (low B) ∷ []) (k e (lin_over x (low B))))) r (not_constant T (quotient_of A B) e h)
    (cases_same (λ k. glin capped_maker A s ctx d (λ e x. capped_maker.formed (steps B) (divided divisions.Over (as_lin (low B)) s k e x))) _ r
    (λ k. ap (glin capped_maker A s ctx d) (fun_same _ _ (λ e x. kept_split (steps B) (lin_over x (low B) ∷ []) (k e (lin_over x (low B)))))) a))

pub div_cases : (T A B : Term) (s : Sort) (ctx : List Bound) (d : ℕ) (r : Result (List Case) FormFault) → T ≡ div_of A B → is_direct T ≡ false → AreCases (λ k. glin capped_maker A s ctx d (λ e x. capped_maker.formed (steps B) (divided divisions.Whole (as_lin (low B)) s k e x))) r → AreCases (λ k. glin capped_maker T s ctx d k) r
div_cases T A B s ctx d r e h a =
    subst (λ (u : Term). AreCases (λ k. glin capped_maker u s ctx d k) r) (sym e)
    (choose_cases (is_constant A && is_constant B) (as_lin (low (div_of A B))) d (λ k e y. capped_maker.formed (steps (div_of A B)) (k e y)) (λ k. glin capped_maker A s ctx d (λ e x. capped_maker.formed (steps B ++ div_forms (low B).num x e) (capped_maker.div_form s (low B).num x e (k (suc e) (lin_variable e))))) r (not_constant T (div_of A B) e h)
    (cases_same (λ k. glin capped_maker A s ctx d (λ e x. capped_maker.formed (steps B) (divided divisions.Whole (as_lin (low B)) s k e x))) _ r
    (λ k. ap (glin capped_maker A s ctx d) (fun_same _ _ (λ e x. kept_split (steps B) (div_forms (low B).num x e) (capped_maker.div_form s (low B).num x e (k (suc e) (lin_variable e)))))) a))

pub mod_cases : (T A B : Term) (s : Sort) (ctx : List Bound) (d : ℕ) (r : Result (List Case) FormFault) → T ≡ mod_of A B → is_direct T ≡ false → AreCases (λ k. glin capped_maker A s ctx d (λ e x. capped_maker.formed (steps B) (divided divisions.Rest (as_lin (low B)) s k e x))) r → AreCases (λ k. glin capped_maker T s ctx d k) r
mod_cases T A B s ctx d r e h a =
    subst (λ (u : Term). AreCases (λ k. glin capped_maker u s ctx d k) r) (sym e)
    (choose_cases (is_constant A && is_constant B) (as_lin (low (mod_of A B))) d (λ k e y. capped_maker.formed (steps (mod_of A B)) (k e y)) (λ k. glin capped_maker A s ctx d (λ e x. capped_maker.formed (steps B ++ div_forms (low B).num x e) (capped_maker.div_form s (low B).num x e (k (suc e) (lin_minus x (multiple (low B).num e)))))) r (not_constant T (mod_of A B) e h)
    (cases_same (λ k. glin capped_maker A s ctx d (λ e x. capped_maker.formed (steps B) (divided divisions.Rest (as_lin (low B)) s k e x))) _ r
    (λ k. ap (glin capped_maker A s ctx d) (fun_same _ _ (λ e x. kept_split (steps B) (div_forms (low B).num x e) (capped_maker.div_form s (low B).num x e (k (suc e) (lin_minus x (multiple (low B).num e))))))) a))

pub plus_cases : (T : Term) (ts : Terms) (s : Sort) (ctx : List Bound) (d : ℕ) (r : Result (List Case) FormFault) → T ≡ plus_of ts → is_direct T ≡ false → AreCases (λ k. glin_sum capped_maker ts s ctx d (as_lin zero_value) k) r → AreCases (λ k. glin capped_maker T s ctx d k) r
plus_cases T ts s ctx d r e h a =
    subst (λ (u : Term). AreCases (λ k. glin capped_maker u s ctx d k) r) (sym e)
    (choose_cases (are_constant ts) (as_lin (low_sum ts zero_value)) d (λ k e y. capped_maker.formed (steps (plus_of ts)) (k e y)) _ r (not_constant T (plus_of ts) e h) a)

pub times_cases : (T : Term) (ts : Terms) (s : Sort) (ctx : List Bound) (d : ℕ) (r : Result (List Case) FormFault) → T ≡ times_of ts → is_direct T ≡ false → AreCases (λ k. glin_product capped_maker ts s ctx d (as_lin one_value) k) r → AreCases (λ k. glin capped_maker T s ctx d k) r
times_cases T ts s ctx d r e h a =
    subst (λ (u : Term). AreCases (λ k. glin capped_maker u s ctx d k) r) (sym e)
    (choose_cases (are_constant ts) (as_lin (low_product ts one_value)) d (λ k e y. capped_maker.formed (steps (times_of ts)) (k e y)) _ r (not_constant T (times_of ts) e h) a)

pub ite_cases : (T C A B : Term) (s : Sort) (ctx : List Bound) (d : ℕ) (r : Result (List Case) FormFault) → T ≡ ite C A B → AreCases (λ k. glin capped_maker A s ctx d (λ e x. glin capped_maker (other_part T) s ctx e (λ f y. paired_form T s ctx x k f y))) r → AreCases (λ k. glin capped_maker T s ctx d k) r
ite_cases T C A B s ctx d r e a =
    subst (λ (u : Term). AreCases (λ k. glin capped_maker u s ctx d k) r) (sym e)
    (subst (λ (u : Term). AreCases (λ k. glin capped_maker A s ctx d (λ m x. glin capped_maker (other_part u) s ctx m (λ f y. paired_form u s ctx x k f y))) r) e a)

-- ---- equality, of formulas or of numbers

pub equal_number : (T A B : Term) (s : Sort) (q : Bool) (ctx : List Bound) (d : ℕ) (r : Result Built FormFault) → T ≡ equal A B → is_formula A (map bound_sort ctx) ≡ false → IsBuilt (glin capped_maker A s ctx d (λ e x. glin capped_maker B s ctx e (λ f y. capped_maker.formed (lin_minus x y ∷ []) (capped_maker.same_number q s (lin_minus x y))))) r → IsBuilt (gnorm capped_maker T s q ctx d) r
equal_number T A B s q ctx d r e h a =
    subst (λ (u : Term). IsBuilt (gnorm capped_maker u s q ctx d) r) (sym e)
    (subst (λ (b : Bool). IsBuilt (gchoose b (capped_maker.same_form q (gnorm capped_maker A s true ctx d) (gnorm capped_maker A s false ctx d) (gnorm capped_maker B s true ctx d) (gnorm capped_maker B s false ctx d)) (glin capped_maker A s ctx d (λ e x. glin capped_maker B s ctx e (λ f y. capped_maker.formed (lin_minus x y ∷ []) (capped_maker.same_number q s (lin_minus x y)))))) r) (sym h) a)

pub equal_truth : (T A B : Term) (s : Sort) (q : Bool) (ctx : List Bound) (d : ℕ) (r : Result Built FormFault) → T ≡ equal A B → is_formula A (map bound_sort ctx) ≡ true → IsBuilt (capped_maker.same_form q (gnorm capped_maker A s true ctx d) (gnorm capped_maker A s false ctx d) (gnorm capped_maker B s true ctx d) (gnorm capped_maker B s false ctx d)) r → IsBuilt (gnorm capped_maker T s q ctx d) r
equal_truth T A B s q ctx d r e h a =
    subst (λ (u : Term). IsBuilt (gnorm capped_maker u s q ctx d) r) (sym e)
    (subst (λ (b : Bool). IsBuilt (gchoose b (capped_maker.same_form q (gnorm capped_maker A s true ctx d) (gnorm capped_maker A s false ctx d) (gnorm capped_maker B s true ctx d) (gnorm capped_maker B s false ctx d)) (glin capped_maker A s ctx d (λ e x. glin capped_maker B s ctx e (λ f y. capped_maker.formed (lin_minus x y ∷ []) (capped_maker.same_number q s (lin_minus x y)))))) r) (sym h) a)
