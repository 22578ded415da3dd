-- Frames that fit, below more variables and behind binders.
use Rattle.std.proofs.Common.{◌≡◌, ℕ, zero, suc, ◌<◌, List, [], ◌∷◌, ◌++◌, length, take, get_or, refl, sym, ap, subst, ◌∙◌, arith, append_assoc, length-append}
use Rattle.std.proofs.Math.Seq.{get_or-append_seam}
use Rattle.std.proofs.lemmas.List.{get_or_append_left}
use Rattle.lin_term.specs.declared.row.Sort.{Sort}
use Rattle.lin_truth.specs.declared.term.VarSort.{VarSort}
use Rattle.lin_truth.specs.declared.term.VarSort.TheVariants as sorts
use Rattle.lin_truth.specs.Value.{Yes}
use Rattle.lin_truth.specs.Constant.{is_constant}
use Rattle.term_table.specs.Placed.{Placed, Frame, Typed, nothing, top, inner, places}
use Rattle.term_table.specs.Sound.{IsFormed, StaysFormed, FitParameters, FitBindings, Sorts, Fits, SameConstants, Sound}

append_end : (vs : List VarSort) → vs ++ [] ≡ vs
append_end [] = refl
append_end (v ∷ vs) = ap (λ r. v ∷ r) (append_end vs)

-- ---- below more variables

stays_more : (s : Sort) (u : VarSort) (t : Placed) (vs more : List VarSort) → StaysFormed s u t vs → StaysFormed s u t (vs ++ more)
stays_more s u t vs more stays rest = subst (λ ws. IsFormed s u (t (length ws)) ws) (sym (append_assoc vs more rest)) (stays (more ++ rest))

parameters_more : (s : Sort) (vs more : List VarSort) (gs : List Placed) (us : List VarSort) → FitParameters s vs gs us → FitParameters s (vs ++ more) gs us
parameters_more s vs more gs [] fit = tt
parameters_more s vs more [] (u ∷ us) fit = absurd fit
parameters_more s vs more (g ∷ gs) (u ∷ us) fit = (stays_more s u g vs more fit.0, parameters_more s vs more gs us fit.1)

bindings_more : (vs more : List VarSort) (is : List ℕ) (us : List VarSort) → FitBindings vs is us → FitBindings (vs ++ more) is us
bindings_more vs more is [] fit = tt
bindings_more vs more [] (u ∷ us) fit = absurd fit
bindings_more vs more (i ∷ is) (u ∷ us) fit =
    ((omega (arith, fit.0.0, length-append vs more), λ d. get_or_append_left vs more d i fit.0.0 ∙ fit.0.1 d), bindings_more vs more is us fit.1)

pub fits_more : (s : Sort) (scope : Sorts) (frame : Frame) (vs more : List VarSort) → Fits s scope frame vs → Fits s scope frame (vs ++ more)
fits_more s scope frame vs more fit = record {
  begins = (fit.begins.0 ++ more, ap (λ ws. ws ++ more) fit.begins.1 ∙ append_assoc scope.constants fit.begins.0 more);
  given = parameters_more s vs more frame.given scope.parameters fit.given;
  bound = bindings_more vs more frame.bound scope.bindings fit.bound;
}

-- ---- behind a binder

fit_places : (us vs : List VarSort) → FitBindings (vs ++ us) (places (length us) (length vs)) us
fit_places [] vs = tt
fit_places (u ∷ us) vs =
    let one : length (vs ++ u ∷ []) ≡ suc (length vs) = length-append vs (u ∷ []) ∙ omega arith in
    let rest : FitBindings ((vs ++ u ∷ []) ++ us) (places (length us) (suc (length vs))) us =
    subst (λ n. FitBindings ((vs ++ u ∷ []) ++ us) (places (length us) n) us) one (fit_places us (vs ++ u ∷ [])) in (
      (omega (arith, length-append vs (u ∷ us)), λ d. get_or-append_seam vs u us d),
      subst (λ ws. FitBindings ws (places (length us) (suc (length vs))) us) (append_assoc vs (u ∷ []) us) rest,
    )

fit_behind : (us vs : List VarSort) (is : List ℕ) (bs : List VarSort) → FitBindings vs is bs
    → FitBindings (vs ++ us) (take (length bs) is ++ places (length us) (length vs)) (bs ++ us)
fit_behind us vs is [] fit = fit_places us vs
fit_behind us vs [] (b ∷ bs) fit = absurd fit
fit_behind us vs (i ∷ is) (b ∷ bs) fit =
    ((omega (arith, fit.0.0, length-append vs us), λ d. get_or_append_left vs us d i fit.0.0 ∙ fit.0.1 d), fit_behind us vs is bs fit.1)

-- a scope with more bindings inside
abbrev pub with_bindings : Sorts → List VarSort → Sorts
with_bindings scope us = record { constants = scope.constants; parameters = scope.parameters; bindings = scope.bindings ++ us }

pub fits_behind : (s : Sort) (scope : Sorts) (frame : Frame) (vs us : List VarSort) → Fits s scope frame vs
    → Fits s (with_bindings scope us) (inner (length scope.bindings) (length us) frame (length vs)) (vs ++ us)
fits_behind s scope frame vs us fit =
    let more = fits_more s scope frame vs us fit in
    record { begins = more.begins; given = more.given; bound = fit_behind us vs frame.bound scope.bindings fit.bound }

-- ---- wider scopes

fit_fewer : (vs : List VarSort) (is : List ℕ) (bs more : List VarSort) → FitBindings vs is (bs ++ more) → FitBindings vs is bs
fit_fewer vs is [] more fit = tt
fit_fewer vs [] (b ∷ bs) more fit = absurd fit
fit_fewer vs (i ∷ is) (b ∷ bs) more fit = (fit.0, fit_fewer vs is bs more fit.1)

-- a term of a scope is one of a scope with more bindings inside
pub sound-behind : (s : Sort) (scope : Sorts) (us : List VarSort) (t : Typed) → Sound s scope t → Sound s (with_bindings scope us) t
sound-behind s scope us t sound = record {
  formed = λ frame vs fit. sound.formed frame vs (record { begins = fit.begins; given = fit.given; bound = fit_fewer vs frame.bound scope.bindings us fit.bound });
  fixed = sound.fixed;
}

-- a scope with more constants
abbrev pub with_constants : Sorts → List VarSort → Sorts
with_constants scope us = record { constants = scope.constants ++ us; parameters = scope.parameters; bindings = scope.bindings }

pub sound-constants : (s : Sort) (scope : Sorts) (us : List VarSort) (t : Typed) → Sound s scope t → Sound s (with_constants scope us) t
sound-constants s scope us t sound = record {
  formed = λ frame vs fit. sound.formed frame vs (record { begins = (us ++ fit.begins.0, fit.begins.1 ∙ append_assoc scope.constants us fit.begins.0); given = fit.given; bound = fit.bound });
  fixed = sound.fixed;
}

-- ---- what a place stands for

pub binding-at : (vs : List VarSort) (is : List ℕ) (bs : List VarSort) (j : ℕ) (u : VarSort) → FitBindings vs is bs → j < length bs → ((d : VarSort) → get_or bs j d ≡ u)
    → (get_or is j 0 < length vs) × (get_or vs (get_or is j 0) sorts.Number ≡ u)
binding-at vs is [] j u fit lt e = absurd (omega arith)
binding-at vs [] (b ∷ bs) j u fit lt e = absurd fit
binding-at vs (i ∷ is) (b ∷ bs) zero u fit lt e = (fit.0.0, fit.0.1 sorts.Number ∙ e sorts.Number)
binding-at vs (i ∷ is) (b ∷ bs) (suc j) u fit lt e = binding-at vs is bs j u fit.1 (omega arith) e

pub parameter-at : (s : Sort) (vs : List VarSort) (gs : List Placed) (us : List VarSort) (p : ℕ) (u : VarSort) → FitParameters s vs gs us → p < length us → ((d : VarSort) → get_or us p d ≡ u)
    → StaysFormed s u (get_or gs p nothing) vs
parameter-at s vs gs [] p u fit lt e = absurd (omega arith)
parameter-at s vs [] (v ∷ us) p u fit lt e = absurd fit
parameter-at s vs (g ∷ gs) (v ∷ us) zero u fit lt e = subst (λ w. StaysFormed s w g vs) (e v) fit.0
parameter-at s vs (g ∷ gs) (v ∷ us) (suc p) u fit lt e = parameter-at s vs gs us p u fit.1 (omega arith) e

pub stays_here : (s : Sort) (u : VarSort) (t : Placed) (vs : List VarSort) → StaysFormed s u t vs → IsFormed s u (t (length vs)) vs
stays_here s u t vs stays = subst (λ ws. IsFormed s u (t (length ws)) ws) (append_end vs) (stays [])

-- ---- constant terms

-- nothing given: no parameter stands for a constant term
pub nothing_constant : (gs : List Placed) → SameConstants [] gs
nothing_constant gs p n m c = absurd c

-- a constant term is the same everywhere
pub constant_anywhere : (s : Sort) (scope : Sorts) (t : Typed) (f : Frame) (n : ℕ) → Sound s scope t → Yes (is_constant (t.tree top 0)) → t.tree top 0 ≡ t.tree f n
constant_anywhere s scope t f n sound c = sound.fixed top f 0 n (nothing_constant f.given) c
