-- Sound terms with several parts, behind binders, and of definitions; sound goals.
use Rattle.std.proofs.Common.{◌≡◌, ℕ, zero, suc, ◌+◌, ◌≤◌, Bool, true, false, List, [], ◌∷◌, ◌++◌, length, map, refl, sym, ap, subst, arith, length-append}
use Rattle.lin_term.specs.declared.row.Sort.{Sort}
use Rattle.lin_truth.specs.declared.term.VarSort.{VarSort}
use Rattle.lin_truth.specs.declared.term.VarSort.TheVariants as sorts
use Rattle.lin_truth.specs.Value.{Yes}
use Rattle.lin_truth.specs.Term.{Term, Terms}
use Rattle.lin_truth.specs.View.{terms_of}
use Rattle.lin_truth.specs.Constant.{is_constant, are_constant}
use Rattle.lin_truth.specs.Size.{node_count}
use Rattle.lin_truth.specs.Truth.{Either}
use Rattle.lin_truth.specs.Formed.{IsFormula, OneFree, append_all}
use Rattle.lin_truth.specs.Goal.{IsBody}
use Rattle.term_table.specs.declared.node.Variadic.{Variadic}
use Rattle.term_table.specs.declared.node.Variadic.TheVariants as variadic
use Rattle.term_table.specs.declared.node.Quantifier.{Quantifier}
use Rattle.term_table.specs.declared.node.Quantifier.TheVariants as quantifier
use Rattle.term_table.specs.Placed.{Placed, Frame, Typed, top, inner, below, used}
use Rattle.term_table.specs.Built.{several_of, distinct_of, binder_of}
use Rattle.term_table.specs.Worth.{most_nodes}
use Rattle.term_table.specs.Sound.{IsFormed, FitParameters, Sorts, Fits, SameConstants, Sound, AllSound, variadic_sort, AllOfSort, AllConstant, OneIsFree, VariadicFits, ArgumentsFit, trees_at}
use Rattle.term_table.proofs.Formed.{true_yes, and_yes, AllFormed, FreeFits, several_formed, AllFixed, several_fixed, constants_free, distinct_formed, append_all-is}
use Rattle.term_table.proofs.Scoped.{fits_more, with_bindings, fits_behind, constant_anywhere}
use Rattle.term_table.proofs.SoundLemmas.{formed_as}

-- ---- several parts

all_formed : (s : Sort) (scope : Sorts) (u : VarSort) (ts : List Typed) (frame : Frame) (vs : List VarSort) → AllOfSort u ts → AllSound s scope ts → Fits s scope frame vs
    → AllFormed s u (trees_at ts frame (length vs)) vs
all_formed s scope u [] frame vs of all fit = tt
all_formed s scope u (t ∷ ts) frame vs of all fit = (formed_as s scope t u frame vs of.0 all.0 fit, all_formed s scope u ts frame vs of.1 all.1 fit)

all_fixed : (s : Sort) (scope : Sorts) (ts : List Typed) (f g : Frame) (n m : ℕ) → AllSound s scope ts → SameConstants f.given g.given → AllFixed (trees_at ts f n) (trees_at ts g m)
all_fixed s scope [] f g n m all same = tt
all_fixed s scope (t ∷ ts) f g n m all same = (all.0.fixed f g n m same, all_fixed s scope ts f g n m all.1 same)

constant_there : (s : Sort) (scope : Sorts) (t : Typed) (f : Frame) (n : ℕ) → Sound s scope t → Yes (is_constant (t.tree top 0)) → Yes (is_constant (t.tree f n))
constant_there s scope t f n sound c = subst (λ (x : Term). Yes (is_constant x)) (constant_anywhere s scope t f n sound c) c

all_constant : (s : Sort) (scope : Sorts) (ts : List Typed) (f : Frame) (n : ℕ) → AllSound s scope ts → AllConstant ts → Yes (are_constant (terms_of (trees_at ts f n)))
all_constant s scope [] f n all c = tt
all_constant s scope (t ∷ ts) f n all c =
    and_yes (is_constant (t.tree f n)) (are_constant (terms_of (trees_at ts f n))) (constant_there s scope t f n all.0 c.0) (all_constant s scope ts f n all.1 c.1)

-- the first is free here, or not
free_here : (b : Bool) (rest : Terms) → (Yes b → OneFree rest) → Yes (are_constant rest) → Either b (OneFree rest) (Yes (are_constant rest))
free_here true rest free c = free tt
free_here false rest free c = c

constant_here : (b : Bool) (rest : Terms) → Yes b → OneFree rest → Either b (OneFree rest) (Yes (are_constant rest))
constant_here true rest y free = free
constant_here false rest y free = absurd y

one_free_first : (s : Sort) (scope : Sorts) (t : Typed) (ts : List Typed) (f : Frame) (n : ℕ) → AllSound s scope (t ∷ ts) → (OneIsFree ts → OneFree (terms_of (trees_at ts f n)))
    → (b : Bool) → is_constant (t.tree top 0) ≡ b → Either b (OneIsFree ts) (AllConstant ts) → OneFree (terms_of (trees_at (t ∷ ts) f n))
one_free_first s scope t ts f n all rest_free true e one =
    constant_here (is_constant (t.tree f n)) (terms_of (trees_at ts f n)) (constant_there s scope t f n all.0 (true_yes (is_constant (t.tree top 0)) e)) (rest_free one)
one_free_first s scope t ts f n all rest_free false e one =
    let rest = all_constant s scope ts f n all.1 one in
    free_here (is_constant (t.tree f n)) (terms_of (trees_at ts f n)) (λ y. constants_free (terms_of (trees_at ts f n)) rest) rest

one_free : (s : Sort) (scope : Sorts) (ts : List Typed) (f : Frame) (n : ℕ) → AllSound s scope ts → OneIsFree ts → OneFree (terms_of (trees_at ts f n))
one_free s scope [] f n all one = tt
one_free s scope (t ∷ ts) f n all one = one_free_first s scope t ts f n all (one_free s scope ts f n all.1) (is_constant (t.tree top 0)) refl one

free_fits : (s : Sort) (scope : Sorts) (op : Variadic) (ts : List Typed) (f : Frame) (n : ℕ) → VariadicFits op ts → AllSound s scope ts → FreeFits op (trees_at ts f n)
free_fits s scope variadic.Plus ts f n fits all = tt
free_fits s scope variadic.Times ts f n fits all = one_free s scope ts f n all fits.1
free_fits s scope variadic.And ts f n fits all = tt
free_fits s scope variadic.Or ts f n fits all = tt

of_sort : (op : Variadic) (ts : List Typed) → VariadicFits op ts → AllOfSort (variadic_sort op) ts
of_sort variadic.Plus ts fits = fits
of_sort variadic.Times ts fits = fits.0
of_sort variadic.And ts fits = fits
of_sort variadic.Or ts fits = fits

pub sound-several : (s : Sort) (scope : Sorts) (op : Variadic) (ts : List Typed) → VariadicFits op ts → AllSound s scope ts
    → Sound s scope (record { sort = variadic_sort op; tree = λ frame n. several_of op (trees_at ts frame n) })
sound-several s scope op ts fits all = record {
  formed = λ frame vs fit. several_formed s op (trees_at ts frame (length vs)) vs (free_fits s scope op ts frame (length vs) fits all) (all_formed s scope (variadic_sort op) ts frame vs (of_sort op ts fits) all fit);
  fixed = λ f g n m same c. several_fixed op (trees_at ts f n) (trees_at ts g m) c (all_fixed s scope ts f g n m all same);
}

-- parts of any one sort
pub sound-distinct : (s : Sort) (scope : Sorts) (u : VarSort) (ts : List Typed) → AllOfSort u ts → AllSound s scope ts
    → Sound s scope (record { sort = sorts.Bool; tree = λ frame n. distinct_of (trees_at ts frame n) })
sound-distinct s scope u ts of all = record {
  formed = λ frame vs fit. distinct_formed s u (trees_at ts frame (length vs)) vs (all_formed s scope u ts frame vs of all fit);
  fixed = λ f g n m same c. absurd c;
}

-- ---- binders

binder_kept : (q : Quantifier) (s : Sort) (us : List VarSort) (t : Term) (vs : List VarSort) → IsFormed s sorts.Bool t (append_all vs us) → IsFormed s sorts.Bool (binder_of q us t) vs
binder_kept quantifier.Forall s us t vs part le = part (omega arith)
binder_kept quantifier.Exists s us t vs part le = part (omega arith)

pub binder_free : (q : Quantifier) (us : List VarSort) (t : Term) → Yes (is_constant (binder_of q us t)) → ⊥
binder_free quantifier.Forall us t c = c
binder_free quantifier.Exists us t c = c

pub sound-binder : (s : Sort) (scope : Sorts) (q : Quantifier) (us : List VarSort) (t : Typed) → t.sort ≡ sorts.Bool → Sound s (with_bindings scope us) t
    → Sound s scope (record { sort = sorts.Bool; tree = λ frame n. binder_of q us (below (length scope.bindings) (length us) t.tree frame n) })
sound-binder s scope q us t e sound = record {
  formed = λ frame vs fit.
      let inside = inner (length scope.bindings) (length us) frame (length vs) in
      let is : IsFormed s sorts.Bool (t.tree inside (length (vs ++ us))) (vs ++ us) = formed_as s (with_bindings scope us) t sorts.Bool inside (vs ++ us) e sound (fits_behind s scope frame vs us fit) in
      let here : IsFormed s sorts.Bool (t.tree inside (length vs + length us)) (append_all vs us) =
      subst (λ ws. IsFormed s sorts.Bool (t.tree inside (length vs + length us)) ws) (sym (append_all-is vs us)) (subst (λ n. IsFormed s sorts.Bool (t.tree inside n) (vs ++ us)) (length-append vs us) is) in
      binder_kept q s us (t.tree inside (length vs + length us)) vs here;
  fixed = λ f g n m same c. absurd (binder_free q us (below (length scope.bindings) (length us) t.tree f n) c);
}

-- ---- definitions

abbrev given_by : List Typed → Frame → List Placed
given_by args frame = map (λ (a : Frame → Placed). a frame) (map (λ (t : Typed). t.tree) args)

given_fit : (s : Sort) (scope : Sorts) (us : List VarSort) (args : List Typed) (frame : Frame) (vs : List VarSort) → ArgumentsFit us args → AllSound s scope args → Fits s scope frame vs
    → FitParameters s vs (given_by args frame) us
given_fit s scope [] args frame vs fits all fit = tt
given_fit s scope (u ∷ us) [] frame vs fits all fit = absurd fits
given_fit s scope (u ∷ us) (a ∷ args) frame vs fits all fit =
    (λ more. formed_as s scope a u frame (vs ++ more) fits.0 all.0 (fits_more s scope frame vs more fit), given_fit s scope us args frame vs fits.1 all.1 fit)

given_same : (s : Sort) (scope : Sorts) (args : List Typed) (f g : Frame) → AllSound s scope args → SameConstants f.given g.given → SameConstants (given_by args f) (given_by args g)
given_same s scope [] f g all same p n m c = absurd c
given_same s scope (a ∷ args) f g all same zero n m c = all.0.fixed f g n m same c
given_same s scope (a ∷ args) f g all same (suc p) n m c = given_same s scope args f g all.1 same p n m c

-- a definition's body, with the constants of this scope and no bindings around
abbrev pub body_scope : Sorts → List VarSort → Sorts
body_scope scope us = record { constants = scope.constants; parameters = us; bindings = [] }

pub sound-used : (s : Sort) (scope : Sorts) (us : List VarSort) (body : Typed) (args : List Typed) → ArgumentsFit us args → Sound s (body_scope scope us) body → AllSound s scope args
    → Sound s scope (record { sort = body.sort; tree = used body.tree (map (λ (t : Typed). t.tree) args) })
sound-used s scope us body args fits sound all = record {
  formed = λ frame vs fit.
      sound.formed (record { given = given_by args frame; bound = [] }) vs (record { begins = fit.begins; given = given_fit s scope us args frame vs fits all fit; bound = tt });
  fixed = λ f g n m same c.
      sound.fixed (record { given = given_by args f; bound = [] }) (record { given = given_by args g; bound = [] }) n m (given_same s scope args f g all same) c;
}

-- ---- goals

pub sound-goal : (s : Sort) (consts : List VarSort) (t : Typed) → t.sort ≡ sorts.Bool → Sound s (record { constants = consts; parameters = []; bindings = [] }) t
    → node_count (t.tree top (length consts)) ≤ most_nodes → IsBody s consts (t.tree top (length consts))
sound-goal s consts t e sound le =
    let scope : Sorts = record { constants = consts; parameters = []; bindings = [] } in
    let fit : Fits s scope top consts = record { begins = ([], sym (append_end consts)); given = tt; bound = tt } in
    let is = formed_as s scope t sorts.Bool top consts e sound fit le in
    (subst (λ ws. IsFormula (t.tree top (length consts)) s ws) (sym (append_all-is [] consts)) is.0, is.1)
  where
    append_end : (vs : List VarSort) → vs ++ [] ≡ vs
    append_end [] = refl
    append_end (v ∷ vs) = ap (λ r. v ∷ r) (append_end vs)
