-- Names that stand for sound terms, and the scopes in which terms are read.
use Rattle.std.proofs.Common.{◌≡◌, ℕ, ◌+◌, ◌<◌, Bool, true, false, cond, List, [], ◌∷◌, ◌++◌, length, get_or, Some, refl, sym, ap, subst, ◌∙◌, arith, append_assoc, length-append}
use Rattle.std.specs.Str.{bytes_eq}
use Rattle.std.proofs.Math.Seq.{get_or-append_seam}
use Rattle.lin_term.specs.declared.Sort.{Sort}
use Rattle.lin_truth.specs.declared.VarSort.{VarSort}
use Rattle.symbol_table.specs.Names.{looked_up}
use Rattle.term_table.specs.Placed.{Typed}
use Rattle.term_table.specs.Sound.{Sorts, Sound, AllSound}
use Rattle.term_table.proofs.Scoped.{with_bindings as behind, sound-behind}
use Rattle.term_table.proofs.SoundLemmas.{sound-binding, sound-parameter}
use Rattle.term_table.proofs.SoundMore.{body_scope}
use Rattle.smt_term.specs.Scope.{Entry, Names, Scope, bound_names, binding_names, with_bindings, parameter_names, sorts_in_order}
use Rattle.smt_goal.proofs.SoundNumbers.{Good}
use Rattle.smt_goal.proofs.SoundOperators.{AllNarrow}

-- ---- names that stand for sound terms

-- a term, or the body of a definition with parameters of these sorts
abbrev pub EntryGood : Sort → Sorts → List VarSort → Typed → Type 0
EntryGood s scope [] t = Good s scope t
EntryGood s scope (u ∷ us) t = Sound s (body_scope scope (u ∷ us)) t

abbrev pub NamesGood : Sort → Sorts → Names → Type 0
NamesGood s scope [] = Unit {0}
NamesGood s scope (e ∷ es) = EntryGood s scope e.1.params e.1.meaning × NamesGood s scope es

pub record ScopeGood (s : Scope) (scope : Sorts) : Type 0 where
  pub names : NamesGood s.logic scope s.names
  pub around : s.around ≡ length scope.bindings

-- several terms
abbrev pub AllGood : Sort → Sorts → List Typed → Type 0
AllGood s scope [] = Unit {0}
AllGood s scope (t ∷ ts) = Good s scope t × AllGood s scope ts

abbrev pub AllBound : Sort → Sorts → List (List ℕ × Typed) → Type 0
AllBound s scope [] = Unit {0}
AllBound s scope (b ∷ bs) = Good s scope b.1 × AllBound s scope bs

pub all_sound : (s : Sort) (scope : Sorts) (ts : List Typed) → AllGood s scope ts → AllSound s scope ts
all_sound s scope [] all = tt
all_sound s scope (t ∷ ts) all = (all.0.sound, all_sound s scope ts all.1)

pub all_narrow : (s : Sort) (scope : Sorts) (ts : List Typed) → AllGood s scope ts → AllNarrow ts
all_narrow s scope [] all = tt
all_narrow s scope (t ∷ ts) all = (all.0.narrow, all_narrow s scope ts all.1)

pub good-push : (s : Sort) (scope : Sorts) (ts : List Typed) (t : Typed) → AllGood s scope ts → Good s scope t → AllGood s scope (ts ++ t ∷ [])
good-push s scope [] t all good = (good, tt)
good-push s scope (u ∷ ts) t all good = (all.0, good-push s scope ts t all.1 good)

pub looked_up_good : (s : Sort) (scope : Sorts) (names : Names) (name : List ℕ) (e : Entry) → NamesGood s scope names → looked_up names name ≡ Some e → EntryGood s scope e.params e.meaning
looked_up_good s scope [] name e all is = absurd cc
looked_up_good s scope (n ∷ names) name e all is = by (looked_up_good s scope names name e all.1) (bytes_eq n.0 name) is
  where
    by : (looked_up names name ≡ Some e → EntryGood s scope e.params e.meaning) → (b : Bool) → cond b (Some n.1) (looked_up names name) ≡ Some e → EntryGood s scope e.params e.meaning
    by rest true is = subst (λ (x : Entry). EntryGood s scope x.params x.meaning) (let f : n.1 ≡ e = cc in f) all.0
    by rest false is = rest is

-- ---- wider scopes

pub good-behind : (s : Sort) (scope : Sorts) (us : List VarSort) (t : Typed) → Good s scope t → Good s (behind scope us) t
good-behind s scope us t good = record { sound = sound-behind s scope us t good.sound; narrow = good.narrow }

pub entry-behind : (s : Sort) (scope : Sorts) (us params : List VarSort) (t : Typed) → EntryGood s scope params t → EntryGood s (behind scope us) params t
entry-behind s scope us [] t good = good-behind s scope us t good
entry-behind s scope us (p ∷ params) t good = good

pub names-behind : (s : Sort) (scope : Sorts) (us : List VarSort) (names : Names) → NamesGood s scope names → NamesGood s (behind scope us) names
names-behind s scope us [] all = tt
names-behind s scope us (e ∷ names) all = (entry-behind s scope us e.1.params e.1.meaning all.0, names-behind s scope us names all.1)

-- names of `let`
pub names-bound : (s : Sort) (scope : Sorts) (bs : List (List ℕ × Typed)) (names : Names) → AllBound s scope bs → NamesGood s scope names → NamesGood s scope (bound_names bs names)
names-bound s scope [] names all good = good
names-bound s scope (b ∷ bs) names all good = (all.0, names-bound s scope bs names all.1 good)

pub length-order : (vs : List (List ℕ × VarSort)) → length (sorts_in_order vs) ≡ length vs
length-order [] = refl
length-order (v ∷ vs) = length-append (sorts_in_order vs) (v.1 ∷ []) ∙ (let e = length-order vs in omega (arith, e))

-- the sort of a binding behind those of a scope
pub place-of : (bs : List VarSort) (n : ℕ) (vs : List VarSort) (u : VarSort) (more : List VarSort) → length vs ≡ n
    → (length bs + n < length (bs ++ ((vs ++ u ∷ []) ++ more))) × ((d : VarSort) → get_or (bs ++ ((vs ++ u ∷ []) ++ more)) (length bs + n) d ≡ u)
place-of bs n vs u more len =
    let assoc : bs ++ ((vs ++ u ∷ []) ++ more) ≡ (bs ++ vs) ++ (u ∷ more) =
    ap (λ (r : List VarSort). bs ++ r) (append_assoc vs (u ∷ []) more) ∙ sym (append_assoc bs vs (u ∷ more)) in
    let at : length (bs ++ vs) ≡ length bs + n = length-append bs vs ∙ ap (λ (k : ℕ). length bs + k) len in
    let all : length ((bs ++ vs) ++ (u ∷ more)) ≡ length (bs ++ vs) + length (u ∷ more) = length-append (bs ++ vs) (u ∷ more) in (
      subst (λ (r : List VarSort). length bs + n < length r) (sym assoc) (omega (arith, at, all)),
      λ d. ap (λ (r : List VarSort). get_or r (length bs + n) d) assoc ∙ ap (λ (k : ℕ). get_or ((bs ++ vs) ++ (u ∷ more)) k d) (sym at) ∙ get_or-append_seam (bs ++ vs) u more d,
    )

pub names-binding : (s : Sort) (scope : Sorts) (vs : List (List ℕ × VarSort)) (more : List VarSort) (names : Names) → NamesGood s scope names
    → NamesGood s (behind scope (sorts_in_order vs ++ more)) (binding_names (length scope.bindings) vs names)
names-binding s scope [] more names all = names-behind s scope more names all
names-binding s scope (v ∷ vs) more names all =
    let there = behind scope (sorts_in_order (v ∷ vs) ++ more) in
    let at = place-of scope.bindings (length vs) (sorts_in_order vs) v.1 more (length-order vs) in (
      record { sound = sound-binding s there (length scope.bindings + length vs) v.1 at.0 at.1; narrow = refl },
      subst (λ (r : List VarSort). NamesGood s (behind scope r) (binding_names (length scope.bindings) vs names)) (sym (append_assoc (sorts_in_order vs) (v.1 ∷ []) more)) (names-binding s scope vs (v.1 ∷ more) names all),
    )

pub append_end : (vs : List VarSort) → vs ++ [] ≡ vs
append_end [] = refl
append_end (v ∷ vs) = ap (λ r. v ∷ r) (append_end vs)

-- behind a binder
pub scope-binding : (s : Scope) (scope : Sorts) (vs : List (List ℕ × VarSort)) → ScopeGood s scope → ScopeGood (with_bindings s vs) (behind scope (sorts_in_order vs))
scope-binding s scope vs good = record {
  names = subst (λ (n : ℕ). NamesGood s.logic (behind scope (sorts_in_order vs)) (binding_names n vs s.names)) (sym good.around)
      (subst (λ (r : List VarSort). NamesGood s.logic (behind scope r) (binding_names (length scope.bindings) vs s.names)) (append_end (sorts_in_order vs)) (names-binding s.logic scope vs [] s.names good.names));
  around = ap (λ (n : ℕ). n + length vs) good.around ∙ ap (λ (n : ℕ). length scope.bindings + n) (sym (length-order vs)) ∙ sym (length-append scope.bindings (sorts_in_order vs));
}

-- ---- the scope of a definition's body

-- outside of binders and definitions
abbrev pub outer : List VarSort → Sorts
outer cs = record { constants = cs; parameters = []; bindings = [] }

pub good-inside : (s : Sort) (cs us : List VarSort) (t : Typed) → Good s (outer cs) t → Good s (body_scope (outer cs) us) t
good-inside s cs us t good = record {
  sound = record { formed = λ frame vs fit. good.sound.formed frame vs (record { begins = fit.begins; given = tt; bound = tt }); fixed = good.sound.fixed };
  narrow = good.narrow;
}

pub entry-inside : (s : Sort) (cs us params : List VarSort) (t : Typed) → EntryGood s (outer cs) params t → EntryGood s (body_scope (outer cs) us) params t
entry-inside s cs us [] t good = good-inside s cs us t good
entry-inside s cs us (p ∷ params) t good = good

pub names-inside : (s : Sort) (cs us : List VarSort) (names : Names) → NamesGood s (outer cs) names → NamesGood s (body_scope (outer cs) us) names
names-inside s cs us [] all = tt
names-inside s cs us (e ∷ names) all = (entry-inside s cs us e.1.params e.1.meaning all.0, names-inside s cs us names all.1)

pub names-parameter : (s : Sort) (cs : List VarSort) (vs : List (List ℕ × VarSort)) (more : List VarSort) (names : Names) → NamesGood s (outer cs) names
    → NamesGood s (body_scope (outer cs) (sorts_in_order vs ++ more)) (parameter_names vs names)
names-parameter s cs [] more names all = names-inside s cs more names all
names-parameter s cs (v ∷ vs) more names all =
    let there = body_scope (outer cs) (sorts_in_order (v ∷ vs) ++ more) in
    let at = place-of [] (length vs) (sorts_in_order vs) v.1 more (length-order vs) in
    let zero_is : 0 + length vs ≡ length vs = omega arith in
    let params = (sorts_in_order vs ++ v.1 ∷ []) ++ more in (
      record {
        sound = sound-parameter s there (length vs) v.1 (subst (λ (k : ℕ). k < length params) zero_is at.0) (λ d. ap (λ (k : ℕ). get_or params k d) (sym zero_is) ∙ at.1 d);
        narrow = refl;
      },
      subst (λ (r : List VarSort). NamesGood s (body_scope (outer cs) r) (parameter_names vs names)) (sym (append_assoc (sorts_in_order vs) (v.1 ∷ []) more)) (names-parameter s cs vs (v.1 ∷ more) names all),
    )

pub names-parameters : (s : Sort) (cs : List VarSort) (vs : List (List ℕ × VarSort)) (names : Names) → NamesGood s (outer cs) names → NamesGood s (body_scope (outer cs) (sorts_in_order vs)) (parameter_names vs names)
names-parameters s cs vs names all =
    subst (λ (r : List VarSort). NamesGood s (body_scope (outer cs) r) (parameter_names vs names)) (append_end (sorts_in_order vs)) (names-parameter s cs vs [] names all)
