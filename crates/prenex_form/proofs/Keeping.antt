-- What the matrix of a goal's problem keeps.
use Rattle.std.specs.Prelude.{ℕ, zero, suc, ◌≡◌, ℤ, pos, negsuc, ◌*ℤ◌, List, [], ◌∷◌, ◌++◌, length, get_or}
use Rattle.std.proofs.Common.{ap, ◌∙◌, sym, refl}
use Rattle.lin_term.specs.Form.{Form, AreTerms}
use Rattle.lin_term.specs.declared.Sort.{Sort}
use Rattle.lin_term.specs.declared.Sort.TheVariants.{Rat, Int}
use Rattle.lin_term.specs.declared.Lit.{Lit}
use Rattle.lin_term.specs.declared.Lit.TheVariants.{AtLeast, Above, Divides, NotDivides}
use Rattle.lin_term.specs.Linear.{rename, rename_terms, times, times_terms, plus_terms, put_front}
use Rattle.lin_term.specs.Literal.{form_of, prim, neg, IsOf, rename_lit, minus_one}
use Rattle.lin_term.specs.Wide.{first_past, coefficients, form_numbers, lit_numbers}
use Rattle.lin_term.proofs.Negating.{negate_are, plus_none}
use Rattle.dom_core.specs.Problem.{HasNegations, HaveNegations}
use Rattle.dom_core.proofs.Renaming.{renamed_prim, renamed_primitive}
use Rattle.norm_form.specs.Normal.{Normal, one_lit, each_of, some_of, for_all, there_is, Normals, no_part, part, IsNormal, AreNormal}
use Rattle.norm_form.proofs.Own.{EachOwn, AllOwn}
use Rattle.prenex_form.specs.Pass.{under_all, bump, taken, put, put_parts, CanPut, CanPutAll, EachTidy, AllTidy}
use Rattle.prenex_form.proofs.Fairness.{EachNegated, AllNegated}
use Rattle.prenex_form.proofs.Handing.{push_count}
use Rattle.prenex_form.proofs.Renamed.{renamed_are_terms}

-- ---- a renamed literal

renamed_coefficients : (names : List ℕ) (ts : List (ℕ × ℤ)) → coefficients (rename_terms names ts) ≡ coefficients ts
renamed_coefficients names [] = refl
renamed_coefficients names (t ∷ ts) = ap (λ (zs : List ℤ). t.1 ∷ zs) (renamed_coefficients names ts)

renamed_form_numbers : (names : List ℕ) (f : Form) → form_numbers (rename names f) ≡ form_numbers f
renamed_form_numbers names f = ap (λ (zs : List ℤ). zs ++ f.constant ∷ []) (renamed_coefficients names f.terms)

renamed_numbers : (names : List ℕ) (l : Lit) → lit_numbers (rename_lit names l) ≡ lit_numbers l
renamed_numbers names (AtLeast f) = renamed_form_numbers names f
renamed_numbers names (Above f) = renamed_form_numbers names f
renamed_numbers names (Divides d f) = ap (λ (zs : List ℤ). pos d ∷ zs) (renamed_form_numbers names f)
renamed_numbers names (NotDivides d f) = ap (λ (zs : List ℤ). pos d ∷ zs) (renamed_form_numbers names f)

renamed_front : (names : List ℕ) (i : ℕ) (a : ℤ) (ts us : List (ℕ × ℤ)) → us ≡ rename_terms names ts → put_front (get_or names i 0) a us ≡ rename_terms names (put_front i a ts)
renamed_front names i (pos zero) ts us e = e
renamed_front names i (pos (suc n)) ts us e = ap (λ (vs : List (ℕ × ℤ)). (get_or names i 0, pos (suc n)) ∷ vs) e
renamed_front names i (negsuc n) ts us e = ap (λ (vs : List (ℕ × ℤ)). (get_or names i 0, negsuc n) ∷ vs) e

times_renamed : (names : List ℕ) (k : ℤ) (ts : List (ℕ × ℤ)) → times_terms k (rename_terms names ts) ≡ rename_terms names (times_terms k ts)
times_renamed names k [] = refl
times_renamed names k (t ∷ ts) = renamed_front names t.0 (k *ℤ t.1) (times_terms k ts) (times_terms k (rename_terms names ts)) (times_renamed names k ts)

abbrev with : ℤ → List (ℕ × ℤ) → Form
with c ts = record { terms = ts; constant = c }

opposite_renamed : (names : List ℕ) (f : Form) → times (negsuc 0) (rename names f) ≡ rename names (times (negsuc 0) f)
opposite_renamed names f = ap (with (negsuc 0 *ℤ f.constant)) (times_renamed names (negsuc 0) f.terms)

less_renamed : (names : List ℕ) (f : Form) → AreTerms 0 f.terms → AreTerms 0 (rename_terms names f.terms) → minus_one (times (negsuc 0) (rename names f)) ≡ rename names (minus_one (times (negsuc 0) f))
less_renamed names f a b =
    let us : List (ℕ × ℤ) = times_terms (negsuc 0) f.terms in
    let e : plus_terms us [] ≡ us = plus_none 0 us (negate_are 0 f.terms a) in
    let vs : List (ℕ × ℤ) = times_terms (negsuc 0) (rename_terms names f.terms) in
    let g : plus_terms vs [] ≡ vs = plus_none 0 vs (negate_are 0 (rename_terms names f.terms) b) in
    ap (with (minus_one (times (negsuc 0) f)).constant) (g ∙ times_renamed names (negsuc 0) f.terms ∙ ap (rename_terms names) (sym e))

neg_renamed : (s : Sort) (names : List ℕ) (l : Lit) → IsOf s l → AreTerms 0 (form_of l).terms → AreTerms 0 (rename_terms names (form_of l).terms) → neg s (rename_lit names l) ≡ rename_lit names (neg s l)
neg_renamed Rat names (AtLeast f) o a b = ap (λ (g : Form). prim Rat (Above g)) (opposite_renamed names f) ∙ renamed_prim Rat names (Above (times (negsuc 0) f)) tt
neg_renamed Rat names (Above f) o a b = ap (λ (g : Form). prim Rat (AtLeast g)) (opposite_renamed names f) ∙ renamed_prim Rat names (AtLeast (times (negsuc 0) f)) tt
neg_renamed Rat names (Divides d f) o a b = absurd o
neg_renamed Rat names (NotDivides d f) o a b = absurd o
neg_renamed Int names (AtLeast f) o a b =
    ap (λ (g : Form). prim Int (AtLeast g)) (less_renamed names f a b) ∙ renamed_prim Int names (AtLeast (minus_one (times (negsuc 0) f))) tt
neg_renamed Int names (Above f) o a b = absurd o
neg_renamed Int names (Divides d f) o a b = renamed_prim Int names (NotDivides d f) o
neg_renamed Int names (NotDivides d f) o a b = renamed_prim Int names (Divides d f) o

-- ---- the matrix

mutual
  pub put_kept : (n : Normal) (s : Sort) (d k : ℕ) (next names : List ℕ) → length names ≡ k → CanPut n d next names → IsNormal n s k → EachOwn n s → EachTidy n → EachNegated n s → HasNegations (put n d next names) s
  put_kept (one_lit l) s d k next names e c o p a h = (
    (renamed_primitive s names l (o.0, p)).1,
    ap first_past (ap lit_numbers (neg_renamed s names l o.0 a (renamed_are_terms names (form_of l).terms c.1 a c.0)) ∙ renamed_numbers names (neg s l)) ∙ h,
  )
  put_kept (each_of ns) s d k next names e c o p a h = put_all_kept ns s d k next names e c o p a h
  put_kept (some_of ns) s d k next names e c o p a h = put_all_kept ns s d k next names e c o p a h
  put_kept (for_all n) s d k next names e c o p a h =
      put_kept n s (under_all n d) (suc k) (bump next (suc d)) (names ++ get_or next (suc d) 0 ∷ []) (push_count names (get_or next (suc d) 0) k e) c o p a h
  put_kept (there_is n) s d k next names e c o p a h =
      put_kept n s d (suc k) (bump next d) (names ++ get_or next d 0 ∷ []) (push_count names (get_or next d 0) k e) c o p a h

  pub put_all_kept : (ns : Normals) (s : Sort) (d k : ℕ) (next names : List ℕ) → length names ≡ k → CanPutAll ns d next names → AreNormal ns s k → AllOwn ns s → AllTidy ns → AllNegated ns s → HaveNegations (put_parts ns d next names) s
  put_all_kept no_part s d k next names e c o p a h = tt
  put_all_kept (part n ns) s d k next names e c o p a h =
      (put_kept n s d k next names e c.0 o.0 p.0 a.0 h.0, put_all_kept ns s d k (taken n d next) names e c.1 o.1 p.1 a.1 h.1)
