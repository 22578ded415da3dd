-- The cubes of an elimination over the integers are cubes of integers.
use Rattle.std.specs.Prelude.{ℕ, zero, suc, ◌+◌, ◌*◌, ◌≤◌, ◌≡◌, ℤ, pos, negsuc, nat_abs, Bool, true, false, not, if◌then◌else◌, List, [], ◌∷◌, ◌++◌, map, filter}
use Rattle.std.specs.List.{list_any, range_with_len, AllByRecursion}
use Rattle.std.proofs.Common.{arith, ap, ◌∙◌, sym, subst, refl, cond, mul-le-mul}
use Rattle.std.proofs.lemmas.Bool.{cond_both}
use Rattle.lin_term.specs.declared.Sort.TheVariants.{Int}
use Rattle.lin_term.specs.declared.Lit.{Lit}
use Rattle.lin_term.specs.declared.Lit.TheVariants.{AtLeast, Above, Divides, NotDivides}
use Rattle.lin_term.specs.Form.{Form}
use Rattle.lin_term.specs.Linear.{constant_form}
use Rattle.lin_term.specs.Literal.{IsOf, form_of, prim}
use Rattle.lin_term.specs.PutIn.{put_form, put_raw, put_lit, occurs}
use Rattle.lin_term.proofs.PrimitiveLemmas.{modulus_one}
use Rattle.dom_core.specs.Cube.{IsCube}
use Rattle.dom_core.specs.Elimination.{coef_at, size_at, is_positive, is_lower, is_upper, put_all, above_bound, lower_case, lower_cases, free_case, cooper, delta, eliminated}
use Rattle.dom_core.proofs.Reducing.{all_append, all_map, all_true}

raw_of : (x a : ℕ) (t : Form) (l : Lit) → 1 ≤ a → IsOf Int l → IsOf Int (prim Int (put_raw x a t l))
raw_of x a t (AtLeast f) h o = tt
raw_of x a t (Above f) h o = tt
raw_of x a t (Divides d f) h o = modulus_one (a * d) (put_form f x a t) (mul-le-mul h o)
raw_of x a t (NotDivides d f) h o = modulus_one (a * d) (put_form f x a t) (mul-le-mul h o)

put_of : (x a : ℕ) (t : Form) (l : Lit) → 1 ≤ a → IsOf Int l → IsOf Int (put_lit Int x a t l)
put_of x a t l h o =
    cond_both (occurs (form_of l).terms x) (prim Int (put_raw x a t l)) l (λ (k : Lit). IsOf Int k) (λ e. raw_of x a t l h o) (λ e. o)

put_all_of : (x a : ℕ) (t : Form) (c : List Lit) → 1 ≤ a → IsCube Int c → IsCube Int (put_all Int x a t c)
put_all_of x a t [] h o = tt
put_all_of x a t (l ∷ ls) h o = (put_of x a t l h o.0, put_all_of x a t ls h o.1)

pub cube-append : (c d : List Lit) → IsCube Int c → IsCube Int d → IsCube Int (c ++ d)
cube-append [] d a b = b
cube-append (l ∷ c) d a b = (a.0, cube-append c d a.1 b)

filter_of : (p : Lit → Bool) (c : List Lit) → IsCube Int c → IsCube Int (filter p c)
filter_of p [] o = tt
filter_of p (l ∷ ls) o =
    cond_both (p l) (l ∷ filter p ls) (filter p ls) (λ (d : List Lit). IsCube Int d) (λ e. (o.0, filter_of p ls o.1)) (λ e. filter_of p ls o.1)

positive_size : (z : ℤ) → is_positive z ≡ true → 1 ≤ nat_abs z
positive_size (pos zero) e = absurd (cc)
positive_size (pos (suc n)) e = omega arith
positive_size (negsuc n) e = absurd (cc)

lower_size : (x : ℕ) (l : Lit) → is_lower x l ≡ true → 1 ≤ size_at x l
lower_size x (AtLeast f) e = positive_size (coef_at x (AtLeast f)) e
lower_size x (Above f) e = positive_size (coef_at x (Above f)) e
lower_size x (Divides d f) e = absurd (cc)
lower_size x (NotDivides d f) e = absurd (cc)

lower_case_of : (x : ℕ) (before : List Lit) (l : Lit) (after : List Lit) (k : ℕ) → 1 ≤ size_at x l → IsCube Int before → IsCube Int after → IsCube Int (lower_case x before l after k)
lower_case_of x before l after k h a b =
    let t = above_bound x l k in
    cube-append (put_all Int x (size_at x l) t before) (prim Int (Divides (size_at x l) t) ∷ put_all Int x (size_at x l) t after)
    (put_all_of x (size_at x l) t before h a) (modulus_one (size_at x l) t h, put_all_of x (size_at x l) t after h b)

lower_cases_of : (x n : ℕ) (before after : List Lit) → IsCube Int before → IsCube Int after → AllByRecursion (IsCube Int) (lower_cases x n before after)
lower_cases_of x n before [] a b = tt
lower_cases_of x n before (l ∷ after) a b =
    all_append (IsCube Int) (if is_lower x l then map (lower_case x before l after) (range_with_len 0 (size_at x l * n)) else [])
    (lower_cases x n (before ++ l ∷ []) after)
    (cond_both (is_lower x l) (map (lower_case x before l after) (range_with_len 0 (size_at x l * n))) [] (λ (cs : List (List Lit)). AllByRecursion (IsCube Int) cs)
    (λ e. all_map (IsCube Int) (lower_case x before l after) (range_with_len 0 (size_at x l * n)) (all_true (λ k. IsCube Int (lower_case x before l after k)) (range_with_len 0 (size_at x l * n)) (λ k. lower_case_of x before l after k (lower_size x l e) a b.1)))
    (λ e. tt))
    (lower_cases_of x n (before ++ l ∷ []) after (cube-append before (l ∷ []) a (b.0, tt)) b.1)

pub cases_are : (c : List Lit) (x : ℕ) → IsCube Int c → AllByRecursion (IsCube Int) (eliminated Int c x)
cases_are c x o =
    cond_both (list_any (is_lower x) c) (lower_cases x (delta c x) [] c) (map (free_case x c) (range_with_len 0 (delta c x))) (λ (cs : List (List Lit)). AllByRecursion (IsCube Int) cs)
    (λ e. lower_cases_of x (delta c x) [] c tt o)
    (λ e. all_map (IsCube Int) (free_case x c) (range_with_len 0 (delta c x)) (all_true (λ k. IsCube Int (free_case x c k)) (range_with_len 0 (delta c x)) (λ k. put_all_of x 1 (constant_form (pos k)) (filter (λ l. not (is_upper x l)) c) (omega arith) (filter_of (λ l. not (is_upper x l)) c o))))
