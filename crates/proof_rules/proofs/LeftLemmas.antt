-- The cases of an elimination are primitive cubes of integers.
use Rattle.std.specs.Prelude.{ℕ, zero, suc, ◌*◌, ◌<◌, ◌≤◌, ◌≡◌, ℤ, pos, negsuc, nat_abs, Bool, true, not, if◌then◌else◌, Some, None, Err, List, [], ◌∷◌, ◌++◌, map, filter, get_or, length, ⊤}
use Rattle.std.specs.List.{list_any, range_with_len, flat_map}
use Rattle.std.proofs.Common.{arith, ◌∙◌, sym, subst, mul-le-mul}
use Rattle.std.proofs.lemmas.Bool.{cond_both}
use Rattle.lin_term.specs.declared.Sort.TheVariants.{Int}
use Rattle.lin_term.specs.declared.Lit.{Lit}
use Rattle.lin_term.specs.declared.Lit.TheVariants.{AtLeast, Above, Divides, NotDivides}
use Rattle.lin_term.specs.Form.{Form}
use Rattle.lin_term.specs.Linear.{constant_form}
use Rattle.lin_term.specs.Literal.{IsOf, IsPrimitive, form_of, prim}
use Rattle.lin_term.specs.PutIn.{put_form, put_raw, put_lit, occurs}
use Rattle.lin_term.specs.declared.Short.{Short}
use Rattle.lin_term.specs.declared.Short.TheVariants.{Fault}
use Rattle.lin_term.specs.declared.Wide.{Wide}
use Rattle.lin_term.specs.Wide.{first_past, lit_numbers, Capped}
use Rattle.lin_term.proofs.PrimitiveLemmas.{modulus_one}
use Rattle.lin_term.proofs.Lowest.{prim_is_primitive}
use Rattle.lin_term.proofs.Capping.{past-append, past-append_left}
use Rattle.dom_core.specs.Cube.{IsPrimitiveCube}
use Rattle.dom_core.specs.Elimination.{coef_at, size_at, is_positive, is_lower, is_upper, put_all, above_bound, lower_case, lower_cases, free_case, cooper, delta, partial_deltas, count_sums, cube_numbers, elimination_numbers}
use Rattle.proof_rules.proofs.FactLemmas.{primable_within}

-- each literal is primitive
abbrev pub AllPrimitive : List Lit → Type 0
AllPrimitive [] = ⊤
AllPrimitive (l ∷ ls) = IsPrimitive Int l × AllPrimitive ls

abbrev pub EachPrimitive : List (List Lit) → Type 0
EachPrimitive [] = ⊤
EachPrimitive (c ∷ cs) = AllPrimitive c × EachPrimitive cs

all_of : (c : List Lit) → IsPrimitiveCube Int c → AllPrimitive c
all_of [] k = tt
all_of (l ∷ c) k = (k.0, all_of c k.2)

raw_of : (x a : ℕ) (t : Form) (l : Lit) → 1 ≤ a → IsOf Int l → IsOf Int (prim Int (put_raw x a t l))
raw_of x a t (AtLeast f) h o = tt
raw_of x a t (Above f) h o = tt
raw_of x a t (Divides d f) h o = modulus_one (a * d) (put_form f x a t) (mul-le-mul h o)
raw_of x a t (NotDivides d f) h o = modulus_one (a * d) (put_form f x a t) (mul-le-mul h o)

put_primitive : (x a : ℕ) (t : Form) (l : Lit) → 1 ≤ a → IsPrimitive Int l → IsPrimitive Int (put_lit Int x a t l)
put_primitive x a t l h p =
    cond_both (occurs (form_of l).terms x) (prim Int (put_raw x a t l)) l (λ (k : Lit). IsPrimitive Int k)
    (λ e. prim_is_primitive Int (put_raw x a t l) (raw_of x a t l h p.0)) (λ e. p)

put_all_primitive : (x a : ℕ) (t : Form) (c : List Lit) → 1 ≤ a → AllPrimitive c → AllPrimitive (put_all Int x a t c)
put_all_primitive x a t [] h p = tt
put_all_primitive x a t (l ∷ ls) h p = (put_primitive x a t l h p.0, put_all_primitive x a t ls h p.1)

all-append : (c d : List Lit) → AllPrimitive c → AllPrimitive d → AllPrimitive (c ++ d)
all-append [] d a b = b
all-append (l ∷ c) d a b = (a.0, all-append c d a.1 b)

all-filter : (p : Lit → Bool) (c : List Lit) → AllPrimitive c → AllPrimitive (filter p c)
all-filter p [] o = tt
all-filter p (l ∷ ls) o =
    cond_both (p l) (l ∷ filter p ls) (filter p ls) (λ (d : List Lit). AllPrimitive d) (λ e. (o.0, all-filter p ls o.1)) (λ e. all-filter p ls o.1)

each-append : (cs ds : List (List Lit)) → EachPrimitive cs → EachPrimitive ds → EachPrimitive (cs ++ ds)
each-append [] ds a b = b
each-append (c ∷ cs) ds a b = (a.0, each-append cs ds a.1 b)

each-map : (g : ℕ → List Lit) (ks : List ℕ) → ((k : ℕ) → AllPrimitive (g k)) → EachPrimitive (map g ks)
each-map g [] h = tt
each-map g (k ∷ ks) h = (h k, each-map g ks h)

positive_size : (z : ℤ) → is_positive z ≡ true → 1 ≤ nat_abs z
positive_size (pos zero) e = absurd (cc)
positive_size (pos (suc n)) e = omega arith
positive_size (negsuc n) e = absurd (cc)

lower_size : (x : ℕ) (l : Lit) → is_lower x l ≡ true → 1 ≤ size_at x l
lower_size x (AtLeast f) e = positive_size (coef_at x (AtLeast f)) e
lower_size x (Above f) e = positive_size (coef_at x (Above f)) e
lower_size x (Divides d f) e = absurd (cc)
lower_size x (NotDivides d f) e = absurd (cc)

lower_primitive : (x : ℕ) (before : List Lit) (l : Lit) (after : List Lit) (k : ℕ) → 1 ≤ size_at x l → AllPrimitive before → AllPrimitive after → AllPrimitive (lower_case x before l after k)
lower_primitive x before l after k h a b =
    let t = above_bound x l k in
    all-append (put_all Int x (size_at x l) t before) (prim Int (Divides (size_at x l) t) ∷ put_all Int x (size_at x l) t after)
    (put_all_primitive x (size_at x l) t before h a)
    (prim_is_primitive Int (Divides (size_at x l) t) (modulus_one (size_at x l) t h), put_all_primitive x (size_at x l) t after h b)

lowers_primitive : (x n : ℕ) (before after : List Lit) → AllPrimitive before → AllPrimitive after → EachPrimitive (lower_cases x n before after)
lowers_primitive x n before [] a b = tt
lowers_primitive x n before (l ∷ after) a b =
    each-append (if is_lower x l then map (lower_case x before l after) (range_with_len 0 (size_at x l * n)) else [])
    (lower_cases x n (before ++ l ∷ []) after)
    (cond_both (is_lower x l) (map (lower_case x before l after) (range_with_len 0 (size_at x l * n))) [] (λ (cs : List (List Lit)). EachPrimitive cs)
    (λ e. each-map (lower_case x before l after) (range_with_len 0 (size_at x l * n)) (λ k. lower_primitive x before l after k (lower_size x l e) a b.1))
    (λ e. tt))
    (lowers_primitive x n (before ++ l ∷ []) after (all-append before (l ∷ []) a (b.0, tt)) b.1)

-- the literals of all cases are primitive
pub cases_primitive : (c : List Lit) (x : ℕ) → IsPrimitiveCube Int c → EachPrimitive (cooper c x)
cases_primitive c x p =
    let o = all_of c p in
    cond_both (list_any (is_lower x) c) (lower_cases x (delta c x) [] c) (map (free_case x c) (range_with_len 0 (delta c x))) (λ (cs : List (List Lit)). EachPrimitive cs)
    (λ e. lowers_primitive x (delta c x) [] c tt o)
    (λ e. each-map (free_case x c) (range_with_len 0 (delta c x)) (λ k. put_all_primitive x 1 (constant_form (pos k)) (filter (λ l. not (is_upper x l)) c) (omega arith) (all-filter (λ l. not (is_upper x l)) c o)))

each_at : (cs : List (List Lit)) (i : ℕ) → EachPrimitive cs → AllPrimitive (get_or cs i [])
each_at [] i p = tt
each_at (c ∷ cs) zero p = p.0
each_at (c ∷ cs) (suc i) p = each_at cs i p.1

-- where its numbers are within the cap, a primitive cube is one that may be eliminated from
all_within : (c : List Lit) → AllPrimitive c → first_past (cube_numbers c) ≡ None → IsPrimitiveCube Int c
all_within [] p h = tt
all_within (l ∷ c) p h =
    let here = past-append_left (lit_numbers l) (cube_numbers c) h in
    (p.0, primable_within Int l p.0.0 here, all_within c p.1 (sym (past-append (lit_numbers l) (cube_numbers c) here) ∙ h))

pub case_primitive : (c d : List Lit) (x i : ℕ) → IsPrimitiveCube Int c → d ≡ get_or (cooper c x) i [] → first_past (cube_numbers (get_or (cooper c x) i [])) ≡ None → IsPrimitiveCube Int d
case_primitive c d x i p e h =
    subst (λ (ls : List Lit). IsPrimitiveCube Int ls) (sym e) (all_within (get_or (cooper c x) i []) (each_at (cooper c x) i (cases_primitive c x p)) h)

at_fits : (cs : List (List Lit)) (i : ℕ) → i < length cs → first_past (flat_map cube_numbers cs) ≡ None → first_past (cube_numbers (get_or cs i [])) ≡ None
at_fits [] i h f = absurd (omega arith)
at_fits (c ∷ cs) zero h f = past-append_left (cube_numbers c) (flat_map cube_numbers cs) f
at_fits (c ∷ cs) (suc i) h f =
    at_fits cs i (omega arith) (sym (past-append (cube_numbers c) (flat_map cube_numbers cs) (past-append_left (cube_numbers c) (flat_map cube_numbers cs) f)) ∙ f)

-- no number of a case is past the cap where none of the elimination is
pub case_fits : (c : List Lit) (x i : ℕ) → first_past (elimination_numbers Int c x) ≡ None → i < length (cooper c x) → first_past (cube_numbers (get_or (cooper c x) i [])) ≡ None
case_fits c x i f h =
    let firsts = map pos (partial_deltas 1 c x) ++ map pos (count_sums x (delta c x) 0 c) in
    at_fits (cooper c x) i h (sym (past-append firsts (flat_map cube_numbers (cooper c x)) (past-append_left firsts (flat_map cube_numbers (cooper c x)) f)) ∙ f)

-- so that no case is refused by a number
pub no_fault : {A : Type 0} (numbers : List ℤ) (value : A) (e : Short Wide) (w : Wide) → first_past numbers ≡ None → Capped numbers value (Err e) → e ≡ Fault w → ⊥
no_fault numbers value e w n h f = by (subst (λ (x : Short Wide). Capped numbers value (Err x)) f h)
  where
    by : first_past numbers ≡ Some w.number → ⊥
    by q = absurd (cc)
