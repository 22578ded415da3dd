-- Bindings, and how many tokens and lists stand in expressions.
use Rattle.std.proofs.Common.{◌≡◌, ℕ, zero, suc, ◌+◌, ◌<◌, ◌≤◌, Bool, true, false, not, ◌&&◌, List, [], ◌∷◌, ◌++◌, length, map, drop, get_or, is_some, cond, eqb, Some, Ok, Err, refl, sym, ap, subst, ◌∙◌, arith, drop-cons}
use Rattle.std.proofs.Math.ListN.{drop_of_length-le}
use Rattle.std.proofs.lemmas.Bool.{eqb-true}
use Rattle.std.specs.Str.{bytes_eq}
use Rattle.ss_names.specs.declared.FaultKind.TheVariants as kind
use Rattle.ss_names.specs.declared.ScriptFault.{ScriptFault}
use Rattle.ss_names.specs.declared.ScriptFault.TheVariants.{Bad, Memory}
use Rattle.smt_lex.specs.Lexeme.{Lexeme}
use Rattle.smt_lex.specs.Place.{Place}
use Rattle.smt_tree.specs.declared.Expr.{Expr}
use Rattle.smt_tree.specs.Sexp.{Sexps, none, leaf, list, ◌and◌}
use Rattle.smt_tree.specs.Seen.{seen, all_seen}
use Rattle.lin_term.specs.declared.Sort.{Sort}
use Rattle.lin_truth.specs.declared.VarSort.{VarSort}
use Rattle.symbol_table.specs.Names.{looked_up}
use Rattle.smt_term.specs.declared.bindings.Binding.{Binding}
use Rattle.smt_term.specs.Reading.{Read, ◌>>=◌, refuse, unless, place_of, Part, token, group}
use Rattle.smt_term.specs.Scope.{has_name}
use Rattle.smt_term.specs.Word.{new_name, is_free, is_symbol, sort_of}
use Rattle.smt_term.specs.Terms.{parts, sorted, sorted_from, is_empty}
use Rattle.smt_term.specs.View.{part, IsRead}
use Rattle.smt_term.specs.Newest.{size, pair_of, behind_name, newest_first, bindings_of, IsName, IsPair, IsSorted}
use Rattle.smt_term.proofs.PartLemmas.{whole, seen-shape, parts-all}
use Rattle.smt_term.proofs.Faults.{fails-as, fails-first, fails-pair, fails-read, sorted-fails}

-- ---- sizes

pub size-and : (x y : Sexps) → size (x and y) ≡ size x + size y
size-and none y = omega arith
size-and (leaf t x) y = omega (arith, size-and x y)
size-and (list p inner x) y = omega (arith, size-and x y)

pub size-cons : (e : Expr) (es : List Expr) → size (all_seen (e ∷ es)) ≡ size (seen e) + size (all_seen es)
size-cons e es = size-and (seen e) (all_seen es)

pub size-group : (e : Expr) (p : Place) (inner : Sexps) → part e ≡ group p inner → size (seen e) ≡ 1 + size inner
size-group e p inner is =
    ap size (seen-shape e) ∙ ap (λ (x : Part). size (whole x)) is ∙ omega arith

size-whole : (x : Part) → 0 < size (whole x)
size-whole (token t) = omega arith
size-whole (group p inner) = omega arith

pub size-some : (e : Expr) → 0 < size (seen e)
size-some e = subst (λ (n : ℕ). 0 < n) (sym (ap size (seen-shape e))) (size-whole (part e))

pub size-at : (es : List Expr) (i : ℕ) (d : Expr) → i < length es → size (seen (get_or es i d)) ≤ size (all_seen es)
size-at [] i d lt = absurd (omega arith)
size-at (e ∷ es) zero d lt = omega (arith, size-cons e es)
size-at (e ∷ es) (suc i) d lt = omega (arith, size-cons e es, size-at es i d (omega arith))

-- ---- a name and what stands behind it

pub pair-token : {A : Type 0} (logic : Sort) (taken : List (List ℕ × A)) (x : Part) (t : Lexeme) → x ≡ token t → pair_of logic taken x ≡ refuse kind.Sort (place_of t)
unfolding pair_of
pair-token logic taken x t is = ap (pair_of logic taken) is

pub pair-wrong : {A : Type 0} (logic : Sort) (taken : List (List ℕ × A)) (x : Part) (p : Place) (es : List Expr) → x ≡ group p (all_seen es) → (length es ≡ 2 → ⊥)
    → pair_of logic taken x ≡ refuse kind.Sort p
unfolding pair_of
pair-wrong logic taken x p es is wrong = ap (pair_of logic taken) is ∙ ap (behind_name logic taken p) (parts-all es) ∙ by es wrong
  where
    by : (xs : List Expr) → (length xs ≡ 2 → ⊥) → behind_name logic taken p (map part xs) ≡ refuse kind.Sort p
    by [] wrong = refl
    by (a ∷ []) wrong = refl
    by (a ∷ b ∷ []) wrong = absurd (wrong refl)
    by (a ∷ b ∷ c ∷ xs) wrong = refl

pair-two : {A : Type 0} (logic : Sort) (taken : List (List ℕ × A)) (x : Part) (p : Place) (es : List Expr) (a b : Expr) → x ≡ group p (all_seen es) → length es ≡ 2
    → a ≡ get_or es 0 a → b ≡ get_or es 1 b → pair_of logic taken x ≡ (new_name logic taken (part a) >>= λ name. Ok (name, part b))
unfolding pair_of
pair-two logic taken x p es a b is two a_is b_is = ap (pair_of logic taken) is ∙ ap (behind_name logic taken p) (parts-all es) ∙ by es two a_is b_is
  where
    by : (xs : List Expr) → length xs ≡ 2 → a ≡ get_or xs 0 a → b ≡ get_or xs 1 b
        → behind_name logic taken p (map part xs) ≡ (new_name logic taken (part a) >>= λ name. Ok (name, part b))
    by [] two a_is b_is = absurd (omega (arith, two))
    by (y ∷ []) two a_is b_is = absurd (omega (arith, two))
    by (y ∷ z ∷ []) two a_is b_is =
        ap (λ (m : Expr). new_name logic taken (part m) >>= λ name. Ok (name, part z)) (sym a_is)
        ∙ ap (λ (m : Expr). new_name logic taken (part a) >>= λ name. Ok (name, part m)) (sym b_is)
    by (y ∷ z ∷ w ∷ xs) two a_is b_is = absurd (omega (arith, two))

pub pair-fault : {A : Type 0} (logic : Sort) (taken : List (List ℕ × A)) (item : Expr) (p : Place) (es : List Expr) (a b : Expr) (named : Part) (e : ScriptFault)
    → part item ≡ group p (all_seen es) → length es ≡ 2 → a ≡ get_or es 0 a → named ≡ part a → IsName (new_name logic taken named) (Err e)
    → IsPair (pair_of logic taken (part item)) item (Err e)
pair-fault logic taken item p es a b named (Bad k line column) is two a_is named_is fault =
    pair-two logic taken (part item) p es a (get_or es 1 b) is two a_is (same es 1)
    ∙ ap (λ (r : Read (List ℕ)). r >>= λ name. Ok (name, part (get_or es 1 b))) (sym (ap (new_name logic taken) named_is) ∙ fault)
  where
    same : (xs : List Expr) (i : ℕ) → get_or xs i b ≡ get_or xs i (get_or xs i b)
    same [] i = refl
    same (x ∷ xs) zero = refl
    same (x ∷ xs) (suc i) = same xs i
pair-fault logic taken item p es a b named Memory is two a_is named_is fault = tt

pub pair-is : {A : Type 0} (logic : Sort) (taken : List (List ℕ × A)) (item : Expr) (p : Place) (es : List Expr) (a b : Expr) (named : Part) (name : List ℕ)
    → part item ≡ group p (all_seen es) → length es ≡ 2 → a ≡ get_or es 0 a → b ≡ get_or es 1 b → named ≡ part a → new_name logic taken named ≡ Ok name
    → (pair_of logic taken (part item) ≡ Ok (name, part b)) × (size (seen b) < size (seen item))
pair-is logic taken item p es a b named name is two a_is b_is named_is given = (
  pair-two logic taken (part item) p es a b is two a_is b_is
      ∙ ap (λ (r : Read (List ℕ)). r >>= λ name. Ok (name, part b)) (sym (ap (new_name logic taken) named_is) ∙ given),
  smaller,
)
  where
    smaller : size (seen b) < size (seen item)
    smaller =
        let at : size (seen (get_or es 1 b)) ≤ size (all_seen es) = size-at es 1 b (omega (arith, two)) in
        let here : size (seen b) ≤ size (all_seen es) = subst (λ (x : Expr). size (seen x) ≤ size (all_seen es)) (sym b_is) at in
        omega (arith, here, size-group item p (all_seen es) is)

-- ---- names that are taken

-- the same names are taken, whatever they stand for
abbrev pub Alike : {A B : Type 0} → List (List ℕ × A) → List (List ℕ × B) → Type 0
Alike xs ys = (name : List ℕ) → has_name xs name ≡ has_name ys name

pub alike-more : {A B : Type 0} (xs : List (List ℕ × A)) (ys : List (List ℕ × B)) (new : List ℕ) (a : A) (b : B) → Alike xs ys
    → Alike ((new, a) ∷ xs) ((new, b) ∷ ys)
alike-more xs ys new a b alike name = by (bytes_eq new name)
  where
    by : (t : Bool) → is_some (cond t (Some a) (looked_up xs name)) ≡ is_some (cond t (Some b) (looked_up ys name))
    by true = refl
    by false = alike name

new-alike : {A B : Type 0} (logic : Sort) (xs : List (List ℕ × A)) (ys : List (List ℕ × B)) (x : Part) → Alike xs ys → new_name logic xs x ≡ new_name logic ys x
new-alike logic xs ys (group p inner) alike = refl
new-alike logic xs ys (token t) alike = by (is_symbol t)
  where
    by : (b : Bool) → (unless b kind.Sort (place_of t) (Ok t) >>= λ u. unless (is_free logic u && not (has_name xs u.text)) kind.Symbol (place_of u) (Ok u.text))
        ≡ (unless b kind.Sort (place_of t) (Ok t) >>= λ u. unless (is_free logic u && not (has_name ys u.text)) kind.Symbol (place_of u) (Ok u.text))
    by true = ap (λ (h : Bool). unless (is_free logic t && not h) kind.Symbol (place_of t) (Ok t.text)) (alike t.text)
    by false = refl

pub pair-alike : {A B : Type 0} (logic : Sort) (xs : List (List ℕ × A)) (ys : List (List ℕ × B)) (x : Part) → Alike xs ys → pair_of logic xs x ≡ pair_of logic ys x
unfolding pair_of
pair-alike logic xs ys (token t) alike = refl
pair-alike logic xs ys (group p inner) alike = by (parts inner)
  where
    by : (ps : List Part) → behind_name logic xs p ps ≡ behind_name logic ys p ps
    by [] = refl
    by (x ∷ []) = refl
    by (x ∷ y ∷ []) = ap (λ (r : Read (List ℕ)). r >>= λ name. Ok (name, y)) (new-alike logic xs ys x alike)
    by (x ∷ y ∷ z ∷ ps) = refl

-- ---- names with sorts

abbrev with_part : Part → List ℕ → Read (List ℕ × Part)
with_part x name = Ok (name, x)

abbrev with_sort : List ℕ → VarSort → Read (List ℕ × VarSort)
with_sort name v = Ok (name, v)

-- a name and its sort, in two orders of steps
two_steps : (logic : Sort) (r : Read (List ℕ)) (x : Part) (next : List ℕ × VarSort → Read (List (List ℕ × VarSort)))
    → ((r >>= λ name. sort_of logic x >>= with_sort name) >>= next) ≡ ((r >>= with_part x) >>= λ nv. sort_of logic nv.1 >>= λ v. next (nv.0, v))
two_steps logic (Err e) x next = refl
two_steps logic (Ok name) x next = by (sort_of logic x)
  where
    by : (q : Read VarSort) → ((q >>= with_sort name) >>= next) ≡ (q >>= λ v. next (name, v))
    by (Err e) = refl
    by (Ok v) = refl

-- the next of a list, and then the others
sorted-whole : (logic : Sort) (vs : List (List ℕ × VarSort)) (x : Part) (rest : Sexps)
    → sorted_from logic vs (whole x and rest) ≡ (pair_of logic vs x >>= λ nv. sort_of logic nv.1 >>= λ v. sorted_from logic ((nv.0, v) ∷ vs) rest)
unfolding pair_of
sorted-whole logic vs (token t) rest = refl
sorted-whole logic vs (group p inner) rest = by inner
  where
    by : (xs : Sexps) → sorted_from logic vs (list p xs rest) ≡ (behind_name logic vs p (parts xs) >>= λ nv. sort_of logic nv.1 >>= λ v. sorted_from logic ((nv.0, v) ∷ vs) rest)
    by none = refl
    by (leaf t none) = refl
    by (leaf t (leaf u none)) = two_steps logic (new_name logic vs (token t)) (token u) (λ v. sorted_from logic (v ∷ vs) rest)
    by (leaf t (leaf u (leaf w ys))) = refl
    by (leaf t (leaf u (list q w ys))) = refl
    by (leaf t (list q u none)) = two_steps logic (new_name logic vs (token t)) (group q u) (λ v. sorted_from logic (v ∷ vs) rest)
    by (leaf t (list q u (leaf w ys))) = refl
    by (leaf t (list q u (list r w ys))) = refl
    by (list q t none) = refl
    by (list q t (leaf u none)) = refl
    by (list q t (leaf u (leaf w ys))) = refl
    by (list q t (leaf u (list r w ys))) = refl
    by (list q t (list r u none)) = refl
    by (list q t (list r u (leaf w ys))) = refl
    by (list q t (list r u (list o w ys))) = refl

unfoldable pub sorted_on : Sort → List (List ℕ × VarSort) → Sexps → Read (List (List ℕ × VarSort))
sorted_on = sorted_from

pub sorted-start : (logic : Sort) (xs : Sexps) → sorted logic xs ≡ sorted_on logic [] xs
unfolding sorted sorted_on
sorted-start logic xs = refl

pub sorted-none : (logic : Sort) (vs : List (List ℕ × VarSort)) → sorted_on logic vs (all_seen []) ≡ Ok vs
unfolding sorted_on
sorted-none logic vs = refl

pub sorted-cons : (logic : Sort) (vs : List (List ℕ × VarSort)) (e : Expr) (es : List Expr)
    → sorted_on logic vs (all_seen (e ∷ es)) ≡ (pair_of logic vs (part e) >>= λ nv. sort_of logic nv.1 >>= λ v. sorted_on logic ((nv.0, v) ∷ vs) (all_seen es))
unfolding sorted_on
sorted-cons logic vs e es = ap (λ (x : Sexps). sorted_from logic vs (x and all_seen es)) (seen-shape e) ∙ sorted-whole logic vs (part e) (all_seen es)

pub newest-push : (vs : List (List ℕ × VarSort)) (bs : List Binding) (b : Binding) → newest_first vs (bs ++ b ∷ []) ≡ (b.name.now, b.sort) ∷ newest_first vs bs
newest-push vs [] b = refl
newest-push vs (x ∷ bs) b = newest-push ((x.name.now, x.sort) ∷ vs) bs b

-- ---- the loop over names with sorts

pub drop-next : (xs : List Expr) (i : ℕ) (x : Expr) → i < length xs → x ≡ get_or xs i x → drop i xs ≡ x ∷ drop (i + 1) xs
drop-next xs i x lt is = drop-cons xs i x lt ∙ ap (λ (y : Expr). y ∷ drop (suc i) xs) (sym is) ∙ ap (λ (n : ℕ). x ∷ drop n xs) (suc-plus i)
  where
    suc-plus : (n : ℕ) → suc n ≡ n + 1
    suc-plus n = omega arith

-- behind these names, the first of those that are left
sorted-left : (logic : Sort) (vs : List (List ℕ × VarSort)) (es : List Expr) (i : ℕ) (x : Expr) → i < length es → x ≡ get_or es i x
    → sorted_on logic vs (all_seen (drop i es)) ≡ sorted_on logic [] (all_seen es)
    → sorted_on logic [] (all_seen es) ≡ (pair_of logic vs (part x) >>= λ nv. sort_of logic nv.1 >>= λ v. sorted_on logic ((nv.0, v) ∷ vs) (all_seen (drop (i + 1) es)))
sorted-left logic vs es i x lt is left =
    sym left ∙ ap (λ (rest : List Expr). sorted_on logic vs (all_seen rest)) (drop-next es i x lt is) ∙ sorted-cons logic vs x (drop (i + 1) es)

pub sorted-no_pair : {A : Type 0} (logic : Sort) (taken : List (List ℕ × A)) (vs : List (List ℕ × VarSort)) (es : List Expr) (i : ℕ) (x : Expr) (e : ScriptFault) → i < length es
    → x ≡ get_or es i x → Alike taken vs → sorted_on logic vs (all_seen (drop i es)) ≡ sorted_on logic [] (all_seen es) → IsPair (pair_of logic taken (part x)) x (Err e)
    → IsSorted (sorted logic (all_seen es)) (Err e)
sorted-no_pair logic taken vs es i x e lt is alike left given =
    let next : List ℕ × Part → Read (List (List ℕ × VarSort)) = λ nv. sort_of logic nv.1 >>= λ v. sorted_on logic ((nv.0, v) ∷ vs) (all_seen (drop (i + 1) es)) in
    let eq : sorted logic (all_seen es) ≡ (pair_of logic taken (part x) >>= next) =
    sorted-start logic (all_seen es) ∙ sorted-left logic vs es i x lt is left ∙ ap (λ (r : Read (List ℕ × Part)). r >>= next) (sym (pair-alike logic taken vs (part x) alike)) in
    sorted-fails (sorted logic (all_seen es)) e
    (fails-as (sorted logic (all_seen es)) (pair_of logic taken (part x) >>= next) e eq
    (fails-first (pair_of logic taken (part x)) next e (fails-pair (pair_of logic taken (part x)) x e given)))

-- the name of the next is read
sorted-named : {A : Type 0} (logic : Sort) (taken : List (List ℕ × A)) (vs : List (List ℕ × VarSort)) (es : List Expr) (i : ℕ) (x : Expr) (name : List ℕ) (y : Part) → i < length es
    → x ≡ get_or es i x → Alike taken vs → sorted_on logic vs (all_seen (drop i es)) ≡ sorted_on logic [] (all_seen es) → pair_of logic taken (part x) ≡ Ok (name, y)
    → sorted_on logic [] (all_seen es) ≡ (sort_of logic y >>= λ v. sorted_on logic ((name, v) ∷ vs) (all_seen (drop (i + 1) es)))
sorted-named logic taken vs es i x name y lt is alike left given =
    sorted-left logic vs es i x lt is left
    ∙ ap (λ (r : Read (List ℕ × Part)). r >>= λ nv. sort_of logic nv.1 >>= λ v. sorted_on logic ((nv.0, v) ∷ vs) (all_seen (drop (i + 1) es))) (sym (pair-alike logic taken vs (part x) alike) ∙ given)

pub sorted-no_sort : {A : Type 0} (logic : Sort) (taken : List (List ℕ × A)) (vs : List (List ℕ × VarSort)) (es : List Expr) (i : ℕ) (x : Expr) (name : List ℕ) (y z : Part) (e : ScriptFault)
    → i < length es → x ≡ get_or es i x → Alike taken vs → sorted_on logic vs (all_seen (drop i es)) ≡ sorted_on logic [] (all_seen es)
    → pair_of logic taken (part x) ≡ Ok (name, y) → z ≡ y → IsRead (sort_of logic z) (Err e) → IsSorted (sorted logic (all_seen es)) (Err e)
sorted-no_sort logic taken vs es i x name y z e lt is alike left given same failed =
    let next : VarSort → Read (List (List ℕ × VarSort)) = λ v. sorted_on logic ((name, v) ∷ vs) (all_seen (drop (i + 1) es)) in
    let eq : sorted logic (all_seen es) ≡ (sort_of logic z >>= next) =
    sorted-start logic (all_seen es) ∙ sorted-named logic taken vs es i x name y lt is alike left given ∙ ap (λ (u : Part). sort_of logic u >>= next) (sym same) in
    sorted-fails (sorted logic (all_seen es)) e
    (fails-as (sorted logic (all_seen es)) (sort_of logic z >>= next) e eq (fails-first (sort_of logic z) next e (fails-read (sort_of logic z) e failed)))

pub sorted-more : {A : Type 0} (logic : Sort) (taken : List (List ℕ × A)) (bs : List Binding) (es : List Expr) (i : ℕ) (x : Expr) (b : Binding) (y z : Part)
    → i < length es → x ≡ get_or es i x → Alike taken (newest_first [] bs) → sorted_on logic (newest_first [] bs) (all_seen (drop i es)) ≡ sorted_on logic [] (all_seen es)
    → pair_of logic taken (part x) ≡ Ok (b.name.now, y) → z ≡ y → sort_of logic z ≡ Ok b.sort
    → sorted_on logic (newest_first [] (bs ++ b ∷ [])) (all_seen (drop (i + 1) es)) ≡ sorted_on logic [] (all_seen es)
sorted-more logic taken bs es i x b y z lt is alike left given same sort_is =
    let vs : List (List ℕ × VarSort) = newest_first [] bs in
    ap (λ (us : List (List ℕ × VarSort)). sorted_on logic us (all_seen (drop (i + 1) es))) (newest-push [] bs b)
    ∙ ap (λ (r : Read VarSort). r >>= λ v. sorted_on logic ((b.name.now, v) ∷ vs) (all_seen (drop (i + 1) es))) (sym (sym (ap (sort_of logic) same) ∙ sort_is))
    ∙ sym (sorted-named logic taken vs es i x b.name.now y lt is alike left given)

pub sorted-done : (logic : Sort) (vs : List (List ℕ × VarSort)) (es : List Expr) (i : ℕ) → length es ≤ i
    → sorted_on logic vs (all_seen (drop i es)) ≡ sorted_on logic [] (all_seen es) → sorted logic (all_seen es) ≡ Ok vs
sorted-done logic vs es i le left =
    sorted-start logic (all_seen es) ∙ sym left ∙ ap (λ (rest : List Expr). sorted_on logic vs (all_seen rest)) (drop_of_length-le es le) ∙ sorted-none logic vs

pub alike-push : {A : Type 0} (taken new : List (List ℕ × A)) (bs more : List Binding) (b : Binding) (a : A) → Alike taken (newest_first [] bs)
    → new ≡ (b.name.now, a) ∷ taken → more ≡ bs ++ b ∷ [] → Alike new (newest_first [] more)
alike-push {A = A} taken new bs more b a alike new_is more_is =
    subst (λ (ns : List (List ℕ × A)). Alike ns (newest_first [] more)) (sym new_is)
    (subst (λ (vs : List (List ℕ × VarSort)). Alike ((b.name.now, a) ∷ taken) vs) (sym (ap (newest_first []) more_is ∙ newest-push [] bs b))
    (alike-more taken (newest_first [] bs) b.name.now a b.sort alike))

-- ---- bindings and a body

pub first-size : (es : List Expr) (x : Expr) (rest : List Expr) → es ≡ x ∷ rest → size (all_seen es) ≡ size (seen x) + size (all_seen rest)
first-size es x rest is = ap (λ (xs : List Expr). size (all_seen xs)) is ∙ size-cons x rest

bindings-first : (p : Place) (es : List Expr) (x : Expr) (rest : List Expr) (y : Part) → es ≡ x ∷ rest → part x ≡ y → bindings_of p (all_seen es) ≡ bindings_of p (whole y and all_seen rest)
bindings-first p es x rest y is part_is =
    ap (λ (xs : List Expr). bindings_of p (all_seen xs)) is ∙ ap (λ (u : Sexps). bindings_of p (u and all_seen rest)) (seen-shape x ∙ ap whole part_is)

pub bindings-none : (p : Place) (es : List Expr) → length es ≡ 0 → bindings_of p (all_seen es) ≡ refuse kind.Arity p
unfolding bindings_of
bindings-none p [] empty = refl
bindings-none p (e ∷ es) empty = absurd (omega (arith, empty))

pub bindings-token : (p : Place) (es : List Expr) (x : Expr) (rest : List Expr) (t : Lexeme) → es ≡ x ∷ rest → token t ≡ part x → bindings_of p (all_seen es) ≡ refuse kind.Sort (place_of t)
unfolding bindings_of
bindings-token p es x rest t is part_is = bindings-first p es x rest (token t) is (sym part_is)

pub bindings-empty : (p q : Place) (es : List Expr) (x : Expr) (rest inner : List Expr) → es ≡ x ∷ rest → group q (all_seen inner) ≡ part x → eqb (length inner) 0 ≡ true
    → bindings_of p (all_seen es) ≡ refuse kind.Sort q
unfolding bindings_of
bindings-empty p q es x rest [] is part_is empty = bindings-first p es x rest (group q none) is (sym part_is)
bindings-empty p q es x rest (y ∷ inner) is part_is empty = absurd (omega (arith, eqb-true (length (y ∷ inner)) 0 empty))

bindings-some : (inner : List Expr) → eqb (length inner) 0 ≡ false → is_empty (all_seen inner) ≡ false
bindings-some [] some = absurd cc
bindings-some (y ∷ inner) some = ap (λ (u : Sexps). is_empty (u and all_seen inner)) (seen-shape y) ∙ by (part y)
  where
    by : (u : Part) → is_empty (whole u and all_seen inner) ≡ false
    by (token t) = refl
    by (group q xs) = refl

pub bindings-are : (p q : Place) (es : List Expr) (x : Expr) (rest inner : List Expr) → es ≡ x ∷ rest → group q (all_seen inner) ≡ part x → eqb (length inner) 0 ≡ false
    → (bindings_of p (all_seen es) ≡ Ok (all_seen inner, all_seen rest)) × (size (all_seen inner) + size (all_seen rest) < size (all_seen es))
unfolding bindings_of
bindings-are p q es x rest inner is part_is some = (
  bindings-first p es x rest (group q (all_seen inner)) is (sym part_is)
      ∙ ap (λ (b : Bool). unless (not b) kind.Sort q (Ok (all_seen inner, all_seen rest))) (bindings-some inner some),
  omega (arith, first-size es x rest is, size-group x q (all_seen inner) (sym part_is)),
)
