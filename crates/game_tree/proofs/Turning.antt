-- Lists that are taken from their end, and groups that grow.
use Rattle.std.specs.Prelude.{ℕ, zero, suc, ◌+◌, ◌<◌, ◌≤◌, ◌≡◌, List, [], ◌∷◌, ◌++◌, length, map, reverse, get_or, set, drop}
use Rattle.std.proofs.Common.{arith, ap, ◌∙◌, sym, subst, refl, append_assoc, append-nil}
use Rattle.std.proofs.lemmas.List.{reverse-append, reverse-reverse, map-append, drop_more, drop_all}
use Rattle.lin_term.specs.Move.{Move}
use Rattle.game_tree.specs.declared.tree.Branch.{Branch}
use Rattle.game_tree.specs.declared.group.Group.{Group}
use Rattle.game_tree.specs.Skeleton.{Skeleton}
use Rattle.game_tree.specs.View.{skeleton_of, branch_of}
use Rattle.game_tree.specs.Gather.{Gathered, group_of, single, add_at, add_all, pairs_of}
use Rattle.game_tree.proofs.Views.{branch_is}

map_reverse : {A B : Type 0} → (f : A → B) (xs : List A) → map f (reverse xs) ≡ reverse (map f xs)
map_reverse {A} {B} f [] = refl
map_reverse {A} {B} f (x ∷ xs) =
    ap (map f) (reverse-append (x ∷ []) xs) ∙ map-append f (reverse xs) (x ∷ []) ∙ ap (λ (ys : List B). ys ++ f x ∷ []) (map_reverse f xs)
    ∙ sym (reverse-append (f x ∷ []) (map f xs))

-- the last one goes over
pub one_turned : {A : Type 0} → (all left rest : List A) (x : A) (turned : List A) → all ≡ left ++ reverse turned → left ≡ rest ++ x ∷ [] → all ≡ rest ++ reverse (turned ++ x ∷ [])
one_turned {A} all left rest x turned e f =
    e ∙ ap (λ (ys : List A). ys ++ reverse turned) f ∙ append_assoc rest (x ∷ []) (reverse turned)
    ∙ ap (λ (ys : List A). rest ++ ys) (sym (reverse-append turned (x ∷ [])))

pub all_turned : {A : Type 0} → (all left turned : List A) → all ≡ left ++ reverse turned → left ≡ [] → turned ≡ reverse all
all_turned {A} all left turned e f = sym (reverse-reverse turned) ∙ ap reverse (sym (e ∙ ap (λ (ys : List A). ys ++ reverse turned) f))

pub first_turned : {A : Type 0} → (all rest : List A) (x : A) → all ≡ rest ++ x ∷ [] → reverse all ≡ x ∷ reverse rest
first_turned {A} all rest x e = ap reverse e ∙ reverse-append rest (x ∷ [])

-- ---- groups of one branch each

group_pushed : (gs : List Group) (g : Group) → map group_of (gs ++ g ∷ []) ≡ map group_of gs ++ group_of g ∷ []
group_pushed gs g = map-append group_of gs (g ∷ [])

single_of : (b : Branch) (g : Group) → group_of g ≡ (b.term, skeleton_of b.rest, []) → group_of g ≡ single (branch_of b)
single_of b g e = e ∙ ap single (sym (branch_is b))

pub one_single : (all left rest : List Branch) (b : Branch) (gs : List Group) (g : Group) → map single (pairs_of all) ≡ map single (pairs_of left) ++ reverse (map group_of gs) → left ≡ rest ++ b ∷ [] → group_of g ≡ (b.term, skeleton_of b.rest, [])
    → map single (pairs_of all) ≡ map single (pairs_of rest) ++ reverse (map group_of (gs ++ g ∷ []))
one_single all left rest b gs g e f k =
    one_turned (map single (pairs_of all)) (map single (pairs_of left)) (map single (pairs_of rest)) (group_of g) (map group_of gs) e
    (ap (λ (bs : List Branch). map single (pairs_of bs)) f ∙ ap (map single) (map-append branch_of rest (b ∷ [])) ∙ map-append single (pairs_of rest) (branch_of b ∷ [])
    ∙ ap (λ (x : Gathered). map single (pairs_of rest) ++ x ∷ []) (sym (single_of b g k)))
    ∙ ap (λ (xs : List Gathered). map single (pairs_of rest) ++ reverse xs) (sym (group_pushed gs g))

pub all_single : (all left : List Branch) (gs turned : List Group) → map single (pairs_of all) ≡ map single (pairs_of left) ++ reverse (map group_of gs) → left ≡ [] → turned ≡ reverse gs → map group_of turned ≡ map single (pairs_of all)
all_single all left gs turned e f k =
    ap (map group_of) k ∙ map_reverse group_of gs
    ∙ sym (e ∙ ap (λ (bs : List Branch). map single (pairs_of bs) ++ reverse (map group_of gs)) f)

-- ---- one branch goes home

pub added_inside : (gs : List Group) (i : ℕ) (m : Move) (T : Skeleton) (g h : Group) → i < length gs → g ≡ get_or gs i g → group_of h ≡ ((group_of g).0, (group_of g).1, (group_of g).2 ++ T ∷ [])
    → map group_of (set gs i h) ≡ add_at i m T (map group_of gs)
added_inside [] i m T g h l e k = absurd (omega (arith, l))
added_inside (x ∷ gs) zero m T g h l e k =
    ap (λ (y : Gathered). y ∷ map group_of gs) (k ∙ ap (λ (y : Group). let z : Gathered = ((group_of y).0, (group_of y).1, (group_of y).2 ++ T ∷ []) in z) e)
added_inside (x ∷ gs) (suc i) m T g h l e k = ap (λ (ys : List Gathered). group_of x ∷ ys) (added_inside gs i m T g h (omega (arith, l)) e k)

added_past : (gs : List Gathered) (i : ℕ) (m : Move) (T : Skeleton) → length gs ≤ i → add_at i m T gs ≡ gs ++ (m, T, []) ∷ []
added_past [] i m T l = refl
added_past (g ∷ gs) zero m T l = absurd (omega (arith, l))
added_past (g ∷ gs) (suc i) m T l = ap (λ (ys : List Gathered). g ∷ ys) (added_past gs i m T (omega (arith, l)))

length_groups : (gs : List Group) → length (map group_of gs) ≡ length gs
length_groups [] = refl
length_groups (g ∷ gs) = ap (λ (n : ℕ). suc n) (length_groups gs)

pub added_behind : (gs : List Group) (i : ℕ) (m : Move) (T : Skeleton) (h : Group) → length gs ≤ i → group_of h ≡ (m, T, []) → map group_of (gs ++ h ∷ []) ≡ add_at i m T (map group_of gs)
added_behind gs i m T h l k =
    let n = length_groups gs in
    group_pushed gs h ∙ ap (λ (x : Gathered). map group_of gs ++ x ∷ []) k ∙ sym (added_past (map group_of gs) i m T (omega arith))

-- ---- all of them

add_none : (is : List ℕ) (gs : List Gathered) → add_all is gs [] ≡ gs
add_none [] gs = refl
add_none (i ∷ is) gs = refl

pub none_left : (is : List ℕ) (gs : List Gathered) (turned : List Branch) → turned ≡ [] → add_all is gs (pairs_of (reverse turned)) ≡ gs
none_left is gs turned e = ap (λ (bs : List Branch). add_all is gs (pairs_of (reverse bs))) e ∙ add_none is gs

pub no_home_left : (is : List ℕ) (i : ℕ) (gs : List Gathered) (bs : List (Move × Skeleton)) → length is ≤ i → add_all (drop i is) gs bs ≡ gs
no_home_left is i gs bs l = ap (λ (js : List ℕ). add_all js gs bs) (drop_all i is l)

pub one_home : (is : List ℕ) (i h : ℕ) (gs new : List Gathered) (turned rest : List Branch) (b : Branch) → i < length is → h ≡ get_or is i h → turned ≡ rest ++ b ∷ [] → new ≡ add_at h b.term (skeleton_of b.rest) gs
    → add_all (drop (i + 1) is) new (pairs_of (reverse rest)) ≡ add_all (drop i is) gs (pairs_of (reverse turned))
one_home is i h gs new turned rest b l e f k =
    ap (λ (xs : List Gathered). add_all (drop (i + 1) is) xs (pairs_of (reverse rest))) k
    ∙ ap (λ (p : Move × Skeleton). add_all (drop (i + 1) is) (add_at h p.0 p.1 gs) (pairs_of (reverse rest))) (sym (branch_is b))
    ∙ ap (λ (j : ℕ). add_all (j ∷ drop (i + 1) is) gs (branch_of b ∷ pairs_of (reverse rest))) e
    ∙ sym (ap (λ (js : List ℕ). add_all js gs (branch_of b ∷ pairs_of (reverse rest))) (drop_more is i h l))
    ∙ sym (ap (λ (bs : List Branch). add_all (drop i is) gs (pairs_of bs)) (first_turned turned rest b f))
