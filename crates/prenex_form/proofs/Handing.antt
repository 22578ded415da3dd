-- Places that are handed out in order are the places of the merged prefix.
use Rattle.std.specs.Prelude.{ℕ, zero, suc, ◌+◌, ◌≡◌, ◌≤◌, ◌<◌, List, [], ◌∷◌, ◌++◌, length, get_or, take}
use Rattle.std.proofs.Common.{arith, ap, ap₂, ◌∙◌, sym, subst, refl, length-append, append_assoc}
use Rattle.std.proofs.lemmas.List.{append-nil, take_more, take_at, get_or_at, length_push}
use Rattle.lin_term.specs.Literal.{rename_lit}
use Rattle.dom_core.specs.Game.{lit, all, some, more, flip}
use Rattle.dom_core.specs.declared.Quant.{Quant}
use Rattle.dom_core.specs.declared.Quant.TheVariants.{Exists}
use Rattle.lin_term.specs.declared.Sort.{Sort}
use Rattle.norm_form.specs.Normal.{Normal, one_lit, each_of, some_of, for_all, there_is, Normals, no_part, part, IsNormal}
use Rattle.prenex_form.specs.Prenex.{merge, front_exists, front_forall, Mark, left, right, lefts_then, rights_then, marks_right, marks, left_names, right_names, first_places, prenex, prenex_parts}
use Rattle.prenex_form.specs.Place.{named, placed, placed_parts}
use Rattle.prenex_form.specs.Pass.{under_all, bump, taken, put, put_parts, starts, from, places, sum_of}
use Rattle.prenex_form.proofs.Lengths.{quants_length}
use Rattle.prenex_form.proofs.Placing.{one_pass}
use Rattle.prenex_form.proofs.Blocks.{zeros, shift, taken_is, after_all, under_all_is}

from_two : (x b c : ℕ) → from x (b + c) ≡ from x b ++ from (x + b) c
from_two x zero c = let e : zero + c ≡ c = omega arith in let f : x ≡ x + zero = omega arith in ap₂ from f e
from_two x (suc b) c =
    let e : suc b + c ≡ suc (b + c) = omega arith in
    let f : suc x + b ≡ x + suc b = omega arith in
    ap (from x) e ∙ ap (λ (xs : List ℕ). x ∷ xs) (from_two (suc x) b c ∙ ap (λ (y : ℕ). from (suc x) b ++ from y c) f)

-- ---- what each mark takes of the places of the whole

abbrev pub lefts_of : List Mark → List ℕ → List ℕ
lefts_of [] xs = []
lefts_of (left q ∷ ms) [] = []
lefts_of (left q ∷ ms) (x ∷ xs) = x ∷ lefts_of ms xs
lefts_of (right q ∷ ms) [] = []
lefts_of (right q ∷ ms) (x ∷ xs) = lefts_of ms xs

abbrev pub rights_of : List Mark → List ℕ → List ℕ
rights_of [] xs = []
rights_of (left q ∷ ms) [] = []
rights_of (left q ∷ ms) (x ∷ xs) = rights_of ms xs
rights_of (right q ∷ ms) [] = []
rights_of (right q ∷ ms) (x ∷ xs) = x ∷ rights_of ms xs

lefts_left : (n : ℕ) (q : Quant) (ms : List Mark) (x : ℕ) (xs : List ℕ) → lefts_of (lefts_then n q ms) (from x n ++ xs) ≡ from x n ++ lefts_of ms xs
lefts_left zero q ms x xs = refl
lefts_left (suc n) q ms x xs = ap (λ (ys : List ℕ). x ∷ ys) (lefts_left n q ms (suc x) xs)

lefts_right : (n : ℕ) (q : Quant) (ms : List Mark) (x : ℕ) (xs : List ℕ) → lefts_of (rights_then n q ms) (from x n ++ xs) ≡ lefts_of ms xs
lefts_right zero q ms x xs = refl
lefts_right (suc n) q ms x xs = lefts_right n q ms (suc x) xs

rights_left : (n : ℕ) (q : Quant) (ms : List Mark) (x : ℕ) (xs : List ℕ) → rights_of (lefts_then n q ms) (from x n ++ xs) ≡ rights_of ms xs
rights_left zero q ms x xs = refl
rights_left (suc n) q ms x xs = rights_left n q ms (suc x) xs

rights_right : (n : ℕ) (q : Quant) (ms : List Mark) (x : ℕ) (xs : List ℕ) → rights_of (rights_then n q ms) (from x n ++ xs) ≡ from x n ++ rights_of ms xs
rights_right zero q ms x xs = refl
rights_right (suc n) q ms x xs = ap (λ (ys : List ℕ). x ∷ ys) (rights_right n q ms (suc x) xs)

append_two : (x b c : ℕ) (xs : List ℕ) → from x (b + c) ++ xs ≡ from x b ++ (from (x + b) c ++ xs)
append_two x b c xs = ap (λ (ys : List ℕ). ys ++ xs) (from_two x b c) ∙ append_assoc (from x b) (from (x + b) c) xs

merge_none : (bs : List ℕ) → merge bs [] ≡ bs
merge_none [] = refl
merge_none (b ∷ bs) = refl

no_lefts : (q : Quant) (cs next : List ℕ) (d : ℕ) → lefts_of (marks_right q cs) (places next d cs) ≡ []
no_lefts q [] next d = refl
no_lefts q (c ∷ cs) next d = lefts_right c q (marks_right (flip q) cs) (get_or next d 0) (places next (suc d) cs) ∙ no_lefts (flip q) cs next (suc d)

all_rights : (q : Quant) (cs next : List ℕ) (d : ℕ) → rights_of (marks_right q cs) (places next d cs) ≡ places next d cs
all_rights q [] next d = refl
all_rights q (c ∷ cs) next d =
    rights_right c q (marks_right (flip q) cs) (get_or next d 0) (places next (suc d) cs) ∙ ap (λ (xs : List ℕ). from (get_or next d 0) c ++ xs) (all_rights (flip q) cs next (suc d))

pub left_places : (q : Quant) (bs cs next : List ℕ) (d : ℕ) → lefts_of (marks q bs cs) (places next d (merge bs cs)) ≡ places next d bs
left_places q [] cs next d = no_lefts q cs next d
left_places q (b ∷ bs) [] next d =
    lefts_left b q (marks (flip q) bs []) (get_or next d 0) (places next (suc d) bs)
    ∙ ap (λ (xs : List ℕ). from (get_or next d 0) b ++ xs) (ap (λ (ys : List ℕ). lefts_of (marks (flip q) bs []) (places next (suc d) ys)) (sym (merge_none bs)) ∙ left_places (flip q) bs [] next (suc d))
left_places q (b ∷ bs) (c ∷ cs) next d =
    let x = get_or next d 0 in
    let rest = places next (suc d) (merge bs cs) in
    ap (lefts_of (marks q (b ∷ bs) (c ∷ cs))) (append_two x b c rest)
    ∙ lefts_left b q (rights_then c q (marks (flip q) bs cs)) x (from (x + b) c ++ rest)
    ∙ ap (λ (xs : List ℕ). from x b ++ xs) (lefts_right c q (marks (flip q) bs cs) (x + b) rest ∙ left_places (flip q) bs cs next (suc d))

-- the places of the right part, behind those of the left
abbrev pub behind : List ℕ → ℕ → List ℕ → List ℕ → List ℕ
behind next d [] cs = places next d cs
behind next d (b ∷ bs) [] = []
behind next d (b ∷ bs) (c ∷ cs) = from (get_or next d 0 + b) c ++ behind next (suc d) bs cs

behind_none : (next : List ℕ) (d : ℕ) (bs : List ℕ) → behind next d bs [] ≡ []
behind_none next d [] = refl
behind_none next d (b ∷ bs) = refl

pub right_behind : (q : Quant) (bs cs next : List ℕ) (d : ℕ) → rights_of (marks q bs cs) (places next d (merge bs cs)) ≡ behind next d bs cs
right_behind q [] cs next d = all_rights q cs next d
right_behind q (b ∷ bs) [] next d =
    rights_left b q (marks (flip q) bs []) (get_or next d 0) (places next (suc d) bs)
    ∙ ap (λ (ys : List ℕ). rights_of (marks (flip q) bs []) (places next (suc d) ys)) (sym (merge_none bs))
    ∙ right_behind (flip q) bs [] next (suc d) ∙ behind_none next (suc d) bs
right_behind q (b ∷ bs) (c ∷ cs) next d =
    let x = get_or next d 0 in
    let rest = places next (suc d) (merge bs cs) in
    ap (rights_of (marks q (b ∷ bs) (c ∷ cs))) (append_two x b c rest)
    ∙ rights_left b q (rights_then c q (marks (flip q) bs cs)) x (from (x + b) c ++ rest)
    ∙ rights_right c q (marks (flip q) bs cs) (x + b) rest
    ∙ ap (λ (xs : List ℕ). from (x + b) c ++ xs) (right_behind (flip q) bs cs next (suc d))

-- ---- names of names

named_append : (names xs ys : List ℕ) → named names (xs ++ ys) ≡ named names xs ++ named names ys
named_append names [] ys = refl
named_append names (x ∷ xs) ys = ap (λ (zs : List ℕ). get_or names x 0 ∷ zs) (named_append names xs ys)

named_first : (names : List ℕ) (k : ℕ) → k ≤ length names → named names (first_places k) ≡ take k names
named_first names zero h = refl
named_first names (suc k) h =
    let e : k + 1 ≡ suc k = omega arith in
    named_append names (first_places k) (k ∷ [])
    ∙ ap (λ (xs : List ℕ). xs ++ get_or names k 0 ∷ []) (named_first names k (omega arith))
    ∙ sym (take_more names k 0 (omega arith)) ∙ ap (λ (n : ℕ). take n names) e

named_outer : (names xs : List ℕ) (k : ℕ) → length names ≡ k → named (names ++ xs) (first_places k) ≡ names
named_outer names xs k h =
    let l = length-append names xs in named_first (names ++ xs) k (omega arith) ∙ take_at names xs k h

snoc_more : (full front : List ℕ) (x : ℕ) (xs : List ℕ) → full ≡ front ++ x ∷ xs → full ≡ (front ++ x ∷ []) ++ xs
snoc_more full front x xs e = e ∙ sym (append_assoc front (x ∷ []) xs)

named_snoc : (full front acc : List ℕ) (k x : ℕ) (xs ys : List ℕ) → full ≡ front ++ x ∷ xs → length front ≡ k → named full (acc ++ k ∷ []) ++ ys ≡ named full acc ++ x ∷ ys
named_snoc full front acc k x xs ys e l =
    let g : get_or full k 0 ≡ x = ap (λ (zs : List ℕ). get_or zs k 0) e ∙ get_or_at front x xs 0 k l in
    ap (λ (zs : List ℕ). zs ++ ys) (named_append full acc (k ∷ []) ∙ ap (λ (y : ℕ). named full acc ++ y ∷ []) g)
    ∙ append_assoc (named full acc) (x ∷ []) ys

left_named : (full front acc : List ℕ) (k : ℕ) (ms : List Mark) (xs : List ℕ) → full ≡ front ++ xs → length front ≡ k → length ms ≤ length xs → named full (left_names acc k ms) ≡ named full acc ++ lefts_of ms xs
left_named full front acc k [] xs e l h = sym (append-nil (named full acc))
left_named full front acc k (left q ∷ ms) [] e l h = absurd (omega arith)
left_named full front acc k (right q ∷ ms) [] e l h = absurd (omega arith)
left_named full front acc k (left q ∷ ms) (x ∷ xs) e l h =
    let p = length_push front x in
    left_named full (front ++ x ∷ []) (acc ++ k ∷ []) (suc k) ms xs (snoc_more full front x xs e) (omega arith) (omega arith)
    ∙ named_snoc full front acc k x xs (lefts_of ms xs) e l
left_named full front acc k (right q ∷ ms) (x ∷ xs) e l h =
    let p = length_push front x in
    left_named full (front ++ x ∷ []) acc (suc k) ms xs (snoc_more full front x xs e) (omega arith) (omega arith)

right_named : (full front acc : List ℕ) (k : ℕ) (ms : List Mark) (xs : List ℕ) → full ≡ front ++ xs → length front ≡ k → length ms ≤ length xs → named full (right_names acc k ms) ≡ named full acc ++ rights_of ms xs
right_named full front acc k [] xs e l h = sym (append-nil (named full acc))
right_named full front acc k (left q ∷ ms) [] e l h = absurd (omega arith)
right_named full front acc k (right q ∷ ms) [] e l h = absurd (omega arith)
right_named full front acc k (right q ∷ ms) (x ∷ xs) e l h =
    let p = length_push front x in
    right_named full (front ++ x ∷ []) (acc ++ k ∷ []) (suc k) ms xs (snoc_more full front x xs e) (omega arith) (omega arith)
    ∙ named_snoc full front acc k x xs (rights_of ms xs) e l
right_named full front acc k (left q ∷ ms) (x ∷ xs) e l h =
    let p = length_push front x in
    right_named full (front ++ x ∷ []) acc (suc k) ms xs (snoc_more full front x xs e) (omega arith) (omega arith)

-- ---- as many marks as places

from_length : (x n : ℕ) → length (from x n) ≡ n
from_length x zero = refl
from_length x (suc n) = let h = from_length (suc x) n in omega arith

then_length : (n : ℕ) (q : Quant) (ms : List Mark) → length (lefts_then n q ms) ≡ n + length ms
then_length zero q ms = omega arith
then_length (suc n) q ms = let h = then_length n q ms in omega arith

rights_length : (n : ℕ) (q : Quant) (ms : List Mark) → length (rights_then n q ms) ≡ n + length ms
rights_length zero q ms = omega arith
rights_length (suc n) q ms = let h = rights_length n q ms in omega arith

places_length : (next : List ℕ) (d b : ℕ) (bs : List ℕ) → length (places next d (b ∷ bs)) ≡ b + length (places next (suc d) bs)
places_length next d b bs =
    let l = length-append (from (get_or next d 0) b) (places next (suc d) bs) in let f = from_length (get_or next d 0) b in omega arith

right_marks_length : (q : Quant) (cs next : List ℕ) (d : ℕ) → length (marks_right q cs) ≡ length (places next d cs)
right_marks_length q [] next d = refl
right_marks_length q (c ∷ cs) next d =
    let h = right_marks_length (flip q) cs next (suc d) in
    let p = places_length next d c cs in
    let r = rights_length c q (marks_right (flip q) cs) in omega arith

marks_length : (q : Quant) (bs cs next : List ℕ) (d : ℕ) → length (marks q bs cs) ≡ length (places next d (merge bs cs))
marks_length q [] cs next d = right_marks_length q cs next d
marks_length q (b ∷ bs) [] next d =
    let h = marks_length (flip q) bs [] next (suc d) in
    let e = ap (λ (xs : List ℕ). length (places next (suc d) xs)) (merge_none bs) in
    let p = places_length next d b bs in
    let r = then_length b q (marks (flip q) bs []) in omega arith
marks_length q (b ∷ bs) (c ∷ cs) next d =
    let h = marks_length (flip q) bs cs next (suc d) in
    let p = places_length next d (b + c) (merge bs cs) in
    let r = rights_length c q (marks (flip q) bs cs) in
    let s = then_length b q (rights_then c q (marks (flip q) bs cs)) in omega arith

-- the names of the left part are the outer ones and its own places
pub left_own : (names next : List ℕ) (d k : ℕ) (bs cs : List ℕ) → length names ≡ k → named (names ++ places next d (merge bs cs)) (left_names (first_places k) k (marks Exists bs cs)) ≡ names ++ places next d bs
left_own names next d k bs cs l =
    let xs = places next d (merge bs cs) in
    let h = marks_length Exists bs cs next d in
    left_named (names ++ xs) names (first_places k) k (marks Exists bs cs) xs refl l (omega arith)
    ∙ ap₂ (λ (ys zs : List ℕ). ys ++ zs) (named_outer names xs k l) (left_places Exists bs cs next d)

right_own : (names next : List ℕ) (d k : ℕ) (bs cs : List ℕ) → length names ≡ k → named (names ++ places next d (merge bs cs)) (right_names (first_places k) k (marks Exists bs cs)) ≡ names ++ behind next d bs cs
right_own names next d k bs cs l =
    let xs = places next d (merge bs cs) in
    let h = marks_length Exists bs cs next d in
    right_named (names ++ xs) names (first_places k) k (marks Exists bs cs) xs refl l (omega arith)
    ∙ ap₂ (λ (ys zs : List ℕ). ys ++ zs) (named_outer names xs k l) (right_behind Exists bs cs next d)

-- ---- after the left part

merged_get : (xs ys : List ℕ) (i : ℕ) → get_or (merge xs ys) i 0 ≡ get_or xs i 0 + get_or ys i 0
merged_get [] ys i = omega arith
merged_get (x ∷ xs) [] zero = omega arith
merged_get (x ∷ xs) [] (suc i) = omega arith
merged_get (x ∷ xs) (y ∷ ys) zero = refl
merged_get (x ∷ xs) (y ∷ ys) (suc i) = merged_get xs ys i

zeros_get : (d : ℕ) (bs : List ℕ) (i : ℕ) → get_or (zeros d bs) (d + i) 0 ≡ get_or bs i 0
zeros_get zero bs i = let e : zero + i ≡ i = omega arith in ap (λ (n : ℕ). get_or bs n 0) e
zeros_get (suc d) bs i = let e : suc d + i ≡ suc (d + i) = omega arith in ap (λ (n : ℕ). get_or (zeros (suc d) bs) n 0) e ∙ zeros_get d bs i

shift_get : (d : ℕ) (bs : List ℕ) (i : ℕ) → get_or (shift d bs) (d + i) 0 ≡ get_or bs i 0
shift_get d [] i = refl
shift_get d (b ∷ bs) i = zeros_get d (b ∷ bs) i

places_same : (next late : List ℕ) (d : ℕ) (bs : List ℕ) → ((i : ℕ) → get_or next (d + i) 0 ≡ get_or late (d + i) 0) → places next d bs ≡ places late d bs
places_same next late d [] h = refl
places_same next late d (b ∷ bs) h =
    let e : d + 0 ≡ d = omega arith in
    let f : get_or next d 0 ≡ get_or late d 0 = subst (λ (n : ℕ). get_or next n 0 ≡ get_or late n 0) e (h 0) in
    ap₂ (λ (x : ℕ) (xs : List ℕ). from x b ++ xs) f
    (places_same next late (suc d) bs (λ i. let g : d + suc i ≡ suc d + i = omega arith in subst (λ (n : ℕ). get_or next n 0 ≡ get_or late n 0) g (h (suc i))))

-- what stands at d and on is what stood there and the blocks
behind_is : (next late : List ℕ) (d : ℕ) (bs cs : List ℕ) → ((i : ℕ) → get_or late (d + i) 0 ≡ get_or next (d + i) 0 + get_or bs i 0) → places late d cs ≡ behind next d bs cs
behind_is next late d [] cs h = places_same late next d cs (λ i. let e = h i in omega arith)
behind_is next late d (b ∷ bs) [] h = refl
behind_is next late d (b ∷ bs) (c ∷ cs) h =
    let e : d + 0 ≡ d = omega arith in
    let f : get_or late d 0 ≡ get_or next d 0 + b = subst (λ (n : ℕ). get_or late n 0 ≡ get_or next n 0 + b) e (h 0) in
    ap₂ (λ (x : ℕ) (xs : List ℕ). from x c ++ xs) f
    (behind_is next late (suc d) bs cs (λ i. let g : d + suc i ≡ suc d + i = omega arith in subst (λ (n : ℕ). get_or late n 0 ≡ get_or next n 0 + get_or bs i 0) g (h (suc i))))

pub after_left : (n : Normal) (next : List ℕ) (d k : ℕ) (cs : List ℕ) → places (taken n d next) d cs ≡ behind next d (prenex n k).blocks cs
after_left n next d k cs =
    let bs = (prenex n k).blocks in
    behind_is next (taken n d next) d bs cs (λ i. ap (λ (xs : List ℕ). get_or xs (d + i) 0) (taken_is n d k next) ∙ merged_get next (shift d bs) (d + i) ∙ ap (λ (x : ℕ). get_or next (d + i) 0 + x) (shift_get d bs i))

-- the places that are left for the parts behind the first
pub rest_own : (n : Normal) (ns : Normals) (names next : List ℕ) (d k : ℕ) → length names ≡ k → named (names ++ places next d (merge (prenex n k).blocks (prenex_parts ns k).blocks)) (right_names (first_places k) k (marks Exists (prenex n k).blocks (prenex_parts ns k).blocks)) ≡ names ++ places (taken n d next) d (prenex_parts ns k).blocks
rest_own n ns names next d k l =
    right_own names next d k (prenex n k).blocks (prenex_parts ns k).blocks l ∙ ap (λ (xs : List ℕ). names ++ xs) (sym (after_left n next d k (prenex_parts ns k).blocks))

-- ---- under a binder

bump_here : (next : List ℕ) (i : ℕ) → get_or (bump next i) i 0 ≡ suc (get_or next i 0)
bump_here [] zero = refl
bump_here [] (suc i) = bump_here [] i
bump_here (x ∷ xs) zero = refl
bump_here (x ∷ xs) (suc i) = bump_here xs i

bump_past : (next : List ℕ) (i j : ℕ) → i < j → get_or (bump next i) j 0 ≡ get_or next j 0
bump_past next i zero h = absurd (omega arith)
bump_past [] zero (suc j) h = refl
bump_past [] (suc i) (suc j) h = bump_past [] i j (omega arith)
bump_past (x ∷ xs) zero (suc j) h = refl
bump_past (x ∷ xs) (suc i) (suc j) h = bump_past xs i j (omega arith)

bump_before : (next : List ℕ) (i j : ℕ) → j < i → get_or (bump next i) j 0 ≡ get_or next j 0
bump_before next zero j h = absurd (omega arith)
bump_before [] (suc i) zero h = refl
bump_before [] (suc i) (suc j) h = bump_before [] i j (omega arith)
bump_before (x ∷ xs) (suc i) zero h = refl
bump_before (x ∷ xs) (suc i) (suc j) h = bump_before xs i j (omega arith)

-- places past the bumped block stay
places_past : (next : List ℕ) (i d : ℕ) (bs : List ℕ) → i < d → places (bump next i) d bs ≡ places next d bs
places_past next i d bs h = places_same (bump next i) next d bs (λ j. bump_past next i (d + j) (omega arith))

exists_places : (next : List ℕ) (d : ℕ) (bs : List ℕ) → get_or next d 0 ∷ places (bump next d) d bs ≡ places next d (front_exists bs)
exists_places next d [] = refl
exists_places next d (b ∷ bs) =
    ap₂ (λ (x : ℕ) (xs : List ℕ). get_or next d 0 ∷ (from x b ++ xs)) (bump_here next d) (places_past next d (suc d) bs (omega arith))

forall_places : (next : List ℕ) (d : ℕ) (bs : List ℕ) → get_or next (suc d) 0 ∷ places (bump next (suc d)) (after_all bs d) bs ≡ places next d (front_forall bs)
forall_places next d [] = refl
forall_places next d (zero ∷ []) = refl
forall_places next d (zero ∷ c ∷ bs) =
    ap₂ (λ (x : ℕ) (xs : List ℕ). get_or next (suc d) 0 ∷ (from x c ++ xs)) (bump_here next (suc d)) (places_past next (suc d) (suc (suc d)) bs (omega arith))
forall_places next d (suc b ∷ bs) =
    ap (λ (xs : List ℕ). get_or next (suc d) 0 ∷ xs) (places_past next (suc d) (suc (suc d)) (suc b ∷ bs) (omega arith))

pub there_own : (n : Normal) (names next : List ℕ) (d k : ℕ) → (names ++ get_or next d 0 ∷ []) ++ places (bump next d) d (prenex n (suc k)).blocks ≡ names ++ places next d (prenex (there_is n) k).blocks
there_own n names next d k =
    append_assoc names (get_or next d 0 ∷ []) (places (bump next d) d (prenex n (suc k)).blocks)
    ∙ ap (λ (xs : List ℕ). names ++ xs) (exists_places next d (prenex n (suc k)).blocks)

pub all_own : (n : Normal) (names next : List ℕ) (d k : ℕ) → (names ++ get_or next (suc d) 0 ∷ []) ++ places (bump next (suc d)) (under_all n d) (prenex n (suc k)).blocks ≡ names ++ places next d (prenex (for_all n) k).blocks
all_own n names next d k =
    append_assoc names (get_or next (suc d) 0 ∷ []) (places (bump next (suc d)) (under_all n d) (prenex n (suc k)).blocks)
    ∙ ap (λ (xs : List ℕ). names ++ xs)
    (ap (λ (e : ℕ). get_or next (suc d) 0 ∷ places (bump next (suc d)) e (prenex n (suc k)).blocks) (under_all_is n d (suc k)) ∙ forall_places next d (prenex n (suc k)).blocks)

-- ---- the matrix

pub push_count : (names : List ℕ) (x k : ℕ) → length names ≡ k → length (names ++ x ∷ []) ≡ suc k
push_count names x k l = let p = length_push names x in omega arith

mutual
  pub put_is : (n : Normal) (d k : ℕ) (next names : List ℕ) → length names ≡ k → put n d next names ≡ placed n k (names ++ places next d (prenex n k).blocks)
  put_is (one_lit l) d k next names h = ap (λ (xs : List ℕ). lit (rename_lit xs l)) (sym (append-nil names))
  put_is (each_of ns) d k next names h = ap all (put_parts_are ns d k next names h)
  put_is (some_of ns) d k next names h = ap some (put_parts_are ns d k next names h)
  put_is (for_all n) d k next names h =
      put_is n (under_all n d) (suc k) (bump next (suc d)) (names ++ get_or next (suc d) 0 ∷ []) (push_count names (get_or next (suc d) 0) k h)
      ∙ ap (placed n (suc k)) (all_own n names next d k)
  put_is (there_is n) d k next names h =
      put_is n d (suc k) (bump next d) (names ++ get_or next d 0 ∷ []) (push_count names (get_or next d 0) k h)
      ∙ ap (placed n (suc k)) (there_own n names next d k)

  pub put_parts_are : (ns : Normals) (d k : ℕ) (next names : List ℕ) → length names ≡ k → put_parts ns d next names ≡ placed_parts ns k (names ++ places next d (prenex_parts ns k).blocks)
  put_parts_are no_part d k next names h = refl
  put_parts_are (part n ns) d k next names h =
      ap₂ more
      (put_is n d k next names h ∙ ap (placed n k) (sym (left_own names next d k (prenex n k).blocks (prenex_parts ns k).blocks h)))
      (put_parts_are ns d k (taken n d next) names h ∙ ap (placed_parts ns k) (sym (rest_own n ns names next d k h)))

-- ---- from the first places of the blocks

places_later : (x : ℕ) (next : List ℕ) (d : ℕ) (bs : List ℕ) → places (x ∷ next) (suc d) bs ≡ places next d bs
places_later x next d [] = refl
places_later x next d (b ∷ bs) = ap (λ (xs : List ℕ). from (get_or next d 0) b ++ xs) (places_later x next (suc d) bs)

pub starts_places : (s : ℕ) (bs : List ℕ) → places (starts s bs) 0 bs ≡ from s (sum_of bs)
starts_places s [] = refl
starts_places s (b ∷ bs) =
    ap (λ (xs : List ℕ). from s b ++ xs) (places_later s (starts (s + b) bs) 0 bs ∙ starts_places (s + b) bs) ∙ sym (from_two s b (sum_of bs))

first_from : (n : ℕ) → first_places n ≡ from 0 n
first_from zero = refl
first_from (suc n) =
    let e : n + 1 ≡ suc n = omega arith in
    let f : 0 + n ≡ n = omega arith in
    ap (λ (xs : List ℕ). xs ++ n ∷ []) (first_from n) ∙ ap (λ (x : ℕ). from 0 n ++ x ∷ []) (sym f) ∙ sym (from_two 0 n 1) ∙ ap (from 0) e

-- counted and handed out from nothing, it is the matrix
pub whole_put : (n : Normal) (s : Sort) → IsNormal n s 0 → put n 0 (starts 0 (prenex n 0).blocks) [] ≡ (prenex n 0).body
whole_put n s o =
    let bs = (prenex n 0).blocks in
    put_is n 0 0 (starts 0 bs) [] refl
    ∙ ap (placed n 0) (starts_places 0 bs ∙ sym (first_from (sum_of bs)) ∙ ap first_places (sym (quants_length Exists bs)))
    ∙ one_pass n s o
