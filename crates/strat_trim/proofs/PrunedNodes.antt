-- The nodes of the chosen paths, with their new numbers.
use Rattle.std.specs.Prelude.{ℕ, zero, suc, ◌+◌, ◌<◌, ◌≤◌, ◌≡◌, Bool, true, false, cond, if◌then◌else◌, Some, slice_get, List, [], ◌∷◌, ◌++◌, map, get_or, length, ⊤}
use Rattle.std.specs.List.{AllByRecursion}
use Rattle.std.proofs.Common.{arith, ap, ap₂, ◌∙◌, sym, subst, refl, append_assoc, length-append}
use Rattle.std.proofs.lemmas.List.{map-append}
use Rattle.game_tree.specs.Skeleton.{Skeleton, end, theirs, mine, Branches, no_more, branch, nodes, branch_nodes, paths}
use Rattle.lose_system.specs.Losing.{routes, branch_routes}
use Rattle.cube_rules.proofs.Sound.{some_same}
use Rattle.strat_trim.specs.Trimmed.{has_path, some_has_path, only, prune, prune_branches, on_path, each_on_path, numbers, marked}
use Rattle.strat_trim.proofs.PrunedPaths.{or_false, only-append, only_no_path, length_routes}

-- ---- a list that stands in another one

abbrev pub Agree : {A : Type 0} → A → List A → ℕ → List A → Type 0
Agree {A} d all v [] = ⊤
Agree {A} d all v (x ∷ xs) = (get_or all v d ≡ x) × Agree d all (suc v) xs

pub agree_left : {A : Type 0} (d : A) (all : List A) (v : ℕ) (xs ys : List A) → Agree d all v (xs ++ ys) → Agree d all v xs
agree_left d all v [] ys a = tt
agree_left d all v (x ∷ xs) ys a = (a.0, agree_left d all (suc v) xs ys a.1)

pub agree_right : {A : Type 0} (d : A) (all : List A) (v : ℕ) (xs ys : List A) → Agree d all v (xs ++ ys) → Agree d all (v + length xs) ys
agree_right d all v [] ys a = subst (λ (i : ℕ). Agree d all i ys) (let e : v ≡ v + 0 = omega arith in e) a
agree_right d all v (x ∷ xs) ys a =
    subst (λ (i : ℕ). Agree d all i ys) (let e : suc v + length xs ≡ v + suc (length xs) = omega arith in e) (agree_right d all (suc v) xs ys a.1)

get_behind : {A : Type 0} (d : A) (pre xs : List A) (x : A) → get_or (pre ++ x ∷ xs) (length pre) d ≡ x
get_behind d [] xs x = refl
get_behind d (y ∷ pre) xs x = get_behind d pre xs x

agree_behind : {A : Type 0} (d : A) (all pre xs : List A) → all ≡ pre ++ xs → Agree d all (length pre) xs
agree_behind d all pre [] e = tt
agree_behind d all pre (x ∷ xs) e = (
  ap (λ (ys : List _). get_or ys (length pre) d) e ∙ get_behind d pre xs x,
  subst (λ (i : ℕ). Agree d all i xs) (let l = length-append pre (x ∷ []) in let q : length (pre ++ x ∷ []) ≡ suc (length pre) = omega arith in q)
      (agree_behind d all (pre ++ x ∷ []) xs (e ∙ sym (append_assoc pre (x ∷ []) xs))),
)

pub agree_all : {A : Type 0} (d : A) (all : List A) → Agree d all 0 all
agree_all d all = agree_behind d all [] all refl

pub agree_at : {A : Type 0} (d : A) (all : List A) (v : ℕ) (xs : List A) (i : ℕ) → Agree d all v xs → i < length xs → get_or all (v + i) d ≡ get_or xs i d
agree_at d all v [] i a l = absurd (omega arith)
agree_at d all v (x ∷ xs) zero a l = ap (λ (i : ℕ). get_or all i d) (let e : v + 0 ≡ v = omega arith in e) ∙ a.0
agree_at d all v (x ∷ xs) (suc i) a l =
    ap (λ (i : ℕ). get_or all i d) (let e : v + suc i ≡ suc v + i = omega arith in e) ∙ agree_at d all (suc v) xs i a.1 (omega arith)

-- ---- counts

abbrev pub count_marked : List Bool → ℕ
count_marked [] = 0
count_marked (b ∷ bs) = if b then suc (count_marked bs) else count_marked bs

count-append : (xs ys : List Bool) → count_marked (xs ++ ys) ≡ count_marked xs + count_marked ys
count-append [] ys = omega arith
count-append (true ∷ xs) ys = let h = count-append xs ys in omega arith
count-append (false ∷ xs) ys = count-append xs ys

numbers-append : (n : ℕ) (fs bs : List Bool) → numbers n (fs ++ bs) ≡ numbers n fs ++ numbers (n + count_marked fs) bs
numbers-append n [] bs = ap (λ (i : ℕ). numbers i bs) (let e : n ≡ n + 0 = omega arith in e)
numbers-append n (true ∷ fs) bs =
    ap (λ (ns : List ℕ). n ∷ ns) (numbers-append (suc n) fs bs ∙ ap (λ (i : ℕ). numbers (suc n) fs ++ numbers i bs) (let e : suc n + count_marked fs ≡ n + suc (count_marked fs) = omega arith in e))
numbers-append n (false ∷ fs) bs = ap (λ (ns : List ℕ). n ∷ ns) (numbers-append n fs bs)

pub length-numbers : (n : ℕ) (bs : List Bool) → length (numbers n bs) ≡ length bs
length-numbers n [] = refl
length-numbers n (b ∷ bs) = ap suc (length-numbers (if b then suc n else n) bs)

-- the numbers ascend at the marked, and are below the count of these
pub number_least : (n : ℕ) (bs : List Bool) (i : ℕ) → i < length bs → n ≤ get_or (numbers n bs) i 0
number_least n [] i l = absurd (omega arith)
number_least n (b ∷ bs) zero l = omega arith
number_least n (true ∷ bs) (suc i) l = let h = number_least (suc n) bs i (omega arith) in omega arith
number_least n (false ∷ bs) (suc i) l = number_least n bs i (omega arith)

pub marked_inside : (bs : List Bool) (i : ℕ) → marked bs i ≡ true → i < length bs
marked_inside [] i e = absurd (cc)
marked_inside (b ∷ bs) zero e = omega arith
marked_inside (b ∷ bs) (suc i) e = let h = marked_inside bs i e in omega arith

pub numbers_rise : (n : ℕ) (bs : List Bool) (i j : ℕ) → marked bs i ≡ true → marked bs j ≡ true → i < j → get_or (numbers n bs) i 0 < get_or (numbers n bs) j 0
numbers_rise n [] i j a b l = absurd (cc)
numbers_rise n (b ∷ bs) i zero a c l = absurd (omega arith)
numbers_rise n (true ∷ bs) zero (suc j) a c l = let h = number_least (suc n) bs j (marked_inside bs j c) in omega arith
numbers_rise n (false ∷ bs) zero (suc j) a c l = absurd (cc)
numbers_rise n (true ∷ bs) (suc i) (suc j) a c l = numbers_rise (suc n) bs i j a c (omega arith)
numbers_rise n (false ∷ bs) (suc i) (suc j) a c l = numbers_rise n bs i j a c (omega arith)

pub numbers_below : (n : ℕ) (bs : List Bool) (i : ℕ) → marked bs i ≡ true → get_or (numbers n bs) i 0 < n + count_marked bs
numbers_below n [] i a = absurd (cc)
numbers_below n (true ∷ bs) zero a = omega arith
numbers_below n (false ∷ bs) zero a = absurd (cc)
numbers_below n (true ∷ bs) (suc i) a = let h = numbers_below (suc n) bs i a in omega arith
numbers_below n (false ∷ bs) (suc i) a = numbers_below n bs i a

-- a number is at most what it was
pub numbers_fewer : (n : ℕ) (bs : List Bool) (i : ℕ) → get_or (numbers n bs) i 0 ≤ n + i
numbers_fewer n [] i = omega arith
numbers_fewer n (b ∷ bs) zero = omega arith
numbers_fewer n (true ∷ bs) (suc i) = let h = numbers_fewer (suc n) bs i in omega arith
numbers_fewer n (false ∷ bs) (suc i) = let h = numbers_fewer n bs i in omega arith

-- ---- the nodes that are left

mutual
  pub length-on_path : (t : Skeleton) (c : ℕ → Bool) (k : ℕ) → length (on_path t c k) ≡ nodes t
  length-on_path end c k = refl
  length-on_path (theirs t) c k = let h = length-on_path t c k in omega arith
  length-on_path (mine bs) c k = length-each_on_path bs c k

  pub length-each_on_path : (bs : Branches) (c : ℕ → Bool) (k : ℕ) → length (each_on_path bs c k) ≡ branch_nodes bs
  length-each_on_path no_more c k = refl
  length-each_on_path (branch m t bs) c k =
      let a = length-append (has_path t c k ∷ on_path t c k) (each_on_path bs c (k + length (paths t))) in
      let b = length-on_path t c k in
      let d = length-each_on_path bs c (k + length (paths t)) in
      omega arith

mutual
  count_none : (t : Skeleton) (c : ℕ → Bool) (k : ℕ) → has_path t c k ≡ false → count_marked (on_path t c k) ≡ 0
  count_none end c k e = refl
  count_none (theirs t) c k e = ap (λ (b : Bool). cond b (suc (count_marked (on_path t c k))) (count_marked (on_path t c k))) e ∙ count_none t c k e
  count_none (mine bs) c k e = each_count_none bs c k e

  each_count_none : (bs : Branches) (c : ℕ → Bool) (k : ℕ) → some_has_path bs c k ≡ false → count_marked (each_on_path bs c k) ≡ 0
  each_count_none no_more c k e = refl
  each_count_none (branch m t bs) c k e =
      let p = or_false (has_path t c k) (some_has_path bs c (k + length (paths t))) e in
      let a = count-append (has_path t c k ∷ on_path t c k) (each_on_path bs c (k + length (paths t))) in
      let f : count_marked (has_path t c k ∷ on_path t c k) ≡ count_marked (on_path t c k) = ap (λ (b : Bool). cond b (suc (count_marked (on_path t c k))) (count_marked (on_path t c k))) p.0 in
      let g = count_none t c k p.0 in
      let h = each_count_none bs c (k + length (paths t)) p.1 in
      omega arith

mutual
  pub count_left : (t : Skeleton) (c : ℕ → Bool) (k : ℕ) → has_path t c k ≡ true → count_marked (on_path t c k) ≡ nodes (prune t c k)
  count_left end c k e = refl
  count_left (theirs t) c k e =
      let a : count_marked (has_path t c k ∷ on_path t c k) ≡ suc (count_marked (on_path t c k)) = ap (λ (b : Bool). cond b (suc (count_marked (on_path t c k))) (count_marked (on_path t c k))) e in
      let h = count_left t c k e in
      omega arith
  count_left (mine bs) c k e = each_count_left bs c k

  pub each_count_left : (bs : Branches) (c : ℕ → Bool) (k : ℕ) → count_marked (each_on_path bs c k) ≡ branch_nodes (prune_branches bs c k)
  each_count_left no_more c k = refl
  each_count_left (branch m t bs) c k =
      count-append (has_path t c k ∷ on_path t c k) (each_on_path bs c (k + length (paths t)))
      ∙ by (has_path t c k) refl (count_left t c k) (each_count_left bs c (k + length (paths t)))
    where
      by : (b : Bool) → has_path t c k ≡ b → (has_path t c k ≡ true → count_marked (on_path t c k) ≡ nodes (prune t c k)) → count_marked (each_on_path bs c (k + length (paths t))) ≡ branch_nodes (prune_branches bs c (k + length (paths t))) → cond b (suc (count_marked (on_path t c k))) (count_marked (on_path t c k)) + count_marked (each_on_path bs c (k + length (paths t))) ≡ branch_nodes (cond b (branch m (prune t c k) (prune_branches bs c (k + length (paths t)))) (prune_branches bs c (k + length (paths t))))
      by true e f g = let h = f e in omega arith
      by false e f g = let h = count_none t c k e in omega arith

-- ---- their new numbers, from node v on, which gets the number n

abbrev pub new_of : List ℕ → ℕ → ℕ
new_of new v = get_or new v 0

abbrev pub names_at : List ℕ → List ℕ → List ℕ
names_at new names = map (new_of new) names

abbrev pub Numbered : List ℕ → ℕ → ℕ → List Bool → Type 0
Numbered new v n marks = Agree 0 new v (numbers n marks)

-- the first is left
pub numbered_kept : (new : List ℕ) (v n : ℕ) (b : Bool) (marks : List Bool) → b ≡ true → Numbered new v n (b ∷ marks) → (new_of new v ≡ n) × Numbered new (suc v) (suc n) marks
numbered_kept new v n b marks e a = (a.0, subst (λ (x : Bool). Agree 0 new (suc v) (numbers (if x then suc n else n) marks)) e a.1)

pub numbered_dropped : (new : List ℕ) (v n : ℕ) (b : Bool) (marks : List Bool) → b ≡ false → Numbered new v n (b ∷ marks) → Numbered new (suc v) n marks
numbered_dropped new v n b marks e a = subst (λ (x : Bool). Agree 0 new (suc v) (numbers (if x then suc n else n) marks)) e a.1

pub numbered_left : (new : List ℕ) (v n : ℕ) (fs bs : List Bool) → Numbered new v n (fs ++ bs) → Numbered new v n fs
numbered_left new v n fs bs a =
    agree_left 0 new v (numbers n fs) (numbers (n + count_marked fs) bs) (subst (λ (ns : List ℕ). Agree 0 new v ns) (numbers-append n fs bs) a)

pub numbered_right : (new : List ℕ) (v n w m : ℕ) (fs bs : List Bool) → v + length fs ≡ w → n + count_marked fs ≡ m → Numbered new v n (fs ++ bs) → Numbered new w m bs
numbered_right new v n w m fs bs e f a =
    let r = agree_right 0 new v (numbers n fs) (numbers (n + count_marked fs) bs) (subst (λ (ns : List ℕ). Agree 0 new v ns) (numbers-append n fs bs) a) in
    let l = length-numbers n fs in
    subst (λ (i : ℕ). Agree 0 new w (numbers i bs)) f (subst (λ (i : ℕ). Agree 0 new i (numbers (n + count_marked fs) bs)) (let q : v + length (numbers n fs) ≡ w = omega arith in q) r)

pub push_name : (new names : List ℕ) (v n : ℕ) → new_of new v ≡ n → names_at new names ++ n ∷ [] ≡ names_at new (names ++ v ∷ [])
push_name new names v n e = ap (λ (i : ℕ). names_at new names ++ i ∷ []) (sym e) ∙ sym (map-append (new_of new) names (v ∷ []))

-- what a branch that is left, and one that is not, leaves of the numbers
pub record Branched (new : List ℕ) (v n : ℕ) (t : Skeleton) (c : ℕ → Bool) (k : ℕ) (rest : List Bool) : Type 0 where
  pub here : new_of new v ≡ n
  pub below : Numbered new (suc v) (suc n) (on_path t c k)
  pub behind : Numbered new (suc v + nodes t) (suc n + nodes (prune t c k)) rest

pub branch_kept : (new : List ℕ) (v n : ℕ) (t : Skeleton) (c : ℕ → Bool) (k : ℕ) (rest : List Bool) → has_path t c k ≡ true → Numbered new v n ((has_path t c k ∷ on_path t c k) ++ rest) → Branched new v n t c k rest
branch_kept new v n t c k rest e a =
    let b = numbered_kept new v n (has_path t c k) (on_path t c k ++ rest) e a in
    let l = length-on_path t c k in
    let m = count_left t c k e in
    record {
      here = b.0;
      below = numbered_left new (suc v) (suc n) (on_path t c k) rest b.1;
      behind = numbered_right new (suc v) (suc n) (suc v + nodes t) (suc n + nodes (prune t c k)) (on_path t c k) rest (omega arith) (omega arith) b.1;
    }

pub branch_dropped : (new : List ℕ) (v n : ℕ) (t : Skeleton) (c : ℕ → Bool) (k : ℕ) (rest : List Bool) → has_path t c k ≡ false → Numbered new v n ((has_path t c k ∷ on_path t c k) ++ rest) → Numbered new (suc v + nodes t) n rest
branch_dropped new v n t c k rest e a =
    let l = length-on_path t c k in
    let m = count_none t c k e in
    numbered_right new (suc v) n (suc v + nodes t) n (on_path t c k) rest (omega arith) (omega arith) (numbered_dropped new v n (has_path t c k) (on_path t c k ++ rest) e a)

-- ---- the nodes of each path

mutual
  pub routes_pruned : (t : Skeleton) (c : ℕ → Bool) (k : ℕ) (new names : List ℕ) (v n : ℕ) → has_path t c k ≡ true → Numbered new v n (on_path t c k) → routes (prune t c k) (names_at new names) n ≡ map (names_at new) (only c k (routes t names v))
  routes_pruned end c k new names v n e a = sym (ap (λ (b : Bool). map (names_at new) (cond b (names ∷ []) [])) e)
  routes_pruned (theirs t) c k new names v n e a =
      let b = numbered_kept new v n (has_path t c k) (on_path t c k) e a in
      ap (λ (ns : List ℕ). routes (prune t c k) ns (suc n)) (push_name new names v n b.0)
      ∙ routes_pruned t c k new (names ++ v ∷ []) (suc v) (suc n) e b.1
  routes_pruned (mine bs) c k new names v n e a = branch_routes_pruned bs c k new names v n a

  pub branch_routes_pruned : (bs : Branches) (c : ℕ → Bool) (k : ℕ) (new names : List ℕ) (v n : ℕ) → Numbered new v n (each_on_path bs c k) → branch_routes (prune_branches bs c k) (names_at new names) n ≡ map (names_at new) (only c k (branch_routes bs names v))
  branch_routes_pruned no_more c k new names v n a = refl
  branch_routes_pruned (branch m t bs) c k new names v n a =
      by (has_path t c k) refl (routes_pruned t c k new (names ++ v ∷ []) (suc v) (suc n)) (branch_routes_pruned bs c (k + length (paths t)) new names (suc v + nodes t))
      ∙ sym (ap (map (names_at new)) (only-append c k (routes t (names ++ v ∷ []) (suc v)) (branch_routes bs names (suc v + nodes t)) ∙ ap (λ (i : ℕ). only c k (routes t (names ++ v ∷ []) (suc v)) ++ only c (k + i) (branch_routes bs names (suc v + nodes t))) (length_routes t (names ++ v ∷ []) (suc v))))
    where
      first : List (List ℕ)
      first = only c k (routes t (names ++ v ∷ []) (suc v))

      others : List (List ℕ)
      others = only c (k + length (paths t)) (branch_routes bs names (suc v + nodes t))

      by : (b : Bool) → has_path t c k ≡ b → (has_path t c k ≡ true → Numbered new (suc v) (suc n) (on_path t c k) → routes (prune t c k) (names_at new (names ++ v ∷ [])) (suc n) ≡ map (names_at new) first) → ((i : ℕ) → Numbered new (suc v + nodes t) i (each_on_path bs c (k + length (paths t))) → branch_routes (prune_branches bs c (k + length (paths t))) (names_at new names) i ≡ map (names_at new) others) → branch_routes (cond b (branch m (prune t c k) (prune_branches bs c (k + length (paths t)))) (prune_branches bs c (k + length (paths t)))) (names_at new names) n ≡ map (names_at new) (first ++ others)
      by true e f g =
          let x = branch_kept new v n t c k (each_on_path bs c (k + length (paths t))) e a in
          ap₂ (λ (xs ys : List (List ℕ)). xs ++ ys)
          (ap (λ (ns : List ℕ). routes (prune t c k) ns (suc n)) (push_name new names v n x.here) ∙ f e x.below)
          (g (suc n + nodes (prune t c k)) x.behind)
          ∙ sym (map-append (names_at new) first others)
      by false e f g =
          g n (branch_dropped new v n t c k (each_on_path bs c (k + length (paths t))) e a)
          ∙ ap (λ (xs : List (List ℕ)). map (names_at new) (xs ++ others)) (sym (only_no_path t c k (routes t (names ++ v ∷ []) (suc v)) (length_routes t (names ++ v ∷ []) (suc v)) e))

-- ---- they are marked

abbrev pub AllMarked : List Bool → List ℕ → Type 0
AllMarked marks names = AllByRecursion (λ v. marked marks v ≡ true) names

pub push_marked : (marks : List Bool) (names : List ℕ) (v : ℕ) → AllMarked marks names → marked marks v ≡ true → AllMarked marks (names ++ v ∷ [])
push_marked marks [] v a h = (h, tt)
push_marked marks (x ∷ names) v a h = (a.0, push_marked marks names v a.1 h)

each_append : (marks : List Bool) (xs ys : List (List ℕ)) → AllByRecursion (AllMarked marks) xs → AllByRecursion (AllMarked marks) ys → AllByRecursion (AllMarked marks) (xs ++ ys)
each_append marks [] ys a b = b
each_append marks (x ∷ xs) ys a b = (a.0, each_append marks xs ys a.1 b)

mutual
  pub routes_marked : (t : Skeleton) (c : ℕ → Bool) (k : ℕ) (marks : List Bool) (names : List ℕ) (v : ℕ) → Agree false marks v (on_path t c k) → AllMarked marks names → AllByRecursion (AllMarked marks) (only c k (routes t names v))
  routes_marked end c k marks names v a h = by (c k)
    where
      by : (b : Bool) → AllByRecursion (AllMarked marks) (cond b (names ∷ []) [])
      by true = (h, tt)
      by false = tt
  routes_marked (theirs t) c k marks names v a h =
      by (has_path t c k) refl (λ e. routes_marked t c k marks (names ++ v ∷ []) (suc v) a.1 (push_marked marks names v h (a.0 ∙ e)))
    where
      by : (b : Bool) → has_path t c k ≡ b → (has_path t c k ≡ true → AllByRecursion (AllMarked marks) (only c k (routes t (names ++ v ∷ []) (suc v)))) → AllByRecursion (AllMarked marks) (only c k (routes t (names ++ v ∷ []) (suc v)))
      by true e f = f e
      by false e f = subst (λ (xs : List (List ℕ)). AllByRecursion (AllMarked marks) xs) (sym (only_no_path t c k (routes t (names ++ v ∷ []) (suc v)) (length_routes t (names ++ v ∷ []) (suc v)) e)) tt
  routes_marked (mine bs) c k marks names v a h = branch_routes_marked bs c k marks names v a h

  pub branch_routes_marked : (bs : Branches) (c : ℕ → Bool) (k : ℕ) (marks : List Bool) (names : List ℕ) (v : ℕ) → Agree false marks v (each_on_path bs c k) → AllMarked marks names → AllByRecursion (AllMarked marks) (only c k (branch_routes bs names v))
  branch_routes_marked no_more c k marks names v a h = tt
  branch_routes_marked (branch m t bs) c k marks names v a h =
      let below = agree_left false marks (suc v) (on_path t c k) (each_on_path bs c (k + length (paths t))) a.1 in
      let behind = agree_right false marks (suc v) (on_path t c k) (each_on_path bs c (k + length (paths t))) a.1 in
      let l = length-on_path t c k in
      subst (λ (xs : List (List ℕ)). AllByRecursion (AllMarked marks) xs)
      (sym (only-append c k (routes t (names ++ v ∷ []) (suc v)) (branch_routes bs names (suc v + nodes t)) ∙ ap (λ (i : ℕ). only c k (routes t (names ++ v ∷ []) (suc v)) ++ only c (k + i) (branch_routes bs names (suc v + nodes t))) (length_routes t (names ++ v ∷ []) (suc v))))
      (each_append marks (only c k (routes t (names ++ v ∷ []) (suc v))) (only c (k + length (paths t)) (branch_routes bs names (suc v + nodes t)))
      (by (has_path t c k) refl (λ e. routes_marked t c k marks (names ++ v ∷ []) (suc v) below (push_marked marks names v h (a.0 ∙ e))))
      (branch_routes_marked bs c (k + length (paths t)) marks names (suc v + nodes t) (subst (λ (i : ℕ). Agree false marks i (each_on_path bs c (k + length (paths t)))) (let q : suc v + length (on_path t c k) ≡ suc v + nodes t = omega arith in q) behind) h))
    where
      by : (b : Bool) → has_path t c k ≡ b → (has_path t c k ≡ true → AllByRecursion (AllMarked marks) (only c k (routes t (names ++ v ∷ []) (suc v)))) → AllByRecursion (AllMarked marks) (only c k (routes t (names ++ v ∷ []) (suc v)))
      by true e f = f e
      by false e f = subst (λ (xs : List (List ℕ)). AllByRecursion (AllMarked marks) xs) (sym (only_no_path t c k (routes t (names ++ v ∷ []) (suc v)) (length_routes t (names ++ v ∷ []) (suc v)) e)) tt

-- ---- a list of which the chosen alone stay

-- the flags say from number k on what is chosen
abbrev pub Flags : (ℕ → Bool) → ℕ → List Bool → Type 0
Flags c k [] = ⊤
Flags c k (b ∷ bs) = (c k ≡ b) × Flags c (suc k) bs

pub only_get : {A : Type 0} (c : ℕ → Bool) (k : ℕ) (xs : List A) (flags : List Bool) (n i : ℕ) (x : A) → Flags c k flags → slice_get xs i ≡ Some x → marked flags i ≡ true → (j : ℕ) × (get_or (numbers n flags) i 0 ≡ n + j) × (slice_get (only c k xs) j ≡ Some x)
only_get c k xs [] n i x a e h = absurd (cc)
only_get c k [] (b ∷ flags) n i x a e h = absurd (cc)
only_get c k (y ∷ xs) (true ∷ flags) n zero x a e h =
    (0, omega arith, ap (λ (b : Bool). slice_get (cond b (y ∷ only c (suc k) xs) (only c (suc k) xs)) 0) a.0 ∙ e)
only_get c k (y ∷ xs) (false ∷ flags) n zero x a e h = absurd (cc)
only_get c k (y ∷ xs) (true ∷ flags) n (suc i) x a e h =
    let r = only_get c (suc k) xs flags (suc n) i x a.1 e h in
    (suc r.0, r.1 ∙ (let q : suc n + r.0 ≡ n + suc r.0 = omega arith in q), ap (λ (b : Bool). slice_get (cond b (y ∷ only c (suc k) xs) (only c (suc k) xs)) (suc r.0)) a.0 ∙ r.2)
only_get c k (y ∷ xs) (false ∷ flags) n (suc i) x a e h =
    let r = only_get c (suc k) xs flags n i x a.1 e h in
    (r.0, r.1, ap (λ (b : Bool). slice_get (cond b (y ∷ only c (suc k) xs) (only c (suc k) xs)) r.0) a.0 ∙ r.2)

flags_behind : (all pre flags : List Bool) → all ≡ pre ++ flags → Flags (marked all) (length pre) flags
flags_behind all pre [] e = tt
flags_behind all pre (b ∷ flags) e = (
  ap (λ (bs : List Bool). get_or bs (length pre) false) e ∙ get_behind false pre flags b,
  subst (λ (i : ℕ). Flags (marked all) i flags) (let l = length-append pre (b ∷ []) in let q : length (pre ++ b ∷ []) ≡ suc (length pre) = omega arith in q)
      (flags_behind all (pre ++ b ∷ []) flags (e ∙ sym (append_assoc pre (b ∷ []) flags))),
)

pub flags_all : (flags : List Bool) → Flags (marked flags) 0 flags
flags_all flags = flags_behind flags [] flags refl

pub each_only : {A : Type 0} (P : A → Type 0) (xs : List A) (j : ℕ) (x : A) → AllByRecursion P xs → slice_get xs j ≡ Some x → P x
each_only P [] j x a e = absurd (cc)
each_only P (y ∷ xs) zero x a e = subst P (some_same y x e) a.0
each_only P (y ∷ xs) (suc j) x a e = each_only P xs j x a.1 e
