-- The flags of needed paths say what is needed in words of the paths' nodes.
use Rattle.std.specs.Prelude.{ℕ, zero, suc, ◌+◌, ◌-◌, ◌<◌, ◌≤◌, ◌≡◌, ◌⊎◌, nat_eq, Bool, true, false, not, ◌&&◌, ◌||◌, List, [], ◌∷◌, ◌++◌, length, get_or}
use Rattle.std.specs.List.{list_any}
use Rattle.std.proofs.Common.{arith, ap, ap₂, ◌∙◌, sym, subst, refl, inl, inr, length-append, eq-eqb}
use Rattle.std.proofs.lemmas.Bool.{cases_lt, and_parts, eqb-true}
use Rattle.std.proofs.lemmas.List.{get_or_append_left}
use Rattle.lin_term.specs.declared.Sort.{Sort}
use Rattle.dom_core.specs.declared.Quant.{Quant}
use Rattle.dom_core.specs.declared.Quant.TheVariants.{Exists, Forall}
use Rattle.game_tree.specs.Skeleton.{Skeleton, end, theirs, mine, Branches, no_more, branch, nodes, branch_nodes, paths, branch_paths, Follows, EachFollows}
use Rattle.game_tree.proofs.Counts.{theirs_paths, more_paths}
use Rattle.lose_system.specs.Losing.{routes, branch_routes}
use Rattle.cube_rules.specs.declared.Step.{Step}
use Rattle.strat_trim.specs.Trimmed.{names_path, names_node, has_path, with_first, stays, each_stays, needed, marked}
use Rattle.strat_trim.specs.Needing.{IsFirstThrough, IsNeeded, AreNeeded}
use Rattle.strat_trim.proofs.PrunedPaths.{no_path, length_routes}
use Rattle.strat_trim.proofs.Needed.{length-stays, some_path}

-- node u lies on route i
abbrev pub On : List (List ℕ) → ℕ → ℕ → Type 0
On rs u i = list_any (nat_eq u) (get_or rs i []) ≡ true

or_one : (a b : Bool) → a ≡ true → (a || b) ≡ true
or_one a b e = ap (λ (x : Bool). x || b) e

or_other : (a b : Bool) → b ≡ true → (a || b) ≡ true
or_other true b e = refl
or_other false b e = e

or_cases : (a b : Bool) → (a || b) ≡ true → (a ≡ true) ⊎ (b ≡ true)
or_cases true b e = inl refl
or_cases false b e = inr e

-- ---- one more node on the way

any_left : (u : ℕ) (xs ys : List ℕ) → list_any (nat_eq u) xs ≡ true → list_any (nat_eq u) (xs ++ ys) ≡ true
any_left u [] ys e = absurd (cc)
any_left u (x ∷ xs) ys e = elim (or_cases (nat_eq u x) (list_any (nat_eq u) xs) e) [
  | inl h ↦ or_one (nat_eq u x) (list_any (nat_eq u) (xs ++ ys)) h
  | inr h ↦ or_other (nat_eq u x) (list_any (nat_eq u) (xs ++ ys)) (any_left u xs ys h)
]

any_last : (u : ℕ) (xs : List ℕ) → list_any (nat_eq u) (xs ++ u ∷ []) ≡ true
any_last u [] = or_one (nat_eq u u) false (eq-eqb u u refl)
any_last u (x ∷ xs) = or_other (nat_eq u x) (list_any (nat_eq u) (xs ++ u ∷ [])) (any_last u xs)

any_push : (u v : ℕ) (xs : List ℕ) → list_any (nat_eq u) (xs ++ v ∷ []) ≡ true → (list_any (nat_eq u) xs ≡ true) ⊎ (u ≡ v)
any_push u v [] e = elim (or_cases (nat_eq u v) false e) [ inl h ↦ inr (eqb-true u v h) | inr h ↦ absurd (cc) ]
any_push u v (x ∷ xs) e = elim (or_cases (nat_eq u x) (list_any (nat_eq u) (xs ++ v ∷ [])) e) [
  | inl h ↦ inl (or_one (nat_eq u x) (list_any (nat_eq u) xs) h)
  | inr h ↦ elim (any_push u v xs h) [ inl g ↦ inl (or_other (nat_eq u x) (list_any (nat_eq u) xs) g) | inr g ↦ inr g ]
]

-- the nodes above are below v
abbrev Above : List ℕ → ℕ → Type 0
Above names v = (u : ℕ) → list_any (nat_eq u) names ≡ true → u < v

above_push : (names : List ℕ) (v : ℕ) → Above names v → Above (names ++ v ∷ []) (suc v)
above_push names v a u e = elim (any_push u v names e) [ inl h ↦ let l = a u h in omega arith | inr h ↦ omega arith ]

above_more : (names : List ℕ) (v w : ℕ) → v ≤ w → Above names v → Above names w
above_more names v w l a u e = let h = a u e in omega arith

-- ---- a list in two parts

get_right : {A : Type 0} (xs ys : List A) (j : ℕ) (d : A) → get_or (xs ++ ys) (length xs + j) d ≡ get_or ys j d
get_right [] ys j d = ap (λ (i : ℕ). get_or ys i d) (let e : 0 + j ≡ j = omega arith in e)
get_right (x ∷ xs) ys j d =
    ap (λ (i : ℕ). get_or (x ∷ (xs ++ ys)) i d) (let e : suc (length xs) + j ≡ suc (length xs + j) = omega arith in e) ∙ get_right xs ys j d

on_left : (rs qs : List (List ℕ)) (u i : ℕ) → i < length rs → On (rs ++ qs) u i → On rs u i
on_left rs qs u i l o = sym (ap (list_any (nat_eq u)) (get_or_append_left rs qs [] i l)) ∙ o

left_on : (rs qs : List (List ℕ)) (u i : ℕ) → i < length rs → On rs u i → On (rs ++ qs) u i
left_on rs qs u i l o = ap (list_any (nat_eq u)) (get_or_append_left rs qs [] i l) ∙ o

on_right : (rs qs : List (List ℕ)) (u j i : ℕ) → i ≡ length rs + j → On (rs ++ qs) u i → On qs u j
on_right rs qs u j i e o = sym (ap (λ (k : ℕ). list_any (nat_eq u) (get_or (rs ++ qs) k [])) e ∙ ap (list_any (nat_eq u)) (get_right rs qs j [])) ∙ o

right_on : (rs qs : List (List ℕ)) (u j i : ℕ) → i ≡ length rs + j → On qs u j → On (rs ++ qs) u i
right_on rs qs u j i e o = (ap (λ (k : ℕ). list_any (nat_eq u) (get_or (rs ++ qs) k [])) e ∙ ap (list_any (nat_eq u)) (get_right rs qs j [])) ∙ o

-- ---- which nodes lie on a route

mutual
  above_on : (t : Skeleton) (names : List ℕ) (v u i : ℕ) → list_any (nat_eq u) names ≡ true → i < length (routes t names v) → On (routes t names v) u i
  above_on end names v u zero e l = e
  above_on end names v u (suc i) e l = absurd (omega arith)
  above_on (theirs t) names v u i e l = above_on t (names ++ v ∷ []) (suc v) u i (any_left u names (v ∷ []) e) l
  above_on (mine bs) names v u i e l = above_on_branch bs names v u i e l

  above_on_branch : (bs : Branches) (names : List ℕ) (v u i : ℕ) → list_any (nat_eq u) names ≡ true → i < length (branch_routes bs names v) → On (branch_routes bs names v) u i
  above_on_branch no_more names v u i e l = absurd (omega arith)
  above_on_branch (branch m t bs) names v u i e l =
      let rs : List (List ℕ) = routes t (names ++ v ∷ []) (suc v) in
      let qs : List (List ℕ) = branch_routes bs names (suc v + nodes t) in
      let len = length-append rs qs in
      elim (cases_lt i (length rs)) [
        | inl less ↦ left_on rs qs u i less (above_on t (names ++ v ∷ []) (suc v) u i (any_left u names (v ∷ []) e) less)
        | inr more ↦ let w : i ≡ length rs + (i - length rs) = omega arith in right_on rs qs u (i - length rs) i w (above_on_branch bs names (suc v + nodes t) u (i - length rs) e (omega arith))
      ]

mutual
  on_inside : (t : Skeleton) (names : List ℕ) (v u i : ℕ) → On (routes t names v) u i → (list_any (nat_eq u) names ≡ true) ⊎ ((v ≤ u) × (u < v + nodes t))
  on_inside end names v u zero o = inl o
  on_inside end names v u (suc i) o = absurd (cc)
  on_inside (theirs t) names v u i o = elim (on_inside t (names ++ v ∷ []) (suc v) u i o) [
    | inl h ↦ elim (any_push u v names h) [ inl g ↦ inl g | inr g ↦ inr (omega arith, omega arith) ]
    | inr h ↦ let a = h.0 in let b = h.1 in inr (omega arith, omega arith)
  ]
  on_inside (mine bs) names v u i o = on_branch_inside bs names v u i o

  on_branch_inside : (bs : Branches) (names : List ℕ) (v u i : ℕ) → On (branch_routes bs names v) u i → (list_any (nat_eq u) names ≡ true) ⊎ ((v ≤ u) × (u < v + branch_nodes bs))
  on_branch_inside no_more names v u i o = absurd (cc)
  on_branch_inside (branch m t bs) names v u i o =
      let rs : List (List ℕ) = routes t (names ++ v ∷ []) (suc v) in
      let qs : List (List ℕ) = branch_routes bs names (suc v + nodes t) in
      elim (cases_lt i (length rs)) [
        | inl less ↦ elim (on_inside t (names ++ v ∷ []) (suc v) u i (on_left rs qs u i less o)) [
          | inl h ↦ elim (any_push u v names h) [ inl g ↦ inl g | inr g ↦ inr (omega arith, omega arith) ]
          | inr h ↦ let a = h.0 in let b = h.1 in inr (omega arith, omega arith)
        ]
        | inr more ↦
            let w : i ≡ length rs + (i - length rs) = omega arith in
            elim (on_branch_inside bs names (suc v + nodes t) u (i - length rs) (on_right rs qs u (i - length rs) i w o)) [
              | inl h ↦ inl h
              | inr h ↦ let a = h.0 in let b = h.1 in inr (omega arith, omega arith)
            ]
      ]

-- ---- the first route through a node that is asked for, from path k and node v on

record Asked (P N : ℕ → Bool) (k v n : ℕ) (rs : List (List ℕ)) (i : ℕ) : Type 0 where
  node : ℕ
  low : v ≤ node
  high : node < v + n
  named : N node ≡ true
  on : On rs node i
  first : (j : ℕ) → j < i → ¬ On rs node j
  free : (j : ℕ) → j < length rs → P (k + j) ≡ true → ¬ On rs node j

abbrev Means : (P N : ℕ → Bool) → ℕ → ℕ → ℕ → List (List ℕ) → List Bool → ℕ → Type 0
Means P N k v n rs flags i =
    (marked flags i ≡ true → (P (k + i) ≡ true) ⊎ Asked P N k v n rs i) × ((P (k + i) ≡ true) ⊎ Asked P N k v n rs i → marked flags i ≡ true)

first_marked : (a : Bool) (bs : List Bool) (i : ℕ) → marked (with_first a bs) i ≡ true → (marked bs i ≡ true) ⊎ ((i ≡ 0) × (a ≡ true))
first_marked a [] i e = absurd (cc)
first_marked a (b ∷ bs) zero e = elim (or_cases b a e) [ inl h ↦ inl h | inr h ↦ inr (refl, h) ]
first_marked a (b ∷ bs) (suc i) e = inl e

keeps_marked : (a : Bool) (bs : List Bool) (i : ℕ) → marked bs i ≡ true → marked (with_first a bs) i ≡ true
keeps_marked a [] i e = e
keeps_marked a (b ∷ bs) zero e = or_one b a e
keeps_marked a (b ∷ bs) (suc i) e = e

marked_first : (a : Bool) (bs : List Bool) → a ≡ true → 1 ≤ length bs → marked (with_first a bs) 0 ≡ true
marked_first a [] e l = absurd (omega arith)
marked_first a (b ∷ bs) e l = or_other b a e

length-first : (a : Bool) (bs : List Bool) → length (with_first a bs) ≡ length bs
length-first a [] = refl
length-first a (b ∷ bs) = refl

-- a chosen path is one of them
mutual
  some_chosen : (t : Skeleton) (P : ℕ → Bool) (k : ℕ) → has_path t P k ≡ true → (j : ℕ) × ((j < length (paths t)) × (P (k + j) ≡ true))
  some_chosen end P k e = (0, (omega arith, ap P (let q : k + 0 ≡ k = omega arith in q) ∙ e))
  some_chosen (theirs t) P k e = let r = some_chosen t P k e in let n = theirs_paths t in (r.0, ((let l = r.1.0 in omega arith), r.1.1))
  some_chosen (mine bs) P k e = some_branch_chosen bs P k e

  some_branch_chosen : (bs : Branches) (P : ℕ → Bool) (k : ℕ) → has_path (mine bs) P k ≡ true → (j : ℕ) × ((j < length (branch_paths bs)) × (P (k + j) ≡ true))
  some_branch_chosen no_more P k e = absurd (cc)
  some_branch_chosen (branch m t bs) P k e =
      let n = more_paths m t bs in
      elim (or_cases (has_path t P k) (has_path (mine bs) P (k + length (paths t))) e) [
        | inl h ↦ let r = some_chosen t P k h in (r.0, ((let l = r.1.0 in omega arith), r.1.1))
        | inr h ↦
            let r = some_branch_chosen bs P (k + length (paths t)) h in
            (length (paths t) + r.0, ((let l = r.1.0 in omega arith), ap P (let q : k + (length (paths t) + r.0) ≡ (k + length (paths t)) + r.0 = omega arith in q) ∙ r.1.1))
      ]

not_true : (b : Bool) → not b ≡ true → b ≡ false
not_true true e = absurd (cc)
not_true false e = refl

-- a node and what is below it, where what is below it is known
node_means : (t : Skeleton) (P N : ℕ → Bool) (k v i : ℕ) (names : List ℕ) → 1 ≤ length (paths t) → Above names v → i < length (paths t) → Means P N k (suc v) (nodes t) (routes t (names ++ v ∷ []) (suc v)) (stays t P N k (suc v)) i → Means P N k v (1 + nodes t) (routes t (names ++ v ∷ []) (suc v)) (with_first (N v && not (has_path t P k)) (stays t P N k (suc v))) i
node_means t P N k v i names some a l m = (
  λ e. elim (first_marked ask flags i e) [
    | inl h ↦ elim (m.0 h) [ inl g ↦ inl g | inr g ↦ inr (wider g) ]
    | inr h ↦
        let b = and_parts (N v) (not (has_path t P k)) h.1 in
        inr (record {
          node = v;
          low = omega arith;
          high = omega arith;
          named = b.0;
          on = here i l;
          first = λ j u o. absurd (let z = h.0 in omega arith);
          free = λ j u p o. (let q : true ≡ false = sym p ∙ no_path t P k (not_true (has_path t P k) b.1) (k + j) (omega arith) (let r = length_routes t (names ++ v ∷ []) (suc v) in omega arith) in cc);
        })
  ],
  λ h. elim h [
    | inl g ↦ keeps_marked ask flags i (m.1 (inl g))
    | inr g ↦ elim (cases_lt v g.node) [
      | inl less ↦ keeps_marked ask flags i (m.1 (inr (narrower g less)))
      | inr more ↦ own i l g (let w = g.low in omega arith)
    ]
  ],
)
  where
    rs : List (List ℕ)
    rs = routes t (names ++ v ∷ []) (suc v)

    ask : Bool
    ask = N v && not (has_path t P k)

    flags : List Bool
    flags = stays t P N k (suc v)

    here : (j : ℕ) → j < length (paths t) → On (routes t (names ++ v ∷ []) (suc v)) v j
    here j u = above_on t (names ++ v ∷ []) (suc v) v j (any_last v names) (let r = length_routes t (names ++ v ∷ []) (suc v) in omega arith)

    wider : Asked P N k (suc v) (nodes t) (routes t (names ++ v ∷ []) (suc v)) i → Asked P N k v (1 + nodes t) (routes t (names ++ v ∷ []) (suc v)) i
    wider g = record { node = g.node; low = let w = g.low in omega arith; high = let w = g.high in omega arith; named = g.named; on = g.on; first = g.first; free = g.free }

    narrower : (g : Asked P N k v (1 + nodes t) (routes t (names ++ v ∷ []) (suc v)) i) → v < g.node → Asked P N k (suc v) (nodes t) (routes t (names ++ v ∷ []) (suc v)) i
    narrower g less = record { node = g.node; low = less; high = let w = g.high in omega arith; named = g.named; on = g.on; first = g.first; free = g.free }

    unmarked : (j : ℕ) (g : Asked P N k v (1 + nodes t) (routes t (names ++ v ∷ []) (suc v)) j) → v ≡ g.node → (b : Bool) → has_path t P k ≡ b → b ≡ false
    unmarked j g e true q =
        let r = some_chosen t P k q in
        absurd (g.free r.0 (let l = r.1.0 in let n = length_routes t (names ++ v ∷ []) (suc v) in omega arith) r.1.1 (subst (λ (w : ℕ). On (routes t (names ++ v ∷ []) (suc v)) w r.0) e (here r.0 r.1.0)))
    unmarked j g e false q = refl

    own : (j : ℕ) → j < length (paths t) → (g : Asked P N k v (1 + nodes t) (routes t (names ++ v ∷ []) (suc v)) j) → v ≡ g.node → marked (with_first (N v && not (has_path t P k)) (stays t P N k (suc v))) j ≡ true
    own zero u g e =
        marked_first (N v && not (has_path t P k)) (stays t P N k (suc v)) (ap₂ (λ (x y : Bool). x && not y) (ap N e ∙ g.named) (unmarked zero g e (has_path t P k) refl))
        (let n = length-stays t P N k (suc v) in omega arith)
    own (suc j) u g e = absurd (g.first 0 (omega arith) (subst (λ (w : ℕ). On (routes t (names ++ v ∷ []) (suc v)) w 0) e (here 0 (omega arith))))

-- ---- the branches of a node

-- what is below one node, among the branches behind it
extend_left : (t : Skeleton) (bs : Branches) (P N : ℕ → Bool) (k v i : ℕ) (names : List ℕ) → Above names v → i < length (routes t (names ++ v ∷ []) (suc v)) → Asked P N k v (1 + nodes t) (routes t (names ++ v ∷ []) (suc v)) i → Asked P N k v ((1 + nodes t) + branch_nodes bs) (routes t (names ++ v ∷ []) (suc v) ++ branch_routes bs names (suc v + nodes t)) i
extend_left t bs P N k v i names a l g =
    let rs : List (List ℕ) = routes t (names ++ v ∷ []) (suc v) in
    let qs : List (List ℕ) = branch_routes bs names (suc v + nodes t) in
    let lo = g.low in
    let hi = g.high in
    record {
      node = g.node;
      low = g.low;
      high = omega arith;
      named = g.named;
      on = left_on rs qs g.node i l g.on;
      first = λ j u o. g.first j u (on_left rs qs g.node j (omega arith) o);
      free = λ j u p o. elim (cases_lt j (length rs)) [
        | inl less ↦ g.free j less p (on_left rs qs g.node j less o)
        | inr more ↦ elim (on_branch_inside bs names (suc v + nodes t) g.node (j - length rs) (on_right rs qs g.node (j - length rs) j (omega arith) o)) [
          | inl h ↦ (let b = a g.node h in let z : ⊥ = absurd (omega arith) in z)
          | inr h ↦ (let b = h.0 in let z : ⊥ = absurd (omega arith) in z)
        ]
      ];
    }

restrict_left : (t : Skeleton) (bs : Branches) (P N : ℕ → Bool) (k v i : ℕ) (names : List ℕ) → Above names v → i < length (routes t (names ++ v ∷ []) (suc v)) → Asked P N k v ((1 + nodes t) + branch_nodes bs) (routes t (names ++ v ∷ []) (suc v) ++ branch_routes bs names (suc v + nodes t)) i → Asked P N k v (1 + nodes t) (routes t (names ++ v ∷ []) (suc v)) i
restrict_left t bs P N k v i names a l g =
    let rs : List (List ℕ) = routes t (names ++ v ∷ []) (suc v) in
    let qs : List (List ℕ) = branch_routes bs names (suc v + nodes t) in
    let lo = g.low in
    record {
      node = g.node;
      low = g.low;
      high = elim (on_inside t (names ++ v ∷ []) (suc v) g.node i (on_left rs qs g.node i l g.on)) [
        | inl h ↦ (let b = above_push names v a g.node h in omega arith)
        | inr h ↦ (let b = h.1 in omega arith)
      ];
      named = g.named;
      on = on_left rs qs g.node i l g.on;
      first = λ j u o. g.first j u (left_on rs qs g.node j (omega arith) o);
      free = λ j u p o. g.free j (let n = length-append rs qs in omega arith) p (left_on rs qs g.node j u o);
    }

-- what is below the branches behind
extend_right : (t : Skeleton) (bs : Branches) (P N : ℕ → Bool) (k v i j : ℕ) (names : List ℕ) → Above names v → i ≡ length (routes t (names ++ v ∷ []) (suc v)) + j → Asked P N (k + length (routes t (names ++ v ∷ []) (suc v))) (suc v + nodes t) (branch_nodes bs) (branch_routes bs names (suc v + nodes t)) j → Asked P N k v ((1 + nodes t) + branch_nodes bs) (routes t (names ++ v ∷ []) (suc v) ++ branch_routes bs names (suc v + nodes t)) i
extend_right t bs P N k v i j names a e g =
    let rs : List (List ℕ) = routes t (names ++ v ∷ []) (suc v) in
    let qs : List (List ℕ) = branch_routes bs names (suc v + nodes t) in
    let lo = g.low in
    let hi = g.high in
    let apart : (x : ℕ) → On rs g.node x → ⊥ = λ x o. elim (on_inside t (names ++ v ∷ []) (suc v) g.node x o) [
      | inl h ↦ (let b = above_push names v a g.node h in let z : ⊥ = absurd (omega arith) in z)
      | inr h ↦ (let b = h.1 in let z : ⊥ = absurd (omega arith) in z)
    ] in
    record {
      node = g.node;
      low = omega arith;
      high = omega arith;
      named = g.named;
      on = right_on rs qs g.node j i e g.on;
      first = λ x u o. elim (cases_lt x (length rs)) [
        | inl less ↦ apart x (on_left rs qs g.node x less o)
        | inr more ↦ g.first (x - length rs) (omega arith) (on_right rs qs g.node (x - length rs) x (omega arith) o)
      ];
      free = λ x u p o. elim (cases_lt x (length rs)) [
        | inl less ↦ apart x (on_left rs qs g.node x less o)
        | inr more ↦ g.free (x - length rs) (let n = length-append rs qs in omega arith) (ap P (let q : (k + length rs) + (x - length rs) ≡ k + x = omega arith in q) ∙ p) (on_right rs qs g.node (x - length rs) x (omega arith) o)
      ];
    }

restrict_right : (t : Skeleton) (bs : Branches) (P N : ℕ → Bool) (k v i j : ℕ) (names : List ℕ) → Above names v → i ≡ length (routes t (names ++ v ∷ []) (suc v)) + j → Asked P N k v ((1 + nodes t) + branch_nodes bs) (routes t (names ++ v ∷ []) (suc v) ++ branch_routes bs names (suc v + nodes t)) i → Asked P N (k + length (routes t (names ++ v ∷ []) (suc v))) (suc v + nodes t) (branch_nodes bs) (branch_routes bs names (suc v + nodes t)) j
restrict_right t bs P N k v i j names a e g =
    let rs : List (List ℕ) = routes t (names ++ v ∷ []) (suc v) in
    let qs : List (List ℕ) = branch_routes bs names (suc v + nodes t) in
    let lo = g.low in
    let hi = g.high in
    record {
      node = g.node;
      low = elim (on_branch_inside bs names (suc v + nodes t) g.node j (on_right rs qs g.node j i e g.on)) [
        | inl h ↦ (let b = a g.node h in absurd (omega arith))
        | inr h ↦ h.0
      ];
      high = omega arith;
      named = g.named;
      on = on_right rs qs g.node j i e g.on;
      first = λ x u o. g.first (length rs + x) (omega arith) (right_on rs qs g.node x (length rs + x) refl o);
      free = λ x u p o. g.free (length rs + x) (let n = length-append rs qs in omega arith) (ap P (let q : k + (length rs + x) ≡ (k + length rs) + x = omega arith in q) ∙ p) (right_on rs qs g.node x (length rs + x) refl o);
    }

flag_left : (xs ys : List Bool) (i : ℕ) → i < length xs → marked (xs ++ ys) i ≡ marked xs i
flag_left xs ys i l = get_or_append_left xs ys false i l

flag_right : (xs ys : List Bool) (j i : ℕ) → i ≡ length xs + j → marked (xs ++ ys) i ≡ marked ys j
flag_right xs ys j i e = ap (marked (xs ++ ys)) e ∙ get_right xs ys j false

mutual
  stays_means : (t : Skeleton) (s : Sort) (qs : List Quant) (d : ℕ) (P N : ℕ → Bool) (k v i : ℕ) (names : List ℕ) → Follows t s qs d → Above names v → i < length (paths t) → Means P N k v (nodes t) (routes t names v) (stays t P N k v) i
  stays_means end s qs d P N k v zero names f a l = (
    λ e. inl (ap P (let q : k + 0 ≡ k = omega arith in q) ∙ e),
    λ h. elim h [
      | inl g ↦ ap P (let q : k ≡ k + 0 = omega arith in q) ∙ g
      | inr g ↦ (let lo = g.low in let hi = g.high in absurd (omega arith))
    ],
  )
  stays_means end s qs d P N k v (suc i) names f a l = absurd (omega arith)
  stays_means (theirs t) s [] d P N k v i names f a l = absurd f
  stays_means (theirs t) s (Exists ∷ qs) d P N k v i names f a l = absurd f
  stays_means (theirs t) s (Forall ∷ qs) d P N k v i names f a l =
      let n = theirs_paths t in
      node_means t P N k v i names (some_path t s qs (suc d) f) a (omega arith) (stays_means t s qs (suc d) P N k (suc v) i (names ++ v ∷ []) f (above_push names v a) (omega arith))
  stays_means (mine bs) s [] d P N k v i names f a l = absurd f
  stays_means (mine bs) s (Forall ∷ qs) d P N k v i names f a l = absurd f
  stays_means (mine bs) s (Exists ∷ qs) d P N k v i names f a l = each_stays_means bs s qs d P N k v i names f.1 a l

  each_stays_means : (bs : Branches) (s : Sort) (qs : List Quant) (d : ℕ) (P N : ℕ → Bool) (k v i : ℕ) (names : List ℕ) → EachFollows bs s qs d → Above names v → i < length (branch_paths bs) → Means P N k v (branch_nodes bs) (branch_routes bs names v) (each_stays bs P N k v) i
  each_stays_means no_more s qs d P N k v i names f a l = absurd (omega arith)
  each_stays_means (branch m t bs) s qs d P N k v i names f a l =
      let n = more_paths m t bs in
      let p = length_routes t (names ++ v ∷ []) (suc v) in
      let c : Bool = N v && not (has_path t P k) in
      let xs : List Bool = with_first c (stays t P N k (suc v)) in
      let ys : List Bool = each_stays bs P N (k + length (paths t)) (suc v + nodes t) in
      let q = length-first c (stays t P N k (suc v)) ∙ length-stays t P N k (suc v) in
      elim (cases_lt i (length (paths t))) [
        | inl less ↦
            let here = node_means t P N k v i names (some_path t s qs (suc d) f.2) a less (stays_means t s qs (suc d) P N k (suc v) i (names ++ v ∷ []) f.2 (above_push names v a) less) in (
              λ e. elim (here.0 (sym (flag_left xs ys i (omega arith)) ∙ e)) [ inl g ↦ inl g | inr g ↦ inr (extend_left t bs P N k v i names a (omega arith) g) ],
              λ h. flag_left xs ys i (omega arith) ∙ elim h [ inl g ↦ here.1 (inl g) | inr g ↦ here.1 (inr (restrict_left t bs P N k v i names a (omega arith) g)) ],
            )
        | inr more ↦
            let j : ℕ = i - length (paths t) in
            let w : i ≡ length (routes t (names ++ v ∷ []) (suc v)) + j = omega arith in
            let x : i ≡ length xs + j = omega arith in
            let number : (k + length (paths t)) + j ≡ k + i = omega arith in
            let there = each_stays_means bs s qs d P N (k + length (paths t)) (suc v + nodes t) j names f.3 (above_more names v (suc v + nodes t) (omega arith) a) (omega arith) in
            let moved : k + length (routes t (names ++ v ∷ []) (suc v)) ≡ k + length (paths t) = omega arith in (
              λ e. elim (there.0 (sym (flag_right xs ys j i x) ∙ e)) [
                | inl g ↦ inl (ap P (sym number) ∙ g)
                | inr g ↦ inr (extend_right t bs P N k v i j names a w (subst (λ (z : ℕ). Asked P N z (suc v + nodes t) (branch_nodes bs) (branch_routes bs names (suc v + nodes t)) j) (sym moved) g))
              ],
              λ h. flag_right xs ys j i x ∙ elim h [
                | inl g ↦ there.1 (inl (ap P number ∙ g))
                | inr g ↦ there.1 (inr (subst (λ (z : ℕ). Asked P N z (suc v + nodes t) (branch_nodes bs) (branch_routes bs names (suc v + nodes t)) j) moved (restrict_right t bs P N k v i j names a w g)))
              ],
            )
      ]

-- ---- all of them

on_length : (rs : List (List ℕ)) (u j : ℕ) → On rs u j → j < length rs
on_length [] u j o = absurd (cc)
on_length (r ∷ rs) u zero o = omega arith
on_length (r ∷ rs) u (suc j) o = let h = on_length rs u j o in omega arith

from_zero : (P : ℕ → Bool) (j : ℕ) → P (0 + j) ≡ P j
from_zero P j = ap P (let e : 0 + j ≡ j = omega arith in e)

asked_first : (S : Skeleton) (steps : List Step) (i : ℕ) → Asked (names_path steps) (names_node steps) 0 0 (nodes S) (routes S [] 0) i → IsFirstThrough S steps i
asked_first S steps i g = record {
  node = g.node;
  named = g.named;
  free = λ j p o. g.free j (on_length (routes S [] 0) g.node j o) (from_zero (names_path steps) j ∙ p) o;
  on = g.on;
  first = g.first;
}

first_asked : (S : Skeleton) (steps : List Step) (i : ℕ) → IsFirstThrough S steps i → Asked (names_path steps) (names_node steps) 0 0 (nodes S) (routes S [] 0) i
first_asked S steps i g = record {
  node = g.node;
  low = omega arith;
  high = elim (on_inside S [] 0 g.node i g.on) [ inl h ↦ absurd (cc) | inr h ↦ h.1 ];
  named = g.named;
  on = g.on;
  first = g.first;
  free = λ j l p o. g.free j (sym (from_zero (names_path steps) j) ∙ p) o;
}

some_flag : (bs : List Bool) → list_any (λ b. b) bs ≡ true → (i : ℕ) × ((i < length bs) × (marked bs i ≡ true))
some_flag [] e = absurd (cc)
some_flag (true ∷ bs) e = (0, (omega arith, refl))
some_flag (false ∷ bs) e = let r = some_flag bs e in (suc r.0, ((let l = r.1.0 in omega arith), r.1.1))

no_flag : (bs : List Bool) (i : ℕ) → list_any (λ b. b) bs ≡ false → marked bs i ≡ false
no_flag [] i e = refl
no_flag (true ∷ bs) i e = absurd (cc)
no_flag (false ∷ bs) zero e = refl
no_flag (false ∷ bs) (suc i) e = no_flag bs i e

both_ways : {P : Type 0} (b : Bool) → b ≡ true → b ≡ false → P
both_ways b e f = absurd (let z : true ≡ false = sym e ∙ f in cc)

pub needed_exact : (S : Skeleton) (s : Sort) (qs : List Quant) (steps : List Step) → Follows S s qs 0 → AreNeeded S steps (needed S steps)
needed_exact S s qs steps f = (
  length-first (not (list_any (λ b. b) (stays S (names_path steps) (names_node steps) 0 0))) (stays S (names_path steps) (names_node steps) 0 0) ∙ length-stays S (names_path steps) (names_node steps) 0 0,
  λ k l. by k l (list_any (λ b. b) (stays S (names_path steps) (names_node steps) 0 0)) refl,
)
  where
    flags : List Bool
    flags = stays S (names_path steps) (names_node steps) 0 0

    means : (k : ℕ) → k < length (paths S) → Means (names_path steps) (names_node steps) 0 0 (nodes S) (routes S [] 0) (stays S (names_path steps) (names_node steps) 0 0) k
    means k l = stays_means S s qs 0 (names_path steps) (names_node steps) 0 0 k [] f (λ u e. absurd (cc)) l

    either : (k : ℕ) → (names_path steps (0 + k) ≡ true) ⊎ Asked (names_path steps) (names_node steps) 0 0 (nodes S) (routes S [] 0) k → (names_path steps k ≡ true) ⊎ IsFirstThrough S steps k
    either k h = elim h [ inl g ↦ inl (sym (from_zero (names_path steps) k) ∙ g) | inr g ↦ inr (asked_first S steps k g) ]

    other : (k : ℕ) → (names_path steps k ≡ true) ⊎ IsFirstThrough S steps k → (names_path steps (0 + k) ≡ true) ⊎ Asked (names_path steps) (names_node steps) 0 0 (nodes S) (routes S [] 0) k
    other k h = elim h [ inl g ↦ inl (from_zero (names_path steps) k ∙ g) | inr g ↦ inr (first_asked S steps k g) ]

    wrapped : (k : ℕ) → (names_path steps k ≡ true) ⊎ IsFirstThrough S steps k → IsNeeded S steps k
    wrapped k h = elim h [ inl g ↦ inl g | inr g ↦ inr (inl g) ]

    by : (k : ℕ) → k < length (paths S) → (q : Bool) → list_any (λ b. b) (stays S (names_path steps) (names_node steps) 0 0) ≡ q → (marked (needed S steps) k ≡ true → IsNeeded S steps k) × (IsNeeded S steps k → marked (needed S steps) k ≡ true)
    by k l true q =
        let fl : List Bool = stays S (names_path steps) (names_node steps) 0 0 in
        let a : Bool = not (list_any (λ b. b) fl) in
        let r = some_flag fl q in
        let long = length-stays S (names_path steps) (names_node steps) 0 0 in (
          λ e. elim (first_marked a fl k e) [
            | inl h ↦ wrapped k (either k ((means k l).0 h))
            | inr h ↦ both_ways a h.1 (ap not q)
          ],
          λ h. keeps_marked a fl k (elim h [
            | inl g ↦ (means k l).1 (other k (inl g))
            | inr g ↦ elim g [
              | inl w ↦ (means k l).1 (other k (inr w))
              | inr w ↦ absurd (w.1 r.0 (let z = r.1.0 in omega arith) (either r.0 ((means r.0 (let z = r.1.0 in omega arith)).0 r.1.1)))
            ]
          ]),
        )
    by k l false q =
        let fl : List Bool = stays S (names_path steps) (names_node steps) 0 0 in
        let a : Bool = not (list_any (λ b. b) fl) in
        let long = length-stays S (names_path steps) (names_node steps) 0 0 in (
          λ e. elim (first_marked a fl k e) [
            | inl h ↦ both_ways (marked fl k) h (no_flag fl k q)
            | inr h ↦ inr (inr (h.0, λ j u w. both_ways (marked fl j) ((means j u).1 (other j w)) (no_flag fl j q)))
          ],
          λ h. elim h [
            | inl g ↦ both_ways (marked fl k) ((means k l).1 (other k (inl g))) (no_flag fl k q)
            | inr g ↦ elim g [
              | inl w ↦ both_ways (marked fl k) ((means k l).1 (other k (inr w))) (no_flag fl k q)
              | inr w ↦ ap (marked (with_first a fl)) w.0 ∙ marked_first a fl (ap not q) (omega arith)
            ]
          ],
        )
