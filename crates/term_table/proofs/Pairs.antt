-- The size of "no two are equal".
use Rattle.std.proofs.Common.{◌≡◌, ℕ, zero, suc, ◌+◌, ◌*◌, ◌≤◌, min, max, List, [], ◌∷◌, ◌++◌, length, map, refl, ap, ◌∙◌, arith}
use Rattle.std.proofs.Math.Nat.{add-mul, one-mul}
use Rattle.lin_truth.specs.Term.{Term, yes, no, amount, variable, negative, absolute, negated, divisible, minus, quotient_of, div_of, mod_of, less, at_most, greater, at_least, equal, xor_of, implies, ite, plus_of, times_of, and_of, or_of, forall_of, exists_of}
use Rattle.lin_truth.specs.Size.{total, greatest, node_count, depth, binding_count}
use Rattle.term_table.specs.Built.{apart, pairs_apart, distinct_of}
use Rattle.term_table.specs.Scale.{Scale, by_nodes, by_bindings, by_freedom, by_depth, Near, counting, reaching, ring, joined, sum_in, size, others, distinct_layer, distinct_weight}
use Rattle.term_table.proofs.NodeSizes.{measures_of, total_sum, greatest_sum}

map-append : (f : Term → ℕ) (xs ys : List Term) → map f (xs ++ ys) ≡ map f xs ++ map f ys
map-append f [] ys = refl
map-append f (x ∷ xs) ys = ap (λ (ns : List ℕ). f x ∷ ns) (map-append f xs ys)

total-append : (ns ms : List ℕ) → total (ns ++ ms) ≡ total ns + total ms
total-append [] ms = omega arith
total-append (n ∷ ns) ms = omega (arith, total-append ns ms)

greatest-append : (ns ms : List ℕ) → greatest (ns ++ ms) ≡ max (greatest ns) (greatest ms)
greatest-append [] ms = omega arith
greatest-append (n ∷ ns) ms = omega (arith, greatest-append ns ms)

length-map : (f : Term → ℕ) (ts : List Term) → length (map f ts) ≡ length ts
length-map f [] = refl
length-map f (t ∷ ts) = ap suc (length-map f ts)

-- ---- sums over pairs, where a pair counts e more than its two parts

apart_total : (f : Term → ℕ) (e : ℕ) → ((a b : Term) → f (negated (equal a b)) ≡ f a + f b + e) → (t : Term) (us : List Term)
    → total (map f (apart t us)) ≡ length us * (f t + e) + total (map f us)
apart_total f e law t [] = omega arith
apart_total f e law t (u ∷ us) = omega (arith, law t u, apart_total f e law t us, add-mul 1 (length us) (f t + e), one-mul (f t + e))

more_pairs : (m n s e p q : ℕ) → p ≡ suc m * m * e + m * s * 2 → q * 2 ≡ suc m * (n + e) * 2 + s * 2 + p → q * 2 ≡ suc (suc m) * suc m * e + suc m * (n + s) * 2
more_pairs m n s e p q is step = omega arith

pairs_total : (f : Term → ℕ) (e : ℕ) → ((a b : Term) → f (negated (equal a b)) ≡ f a + f b + e) → (ts : List Term)
    → total (map f (pairs_apart ts)) * 2 ≡ length ts * others (length ts) * e + others (length ts) * total (map f ts) * 2
pairs_total f e law [] = omega arith
pairs_total f e law (t ∷ []) = omega arith
pairs_total f e law (t ∷ u ∷ us) =
    let rest = u ∷ us in
    more_pairs (length us) (f t) (total (map f rest)) e (total (map f (pairs_apart rest)) * 2) (total (map f (pairs_apart (t ∷ rest)))) (pairs_total f e law (u ∷ us))
    (let a : total (map f (pairs_apart (t ∷ rest))) ≡ total (map f (apart t rest)) + total (map f (pairs_apart rest)) = ap total (map-append f (apart t rest) (pairs_apart rest)) ∙ total-append (map f (apart t rest)) (map f (pairs_apart rest)) in
    let b = apart_total f e law t rest in
    omega arith)

-- ---- depth

depth_pos : (t : Term) → 1 ≤ depth t
depth_pos yes = omega arith
depth_pos no = omega arith
depth_pos (amount v) = omega arith
depth_pos (variable i) = omega arith
depth_pos (negative t) = omega arith
depth_pos (absolute t) = omega arith
depth_pos (negated t) = omega arith
depth_pos (divisible n t) = omega arith
depth_pos (minus a b) = omega arith
depth_pos (quotient_of a b) = omega arith
depth_pos (div_of a b) = omega arith
depth_pos (mod_of a b) = omega arith
depth_pos (less a b) = omega arith
depth_pos (at_most a b) = omega arith
depth_pos (greater a b) = omega arith
depth_pos (at_least a b) = omega arith
depth_pos (equal a b) = omega arith
depth_pos (xor_of a b) = omega arith
depth_pos (implies a b) = omega arith
depth_pos (ite c a b) = omega arith
depth_pos (plus_of ts) = omega arith
depth_pos (times_of ts) = omega arith
depth_pos (and_of ts) = omega arith
depth_pos (or_of ts) = omega arith
depth_pos (forall_of us t) = omega arith
depth_pos (exists_of us t) = omega arith

apart_depth : (t u : Term) (us : List Term) → greatest (map depth (apart t (u ∷ us))) ≡ max (depth t) (greatest (map depth (u ∷ us))) + 2
apart_depth t u [] = omega arith
apart_depth t u (v ∷ us) = omega (arith, apart_depth t v us)

pairs_depth_le : (ts : List Term) → greatest (map depth (pairs_apart ts)) ≤ greatest (map depth ts) + 2
pairs_depth_le [] = omega arith
pairs_depth_le (t ∷ []) = omega arith
pairs_depth_le (t ∷ u ∷ us) =
    let rest = u ∷ us in
    omega (arith, ap greatest (map-append depth (apart t rest) (pairs_apart rest)), greatest-append (map depth (apart t rest)) (map depth (pairs_apart rest)), apart_depth t u us, pairs_depth_le (u ∷ us))

pairs_depth : (t u : Term) (us : List Term) → greatest (map depth (pairs_apart (t ∷ u ∷ us))) ≡ greatest (map depth (t ∷ u ∷ us)) + 2
pairs_depth t u us =
    let rest = u ∷ us in
    omega (arith, ap greatest (map-append depth (apart t rest) (pairs_apart rest)), greatest-append (map depth (apart t rest)) (map depth (pairs_apart rest)), apart_depth t u us, pairs_depth_le (u ∷ us))

below_three : (g : ℕ) → 1 ≤ g → suc (g + 2) ≡ max 1 (joined 4 g)
below_three zero le = absurd (omega arith)
below_three (suc g) le = omega arith

distinct_depth : (ts : List Term) → depth (distinct_of ts) ≡ (ring by_depth).plus (distinct_layer by_depth (length ts)) ((ring by_depth).times (distinct_weight by_depth (length ts)) (sum_in reaching (map depth ts)))
distinct_depth [] = refl
distinct_depth (t ∷ []) = refl
distinct_depth (t ∷ u ∷ us) =
    ap (λ (ns : List ℕ). suc (greatest ns)) (measures_of (λ b ns. suc (greatest ns)) (pairs_apart (t ∷ u ∷ us)))
    ∙ ap suc (pairs_depth t u us)
    ∙ below_three (greatest (map depth (t ∷ u ∷ us))) (omega (arith, depth_pos t))
    ∙ ap (λ g. max 1 (joined 4 g)) (greatest_sum (map depth (t ∷ u ∷ us)))

-- ---- the law

halves : (a k o s : ℕ) → a * 2 ≡ k * o * 2 + o * s * 2 → suc a ≡ k * o + 1 + o * s
halves a k o s e = omega arith

whole_halves : (a k o s : ℕ) → a * 2 ≡ k * o * 0 + o * s * 2 → 0 + a ≡ 0 + o * s
whole_halves a k o s e = omega arith

distinct_nodes : (ts : List Term) → node_count (distinct_of ts) ≡ length ts * others (length ts) + 1 + others (length ts) * sum_in counting (map node_count ts)
distinct_nodes ts =
    ap (λ (ns : List ℕ). suc (total ns)) (measures_of (λ b ns. suc (total ns)) (pairs_apart ts))
    ∙ halves (total (map node_count (pairs_apart ts))) (length ts) (others (length ts)) (total (map node_count ts)) (pairs_total node_count 2 (λ a b. omega arith) ts)
    ∙ ap (λ n. length ts * others (length ts) + 1 + others (length ts) * n) (total_sum (map node_count ts))

distinct_bindings : (ts : List Term) → binding_count (distinct_of ts) ≡ 0 + others (length ts) * sum_in counting (map binding_count ts)
distinct_bindings ts =
    ap (λ (ns : List ℕ). 0 + total ns) (measures_of (λ b ns. b + total ns) (pairs_apart ts))
    ∙ whole_halves (total (map binding_count (pairs_apart ts))) (length ts) (others (length ts)) (total (map binding_count ts)) (pairs_total binding_count 0 (λ a b. omega arith) ts)
    ∙ ap (λ n. 0 + others (length ts) * n) (total_sum (map binding_count ts))

pub size_distinct : (s : Scale) (ts : List Term) → Near s (size s (distinct_of ts)) ((ring s).plus (distinct_layer s (length ts)) ((ring s).times (distinct_weight s (length ts)) (sum_in (ring s) (map (size s) ts))))
size_distinct by_nodes ts = ap (min 1048577) (distinct_nodes ts)
size_distinct by_bindings ts = ap (min 1025) (distinct_bindings ts)
size_distinct by_freedom ts = omega arith
size_distinct by_depth ts = ap (min 1025) (distinct_depth ts)
