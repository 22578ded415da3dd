-- The two ways of counting, and limits.
use Rattle.std.proofs.Common.{◌≡◌, ℕ, zero, suc, ◌*◌, ◌<◌, ◌≤◌, min, max, refl, sym, ap, ◌∙◌, arith, inl, inr, ◌⊎◌}
use Rattle.std.proofs.lemmas.Bool.{cases_lt}
use Rattle.std.proofs.Math.Nat.{add-mul, mul-add, mul_assoc, mul_comm, mul-zero, zero-mul, one-mul}
use Rattle.term_table.specs.Scale.{Scale, by_nodes, by_bindings, by_freedom, by_depth, limit, Near, Ring, counting, reaching, ring, joined, sat}

pub record IsRing (r : Ring) : Type 0 where
  pub plus_assoc : (a b c : ℕ) → r.plus (r.plus a b) c ≡ r.plus a (r.plus b c)
  pub plus_comm : (a b : ℕ) → r.plus a b ≡ r.plus b a
  pub zero_plus : (a : ℕ) → r.plus 0 a ≡ a
  pub times_plus : (u a b : ℕ) → r.times u (r.plus a b) ≡ r.plus (r.times u a) (r.times u b)
  pub plus_times : (u v a : ℕ) → r.times (r.plus u v) a ≡ r.plus (r.times u a) (r.times v a)
  pub times_assoc : (u v a : ℕ) → r.times (r.times u v) a ≡ r.times u (r.times v a)
  pub times_zero : (u : ℕ) → r.times u 0 ≡ 0
  pub zero_times : (a : ℕ) → r.times 0 a ≡ 0
  pub one_times : (a : ℕ) → r.times 1 a ≡ a

counting_ring : IsRing counting
counting_ring = record {
  plus_assoc = λ a b c. omega arith;
  plus_comm = λ a b. omega arith;
  zero_plus = λ a. omega arith;
  times_plus = λ u a b. mul-add u a b;
  plus_times = λ u v a. add-mul u v a;
  times_assoc = λ u v a. mul_assoc u v a;
  times_zero = λ u. mul-zero u;
  zero_times = λ a. zero-mul a;
  one_times = λ a. one-mul a;
}

joined_zero : (u : ℕ) → joined u 0 ≡ 0
joined_zero zero = refl
joined_zero (suc u) = refl

joined_max : (u a b : ℕ) → joined u (max a b) ≡ max (joined u a) (joined u b)
joined_max zero a b = omega arith
joined_max (suc u) zero b =
    let e : max zero b ≡ b = omega arith in
    ap (joined (suc u)) e ∙ omega arith
joined_max (suc u) (suc a) zero =
    let e : max (suc a) zero ≡ suc a = omega arith in
    ap (joined (suc u)) e ∙ omega arith
joined_max (suc u) (suc a) (suc b) =
    let e : max (suc a) (suc b) ≡ suc (max a b) = omega arith in
    ap (joined (suc u)) e ∙ omega arith

max_joined : (u v a : ℕ) → joined (max u v) a ≡ max (joined u a) (joined v a)
max_joined u v zero = joined_zero (max u v) ∙ sym ((λ k. max (joined_zero u k) (joined_zero v k)) ∙ omega arith)
max_joined zero v (suc a) =
    let e : max zero v ≡ v = omega arith in
    ap (λ x. joined x (suc a)) e ∙ omega arith
max_joined (suc u) zero (suc a) =
    let e : max (suc u) zero ≡ suc u = omega arith in
    ap (λ x. joined x (suc a)) e ∙ omega arith
max_joined (suc u) (suc v) (suc a) =
    let e : max (suc u) (suc v) ≡ suc (max u v) = omega arith in
    ap (λ x. joined x (suc a)) e ∙ omega arith

joined_assoc : (u v a : ℕ) → joined (joined u v) a ≡ joined u (joined v a)
joined_assoc zero v a = refl
joined_assoc (suc u) zero a = refl
joined_assoc (suc u) (suc v) zero = refl
joined_assoc (suc u) (suc v) (suc a) = omega arith

one_joined : (a : ℕ) → joined 1 a ≡ a
one_joined zero = refl
one_joined (suc a) = omega arith

reaching_ring : IsRing reaching
reaching_ring = record {
  plus_assoc = λ a b c. omega arith;
  plus_comm = λ a b. omega arith;
  zero_plus = λ a. omega arith;
  times_plus = joined_max;
  plus_times = max_joined;
  times_assoc = joined_assoc;
  times_zero = joined_zero;
  zero_times = λ a. refl;
  one_times = one_joined;
}

pub laws : (s : Scale) → IsRing (ring s)
laws by_nodes = counting_ring
laws by_bindings = counting_ring
laws by_freedom = counting_ring
laws by_depth = reaching_ring

-- ---- limits

joined_cap : (c a b : ℕ) → min c (joined a b) ≡ min c (joined (min c a) (min c b))
joined_cap zero a b = omega arith
joined_cap (suc c) zero b =
    let e : min (suc c) zero ≡ zero = omega arith in
    sym (ap (λ x. min (suc c) (joined x (min (suc c) b))) e)
joined_cap (suc c) (suc a) zero =
    let e : min (suc c) zero ≡ zero = omega arith in
    sym (ap (λ x. min (suc c) (joined (min (suc c) (suc a)) x)) e ∙ ap (min (suc c)) (joined_zero (min (suc c) (suc a))))
joined_cap (suc c) (suc a) (suc b) =
    let ea : min (suc c) (suc a) ≡ suc (min c a) = omega arith in
    let eb : min (suc c) (suc b) ≡ suc (min c b) = omega arith in
    sym ((λ k. min (suc c) (joined (ea k) (eb k))) ∙ omega arith)

grows : (a b : ℕ) → a ≤ a * suc b
grows a b = omega (arith, mul_comm a (suc b), add-mul 1 b a, one-mul a)

times_big : (c a b : ℕ) → c ≤ a → min c (a * b) ≡ min c (min c a * min c b)
times_big c a zero le =
    let e : min c zero ≡ zero = omega arith in
    ap (min c) (mul-zero a) ∙ sym (ap (λ x. min c (min c a * x)) e ∙ ap (min c) (mul-zero (min c a)))
times_big zero a (suc b) le = omega arith
times_big (suc c) a (suc b) le =
    let ea : min (suc c) a ≡ suc c = omega arith in
    let eb : min (suc c) (suc b) ≡ suc (min c b) = omega arith in
    let right : min (suc c) (suc c * suc (min c b)) ≡ suc c = omega (arith, grows (suc c) (min c b)) in
    let left : min (suc c) (a * suc b) ≡ suc c = omega (arith, grows a b) in
    left ∙ sym ((λ k. min (suc c) (ea k * eb k)) ∙ right)

times_small : (c a b : ℕ) → (a < c) ⊎ (c ≤ a) → (b < c) ⊎ (c ≤ b) → min c (a * b) ≡ min c (min c a * min c b)
times_small c a b (inr le) q = times_big c a b le
times_small c a b (inl lt) (inr le) = ap (min c) (mul_comm a b) ∙ times_big c b a le ∙ ap (min c) (mul_comm (min c b) (min c a))
times_small c a b (inl lt) (inl lt') =
    let ea : min c a ≡ a = omega arith in
    let eb : min c b ≡ b = omega arith in
    sym (λ k. min c (ea k * eb k))

plus_cap : (s : Scale) (a b : ℕ) → Near s ((ring s).plus a b) ((ring s).plus (min (limit s) a) (min (limit s) b))
plus_cap by_nodes a b = omega arith
plus_cap by_bindings a b = omega arith
plus_cap by_freedom a b = omega arith
plus_cap by_depth a b = omega arith

times_cap : (s : Scale) (a b : ℕ) → Near s ((ring s).times a b) ((ring s).times (min (limit s) a) (min (limit s) b))
times_cap by_nodes a b = times_small 1048577 a b (cases_lt a 1048577) (cases_lt b 1048577)
times_cap by_bindings a b = times_small 1025 a b (cases_lt a 1025) (cases_lt b 1025)
times_cap by_freedom a b = times_small 1 a b (cases_lt a 1) (cases_lt b 1)
times_cap by_depth a b = joined_cap 1025 a b

-- sums and products of what is near
pub near_plus : (s : Scale) (a b x y : ℕ) → Near s a x → Near s b y → Near s ((ring s).plus a b) ((ring s).plus x y)
near_plus s a b x y p q = plus_cap s a b ∙ (λ k. min (limit s) ((ring s).plus (p k) (q k))) ∙ sym (plus_cap s x y)

pub near_times : (s : Scale) (a b x y : ℕ) → Near s a x → Near s b y → Near s ((ring s).times a b) ((ring s).times x y)
near_times s a b x y p q = times_cap s a b ∙ (λ k. min (limit s) ((ring s).times (p k) (q k))) ∙ sym (times_cap s x y)

pub near_sat : (s : Scale) (a : ℕ) → Near s (sat a) a
near_sat by_nodes a = omega arith
near_sat by_bindings a = omega arith
near_sat by_freedom a = omega arith
near_sat by_depth a = omega arith
