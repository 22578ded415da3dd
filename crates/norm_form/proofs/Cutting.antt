-- Counts that stop at a limit: sums and products of numbers that agree up to the limit agree up to it.
use Rattle.std.specs.Prelude.{ℕ, suc, ◌+◌, ◌*◌, ◌≤◌, ◌≡◌, min, List, [], ◌∷◌, length, nat_eq, Bool, true, false}
use Rattle.std.proofs.Common.{arith, ap, ap₂, ◌∙◌, sym, refl, eqb-true}
use Rattle.norm_form.specs.declared.count.Rate.{Rate}
use Rattle.norm_form.specs.declared.count.Share.{Share}
use Rattle.norm_form.specs.Load.{Load, after, total, sum_load, joined_load, limit}
use Rattle.norm_form.specs.Cut.{IsCut}
use Rattle.lin_truth.specs.declared.VarSort.{VarSort}
use Rattle.lin_truth.specs.declared.Term.{Term as Written}
use Rattle.lin_truth.specs.View.{trees_of}
use Rattle.norm_form.specs.Load.{loads}
use Rattle.norm_form.proofs.Loads.{cut_plus, cut_times}

pub cong_plus : (a b x y : ℕ) → min limit a ≡ min limit x → min limit b ≡ min limit y → min limit (a + b) ≡ min limit (x + y)
cong_plus a b x y e f = sym (cut_plus limit a b) ∙ ap₂ (λ (i j : ℕ). min limit (i + j)) e f ∙ cut_plus limit x y

pub cong_times : (a b x y : ℕ) → min limit a ≡ min limit x → min limit b ≡ min limit y → min limit (a * b) ≡ min limit (x * y)
cong_times a b x y e f = sym (cut_times limit a b) ∙ ap₂ (λ (i j : ℕ). min limit (i * j)) e f ∙ cut_times limit x y

cut_cut : (x : ℕ) → min limit (min limit x) ≡ min limit x
cut_cut x = omega arith

pub cut_of : (a x : ℕ) → a ≡ min limit x → min limit a ≡ min limit x
cut_of a x e = ap (min limit) e ∙ cut_cut x

pub sum_is : (r a b x y : ℕ) → r ≡ min limit (a + b) → min limit a ≡ min limit x → min limit b ≡ min limit y → r ≡ min limit (x + y)
sum_is r a b x y e f g = e ∙ cong_plus a b x y f g

pub product_is : (r a b x y : ℕ) → r ≡ min limit (a * b) → min limit a ≡ min limit x → min limit b ≡ min limit y → r ≡ min limit (x * y)
product_is r a b x y e f g = e ∙ cong_times a b x y f g

pub after_is : (o l c : ℕ) (a b : Share) (x y : Load) → c ≡ min limit (a.leaves * b.own) → o ≡ min limit (a.own + c) → l ≡ min limit (a.leaves * b.leaves) → IsCut a x → IsCut b y → IsCut (record { own = o; leaves = l }) (after x y)
after_is o l c a b x y e f g h k = (
  sum_is o a.own c x.own (x.leaves * y.own) f (cut_of a.own x.own h.0) (cut_of c (x.leaves * y.own) (product_is c a.leaves b.own x.leaves y.own e (cut_of a.leaves x.leaves h.1) (cut_of b.own y.own k.0))),
  product_is l a.leaves b.leaves x.leaves y.leaves g (cut_of a.leaves x.leaves h.1) (cut_of b.leaves y.leaves k.1),
)

pub total_is : (r c n : ℕ) (a : Share) (x : Load) → c ≡ min limit (a.leaves * n) → r ≡ min limit (a.own + c) → IsCut a x → r ≡ min limit (total x n)
total_is r c n a x e f h =
    sum_is r a.own c x.own (x.leaves * n) f (cut_of a.own x.own h.0) (cut_of c (x.leaves * n) (product_is c a.leaves n x.leaves n e (cut_of a.leaves x.leaves h.1) refl))

-- ---- lists

joined_sum : (ns : List ℕ) (r : Rate) → nat_eq (length ns) 1 ≡ false → joined_load ns r ≡ r.node + sum_load ns
joined_sum [] r e = omega arith
joined_sum (n ∷ []) r e = absurd (true_false e)
  where
    true_false : true ≡ false → ⊥
    true_false h = absurd (cc)
joined_sum (n ∷ m ∷ ns) r e = refl

joined_one : (ns : List ℕ) (r : Rate) → nat_eq (length ns) 1 ≡ true → joined_load ns r ≡ 0 + sum_load ns
joined_one [] r e = absurd (cc)
joined_one (n ∷ []) r e = omega arith
joined_one (n ∷ m ∷ ns) r e = absurd (no (length ns) e)
  where
    no : (k : ℕ) → nat_eq (suc (suc k)) 1 ≡ true → ⊥
    no k h = absurd (omega (arith, eqb-true (suc (suc k)) 1 h))

pub joined_is : (ns : List ℕ) (r : Rate) (k start : ℕ) → k ≡ length ns → (nat_eq k 1 ≡ true → start ≡ 0) → (nat_eq k 1 ≡ false → start ≡ r.node) → joined_load ns r ≡ start + sum_load ns
joined_is ns r k start e f g = by (nat_eq k 1) refl
  where
    by : (b : Bool) → nat_eq k 1 ≡ b → joined_load ns r ≡ start + sum_load ns
    by true h = joined_one ns r (ap (λ (n : ℕ). nat_eq n 1) (sym e) ∙ h) ∙ ap (λ (n : ℕ). n + sum_load ns) (sym (f h))
    by false h = joined_sum ns r (ap (λ (n : ℕ). nat_eq n 1) (sym e) ∙ h) ∙ ap (λ (n : ℕ). n + sum_load ns) (sym (g h))

pub loads_length : (ts : List Written) (r : Rate) (vs : List VarSort) → length (loads (trees_of ts) r vs) ≡ length ts
loads_length [] r vs = refl
loads_length (t ∷ ts) r vs = ap suc (loads_length ts r vs)

-- a count within the limit is what it stands for
pub limited_is : (a x : ℕ) → a ≤ limit → min limit (a + 0) ≡ min limit x → a ≡ min limit x
limited_is a x h e = let k : a ≡ min limit (a + 0) = omega arith in k ∙ e

step_law : (o p lo ll ro : ℕ) → (o + p * lo) + (p * ll) * ro ≡ o + p * (lo + ll * ro)
step_law o p lo ll ro = omega arith

leaves_law : (p ll rl : ℕ) → (p * ll) * rl ≡ p * (ll * rl)
leaves_law p ll rl = omega arith

-- one more number of a list
pub listed_step : (all : Share) (new : Share) (l rest : Load) (own leaves : ℕ) → IsCut new (record { own = all.own + all.leaves * l.own; leaves = all.leaves * l.leaves }) → min limit (all.own + all.leaves * (l.own + l.leaves * rest.own)) ≡ min limit own → min limit (all.leaves * (l.leaves * rest.leaves)) ≡ min limit leaves → (min limit (new.own + new.leaves * rest.own) ≡ min limit own) × (min limit (new.leaves * rest.leaves) ≡ min limit leaves)
listed_step all new l rest own leaves h e f = (
  cong_plus new.own (new.leaves * rest.own) (all.own + all.leaves * l.own) ((all.leaves * l.leaves) * rest.own) (cut_of new.own (all.own + all.leaves * l.own) h.0)
      (cong_times new.leaves rest.own (all.leaves * l.leaves) rest.own (cut_of new.leaves (all.leaves * l.leaves) h.1) refl)
      ∙ ap (min limit) (step_law all.own all.leaves l.own l.leaves rest.own) ∙ e,
  cong_times new.leaves rest.leaves (all.leaves * l.leaves) rest.leaves (cut_of new.leaves (all.leaves * l.leaves) h.1) refl
      ∙ ap (min limit) (leaves_law all.leaves l.leaves rest.leaves) ∙ f,
)
