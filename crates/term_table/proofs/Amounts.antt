-- Amounts that are added up and scaled, as numbers of each scale.
use Rattle.std.proofs.Common.{◌≡◌, ℕ, zero, suc, ◌+◌, ◌*◌, ◌<◌, ◌≤◌, min, max, List, [], ◌∷◌, length, map, get_or, drop, refl, sym, ap, ◌∙◌, arith}
use Rattle.term_table.specs.declared.amount.Amount.{Amount}
use Rattle.term_table.specs.declared.amount.Weight.{Weight}
use Rattle.term_table.specs.Scale.{Scale, by_nodes, by_bindings, by_freedom, by_depth, limit, Near, amount, weight, joined, ring, sum_in, sat, layer, bare}
use Rattle.term_table.specs.Meaning.{AreBelow}
use Rattle.term_table.specs.Form.{dot}
use Rattle.term_table.proofs.Rings.{laws, near_plus, near_sat}

abbrev pub together : Amount → Amount → Amount
together a b = record { nodes = sat (a.nodes + b.nodes); bindings = sat (a.bindings + b.bindings); free = sat (a.free + b.free); depth = max a.depth b.depth }

abbrev pub as_often : Amount → Weight → Amount
as_often a w = record { nodes = sat (w.times * a.nodes); bindings = sat (w.times * a.bindings); free = sat (w.times * a.free); depth = sat (joined w.way a.depth) }

abbrev pub either_way : Weight → Weight → Weight
either_way v w = record { times = sat (v.times + w.times); way = max v.way w.way }

abbrev pub through : Weight → Weight → Weight
through v w = record { times = sat (v.times * w.times); way = sat (joined v.way w.way) }

pub amount-together : (s : Scale) (a b : Amount) → Near s (amount s (together a b)) ((ring s).plus (amount s a) (amount s b))
amount-together by_nodes a b = near_sat by_nodes (a.nodes + b.nodes)
amount-together by_bindings a b = near_sat by_bindings (a.bindings + b.bindings)
amount-together by_freedom a b = near_sat by_freedom (a.free + b.free)
amount-together by_depth a b = refl

pub amount-as_often : (s : Scale) (a : Amount) (w : Weight) → Near s (amount s (as_often a w)) ((ring s).times (weight s w) (amount s a))
amount-as_often by_nodes a w = near_sat by_nodes (w.times * a.nodes)
amount-as_often by_bindings a w = near_sat by_bindings (w.times * a.bindings)
amount-as_often by_freedom a w = near_sat by_freedom (w.times * a.free)
amount-as_often by_depth a w = near_sat by_depth (joined w.way a.depth)

pub weight-either_way : (s : Scale) (v w : Weight) → Near s (weight s (either_way v w)) ((ring s).plus (weight s v) (weight s w))
weight-either_way by_nodes v w = near_sat by_nodes (v.times + w.times)
weight-either_way by_bindings v w = near_sat by_bindings (v.times + w.times)
weight-either_way by_freedom v w = near_sat by_freedom (v.times + w.times)
weight-either_way by_depth v w = refl

pub weight-through : (s : Scale) (v w : Weight) → Near s (weight s (through v w)) ((ring s).times (weight s v) (weight s w))
weight-through by_nodes v w = near_sat by_nodes (v.times * w.times)
weight-through by_bindings v w = near_sat by_bindings (v.times * w.times)
weight-through by_freedom v w = near_sat by_freedom (v.times * w.times)
weight-through by_depth v w = near_sat by_depth (joined v.way w.way)

pub amount-layer : (s : Scale) (free bindings : ℕ) → amount s (record { nodes = 1; bindings = bindings; free = free; depth = 1 }) ≡ layer s free bindings
amount-layer by_nodes free bindings = refl
amount-layer by_bindings free bindings = refl
amount-layer by_freedom free bindings = refl
amount-layer by_depth free bindings = refl

pub amount-none : (s : Scale) → amount s (record { nodes = 0; bindings = 0; free = 0; depth = 0 }) ≡ 0
amount-none by_nodes = refl
amount-none by_bindings = refl
amount-none by_freedom = refl
amount-none by_depth = refl

-- one more that is added up: sum + (n + rest) is (sum + n) + rest
pub one_more : (s : Scale) (sum new : Amount) (n k rest all : ℕ) → Near s (amount s new) ((ring s).plus (amount s sum) n) → Near s n k → Near s ((ring s).plus (amount s sum) ((ring s).plus k rest)) all
    → Near s ((ring s).plus (amount s new) rest) all
one_more s sum new n k rest all step same before =
    near_plus s (amount s new) rest ((ring s).plus (amount s sum) n) rest step refl
    ∙ near_plus s ((ring s).plus (amount s sum) n) rest ((ring s).plus (amount s sum) k) rest (near_plus s (amount s sum) n (amount s sum) k refl same) refl
    ∙ ap (min (limit s)) ((laws s).plus_assoc (amount s sum) k rest) ∙ before

pub plus_zero : (s : Scale) (a : ℕ) → (ring s).plus a 0 ≡ a
plus_zero s a = (laws s).plus_comm a 0 ∙ (laws s).zero_plus a

-- ---- parts in order

pub below-at : (n : ℕ) (is : List ℕ) (k : ℕ) → AreBelow n is → k < length is → get_or is k 0 < n
below-at n [] k below lt = absurd (omega arith)
below-at n (i ∷ is) zero below lt = below.0
below-at n (i ∷ is) (suc k) below lt = below-at n is k below.1 (omega arith)

pub sum_drop : (s : Scale) (f : ℕ → ℕ) (is : List ℕ) (k : ℕ) → k < length is → sum_in (ring s) (map f (drop k is)) ≡ (ring s).plus (f (get_or is k 0)) (sum_in (ring s) (map f (drop (suc k) is)))
sum_drop s f [] k lt = absurd (omega arith)
sum_drop s f (i ∷ is) zero lt = refl
sum_drop s f (i ∷ is) (suc k) lt = sum_drop s f is k (omega arith)

pub sum_end : (s : Scale) (f : ℕ → ℕ) (is : List ℕ) (k : ℕ) → length is ≤ k → sum_in (ring s) (map f (drop k is)) ≡ 0
sum_end s f [] zero le = refl
sum_end s f [] (suc k) le = refl
sum_end s f (i ∷ is) zero le = absurd (omega arith)
sum_end s f (i ∷ is) (suc k) le = sum_end s f is k (omega arith)

drop_nil : (k : ℕ) → drop {A = ℕ} k [] ≡ []
drop_nil zero = refl
drop_nil (suc k) = refl

pub dot_drop : (s : Scale) (us : List Weight) (gs : List ℕ) (k : ℕ) (d : Weight) → k < length us
    → dot s (drop k us) (drop k gs) ≡ (ring s).plus ((ring s).times (weight s (get_or us k d)) (get_or gs k (bare s))) (dot s (drop (suc k) us) (drop (suc k) gs))
dot_drop s [] gs k d lt = absurd (omega arith)
dot_drop s (u ∷ us) [] zero d lt = refl
dot_drop s (u ∷ us) (g ∷ gs) zero d lt = refl
dot_drop s (u ∷ us) [] (suc k) d lt = ap (dot s (drop k us)) (sym (drop_nil k)) ∙ dot_drop s us [] k d (omega arith) ∙ ap (λ (gs : List ℕ). (ring s).plus ((ring s).times (weight s (get_or us k d)) (bare s)) (dot s (drop (suc k) us) gs)) (drop_nil (suc k))
dot_drop s (u ∷ us) (g ∷ gs) (suc k) d lt = dot_drop s us gs k d (omega arith)

pub dot_end : (s : Scale) (us : List Weight) (gs : List ℕ) (k : ℕ) → length us ≤ k → dot s (drop k us) gs ≡ 0
dot_end s [] gs zero le = refl
dot_end s [] gs (suc k) le = refl
dot_end s (u ∷ us) gs zero le = absurd (omega arith)
dot_end s (u ∷ us) gs (suc k) le = dot_end s us gs k (omega arith)

pub sum_next : (s : Scale) (f : ℕ → ℕ) (is : List ℕ) (k : ℕ) → k < length is → sum_in (ring s) (map f (drop k is)) ≡ (ring s).plus (f (get_or is k 0)) (sum_in (ring s) (map f (drop (k + 1) is)))
sum_next s f is k lt = let e : suc k ≡ k + 1 = omega arith in sum_drop s f is k lt ∙ ap (λ j. (ring s).plus (f (get_or is k 0)) (sum_in (ring s) (map f (drop j is)))) e

pub dot_next : (s : Scale) (us : List Weight) (gs : List ℕ) (k : ℕ) (d : Weight) → k < length us
    → dot s (drop k us) (drop k gs) ≡ (ring s).plus ((ring s).times (weight s (get_or us k d)) (get_or gs k (bare s))) (dot s (drop (k + 1) us) (drop (k + 1) gs))
dot_next s us gs k d lt = let e : suc k ≡ k + 1 = omega arith in dot_drop s us gs k d lt ∙ ap (λ j. (ring s).plus ((ring s).times (weight s (get_or us k d)) (get_or gs k (bare s))) (dot s (drop j us) (drop j gs))) e
