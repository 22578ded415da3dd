-- The ways in which a table counts the size of its entries. Numbers are compared only up to a limit.
use Rattle.std.specs.Prelude.{◌≡◌, ℕ, zero, suc, ◌+◌, ◌*◌, min, max, if◌then◌else◌, List, [], ◌∷◌}
use Rattle.lin_truth.specs.Term.{Term}
use Rattle.lin_truth.specs.Constant.{is_constant}
use Rattle.lin_truth.specs.Size.{node_count, depth, binding_count}
use Rattle.term_table.specs.declared.amount.Amount.{Amount}
use Rattle.term_table.specs.declared.amount.Weight.{Weight}
use Rattle.term_table.specs.declared.node.Leaf.{Leaf}
use Rattle.term_table.specs.declared.node.Leaf.TheVariants as leaf
use Rattle.term_table.specs.declared.node.Unary.{Unary}
use Rattle.term_table.specs.declared.node.Unary.TheVariants as unary
use Rattle.term_table.specs.declared.node.Binary.{Binary}
use Rattle.term_table.specs.declared.node.Binary.TheVariants as binary
use Rattle.term_table.specs.declared.node.Variadic.{Variadic}
use Rattle.term_table.specs.declared.node.Variadic.TheVariants as variadic

-- the greatest 32-bit number in place of a greater one
abbrev pub sat : ℕ → ℕ
sat n = min n 4294967295

pub data Scale : Type 0 where
  by_nodes : Scale
  by_bindings : Scale
  -- the nodes that no constant term has: there are none exactly in a constant term
  by_freedom : Scale
  by_depth : Scale

-- up to which number the scale tells sizes apart
abbrev pub limit : Scale → ℕ
limit by_nodes = 1048577
limit by_bindings = 1025
limit by_freedom = 1
limit by_depth = 1025

abbrev pub Near : Scale → ℕ → ℕ → Type 0
Near s a b = min (limit s) a ≡ min (limit s) b

abbrev pub amount : Scale → Amount → ℕ
amount by_nodes a = a.nodes
amount by_bindings a = a.bindings
amount by_freedom a = a.free
amount by_depth a = a.depth

abbrev pub weight : Scale → Weight → ℕ
weight by_nodes w = w.times
weight by_bindings w = w.times
weight by_freedom w = w.times
weight by_depth w = w.way

abbrev pub size : Scale → Term → ℕ
size by_nodes t = node_count t
size by_bindings t = binding_count t
size by_freedom t = if is_constant t then 0 else 1
size by_depth t = depth t

-- ---- sums and products: a depth is the greater one, and a way through a part

-- 0 is no way, n + 1 a way through n nodes
abbrev pub joined : ℕ → ℕ → ℕ
joined zero b = 0
joined (suc a) zero = 0
joined (suc a) (suc b) = suc (a + b)

pub record Ring : Type 0 where
  pub plus : ℕ → ℕ → ℕ
  pub times : ℕ → ℕ → ℕ
  -- how a part counts in the node above it
  pub down : ℕ

abbrev pub counting : Ring
counting = record { plus = λ a b. a + b; times = λ a b. a * b; down = 1 }

abbrev pub reaching : Ring
reaching = record { plus = max; times = joined; down = 2 }

abbrev pub ring : Scale → Ring
ring by_nodes = counting
ring by_bindings = counting
ring by_freedom = counting
ring by_depth = reaching

abbrev pub sum_in : Ring → List ℕ → ℕ
sum_in r [] = 0
sum_in r (n ∷ ns) = r.plus n (sum_in r ns)

-- ---- nodes

-- a node by itself, with so many nodes that no constant term has, and so many bindings
abbrev pub layer : Scale → ℕ → ℕ → ℕ
layer by_nodes free bindings = 1
layer by_bindings free bindings = bindings
layer by_freedom free bindings = free
layer by_depth free bindings = 1

-- with its parts
abbrev pub whole : Scale → ℕ → ℕ → List ℕ → ℕ
whole s free bindings parts = (ring s).plus (layer s free bindings) ((ring s).times (ring s).down (sum_in (ring s) parts))

-- a parameter for which nothing is given
abbrev pub bare : Scale → ℕ
bare s = layer s 1 0

abbrev pub free_leaf : Leaf → ℕ
free_leaf leaf.True = 1
free_leaf leaf.False = 1
free_leaf (leaf.Number num den) = 0
free_leaf (leaf.Constant i) = 1

abbrev pub free_one : Unary → ℕ
free_one unary.Negative = 0
free_one unary.Abs = 0
free_one unary.Not = 1
free_one (unary.Divisible n) = 1

abbrev pub free_two : Binary → ℕ
free_two binary.Minus = 0
free_two binary.Quotient = 0
free_two binary.Div = 0
free_two binary.Mod = 0
free_two binary.Less = 1
free_two binary.AtMost = 1
free_two binary.Greater = 1
free_two binary.AtLeast = 1
free_two binary.Equal = 1
free_two binary.Xor = 1
free_two binary.Implies = 1

abbrev pub free_several : Variadic → ℕ
free_several variadic.Plus = 0
free_several variadic.Times = 0
free_several variadic.And = 1
free_several variadic.Or = 1

-- one less
abbrev pub others : ℕ → ℕ
others zero = 0
others (suc k) = k

-- the way to a part of a pair, if there is a pair: through the conjunction, the negation and the equation
abbrev pub way_to_pair : ℕ → ℕ
way_to_pair zero = 0
way_to_pair (suc zero) = 0
way_to_pair (suc (suc k)) = 4

-- that k parts are distinct: k * (k - 1) nodes besides the conjunction, and each part k - 1 times
abbrev pub distinct_layer : Scale → ℕ → ℕ
distinct_layer by_nodes k = k * others k + 1
distinct_layer by_bindings k = 0
distinct_layer by_freedom k = 1
distinct_layer by_depth k = 1

abbrev pub distinct_weight : Scale → ℕ → ℕ
distinct_weight by_nodes k = others k
distinct_weight by_bindings k = others k
distinct_weight by_freedom k = others k
distinct_weight by_depth k = way_to_pair k
