-- The size of a node from those of its parts.
use Rattle.std.proofs.Common.{◌≡◌, ℕ, zero, suc, ◌+◌, ◌*◌, min, max, Bool, true, false, ◌&&◌, cond, List, [], ◌∷◌, length, map, refl, sym, ap, ◌∙◌, arith}
use Rattle.std.proofs.Math.Nat.{one-mul}
use Rattle.lin_truth.specs.declared.term.VarSort.{VarSort}
use Rattle.lin_truth.specs.Term.{Term, no, variable, ite}
use Rattle.lin_truth.specs.View.{terms_of}
use Rattle.lin_truth.specs.Constant.{is_constant, are_constant}
use Rattle.lin_truth.specs.Size.{measure, measures, total, greatest, node_count, depth, binding_count}
use Rattle.term_table.specs.declared.node.Leaf.{Leaf}
use Rattle.term_table.specs.declared.node.Leaf.TheVariants as leaf
use Rattle.term_table.specs.declared.node.Unary.{Unary}
use Rattle.term_table.specs.declared.node.Unary.TheVariants as unary
use Rattle.term_table.specs.declared.node.Binary.{Binary}
use Rattle.term_table.specs.declared.node.Binary.TheVariants as binary
use Rattle.term_table.specs.declared.node.Variadic.{Variadic}
use Rattle.term_table.specs.declared.node.Variadic.TheVariants as variadic
use Rattle.term_table.specs.declared.node.Quantifier.{Quantifier}
use Rattle.term_table.specs.declared.node.Quantifier.TheVariants as quantifier
use Rattle.term_table.specs.Built.{leaf_of, one_of, two_of, several_of, binder_of}
use Rattle.term_table.specs.Scale.{Scale, by_nodes, by_bindings, by_freedom, by_depth, limit, Near, counting, reaching, joined, sum_in, layer, whole, bare, size, free_leaf, free_one, free_two, free_several}

-- ---- one node, for any measure

pub measure_one : (step : ℕ → List ℕ → ℕ) (op : Unary) (t : Term) → measure step (one_of op t) ≡ step 0 (measure step t ∷ [])
measure_one step unary.Negative t = refl
measure_one step unary.Abs t = refl
measure_one step unary.Not t = refl
measure_one step (unary.Divisible n) t = refl

pub measure_two : (step : ℕ → List ℕ → ℕ) (op : Binary) (a b : Term) → measure step (two_of op a b) ≡ step 0 (measure step a ∷ measure step b ∷ [])
measure_two step binary.Minus a b = refl
measure_two step binary.Quotient a b = refl
measure_two step binary.Div a b = refl
measure_two step binary.Mod a b = refl
measure_two step binary.Less a b = refl
measure_two step binary.AtMost a b = refl
measure_two step binary.Greater a b = refl
measure_two step binary.AtLeast a b = refl
measure_two step binary.Equal a b = refl
measure_two step binary.Xor a b = refl
measure_two step binary.Implies a b = refl

pub measures_of : (step : ℕ → List ℕ → ℕ) (ts : List Term) → measures step (terms_of ts) ≡ map (measure step) ts
measures_of step [] = refl
measures_of step (t ∷ ts) = ap (λ (ns : List ℕ). measure step t ∷ ns) (measures_of step ts)

pub measure_several : (step : ℕ → List ℕ → ℕ) (op : Variadic) (ts : List Term) → measure step (several_of op ts) ≡ step 0 (map (measure step) ts)
measure_several step variadic.Plus ts = ap (step 0) (measures_of step ts)
measure_several step variadic.Times ts = ap (step 0) (measures_of step ts)
measure_several step variadic.And ts = ap (step 0) (measures_of step ts)
measure_several step variadic.Or ts = ap (step 0) (measures_of step ts)

measure_binder : (step : ℕ → List ℕ → ℕ) (q : Quantifier) (us : List VarSort) (t : Term) → measure step (binder_of q us t) ≡ step (length us) (measure step t ∷ [])
measure_binder step quantifier.Forall us t = refl
measure_binder step quantifier.Exists us t = refl

-- ---- the steps of the scales

pub total_sum : (ns : List ℕ) → total ns ≡ sum_in counting ns
total_sum [] = refl
total_sum (n ∷ ns) = ap (λ m. n + m) (total_sum ns)

pub greatest_sum : (ns : List ℕ) → greatest ns ≡ sum_in reaching ns
greatest_sum [] = refl
greatest_sum (n ∷ ns) = ap (max n) (greatest_sum ns)

nodes_step : (free b : ℕ) (ns : List ℕ) → suc (total ns) ≡ whole by_nodes free b ns
nodes_step free b ns = omega (arith, total_sum ns, one-mul (sum_in counting ns))

bindings_step : (free b : ℕ) (ns : List ℕ) → b + total ns ≡ whole by_bindings free b ns
bindings_step free b ns = omega (arith, total_sum ns, one-mul (sum_in counting ns))

deeper : (g : ℕ) → suc g ≡ max 1 (joined 2 g)
deeper zero = omega arith
deeper (suc g) = omega arith

depth_step : (free b : ℕ) (ns : List ℕ) → suc (greatest ns) ≡ whole by_depth free b ns
depth_step free b ns = ap suc (greatest_sum ns) ∙ deeper (sum_in reaching ns)

-- ---- freedom

abbrev free : Term → ℕ
free t = size by_freedom t

freedom : Bool → ℕ
freedom b = cond b 0 1

free_both : (a b : Bool) → min 1 (cond (a && b) 0 1) ≡ min 1 (0 + 1 * (cond a 0 1 + (cond b 0 1 + 0)))
free_both true true = refl
free_both true false = refl
free_both false true = refl
free_both false false = refl

free_alone : (a : Bool) → min 1 (cond a 0 1) ≡ min 1 (0 + 1 * (cond a 0 1 + 0))
free_alone true = refl
free_alone false = refl

free_logic : (n : ℕ) → min 1 1 ≡ min 1 (1 + 1 * n)
free_logic n = omega (arith, one-mul n)

free_one_law : (op : Unary) (t : Term) → Near by_freedom (free (one_of op t)) (whole by_freedom (free_one op) 0 (free t ∷ []))
free_one_law unary.Negative t = free_alone (is_constant t)
free_one_law unary.Abs t = free_alone (is_constant t)
free_one_law unary.Not t = free_logic (free t + 0)
free_one_law (unary.Divisible n) t = free_logic (free t + 0)

free_two_law : (op : Binary) (a b : Term) → Near by_freedom (free (two_of op a b)) (whole by_freedom (free_two op) 0 (free a ∷ free b ∷ []))
free_two_law binary.Minus a b = free_both (is_constant a) (is_constant b)
free_two_law binary.Quotient a b = free_both (is_constant a) (is_constant b)
free_two_law binary.Div a b = free_both (is_constant a) (is_constant b)
free_two_law binary.Mod a b = free_both (is_constant a) (is_constant b)
free_two_law binary.Less a b = free_logic (free a + (free b + 0))
free_two_law binary.AtMost a b = free_logic (free a + (free b + 0))
free_two_law binary.Greater a b = free_logic (free a + (free b + 0))
free_two_law binary.AtLeast a b = free_logic (free a + (free b + 0))
free_two_law binary.Equal a b = free_logic (free a + (free b + 0))
free_two_law binary.Xor a b = free_logic (free a + (free b + 0))
free_two_law binary.Implies a b = free_logic (free a + (free b + 0))

free_first : (a b : Bool) (n : ℕ) → min 1 (cond b 0 1) ≡ min 1 n → min 1 (cond (a && b) 0 1) ≡ min 1 (cond a 0 1 + n)
free_first true b n e = e ∙ omega arith
free_first false b n e = omega arith

free_all : (ts : List Term) → min 1 (cond (are_constant (terms_of ts)) 0 1) ≡ min 1 (sum_in counting (map free ts))
free_all [] = refl
free_all (t ∷ ts) = free_first (is_constant t) (are_constant (terms_of ts)) (sum_in counting (map free ts)) (free_all ts)

free_sum : (n m : ℕ) → min 1 n ≡ min 1 m → min 1 n ≡ min 1 (0 + 1 * m)
free_sum n m e = e ∙ ap (min 1) (sym (omega (arith, one-mul m)))

free_several_law : (op : Variadic) (ts : List Term) → Near by_freedom (free (several_of op ts)) (whole by_freedom (free_several op) 0 (map free ts))
free_several_law variadic.Plus ts = free_sum (cond (are_constant (terms_of ts)) 0 1) (sum_in counting (map free ts)) (free_all ts)
free_several_law variadic.Times ts = free_sum (cond (are_constant (terms_of ts)) 0 1) (sum_in counting (map free ts)) (free_all ts)
free_several_law variadic.And ts = free_logic (sum_in counting (map free ts))
free_several_law variadic.Or ts = free_logic (sum_in counting (map free ts))

free_binder_law : (q : Quantifier) (us : List VarSort) (t : Term) → Near by_freedom (free (binder_of q us t)) (whole by_freedom 1 (length us) (free t ∷ []))
free_binder_law quantifier.Forall us t = free_logic (free t + 0)
free_binder_law quantifier.Exists us t = free_logic (free t + 0)

-- ---- the laws, for each scale

pub size_leaf : (s : Scale) (l : Leaf) → size s (leaf_of l) ≡ layer s (free_leaf l) 0
size_leaf by_nodes leaf.True = refl
size_leaf by_nodes leaf.False = refl
size_leaf by_nodes (leaf.Number num den) = refl
size_leaf by_nodes (leaf.Constant i) = refl
size_leaf by_bindings leaf.True = refl
size_leaf by_bindings leaf.False = refl
size_leaf by_bindings (leaf.Number num den) = refl
size_leaf by_bindings (leaf.Constant i) = refl
size_leaf by_freedom leaf.True = refl
size_leaf by_freedom leaf.False = refl
size_leaf by_freedom (leaf.Number num den) = refl
size_leaf by_freedom (leaf.Constant i) = refl
size_leaf by_depth leaf.True = refl
size_leaf by_depth leaf.False = refl
size_leaf by_depth (leaf.Number num den) = refl
size_leaf by_depth (leaf.Constant i) = refl

pub size_variable : (s : Scale) (i : ℕ) → size s (variable i) ≡ bare s
size_variable by_nodes i = refl
size_variable by_bindings i = refl
size_variable by_freedom i = refl
size_variable by_depth i = refl

pub size_nothing : (s : Scale) → size s no ≡ bare s
size_nothing by_nodes = refl
size_nothing by_bindings = refl
size_nothing by_freedom = refl
size_nothing by_depth = refl

near : (s : Scale) (a b : ℕ) → a ≡ b → Near s a b
near s a b e = ap (min (limit s)) e

pub size_one : (s : Scale) (op : Unary) (t : Term) → Near s (size s (one_of op t)) (whole s (free_one op) 0 (size s t ∷ []))
size_one by_nodes op t = near by_nodes (node_count (one_of op t)) (whole by_nodes (free_one op) 0 (node_count t ∷ [])) (measure_one (λ b ns. suc (total ns)) op t ∙ nodes_step (free_one op) 0 (node_count t ∷ []))
size_one by_bindings op t = near by_bindings (binding_count (one_of op t)) (whole by_bindings (free_one op) 0 (binding_count t ∷ [])) (measure_one (λ b ns. b + total ns) op t ∙ bindings_step (free_one op) 0 (binding_count t ∷ []))
size_one by_freedom op t = free_one_law op t
size_one by_depth op t = near by_depth (depth (one_of op t)) (whole by_depth (free_one op) 0 (depth t ∷ [])) (measure_one (λ b ns. suc (greatest ns)) op t ∙ depth_step (free_one op) 0 (depth t ∷ []))

pub size_two : (s : Scale) (op : Binary) (a b : Term) → Near s (size s (two_of op a b)) (whole s (free_two op) 0 (size s a ∷ size s b ∷ []))
size_two by_nodes op a b = near by_nodes (node_count (two_of op a b)) (whole by_nodes (free_two op) 0 (node_count a ∷ node_count b ∷ [])) (measure_two (λ k ns. suc (total ns)) op a b ∙ nodes_step (free_two op) 0 (node_count a ∷ node_count b ∷ []))
size_two by_bindings op a b = near by_bindings (binding_count (two_of op a b)) (whole by_bindings (free_two op) 0 (binding_count a ∷ binding_count b ∷ [])) (measure_two (λ k ns. k + total ns) op a b ∙ bindings_step (free_two op) 0 (binding_count a ∷ binding_count b ∷ []))
size_two by_freedom op a b = free_two_law op a b
size_two by_depth op a b = near by_depth (depth (two_of op a b)) (whole by_depth (free_two op) 0 (depth a ∷ depth b ∷ [])) (measure_two (λ k ns. suc (greatest ns)) op a b ∙ depth_step (free_two op) 0 (depth a ∷ depth b ∷ []))

pub size_choice : (s : Scale) (c a b : Term) → Near s (size s (ite c a b)) (whole s 1 0 (size s c ∷ size s a ∷ size s b ∷ []))
size_choice by_nodes c a b = near by_nodes (node_count (ite c a b)) (whole by_nodes 1 0 (node_count c ∷ node_count a ∷ node_count b ∷ [])) (nodes_step 1 0 (node_count c ∷ node_count a ∷ node_count b ∷ []))
size_choice by_bindings c a b = near by_bindings (binding_count (ite c a b)) (whole by_bindings 1 0 (binding_count c ∷ binding_count a ∷ binding_count b ∷ [])) (bindings_step 1 0 (binding_count c ∷ binding_count a ∷ binding_count b ∷ []))
size_choice by_freedom c a b = free_logic (free c + (free a + (free b + 0)))
size_choice by_depth c a b = near by_depth (depth (ite c a b)) (whole by_depth 1 0 (depth c ∷ depth a ∷ depth b ∷ [])) (depth_step 1 0 (depth c ∷ depth a ∷ depth b ∷ []))

pub size_several : (s : Scale) (op : Variadic) (ts : List Term) → Near s (size s (several_of op ts)) (whole s (free_several op) 0 (map (size s) ts))
size_several by_nodes op ts = near by_nodes (node_count (several_of op ts)) (whole by_nodes (free_several op) 0 (map node_count ts)) (measure_several (λ b ns. suc (total ns)) op ts ∙ nodes_step (free_several op) 0 (map node_count ts))
size_several by_bindings op ts = near by_bindings (binding_count (several_of op ts)) (whole by_bindings (free_several op) 0 (map binding_count ts)) (measure_several (λ b ns. b + total ns) op ts ∙ bindings_step (free_several op) 0 (map binding_count ts))
size_several by_freedom op ts = free_several_law op ts
size_several by_depth op ts = near by_depth (depth (several_of op ts)) (whole by_depth (free_several op) 0 (map depth ts)) (measure_several (λ b ns. suc (greatest ns)) op ts ∙ depth_step (free_several op) 0 (map depth ts))

pub size_binder : (s : Scale) (q : Quantifier) (us : List VarSort) (t : Term) → Near s (size s (binder_of q us t)) (whole s 1 (length us) (size s t ∷ []))
size_binder by_nodes q us t = near by_nodes (node_count (binder_of q us t)) (whole by_nodes 1 (length us) (node_count t ∷ [])) (measure_binder (λ b ns. suc (total ns)) q us t ∙ nodes_step 1 (length us) (node_count t ∷ []))
size_binder by_bindings q us t = near by_bindings (binding_count (binder_of q us t)) (whole by_bindings 1 (length us) (binding_count t ∷ [])) (measure_binder (λ b ns. b + total ns) q us t ∙ bindings_step 1 (length us) (binding_count t ∷ []))
size_binder by_freedom q us t = free_binder_law q us t
size_binder by_depth q us t = near by_depth (depth (binder_of q us t)) (whole by_depth 1 (length us) (depth t ∷ [])) (measure_binder (λ b ns. suc (greatest ns)) q us t ∙ depth_step 1 (length us) (depth t ∷ []))
