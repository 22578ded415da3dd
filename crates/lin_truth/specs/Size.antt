-- The size of a term: its nodes, its depth and its bindings.
use Rattle.std.specs.Prelude.{ℕ, suc, ◌+◌, max, length, List, [], ◌∷◌}
use Rattle.lin_truth.specs.Term.{Term, Terms, yes, no, amount, variable, negative, absolute, negated, divisible, minus, quotient_of, div_of, mod_of, less, at_most, greater, at_least, equal, xor_of, implies, ite, plus_of, times_of, and_of, or_of, forall_of, exists_of, no_term, term_and}

-- a number for each node, from the number of bindings that it makes and the numbers of its parts
abbrev mutual
  pub measure : (ℕ → List ℕ → ℕ) → Term → ℕ
  measure step yes = step 0 []
  measure step no = step 0 []
  measure step (amount v) = step 0 []
  measure step (variable i) = step 0 []
  measure step (negative t) = step 0 (measure step t ∷ [])
  measure step (absolute t) = step 0 (measure step t ∷ [])
  measure step (negated t) = step 0 (measure step t ∷ [])
  measure step (divisible n t) = step 0 (measure step t ∷ [])
  measure step (minus a b) = step 0 (measure step a ∷ measure step b ∷ [])
  measure step (quotient_of a b) = step 0 (measure step a ∷ measure step b ∷ [])
  measure step (div_of a b) = step 0 (measure step a ∷ measure step b ∷ [])
  measure step (mod_of a b) = step 0 (measure step a ∷ measure step b ∷ [])
  measure step (less a b) = step 0 (measure step a ∷ measure step b ∷ [])
  measure step (at_most a b) = step 0 (measure step a ∷ measure step b ∷ [])
  measure step (greater a b) = step 0 (measure step a ∷ measure step b ∷ [])
  measure step (at_least a b) = step 0 (measure step a ∷ measure step b ∷ [])
  measure step (equal a b) = step 0 (measure step a ∷ measure step b ∷ [])
  measure step (xor_of a b) = step 0 (measure step a ∷ measure step b ∷ [])
  measure step (implies a b) = step 0 (measure step a ∷ measure step b ∷ [])
  measure step (ite c a b) = step 0 (measure step c ∷ measure step a ∷ measure step b ∷ [])
  measure step (plus_of ts) = step 0 (measures step ts)
  measure step (times_of ts) = step 0 (measures step ts)
  measure step (and_of ts) = step 0 (measures step ts)
  measure step (or_of ts) = step 0 (measures step ts)
  measure step (forall_of us t) = step (length us) (measure step t ∷ [])
  measure step (exists_of us t) = step (length us) (measure step t ∷ [])

  pub measures : (ℕ → List ℕ → ℕ) → Terms → List ℕ
  measures step no_term = []
  measures step (term_and t ts) = measure step t ∷ measures step ts

abbrev pub total : List ℕ → ℕ
total [] = 0
total (n ∷ ns) = n + total ns

abbrev pub greatest : List ℕ → ℕ
greatest [] = 0
greatest (n ∷ ns) = max n (greatest ns)

-- the nodes: a node, and those of its parts
abbrev pub node_count : Term → ℕ
node_count = measure (λ bindings parts. suc (total parts))

-- the nodes on the longest way down
abbrev pub depth : Term → ℕ
depth = measure (λ bindings parts. suc (greatest parts))

-- the bindings of all `forall` and `exists`
abbrev pub binding_count : Term → ℕ
binding_count = measure (λ bindings parts. bindings + total parts)
