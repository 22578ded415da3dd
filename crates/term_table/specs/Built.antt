-- Trees from their parts.
use Rattle.std.specs.Prelude.{List, [], ◌∷◌, ◌++◌, map}
use Rattle.lin_truth.specs.declared.term.VarSort.{VarSort}
use Rattle.lin_truth.specs.Term.{Term, yes, no, amount, variable, negative, absolute, negated, divisible, minus, quotient_of, div_of, mod_of, less, at_most, greater, at_least, equal, xor_of, implies, plus_of, times_of, and_of, or_of, forall_of, exists_of}
use Rattle.lin_truth.specs.View.{den_of, terms_of}
use Rattle.term_table.specs.declared.node.Leaf.{Leaf}
use Rattle.term_table.specs.declared.node.Leaf.TheVariants as leaf
use Rattle.term_table.specs.declared.node.Unary.{Unary}
use Rattle.term_table.specs.declared.node.Unary.TheVariants as unary
use Rattle.term_table.specs.declared.node.Binary.{Binary}
use Rattle.term_table.specs.declared.node.Binary.TheVariants as binary
use Rattle.term_table.specs.declared.node.Variadic.{Variadic}
use Rattle.term_table.specs.declared.node.Variadic.TheVariants as variadic
use Rattle.term_table.specs.declared.node.Quantifier.{Quantifier}
use Rattle.term_table.specs.declared.node.Quantifier.TheVariants as quantifier

abbrev pub leaf_of : Leaf → Term
leaf_of leaf.True = yes
leaf_of leaf.False = no
leaf_of (leaf.Number num den) = amount (record { num = num; den = den_of den })
leaf_of (leaf.Constant i) = variable i

abbrev pub one_of : Unary → Term → Term
one_of unary.Negative t = negative t
one_of unary.Abs t = absolute t
one_of unary.Not t = negated t
one_of (unary.Divisible n) t = divisible n t

abbrev pub two_of : Binary → Term → Term → Term
two_of binary.Minus a b = minus a b
two_of binary.Quotient a b = quotient_of a b
two_of binary.Div a b = div_of a b
two_of binary.Mod a b = mod_of a b
two_of binary.Less a b = less a b
two_of binary.AtMost a b = at_most a b
two_of binary.Greater a b = greater a b
two_of binary.AtLeast a b = at_least a b
two_of binary.Equal a b = equal a b
two_of binary.Xor a b = xor_of a b
two_of binary.Implies a b = implies a b

abbrev pub several_of : Variadic → List Term → Term
several_of variadic.Plus ts = plus_of (terms_of ts)
several_of variadic.Times ts = times_of (terms_of ts)
several_of variadic.And ts = and_of (terms_of ts)
several_of variadic.Or ts = or_of (terms_of ts)

abbrev pub binder_of : Quantifier → List VarSort → Term → Term
binder_of quantifier.Forall vs t = forall_of vs t
binder_of quantifier.Exists vs t = exists_of vs t

-- each of these differs from the first term
abbrev pub apart : Term → List Term → List Term
apart t us = map (λ u. negated (equal t u)) us

-- one for each pair, in order
abbrev pub pairs_apart : List Term → List Term
pairs_apart [] = []
pairs_apart (t ∷ ts) = apart t ts ++ pairs_apart ts

abbrev pub distinct_of : List Term → Term
distinct_of ts = and_of (terms_of (pairs_apart ts))
