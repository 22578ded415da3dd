-- The tree that a term of `src/` stands for.
use Rattle.std.specs.Prelude.{ℕ, ℤ, pos, negsuc, List, [], ◌∷◌, map}
use Rattle.lin_truth.specs.declared.term.Term.{Term as Written, fold-Term}
use Rattle.lin_truth.specs.declared.term.Term.TheOpen.{Term-F}
use Rattle.lin_truth.specs.Term.{Term, Terms, yes, no, amount, variable, negative, absolute, negated, divisible, minus, quotient_of, div_of, mod_of, less, at_most, greater, at_least, equal, xor_of, implies, ite, plus_of, times_of, and_of, or_of, forall_of, exists_of, no_term, term_and}

abbrev pub terms_of : List Term → Terms
terms_of [] = no_term
terms_of (t ∷ ts) = term_and t (terms_of ts)

-- the denominator that is written: a negative one is none, and gives 0
abbrev pub den_of : ℤ → ℕ
den_of (pos n) = n
den_of (negsuc n) = 0

-- one level, with each part already seen
abbrev pub term_step : Term-F Term → Term
term_step Term-F.True = yes
term_step Term-F.False = no
term_step (Term-F.Number num den) = amount (record { num = num; den = den_of den })
term_step (Term-F.Var i) = variable i
term_step (Term-F.Negative t) = negative t
term_step (Term-F.Abs t) = absolute t
term_step (Term-F.Not t) = negated t
term_step (Term-F.Divisible n t) = divisible n t
term_step (Term-F.Minus a b) = minus a b
term_step (Term-F.Quotient a b) = quotient_of a b
term_step (Term-F.Div a b) = div_of a b
term_step (Term-F.Mod a b) = mod_of a b
term_step (Term-F.Less a b) = less a b
term_step (Term-F.AtMost a b) = at_most a b
term_step (Term-F.Greater a b) = greater a b
term_step (Term-F.AtLeast a b) = at_least a b
term_step (Term-F.Equal a b) = equal a b
term_step (Term-F.Xor a b) = xor_of a b
term_step (Term-F.Implies a b) = implies a b
term_step (Term-F.Ite c a b) = ite c a b
term_step (Term-F.Plus ts) = plus_of (terms_of ts)
term_step (Term-F.Times ts) = times_of (terms_of ts)
term_step (Term-F.And ts) = and_of (terms_of ts)
term_step (Term-F.Or ts) = or_of (terms_of ts)
term_step (Term-F.Forall sorts t) = forall_of sorts t
term_step (Term-F.Exists sorts t) = exists_of sorts t

abbrev pub tree_of : Written → Term
tree_of = fold-Term Term term_step

-- each part's tree
abbrev pub trees_of : List Written → Terms
trees_of ts = terms_of (map tree_of ts)
