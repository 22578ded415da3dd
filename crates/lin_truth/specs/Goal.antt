-- Goals: closed formulas under their declared constants.
use Rattle.std.specs.Prelude.{ℕ, ◌≡◌, ◌≤◌, nat_abs, List, [], ⊤}
use Rattle.lin_term.specs.Form.{cap}
use Rattle.lin_term.specs.declared.Sort.{Sort}
use Rattle.lin_term.specs.Fraction.{IsFraction}
use Rattle.lin_truth.specs.declared.term.VarSort.{VarSort}
use Rattle.lin_truth.specs.declared.term.Term.{Term as Written}
use Rattle.lin_truth.specs.Term.{Term, Terms, yes, no, amount, variable, negative, absolute, negated, divisible, minus, quotient_of, div_of, mod_of, less, at_most, greater, at_least, equal, xor_of, implies, ite, plus_of, times_of, and_of, or_of, forall_of, exists_of, no_term, term_and}
use Rattle.lin_truth.specs.Truth.{True}
use Rattle.lin_truth.specs.Formed.{IsFormula, append_all}
use Rattle.lin_truth.specs.View.{tree_of}

-- its numbers are within the cap, and the fractions in lowest terms
abbrev mutual
  pub IsGoalTerm : Term → Type 0
  IsGoalTerm yes = ⊤
  IsGoalTerm no = ⊤
  IsGoalTerm (amount v) = IsFraction v
  IsGoalTerm (variable i) = ⊤
  IsGoalTerm (negative t) = IsGoalTerm t
  IsGoalTerm (absolute t) = IsGoalTerm t
  IsGoalTerm (negated t) = IsGoalTerm t
  IsGoalTerm (divisible n t) = (n ≤ cap) × IsGoalTerm t
  IsGoalTerm (minus a b) = IsGoalTerm a × IsGoalTerm b
  IsGoalTerm (quotient_of a b) = IsGoalTerm a × IsGoalTerm b
  IsGoalTerm (div_of a b) = IsGoalTerm a × IsGoalTerm b
  IsGoalTerm (mod_of a b) = IsGoalTerm a × IsGoalTerm b
  IsGoalTerm (less a b) = IsGoalTerm a × IsGoalTerm b
  IsGoalTerm (at_most a b) = IsGoalTerm a × IsGoalTerm b
  IsGoalTerm (greater a b) = IsGoalTerm a × IsGoalTerm b
  IsGoalTerm (at_least a b) = IsGoalTerm a × IsGoalTerm b
  IsGoalTerm (equal a b) = IsGoalTerm a × IsGoalTerm b
  IsGoalTerm (xor_of a b) = IsGoalTerm a × IsGoalTerm b
  IsGoalTerm (implies a b) = IsGoalTerm a × IsGoalTerm b
  IsGoalTerm (ite c a b) = IsGoalTerm c × IsGoalTerm a × IsGoalTerm b
  IsGoalTerm (plus_of ts) = AreGoalTerms ts
  IsGoalTerm (times_of ts) = AreGoalTerms ts
  IsGoalTerm (and_of ts) = AreGoalTerms ts
  IsGoalTerm (or_of ts) = AreGoalTerms ts
  IsGoalTerm (forall_of vs t) = IsGoalTerm t
  IsGoalTerm (exists_of vs t) = IsGoalTerm t

  pub AreGoalTerms : Terms → Type 0
  AreGoalTerms no_term = ⊤
  AreGoalTerms (term_and t ts) = IsGoalTerm t × AreGoalTerms ts

-- a formula over the constants, with numbers that are kept
abbrev pub IsBody : Sort → List VarSort → Term → Type 0
IsBody s consts body = IsFormula body s (append_all [] consts) × IsGoalTerm body

-- there are values for the constants that make the body true
abbrev pub TrueGoal : Sort → List VarSort → Term → Type 0
TrueGoal s consts body = True (exists_of consts body) s []

-- what a goal says: the place of its check-sat, the declared constants, and the body over them
pub record Goal : Type 0 where
  pub sort : Sort
  pub line : ℕ
  pub column : ℕ
  pub consts : List VarSort
  pub body : Written

abbrev pub IsGoal : Goal → Type 0
IsGoal g = IsBody g.sort g.consts (tree_of g.body)

-- the goal is true
abbrev pub IsTrueGoal : Goal → Type 0
IsTrueGoal g = TrueGoal g.sort g.consts (tree_of g.body)
