-- Terms that are well formed, in a scope of variables of these sorts.
use Rattle.std.specs.Prelude.{zero, suc, ◌≤◌, ◌<◌, ℤ, pos, negsuc, List, [], ◌∷◌, ◌++◌, get_or, length, ⊤, Bool, true, false}
use Rattle.lin_term.specs.declared.Sort.{Sort}
use Rattle.lin_term.specs.declared.Sort.TheVariants.{Rat, Int}
use Rattle.lin_term.specs.Linear.{IsValue}
use Rattle.lin_truth.specs.declared.term.VarSort.{VarSort}
use Rattle.lin_truth.specs.declared.term.VarSort.TheVariants as sorts
use Rattle.lin_truth.specs.Value.{Yes}
use Rattle.lin_truth.specs.Truth.{is_boolean, is_formula, Either}
use Rattle.lin_truth.specs.Constant.{is_constant, are_constant, constant_value}
use Rattle.lin_truth.specs.Term.{Term, Terms, yes, no, amount, variable, negative, absolute, negated, divisible, minus, quotient_of, div_of, mod_of, less, at_most, greater, at_least, equal, xor_of, implies, ite, plus_of, times_of, and_of, or_of, forall_of, exists_of, no_term, term_and}

abbrev pub append_all : List VarSort → List VarSort → List VarSort
append_all vs [] = vs
append_all vs (u ∷ us) = append_all (vs ++ u ∷ []) us

abbrev pub IsRat : Sort → Type 0
IsRat Rat = ⊤
IsRat Int = ⊥

abbrev pub IsInt : Sort → Type 0
IsInt Rat = ⊥
IsInt Int = ⊤

abbrev pub IsNotZero : ℤ → Type 0
IsNotZero (pos zero) = ⊥
IsNotZero (pos (suc n)) = ⊤
IsNotZero (negsuc n) = ⊤

abbrev pub not_boolean : VarSort → Bool
not_boolean sorts.Bool = false
not_boolean sorts.Number = true

-- at most one factor is no constant term
abbrev pub OneFree : Terms → Type 0
OneFree no_term = ⊤
OneFree (term_and t ts) = Either (is_constant t) (OneFree ts) (Yes (are_constant ts))

abbrev mutual
  pub IsFormula : Term → Sort → List VarSort → Type 0
  IsFormula yes s vs = ⊤
  IsFormula no s vs = ⊤
  IsFormula (amount v) s vs = ⊥
  IsFormula (variable i) s vs = (i < length vs) × Yes (is_boolean (get_or vs i sorts.Number))
  IsFormula (negative t) s vs = ⊥
  IsFormula (absolute t) s vs = ⊥
  IsFormula (negated t) s vs = IsFormula t s vs
  IsFormula (divisible n t) s vs = IsInt s × (1 ≤ n) × IsNumber t s vs
  IsFormula (minus a b) s vs = ⊥
  IsFormula (quotient_of a b) s vs = ⊥
  IsFormula (div_of a b) s vs = ⊥
  IsFormula (mod_of a b) s vs = ⊥
  IsFormula (less a b) s vs = IsNumber a s vs × IsNumber b s vs
  IsFormula (at_most a b) s vs = IsNumber a s vs × IsNumber b s vs
  IsFormula (greater a b) s vs = IsNumber a s vs × IsNumber b s vs
  IsFormula (at_least a b) s vs = IsNumber a s vs × IsNumber b s vs
  IsFormula (equal a b) s vs = Either (is_formula a vs) (IsFormula a s vs × IsFormula b s vs) (IsNumber a s vs × IsNumber b s vs)
  IsFormula (xor_of a b) s vs = IsFormula a s vs × IsFormula b s vs
  IsFormula (implies a b) s vs = IsFormula a s vs × IsFormula b s vs
  IsFormula (ite c a b) s vs = IsFormula c s vs × IsFormula a s vs × IsFormula b s vs
  IsFormula (plus_of ts) s vs = ⊥
  IsFormula (times_of ts) s vs = ⊥
  IsFormula (and_of ts) s vs = AreFormulas ts s vs
  IsFormula (or_of ts) s vs = AreFormulas ts s vs
  IsFormula (forall_of us t) s vs = IsFormula t s (append_all vs us)
  IsFormula (exists_of us t) s vs = IsFormula t s (append_all vs us)

  pub AreFormulas : Terms → Sort → List VarSort → Type 0
  AreFormulas no_term s vs = ⊤
  AreFormulas (term_and t ts) s vs = IsFormula t s vs × AreFormulas ts s vs

  pub IsNumber : Term → Sort → List VarSort → Type 0
  IsNumber yes s vs = ⊥
  IsNumber no s vs = ⊥
  IsNumber (amount v) s vs = IsValue s v
  IsNumber (variable i) s vs = (i < length vs) × Yes (not_boolean (get_or vs i sorts.Number))
  IsNumber (negative t) s vs = IsNumber t s vs
  IsNumber (absolute t) s vs = IsNumber t s vs
  IsNumber (negated t) s vs = ⊥
  IsNumber (divisible n t) s vs = ⊥
  IsNumber (minus a b) s vs = IsNumber a s vs × IsNumber b s vs
  IsNumber (quotient_of a b) s vs = IsRat s × IsNumber a s vs × IsNumber b s vs × Yes (is_constant b) × IsNotZero (constant_value b).num
  IsNumber (div_of a b) s vs = IsInt s × IsNumber a s vs × IsNumber b s vs × Yes (is_constant b) × IsNotZero (constant_value b).num
  IsNumber (mod_of a b) s vs = IsInt s × IsNumber a s vs × IsNumber b s vs × Yes (is_constant b) × IsNotZero (constant_value b).num
  IsNumber (less a b) s vs = ⊥
  IsNumber (at_most a b) s vs = ⊥
  IsNumber (greater a b) s vs = ⊥
  IsNumber (at_least a b) s vs = ⊥
  IsNumber (equal a b) s vs = ⊥
  IsNumber (xor_of a b) s vs = ⊥
  IsNumber (implies a b) s vs = ⊥
  IsNumber (ite c a b) s vs = IsFormula c s vs × IsNumber a s vs × IsNumber b s vs
  IsNumber (plus_of ts) s vs = AreNumbers ts s vs
  IsNumber (times_of ts) s vs = AreNumbers ts s vs × OneFree ts
  IsNumber (and_of ts) s vs = ⊥
  IsNumber (or_of ts) s vs = ⊥
  IsNumber (forall_of us t) s vs = ⊥
  IsNumber (exists_of us t) s vs = ⊥

  pub AreNumbers : Terms → Sort → List VarSort → Type 0
  AreNumbers no_term s vs = ⊤
  AreNumbers (term_and t ts) s vs = IsNumber t s vs × AreNumbers ts s vs
