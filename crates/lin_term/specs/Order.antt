-- Orders of rows, literals and moves, for sorting: number by number.
use Rattle.std.specs.Prelude.{ℕ, ◌≡◌, ℤ, List}
use Rattle.std.specs.declared.cmp.Ordering.{Ordering}
use Rattle.std.specs.declared.cmp.Ordering.TheVariants.{Equal}
use Rattle.std.specs.Ordering.{ordering_then, nat_cmp, int_cmp}
use Rattle.std.specs.Cmp.{IsTotalOrder}
use Rattle.std.specs.Cmp.Lexicographic.{slice_cmp}
use Rattle.lin_term.specs.Form.{Form}
use Rattle.lin_term.specs.Literal.{form_of}
use Rattle.lin_term.specs.Move.{Move}
use Rattle.lin_term.specs.declared.lit.Lit.{Lit}
use Rattle.lin_term.specs.declared.lit.Lit.TheVariants.{AtLeast, Above, Divides, NotDivides}

-- the variable before the coefficient
abbrev pub term_cmp : ℕ × ℤ → ℕ × ℤ → Ordering
term_cmp t u = ordering_then (nat_cmp t.0 u.0) (int_cmp t.1 u.1)

-- the terms before the constant
abbrev pub form_cmp : Form → Form → Ordering
form_cmp f g = ordering_then (slice_cmp term_cmp f.terms g.terms) (int_cmp f.constant g.constant)

abbrev pub kind_number : Lit → ℕ
kind_number (AtLeast f) = 0
kind_number (Above f) = 1
kind_number (Divides d f) = 2
kind_number (NotDivides d f) = 3

abbrev pub modulus_or_none : Lit → ℕ
modulus_or_none (AtLeast f) = 0
modulus_or_none (Above f) = 0
modulus_or_none (Divides d f) = d
modulus_or_none (NotDivides d f) = d

-- the kind, the modulus, the form
abbrev pub literal_cmp : Lit → Lit → Ordering
literal_cmp l m =
    ordering_then (nat_cmp (kind_number l) (kind_number m)) (ordering_then (nat_cmp (modulus_or_none l) (modulus_or_none m)) (form_cmp (form_of l) (form_of m)))

-- the numerator before the divisor
abbrev pub move_cmp : Move → Move → Ordering
move_cmp m n = ordering_then (form_cmp m.numer n.numer) (nat_cmp m.div n.div)

-- a total order in which only equal things tie
pub record IsStrictOrder {K : Type 0} (R : K → K → Ordering) : Type 0 where
  pub total : IsTotalOrder R
  pub ties : (x y : K) → R x y ≡ Equal → x ≡ y
