-- What a part of a play answers, with the numbers formed until then; and the matrix tested from left to right.
use Rattle.std.specs.Prelude.{ℕ, ◌*◌, ◌%◌, ℤ, pos, nat_abs, nat_eq, int_le, int_lt, Bool, true, false, not, ◌&&◌, ◌||◌, if◌then◌else◌, List, [], ◌++◌, ⊤}
use Rattle.lin_term.specs.Linear.{Value, Below}
use Rattle.lin_term.specs.declared.Lit.{Lit}
use Rattle.lin_term.specs.declared.Lit.TheVariants.{AtLeast, Above, Divides, NotDivides}
use Rattle.lin_term.specs.Literal.{form_of}
use Rattle.dom_core.specs.Game.{Matrix, lit, all, some, Matrices, none, more}
use Rattle.game_play.specs.Worth.{row_worth, row_steps}

pub record Course : Type 0 where
  pub wins : Bool
  pub numbers : List ℤ

abbrev pub decided : Bool → Course
decided b = record { wins = b; numbers = [] }

-- the numbers formed before
abbrev pub after : List ℤ → Course → Course
after zs c = record { wins = c.wins; numbers = zs ++ c.numbers }

-- the second is taken up only where the first does not win
abbrev pub or_else : Course → Course → Course
or_else a b = record { wins = a.wins || b.wins; numbers = a.numbers ++ (if a.wins then [] else b.numbers) }

-- the second is taken up only where the first wins
abbrev pub and_then : Course → Course → Course
and_then a b = record { wins = a.wins && b.wins; numbers = a.numbers ++ (if a.wins then b.numbers else []) }

abbrev pub is_multiple : Value → ℕ → Bool
is_multiple v d = nat_eq (nat_abs v.num % (d * v.den)) 0

-- the truth of a literal whose row has this value
abbrev pub literal_truth : Lit → Value → Bool
literal_truth (AtLeast f) v = int_le (pos 0) v.num
literal_truth (Above f) v = int_lt (pos 0) v.num
literal_truth (Divides d f) v = is_multiple v d
literal_truth (NotDivides d f) v = not (is_multiple v d)

-- its variables are below n
abbrev mutual
  pub IsOver : Matrix → ℕ → Type 0
  IsOver (lit l) n = Below n (form_of l)
  IsOver (all ms) n = AreOver ms n
  IsOver (some ms) n = AreOver ms n

  pub AreOver : Matrices → ℕ → Type 0
  AreOver none n = ⊤
  AreOver (more m ms) n = IsOver m n × AreOver ms n

-- up to the part that decides
abbrev mutual
  pub tested : Matrix → List Value → Course
  tested (lit l) vs = record { wins = literal_truth l (row_worth vs (form_of l)); numbers = row_steps vs (form_of l) }
  tested (all ms) vs = all_tested ms vs
  tested (some ms) vs = some_tested ms vs

  pub all_tested : Matrices → List Value → Course
  all_tested none vs = decided true
  all_tested (more m ms) vs = and_then (tested m vs) (all_tested ms vs)

  pub some_tested : Matrices → List Value → Course
  some_tested none vs = decided false
  some_tested (more m ms) vs = or_else (tested m vs) (some_tested ms vs)
