-- The move that is picked for a variable x between the bounds of a cube, at a point at which the cube holds.
use Rattle.std.specs.Prelude.{ℕ, ◌*◌, ◌-◌, ℤ, pos, negsuc, ◌-ℤ◌, ◌*ℤ◌, neg_ℤ, int_lt, Bool, if◌then◌else◌, Option, Some, None, List, [], ◌∷◌, ◌++◌, map, filter}
use Rattle.lin_term.specs.declared.Sort.{Sort}
use Rattle.lin_term.specs.declared.Sort.TheVariants.{Rat, Int}
use Rattle.lin_term.specs.Linear.{Point, Value, at, dot, plus, times, constant_form, floor_div, extend}
use Rattle.lin_term.specs.declared.Lit.{Lit}
use Rattle.lin_term.specs.Literal.{form_of, residue}
use Rattle.lin_term.specs.Move.{Move, move_value, lowest}
use Rattle.lin_term.specs.Definition.{move_numbers}
use Rattle.lin_term.specs.PutIn.{rest_of}
use Rattle.dom_core.specs.Elimination.{size_at, is_lower, is_upper, above_bound, delta, partial_deltas}

-- the point with the move's value for the next variable
abbrev pub played : Sort → Move → Point → Point
played s m p = extend p (move_value s m p)

-- what makes a quotient by a rounded down one that is rounded up
abbrev pub rounding : Sort → ℕ → ℕ
rounding Rat a = 0
rounding Int a = a - 1

-- -l/a, rounded up in Int, where the literal is a*x + l >= 0 or a*x + l > 0
abbrev pub lower_bound : Sort → ℕ → Lit → Move
lower_bound s x l = record { numer = above_bound x l (rounding s (size_at x l)); div = size_at x l }

-- u/b, rounded down in Int, where the literal is -b*x + u >= 0 or -b*x + u > 0
abbrev pub upper_bound : ℕ → Lit → Move
upper_bound x l = record { numer = rest_of (form_of l) x; div = size_at x l }

abbrev pub lowers : Sort → ℕ → List Lit → List Move
lowers s x c = map (lower_bound s x) (filter (is_lower x) c)

abbrev pub uppers : ℕ → List Lit → List Move
uppers x c = map (upper_bound x) (filter (is_upper x) c)

abbrev pub is_less : Value → Value → Bool
is_less v w = int_lt (v.num *ℤ pos w.den) (w.num *ℤ pos v.den)

abbrev pub greatest_with : Sort → Point → Move → List Move → Move
greatest_with s p m [] = m
greatest_with s p m (n ∷ ns) = greatest_with s p (if is_less (move_value s m p) (move_value s n p) then n else m) ns

-- the first of those with the greatest value
abbrev pub greatest : Sort → Point → List Move → Option Move
greatest s p [] = None
greatest s p (m ∷ ms) = Some (greatest_with s p m ms)

abbrev pub least_with : Sort → Point → Move → List Move → Move
least_with s p m [] = m
least_with s p m (n ∷ ns) = least_with s p (if is_less (move_value s n p) (move_value s m p) then n else m) ns

-- the first of those with the least value
abbrev pub least : Sort → Point → List Move → Option Move
least s p [] = None
least s p (m ∷ ms) = Some (least_with s p m ms)

abbrev pub constant_move : ℤ → Move
constant_move z = record { numer = constant_form z; div = 1 }

-- the move and z more
abbrev pub moved : Move → ℤ → Move
moved m z = record { numer = plus m.numer (constant_form (pos m.div *ℤ z)); div = m.div }

abbrev pub middle : Move → Move → Move
middle m n = record { numer = plus (times (pos n.div) m.numer) (times (pos m.div) n.numer); div = 2 * (m.div * n.div) }

-- the middle, a bound and 1 more, a bound and 1 less, 0
abbrev pub between : Option Move → Option Move → Move
between (Some m) (Some n) = middle m n
between (Some m) None = moved m (pos 1)
between None (Some n) = moved n (negsuc 0)
between None None = constant_move (pos 0)

-- the least number from the lower bound on, or the greatest up to the upper one, that is v modulo d; with neither the residue of v
abbrev pub congruent : ℕ → ℤ → Point → Option Move → Option Move → Move
congruent d v p (Some m) other = moved m (pos (residue (v -ℤ floor_div (dot m.numer p) m.div) d))
congruent d v p None (Some m) = moved m (neg_ℤ (pos (residue (floor_div (dot m.numer p) m.div -ℤ v) d)))
congruent d v p None None = constant_move (pos (residue v d))

abbrev pub pick_between : Sort → ℕ → List Lit → Point → Option Move → Option Move → Move
pick_between Rat x c p low up = between low up
pick_between Int x c p low up = congruent (delta c x) (at p.nums x) p low up

abbrev pub pick : Sort → ℕ → List Lit → Point → Move
pick s x c p = lowest s (pick_between s x c p (greatest s p (lowers s x c)) (least s p (uppers x c)))

abbrev pub deltas_first : Sort → ℕ → List Lit → List ℤ
deltas_first Rat x c = []
deltas_first Int x c = map pos (partial_deltas 1 c x)

-- the numbers in the order in which they are formed
abbrev pub pick_numbers : Sort → ℕ → List Lit → Point → List ℤ
pick_numbers s x c p = deltas_first s x c ++ move_numbers s (pick s x c p)
