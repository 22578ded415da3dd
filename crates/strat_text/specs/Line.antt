-- The lines of a proof, and the linear forms in them.
use Rattle.std.specs.Prelude.{ℕ, ◌+◌, ◌^◌, if◌then◌else◌, List, length, codes, Option, Some, None, option_and_then, Result, Ok, Err, ℤ}
use Rattle.std.specs.Str.{bytes_eq}
use Rattle.lin_term.specs.Form.{Form}
use Rattle.lin_term.specs.declared.lit.Lit.{Lit}
use Rattle.lin_term.specs.declared.lit.Lit.TheVariants.{AtLeast, Above, Divides, NotDivides}
use Rattle.cube_rules.specs.declared.step.Step.{Step}
use Rattle.cube_rules.specs.declared.step.Step.TheVariants.{Path, Def, Part, Cases, Sum, Split, Cube, Least, Learn, False}
use Rattle.cube_rules.specs.declared.kind.Kind.{Kind}
use Rattle.cube_rules.specs.declared.kind.Kind.TheVariants as kind
use Rattle.cube_rules.specs.Limits.{divisor_cap}
use Rattle.cube_rules.specs.Name.{kind_named}
use Rattle.strat_words.specs.Spot.{Spot, Place, Taken, ◌>>=◌, first, next, ends, fits, next_place, last_place, goes_on, begins_with_space, number_follows, number_behind_space}
use Rattle.strat_words.specs.Many.{made, many}
use Rattle.strat_words.specs.Taking.{natural, signed, index, count, kept, coef}
use Rattle.strat_text.specs.Sections.{has_kind}

-- ---- linear forms

-- `A V`: V from low on and below the limit, A not 0
abbrev pub term : ℕ → ℕ → Spot → Taken (ℕ × ℤ)
term limit low s = do
  a ← coef s
  v ← natural low limit a.1
  Ok ((v.0, a.0), v.1)

-- the least variable that may follow
abbrev pub low_behind : ℕ → ℕ × ℤ → ℕ
low_behind low t = t.0 + 1

-- `A V A V ..`, the V's ascending, as long as a number follows
abbrev pub terms : ℕ → Spot → Taken (List (ℕ × ℤ))
terms limit s = many number_behind_space (term limit) low_behind (length s.rest) 0 s

-- `C A V A V ..`
unfoldable pub row : ℕ → Spot → Taken Form
row limit s = do
  c ← kept s
  ts ← terms limit c.1
  Ok (record { terms = ts.0; constant = c.0 }, ts.1)

-- ---- literals

abbrev pub literal_of : List ℕ → Spot → Taken Lit
literal_of mark s =
    if bytes_eq mark (codes ">=") then made AtLeast (row (2 ^ 20) s)
    else (if bytes_eq mark (codes ">") then made Above (row (2 ^ 20) s)
    else (if bytes_eq mark (codes "|") then (count 1 s >>= λ d. made (Divides d.0) (row (2 ^ 20) d.1))
    else (if bytes_eq mark (codes "!|") then (count 1 s >>= λ d. made (NotDivides d.0) (row (2 ^ 20) d.1))
    else Err (last_place s))))

-- `>= ROW`, `> ROW`, `| D ROW` or `!| D ROW`
unfoldable pub literal : Spot → Taken Lit
literal s = next s >>= λ w. literal_of w.0 w.1

-- ---- lines of a proof

abbrev pub any_index : Unit {0} → Spot → Taken ℕ
any_index _ s = index s

abbrev pub any_literal : Unit {0} → Spot → Taken Lit
any_literal _ s = literal s

abbrev pub unchanged : {A : Type 0} → Unit {0} → A → Unit {0}
unchanged u x = u

-- indices, as long as a number follows
abbrev pub indices : Spot → Taken (List ℕ)
indices s = many number_behind_space any_index unchanged (length s.rest) tt s

-- literals, as long as the line goes on
abbrev pub literals : Spot → Taken (List Lit)
literals s = many begins_with_space any_literal unchanged (length s.rest) tt s

abbrev pub two_indices : Spot → Result (ℕ × ℕ × Spot) Place
two_indices s = do
  a ← index s
  b ← index a.1
  Ok (a.0, b.0, b.1)

abbrev pub index_and_count : Spot → Result (ℕ × ℕ × Spot) Place
index_and_count s = do
  a ← index s
  n ← count 0 a.1
  Ok (a.0, n.0, n.1)

abbrev pub two : (ℕ → ℕ → Step) → Result (ℕ × ℕ × Spot) Place → Taken Step
two make (Ok x) = Ok (make x.0 x.1, x.2)
two make (Err p) = Err p

-- `P F Q H G`
unfoldable pub sum_line : Spot → Taken Step
sum_line s = do
  p ← kept s
  f ← index p.1
  q ← kept f.1
  h ← index q.1
  g ← signed (divisor_cap + 1) h.1
  Ok (Sum p.0 f.0 q.0 h.0 g.0, g.1)

-- one index or more
unfoldable pub cube_line : Spot → Taken Step
cube_line s = if number_follows s then made Cube (indices s) else Err (next_place s)

-- one literal or more
unfoldable pub learn_line : Spot → Taken Step
learn_line s = if goes_on s then made Learn (literals s) else Err (next_place s)

-- what stands behind the first word of a line
abbrev pub step_of : Kind → Spot → Taken Step
step_of kind.Path s = made Path (index s)
step_of kind.Def s = two Def (two_indices s)
step_of kind.Part s = two Part (two_indices s)
step_of kind.Cases s = two Cases (index_and_count s)
step_of kind.Sum s = sum_line s
step_of kind.Split s = made Split (literal s)
step_of kind.Cube s = cube_line s
step_of kind.Least s = two Least (index_and_count s)
step_of kind.Learn s = learn_line s
step_of kind.False s = made False (index s)

-- the kind of a line of that version with this first word
abbrev pub kind_in : ℕ → List ℕ → Option Kind
kind_in version word = option_and_then (λ k. if has_kind version k then Some k else None) (kind_named word)

unfoldable pub step : ℕ → Spot → Taken Step
step version s = do
  w ← first s
  k ← fits (kind_in version w.0) w.1
  x ← step_of k.0 k.1
  after ← ends x.1
  Ok (x.0, after)
