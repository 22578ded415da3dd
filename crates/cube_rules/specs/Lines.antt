-- The lines of a proof that need nothing but the facts: what each needs, and what is left to close after it.
use Rattle.std.specs.Prelude.{ℕ, ℤ, pos, nat_abs, Bool, true, false, ◌&&◌, not, nat_lt, nat_le, nat_eq, int_le, is_none, Option, Some, None, option_and_then, option_map, slice_get, List, [], ◌∷◌, ◌++◌, map, length}
use Rattle.std.specs.List.{list_all}
use Rattle.lin_term.specs.declared.Sort.{Sort}
use Rattle.lin_term.specs.declared.Sort.TheVariants.{Rat, Int}
use Rattle.lin_term.specs.declared.Lit.{Lit}
use Rattle.lin_term.specs.Literal.{prim, neg, divisor, form_of}
use Rattle.lin_term.specs.Sum.{sum_of}
use Rattle.lin_term.specs.Truth.{truth_of}
use Rattle.lin_term.specs.Wide.{first_past, lit_numbers}
use Rattle.dom_core.specs.Game.{Matrix, lit, some, Matrices, none, more}
use Rattle.dom_core.specs.Elimination.{eliminated, elimination_numbers}
use Rattle.cube_rules.specs.declared.step.Step.{Step}
use Rattle.cube_rules.specs.declared.step.Step.TheVariants.{Path, Def, Part, Cases, Sum, Split, Cube, Least, Learn, False}
use Rattle.cube_rules.specs.declared.kind.Kind.{Kind}
use Rattle.cube_rules.specs.declared.kind.Kind.TheVariants as kind
use Rattle.cube_rules.specs.declared.rule.Rule.{Rule}
use Rattle.cube_rules.specs.declared.rule.Rule.TheVariants.{Line}
use Rattle.cube_rules.specs.Context.{Context, with_fact, cube_context}
use Rattle.cube_rules.specs.Facts.{guard, count, and_child, or_children, literal_at, literals_at, all_literals, is_inequality, is_primitive, all_below}

-- the kind of a line
abbrev pub kind_of : Step → Kind
kind_of (Path k) = kind.Path
kind_of (Def v i) = kind.Def
kind_of (Part f i) = kind.Part
kind_of (Cases f n) = kind.Cases
kind_of (Sum p f q h g) = kind.Sum
kind_of (Split l) = kind.Split
kind_of (Cube fs) = kind.Cube
kind_of (Least v n) = kind.Least
kind_of (Learn ls) = kind.Learn
kind_of (False f) = kind.False

-- the rule of a line
abbrev pub rule_of : Step → Rule
rule_of l = Line (kind_of l)

-- how many subproofs stand open in place of the line's own: after most lines it goes on
abbrev pub parts : Step → ℕ
parts (Path k) = 1
parts (Def v i) = 1
parts (Part f i) = 1
parts (Cases f n) = n
parts (Sum p f q h g) = 1
parts (Split l) = 2
parts (Cube fs) = 1
parts (Least v n) = n
parts (Learn ls) = 2
parts (False f) = 0

-- one more fact, and the same subproof goes on
abbrev pub goes_on : Context → Matrix → List Context
goes_on c m = with_fact c m ∷ []

-- for each child of a disjunction the context with the child added
abbrev pub each_child : Context → Matrices → List Context
each_child c none = []
each_child c (more m ms) = with_fact c m ∷ each_child c ms

abbrev pub cases_line : Context → ℕ → Matrices → Option (List Context)
cases_line c n ms = guard (nat_eq (count ms) n) (Some (each_child c ms))

-- positive multipliers, the sum's own divisor, and a result within the cap
abbrev pub is_sum : Sort → ℤ → Lit → ℤ → Lit → ℤ → Bool
is_sum s p a q b g =
    is_inequality a && is_inequality b && int_le (pos 1) p && int_le (pos 1) q && int_le (pos 1) g && nat_eq (nat_abs g) (divisor s (form_of (sum_of p a q b))) && is_none (first_past (lit_numbers (prim s (sum_of p a q b))))

abbrev pub sum_line : Sort → Context → ℤ → Lit → ℤ → Lit → ℤ → Option (List Context)
sum_line s c p a q b g = guard (is_sum s p a q b g) (Some (goes_on c (lit (prim s (sum_of p a q b)))))

-- primitive, over the first n variables, with a negation within the cap
abbrev pub is_split : Sort → ℕ → Lit → Bool
is_split s n l =
    is_primitive s l && all_below n (form_of l).terms && is_none (first_past (lit_numbers (neg s l)))

abbrev pub split_line : Sort → ℕ → Context → Lit → Option (List Context)
split_line s n c l =
    guard (is_split s n l) (Some (with_fact c (lit l) ∷ with_fact c (lit (neg s l)) ∷ []))

-- at least one literal, and each may be split upon
abbrev pub is_learn : Sort → ℕ → List Lit → Bool
is_learn s n ls = nat_le 1 (length ls) && list_all (is_split s n) ls

abbrev pub leaves : List Lit → Matrices
leaves [] = none
leaves (l ∷ ls) = more (lit l) (leaves ls)

-- the disjunction of the literals, or the literal where there is one
abbrev pub either_of : List Lit → Matrix
either_of [] = some none
either_of (l ∷ []) = lit l
either_of (l ∷ k ∷ ls) = some (leaves (l ∷ k ∷ ls))

-- open: either all their negations hold, or one of the literals does
abbrev pub learn_line : Sort → ℕ → Context → List Lit → Option (List Context)
learn_line s n c ls =
    guard (not c.bare && is_learn s n ls) (Some (record c { facts = c.facts ++ map lit (map (neg s) ls) } ∷ with_fact c (either_of ls) ∷ []))

-- at least one fact, and all are literals: they alone stay
abbrev pub cube_line : Context → List ℕ → Option (List Context)
cube_line c [] = None
cube_line c (f ∷ fs) = option_map (λ ls. cube_context ls ∷ []) (literals_at c (f ∷ fs))

abbrev pub is_int : Sort → Bool
is_int Rat = false
is_int Int = true

-- as many cases as the line says, and all numbers of the elimination within the cap
abbrev pub is_least : ℕ → ℕ → List Lit → Bool
is_least v k c =
    nat_eq (length (eliminated Int c v)) k && is_none (first_past (elimination_numbers Int c v))

abbrev pub least_cases : ℕ → ℕ → List Lit → Option (List Context)
least_cases v k c = guard (is_least v k c) (Some (map cube_context (eliminated Int c v)))

-- over the integers, from a bare context, for one of the n variables
abbrev pub least_line : Sort → ℕ → Context → ℕ → ℕ → Option (List Context)
least_line s n c v k =
    guard (is_int s && c.bare && nat_lt v n) (option_and_then (least_cases v k) (all_literals c.facts))

abbrev pub is_false : Option Bool → Bool
is_false None = false
is_false (Some b) = not b

abbrev pub false_line : Lit → Option (List Context)
false_line l = guard (is_false (truth_of l)) (Some [])

-- a line over n variables: the contexts that are still to be closed after it, or none where it breaks its rule
abbrev pub cube_step : Sort → ℕ → Context → Step → Option (List Context)
cube_step s n c (Path k) = None
cube_step s n c (Def v i) = None
cube_step s n c (Part f i) = option_map (goes_on c) (option_and_then (and_child i) (slice_get c.facts f))
cube_step s n c (Cases f k) = option_and_then (cases_line c k) (option_and_then or_children (slice_get c.facts f))
cube_step s n c (Sum p f q h g) =
    option_and_then (λ a. option_and_then (λ b. sum_line s c p a q b g) (literal_at c h)) (literal_at c f)
cube_step s n c (Split l) = split_line s n c l
cube_step s n c (Cube fs) = cube_line c fs
cube_step s n c (Least v k) = least_line s n c v k
cube_step s n c (Learn ls) = learn_line s n c ls
cube_step s n c (False f) = option_and_then false_line (literal_at c f)
