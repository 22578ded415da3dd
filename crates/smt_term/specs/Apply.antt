-- Applications of operators and definitions to arguments that were read: kinds 7, 6, 9, 8 and 10 in this order.
use Rattle.std.specs.Prelude.{ℕ, zero, ◌==◌, pos, Bool, true, false, not, ◌&&◌, nat_le, if◌then◌else◌, List, [], ◌∷◌, length, map, Option, Some, None, Ok}
use Rattle.std.specs.List.{list_all, list_any}
use Rattle.ss_names.specs.declared.FaultKind.TheVariants as kind
use Rattle.smt_lex.specs.Place.{Place}
use Rattle.lin_truth.specs.declared.VarSort.{VarSort}
use Rattle.lin_truth.specs.declared.VarSort.TheVariants as sort
use Rattle.lin_truth.specs.Term.{Term, yes, no, equal, ite, and_of, negative, negated}
use Rattle.lin_truth.specs.View.{terms_of}
use Rattle.term_table.specs.declared.Unary.TheVariants as unary
use Rattle.term_table.specs.declared.Binary.{Binary}
use Rattle.term_table.specs.declared.Binary.TheVariants as binary
use Rattle.term_table.specs.declared.Worth.{Worth}
use Rattle.term_table.specs.declared.Worth.TheVariants as worth
use Rattle.term_table.specs.Placed.{Frame, Typed, top, used}
use Rattle.term_table.specs.Built.{one_of, two_of, several_of, distinct_of}
use Rattle.term_table.specs.Worth.{worth_of}
use Rattle.smt_term.specs.declared.operator.Operator.{Operator}
use Rattle.smt_term.specs.declared.operator.Takes.{Takes}
use Rattle.smt_term.specs.declared.operator.Takes.TheVariants as takes
use Rattle.smt_term.specs.declared.operator.Shape.{Shape}
use Rattle.smt_term.specs.declared.operator.Shape.TheVariants as shape
use Rattle.smt_term.specs.declared.operator.Linear.{Linear}
use Rattle.smt_term.specs.declared.operator.Linear.TheVariants as linear
use Rattle.smt_term.specs.Reading.{Read, ◌>>=◌, refuse, unless}
use Rattle.smt_term.specs.Scope.{Entry}
use Rattle.smt_term.specs.Operator.{sort_given}

-- ---- number and sorts of the arguments

abbrev pub is_at_most : ℕ → Option ℕ → Bool
is_at_most n None = true
is_at_most n (Some m) = nat_le n m

abbrev pub arity_fits : Operator → ℕ → Bool
arity_fits op n = nat_le op.least n && is_at_most n op.most

abbrev pub same_sort : VarSort → VarSort → Bool
same_sort sort.Bool sort.Bool = true
same_sort sort.Number sort.Number = true
same_sort a b = false

abbrev pub all_of : VarSort → List VarSort → Bool
all_of s ss = list_all (λ a. same_sort a s) ss

-- all are of the first one's sort
abbrev pub alike : List VarSort → Bool
alike [] = true
alike (a ∷ ss) = all_of a ss

-- a formula, and then two of one sort
abbrev pub is_choice : List VarSort → Bool
is_choice [] = false
is_choice (c ∷ ss) = same_sort c sort.Bool && alike ss

abbrev pub sorts_fit : Takes → List VarSort → Bool
sorts_fit takes.Formulas ss = all_of sort.Bool ss
sorts_fit takes.Numbers ss = all_of sort.Number ss
sorts_fit takes.Alike ss = alike ss
sorts_fit takes.Choice ss = is_choice ss

abbrev pub sorts_of : List Typed → List VarSort
sorts_of ts = map (λ (t : Typed). t.sort) ts

abbrev pub last_sort : VarSort → List VarSort → VarSort
last_sort s [] = s
last_sort s (a ∷ ss) = last_sort a ss

-- ---- the tree of an application

-- each with the next
abbrev pub chained : Binary → List Term → List Term
chained op [] = []
chained op (a ∷ []) = []
chained op (a ∷ b ∷ ts) = two_of op a b ∷ chained op (b ∷ ts)

-- one alone, or all of them
abbrev pub all_hold : List Term → Term
all_hold (t ∷ []) = t
all_hold ts = and_of (terms_of ts)

-- two that are not equal, or a conjunction for all pairs
abbrev pub all_differ : List Term → Term
all_differ (a ∷ b ∷ []) = negated (equal a b)
all_differ ts = distinct_of ts

abbrev pub from_left : Binary → Term → List Term → Term
from_left op a [] = a
from_left op a (b ∷ ts) = from_left op (two_of op a b) ts

abbrev pub from_right : Binary → Term → List Term → Term
from_right op a [] = a
from_right op a (b ∷ ts) = two_of op a (from_right op b ts)

abbrev pub truth_of : Bool → Term
truth_of true = yes
truth_of false = no

-- arguments that do not fit are none of any application
abbrev pub built : Shape → List Term → Term
built (shape.Truth b) ts = truth_of b
built (shape.One op) (a ∷ ts) = one_of op a
built (shape.Several op) ts = several_of op ts
built (shape.Chain op) ts = all_hold (chained op ts)
built shape.Pairwise ts = all_differ ts
built (shape.Left op) (a ∷ ts) = from_left op a ts
built (shape.Right op) (a ∷ ts) = from_right op a ts
built shape.Difference (a ∷ []) = negative a
built shape.Difference (a ∷ b ∷ ts) = from_left binary.Minus a (b ∷ ts)
built shape.Choice (c ∷ a ∷ b ∷ ts) = ite c a b
built op ts = no

-- how many arguments an application of this shape is built of at least
abbrev pub needed : Shape → ℕ
needed (shape.One op) = 1
needed (shape.Left op) = 1
needed (shape.Right op) = 1
needed shape.Difference = 1
needed shape.Choice = 3
needed s = 0

abbrev pub trees : List Typed → Frame → ℕ → List Term
trees ts frame n = map (λ (t : Typed). t.tree frame n) ts

abbrev pub applied : Operator → List Typed → Typed
applied op ts = record { sort = sort_given op.gives (last_sort sort.Bool (sorts_of ts)); tree = λ frame n. built op.shape (trees ts frame n) }

-- ---- constant terms

-- What is known of a term as a constant term. One that is larger than a goal may be is not worked out: a goal that has it is
-- refused for its size, and so the work stays within the limits.
abbrev pub worth_here : Typed → Worth
worth_here t = worth_of (t.tree top 0)

abbrev pub is_zero : Worth → Bool
is_zero (worth.Value (pos zero) den) = true
is_zero w = false

abbrev pub is_free : Worth → Bool
is_free worth.Free = true
is_free w = false

abbrev pub is_wide : Worth → Bool
is_wide worth.Wide = true
is_wide w = false

-- at most one is no constant term
abbrev pub one_free : List Worth → Bool
one_free [] = true
one_free (w ∷ ws) = if is_free w then not (list_any is_free ws) else one_free ws

abbrev pub behind_first : List Worth → List Worth
behind_first [] = []
behind_first (w ∷ ws) = ws

-- kind 9, then kind 8
abbrev pub linear_fits : Linear → List Worth → Place → Read Bool
linear_fits linear.Free ws p = Ok true
linear_fits linear.Factors ws p = unless (one_free ws) kind.Linear p (Ok true)
linear_fits linear.Divisors ws p =
    unless (not (list_any is_zero (behind_first ws))) kind.Divisor p (unless (not (list_any is_free (behind_first ws))) kind.Linear p (Ok true))

-- a term at an application: kind 10 where it is a constant term with a step past the cap
abbrev pub checked : Place → Typed → Read Typed
checked p t = unless (not (is_wide (worth_here t))) kind.Number p (Ok t)

-- ---- applications

-- an operator at its arguments: kinds 7, 6, 9 and 8
unfoldable pub application : Operator → Place → List Typed → Read Typed
application op p ts =
    unless (arity_fits op (length ts)) kind.Arity p
    (unless (sorts_fit op.takes (sorts_of ts)) kind.Sort p
    (linear_fits op.linear (map worth_here ts) p >>= λ fits. Ok (applied op ts)))

-- and then kind 10
abbrev pub operated : Operator → Place → List Typed → Read Typed
operated op p ts = application op p ts >>= checked p

-- an operator alone: `true` and `false` are terms
abbrev pub truth_alone : Bool → Read Typed
truth_alone b = Ok (record { sort = sort.Bool; tree = λ frame n. truth_of b })

abbrev pub alone : Shape → Place → Read Typed
alone (shape.Truth b) p = truth_alone b
alone s p = refuse kind.Arity p

abbrev pub same_sorts : List VarSort → List VarSort → Bool
same_sorts [] [] = true
same_sorts (a ∷ ss) (b ∷ us) = same_sort a b && same_sorts ss us
same_sorts ss us = false

abbrev pub is_nil : List VarSort → Bool
is_nil [] = true
is_nil (s ∷ ss) = false

abbrev pub is_plain : Entry → Bool
is_plain e = is_nil e.params

-- a name alone: no definition with parameters
abbrev pub named_alone : Entry → Place → Read Typed
named_alone e p = unless (is_plain e) kind.Arity p (Ok e.meaning)

-- a use of a definition
abbrev pub expanded : Typed → List Typed → Typed
expanded body ts = record { sort = body.sort; tree = used body.tree (map (λ (t : Typed). t.tree) ts) }

-- a definition at its arguments: kinds 7 and 6
unfoldable pub expansion : Entry → Place → List Typed → Read Typed
expansion e p ts =
    unless (not (is_plain e) && length ts == length e.params) kind.Arity p
    (unless (same_sorts (sorts_of ts) e.params) kind.Sort p
    (Ok (expanded e.meaning ts)))

-- and then kind 10: the expansion is checked as one application
abbrev pub use_of : Entry → Place → List Typed → Read Typed
use_of e p ts = expansion e p ts >>= checked p

-- `(_ divisible n)` at its arguments
unfoldable pub divided : ℕ → Place → List Typed → Read Typed
divided n p (t ∷ []) =
    unless (same_sort t.sort sort.Number) kind.Sort p
    (unless (not (n == 0)) kind.Divisor p
    (Ok (record { sort = sort.Bool; tree = λ frame m. one_of (unary.Divisible n) (t.tree frame m) })))
divided n p ts = refuse kind.Arity p
