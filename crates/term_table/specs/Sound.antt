-- Terms that are well formed in a scope of declared constants, parameters and bindings of given sorts, as far as they are no larger than a goal may be.
use Rattle.std.specs.Prelude.{ℕ, ◌≡◌, ◌<◌, ◌≤◌, List, [], ◌∷◌, ◌++◌, length, map, get_or, slice_index_or, ⊤}
use Rattle.lin_term.specs.Form.{cap}
use Rattle.lin_term.specs.declared.row.Sort.{Sort}
use Rattle.lin_truth.specs.declared.term.VarSort.{VarSort}
use Rattle.lin_truth.specs.declared.term.VarSort.TheVariants as sorts
use Rattle.lin_truth.specs.Value.{Yes}
use Rattle.lin_truth.specs.Term.{Term}
use Rattle.lin_truth.specs.Constant.{is_constant}
use Rattle.lin_truth.specs.Size.{node_count}
use Rattle.lin_truth.specs.Formed.{IsFormula, IsNumber, IsInt, IsRat, IsNotZero}
use Rattle.lin_truth.specs.Truth.{Either}
use Rattle.lin_truth.specs.Goal.{IsGoalTerm}
use Rattle.term_table.specs.declared.node.Unary.{Unary}
use Rattle.term_table.specs.declared.node.Unary.TheVariants as unary
use Rattle.term_table.specs.declared.node.Binary.{Binary}
use Rattle.term_table.specs.declared.node.Binary.TheVariants as binary
use Rattle.term_table.specs.declared.node.Variadic.{Variadic}
use Rattle.term_table.specs.declared.node.Variadic.TheVariants as variadic
use Rattle.term_table.specs.declared.worth.Worth.{Worth}
use Rattle.term_table.specs.declared.worth.Worth.TheVariants as worth
use Rattle.term_table.specs.Placed.{Placed, Frame, Typed, nothing, top}
use Rattle.term_table.specs.Worth.{most_nodes, worth_of}

-- of this sort, below variables of these sorts
abbrev pub IsOf : VarSort → Term → Sort → List VarSort → Type 0
IsOf sorts.Bool t s vs = IsFormula t s vs
IsOf sorts.Number t s vs = IsNumber t s vs

-- where it is not too large: well formed, and with numbers that are kept
abbrev pub IsFormed : Sort → VarSort → Term → List VarSort → Type 0
IsFormed s u t vs = node_count t ≤ most_nodes → IsOf u t s vs × IsGoalTerm t

-- it stays well formed below more variables
abbrev pub StaysFormed : Sort → VarSort → Placed → List VarSort → Type 0
StaysFormed s u t vs = (more : List VarSort) → IsFormed s u (t (length (vs ++ more))) (vs ++ more)

-- what stands for the parameters, by their sorts
abbrev pub FitParameters : Sort → List VarSort → List Placed → List VarSort → Type 0
FitParameters s vs gs [] = ⊤
FitParameters s vs [] (u ∷ us) = ⊥
FitParameters s vs (g ∷ gs) (u ∷ us) = StaysFormed s u g vs × FitParameters s vs gs us

-- the places of the bindings, by their sorts
abbrev pub FitBindings : List VarSort → List ℕ → List VarSort → Type 0
FitBindings vs is [] = ⊤
FitBindings vs [] (u ∷ us) = ⊥
FitBindings vs (i ∷ is) (u ∷ us) = ((i < length vs) × ((d : VarSort) → get_or vs i d ≡ u)) × FitBindings vs is us

-- the sorts of the constants, of the parameters and of the bindings around
pub record Sorts : Type 0 where
  pub constants : List VarSort
  pub parameters : List VarSort
  pub bindings : List VarSort

-- a frame below variables of these sorts, the constants first
pub record Fits (s : Sort) (scope : Sorts) (frame : Frame) (vs : List VarSort) : Type 0 where
  pub begins : (rest : List VarSort) × (vs ≡ scope.constants ++ rest)
  pub given : FitParameters s vs frame.given scope.parameters
  pub bound : FitBindings vs frame.bound scope.bindings

-- a parameter that stands for a constant term stands for the same one in both
abbrev pub SameConstants : List Placed → List Placed → Type 0
SameConstants gs hs =
    (p n m : ℕ) → Yes (is_constant (slice_index_or gs p nothing n)) → slice_index_or gs p nothing n ≡ slice_index_or hs p nothing m

-- a term of a scope: well formed in each frame that fits, and with one tree wherever it is a constant term
pub record Sound (s : Sort) (scope : Sorts) (t : Typed) : Type 0 where
  pub formed : (frame : Frame) (vs : List VarSort) → Fits s scope frame vs → IsFormed s t.sort (t.tree frame (length vs)) vs
  pub fixed : (f g : Frame) (n m : ℕ) → SameConstants f.given g.given → Yes (is_constant (t.tree f n)) → t.tree f n ≡ t.tree g m

abbrev pub AllSound : Sort → Sorts → List Typed → Type 0
AllSound s scope [] = ⊤
AllSound s scope (t ∷ ts) = Sound s scope t × AllSound s scope ts

-- ---- the sorts of operators

-- of the part, and of the whole
abbrev pub unary_part : Unary → VarSort
unary_part unary.Not = sorts.Bool
unary_part unary.Negative = sorts.Number
unary_part unary.Abs = sorts.Number
unary_part (unary.Divisible n) = sorts.Number

abbrev pub unary_whole : Unary → VarSort
unary_whole unary.Not = sorts.Bool
unary_whole unary.Negative = sorts.Number
unary_whole unary.Abs = sorts.Number
unary_whole (unary.Divisible n) = sorts.Bool

abbrev pub UnaryFits : Sort → Unary → Type 0
UnaryFits s unary.Not = ⊤
UnaryFits s unary.Negative = ⊤
UnaryFits s unary.Abs = ⊤
UnaryFits s (unary.Divisible n) = IsInt s × (1 ≤ n) × (n ≤ cap)

abbrev pub binary_whole : Binary → VarSort
binary_whole binary.Minus = sorts.Number
binary_whole binary.Quotient = sorts.Number
binary_whole binary.Div = sorts.Number
binary_whole binary.Mod = sorts.Number
binary_whole binary.Less = sorts.Bool
binary_whole binary.AtMost = sorts.Bool
binary_whole binary.Greater = sorts.Bool
binary_whole binary.AtLeast = sorts.Bool
binary_whole binary.Equal = sorts.Bool
binary_whole binary.Xor = sorts.Bool
binary_whole binary.Implies = sorts.Bool

-- a constant term that is not 0, or too large to be worked out
abbrev pub IsDivisor : Worth → Type 0
IsDivisor worth.Free = ⊥
IsDivisor worth.Large = ⊤
IsDivisor worth.Wide = ⊥
IsDivisor (worth.Value num den) = IsNotZero num

abbrev pub AreNumbers : Typed → Typed → Type 0
AreNumbers a b = (a.sort ≡ sorts.Number) × (b.sort ≡ sorts.Number)

abbrev pub BinaryFits : Sort → Binary → Typed → Typed → Type 0
BinaryFits s binary.Minus a b = AreNumbers a b
BinaryFits s binary.Quotient a b = IsRat s × AreNumbers a b × IsDivisor (worth_of (b.tree top 0))
BinaryFits s binary.Div a b = IsInt s × AreNumbers a b × IsDivisor (worth_of (b.tree top 0))
BinaryFits s binary.Mod a b = IsInt s × AreNumbers a b × IsDivisor (worth_of (b.tree top 0))
BinaryFits s binary.Less a b = AreNumbers a b
BinaryFits s binary.AtMost a b = AreNumbers a b
BinaryFits s binary.Greater a b = AreNumbers a b
BinaryFits s binary.AtLeast a b = AreNumbers a b
BinaryFits s binary.Equal a b = a.sort ≡ b.sort
BinaryFits s binary.Xor a b = (a.sort ≡ sorts.Bool) × (b.sort ≡ sorts.Bool)
BinaryFits s binary.Implies a b = (a.sort ≡ sorts.Bool) × (b.sort ≡ sorts.Bool)

abbrev pub variadic_sort : Variadic → VarSort
variadic_sort variadic.Plus = sorts.Number
variadic_sort variadic.Times = sorts.Number
variadic_sort variadic.And = sorts.Bool
variadic_sort variadic.Or = sorts.Bool

abbrev pub AllOfSort : VarSort → List Typed → Type 0
AllOfSort u [] = ⊤
AllOfSort u (t ∷ ts) = (t.sort ≡ u) × AllOfSort u ts

abbrev pub AllConstant : List Typed → Type 0
AllConstant [] = ⊤
AllConstant (t ∷ ts) = Yes (is_constant (t.tree top 0)) × AllConstant ts

-- at most one of them is no constant term
abbrev pub OneIsFree : List Typed → Type 0
OneIsFree [] = ⊤
OneIsFree (t ∷ ts) = Either (is_constant (t.tree top 0)) (OneIsFree ts) (AllConstant ts)

abbrev pub VariadicFits : Variadic → List Typed → Type 0
VariadicFits variadic.Plus ts = AllOfSort sorts.Number ts
VariadicFits variadic.Times ts = AllOfSort sorts.Number ts × OneIsFree ts
VariadicFits variadic.And ts = AllOfSort sorts.Bool ts
VariadicFits variadic.Or ts = AllOfSort sorts.Bool ts

-- arguments of a definition with parameters of these sorts
abbrev pub ArgumentsFit : List VarSort → List Typed → Type 0
ArgumentsFit [] [] = ⊤
ArgumentsFit [] (t ∷ ts) = ⊥
ArgumentsFit (u ∷ us) [] = ⊥
ArgumentsFit (u ∷ us) (t ∷ ts) = (t.sort ≡ u) × ArgumentsFit us ts

-- each tree, in one frame
abbrev pub trees_at : List Typed → Frame → ℕ → List Term
trees_at ts frame n = map (λ (t : Typed). t.tree frame n) ts
