-- A move put into a cube for a variable x; a literal that is there already is not repeated.
use Rattle.std.specs.Prelude.{ℕ, ℤ, if◌then◌else◌, List, [], ◌∷◌, ◌++◌, map}
use Rattle.std.specs.List.{list_any}
use Rattle.lin_term.specs.declared.Sort.{Sort}
use Rattle.lin_term.specs.declared.Sort.TheVariants.{Rat, Int}
use Rattle.lin_term.specs.Linear.{Point, dot}
use Rattle.lin_term.specs.declared.Lit.{Lit}
use Rattle.lin_term.specs.declared.Lit.TheVariants.{Divides}
use Rattle.lin_term.specs.Literal.{residue, prim}
use Rattle.lin_term.specs.Move.{Move}
use Rattle.lin_term.specs.PutIn.{less_residue, substituted}
use Rattle.dom_core.specs.Elimination.{cube_numbers}
use Rattle.lin_term.specs.Same.{same_literal}

-- the literals of the second list that are not there yet, behind the first
abbrev pub with_new : List Lit → List Lit → List Lit
with_new c [] = c
with_new c (l ∷ ls) = with_new (if list_any (same_literal l) c then c else c ++ l ∷ []) ls

-- what is taken from the numerator before it is divided: in Int its residue at the point
abbrev pub remainder : Sort → Move → Point → ℕ
remainder Rat m p = 0
remainder Int m p = residue (dot m.numer p) m.div

-- in Int, that the division comes out even
abbrev pub evenness : Sort → Move → ℕ → List Lit
evenness Rat m r = []
evenness Int m r = prim Int (Divides m.div (less_residue m r)) ∷ []

-- the move less a residue in place of x in each literal
abbrev pub substituted_all : Sort → ℕ → Move → ℕ → List Lit → List Lit
substituted_all s x m r c = map (λ l. substituted s l x m r) c

-- the move in place of x in each literal, at a point
abbrev pub put_in : Sort → ℕ → Move → Point → List Lit → List Lit
put_in s x m p c =
    let r = remainder s m p in
    with_new [] (substituted_all s x m r c ++ evenness s m r)

-- the numbers in the order in which they are formed
abbrev pub put_in_numbers : Sort → ℕ → Move → Point → List Lit → List ℤ
put_in_numbers s x m p c = cube_numbers (put_in s x m p c)
