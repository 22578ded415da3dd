-- The height of a cube is above all its variables, and the least such number.
use Rattle.std.specs.Prelude.{ℕ, ◌≤◌, ℤ, List, [], ◌∷◌}
use Rattle.std.proofs.Common.{arith}
use Rattle.lin_term.specs.declared.Lit.{Lit}
use Rattle.lin_term.specs.Linear.{BelowTerms}
use Rattle.lin_term.specs.Literal.{form_of}
use Rattle.dom_core.specs.Reduced.{AreBelow}
use Rattle.cube_elim.specs.Determined.{height_of_terms, height}

terms_below : (n : ℕ) (ts : List (ℕ × ℤ)) → height_of_terms ts ≤ n → BelowTerms n ts
terms_below n [] h = tt
terms_below n (t ∷ ts) h = (omega arith, terms_below n ts (omega arith))

below_more : (n : ℕ) (c : List Lit) → height c ≤ n → AreBelow n c
below_more n [] h = tt
below_more n (l ∷ c) h = (terms_below n (form_of l).terms (omega arith), below_more n c (omega arith))

pub below_height : (c : List Lit) → AreBelow (height c) c
below_height c = below_more (height c) c (omega arith)

terms_least : (n : ℕ) (ts : List (ℕ × ℤ)) → BelowTerms n ts → height_of_terms ts ≤ n
terms_least n [] b = omega arith
terms_least n (t ∷ ts) b = let k = b.0 in let h = terms_least n ts b.1 in omega arith

pub height_least : (n : ℕ) (c : List Lit) → AreBelow n c → height c ≤ n
height_least n [] b = omega arith
height_least n (l ∷ c) b = let k = terms_least n (form_of l).terms b.0 in let h = height_least n c b.1 in omega arith
