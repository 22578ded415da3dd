-- The numbers of linear forms, and which lists of numbers are within the cap.
use Rattle.std.specs.Prelude.{ℤ, pos, List, [], ◌∷◌, ◌++◌, Bool, true, ◌&&◌}
use Rattle.lin_term.specs.Wide.{fits, form_numbers}
use Rattle.lin_form.specs.Lin.{Lin}

abbrev pub within : List ℤ → Bool
within [] = true
within (z ∷ zs) = fits z && within zs

-- the denominator, the coefficients, the constant
abbrev pub lin_numbers : Lin → List ℤ
lin_numbers x = pos x.den ∷ form_numbers x.form

abbrev pub lins_numbers : List Lin → List ℤ
lins_numbers [] = []
lins_numbers (x ∷ xs) = lin_numbers x ++ lins_numbers xs
