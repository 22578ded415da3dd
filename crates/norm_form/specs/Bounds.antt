-- The bounds of a whole quotient.
use Rattle.std.specs.Prelude.{ℕ, ◌≡◌, ℤ, true, false, ◌&&◌, Result, Ok, Err, ⊤}
use Rattle.lin_term.specs.declared.Sort.{Sort}
use Rattle.lin_form.specs.declared.FormFault.{FormFault}
use Rattle.lin_form.specs.declared.FormFault.TheVariants as faults
use Rattle.lin_form.specs.Kept.{within, lins_numbers}
use Rattle.lin_form.specs.Lin.{Lin, lin_minus}
use Rattle.norm_form.specs.declared.bounds.Bounds.{Bounds}
use Rattle.norm_form.specs.declared.bounds.Sides.{Sides}
use Rattle.norm_form.specs.Cap.{div_numbers}
use Rattle.norm_form.specs.Norm.{div_forms, div_low, div_high, div_top, multiple}
use Rattle.norm_form.specs.View.{shape_of}

-- the forms of a division by n: the quotient, what is left, and what the upper bound leaves
abbrev pub AreSides : ℤ → Lin → ℕ → Result Sides FormFault → Type 0
AreSides n x d (Ok b) =
    (within (lins_numbers (div_forms n x d)) ≡ true) × (b.rest ≡ lin_minus x (multiple n d)) × (b.gap ≡ lin_minus (div_top n d) x)
AreSides n x d (Err faults.Number) = within (lins_numbers (div_forms n x d)) ≡ false
AreSides n x d (Err faults.Memory) = ⊤
AreSides n x d (Err faults.Size) = ⊥
AreSides n x d (Err faults.Variables) = ⊥

abbrev pub AreBounds : Sort → ℤ → Lin → ℕ → Result Bounds FormFault → Type 0
AreBounds s n x d (Ok b) =
    (within (lins_numbers (div_forms n x d)) && within (div_numbers s n x d) ≡ true) × (shape_of b.low ≡ div_low s n x d) × (shape_of b.high ≡ div_high s n x d) × (b.rest ≡ lin_minus x (multiple n d))
AreBounds s n x d (Err faults.Number) = within (lins_numbers (div_forms n x d)) && within (div_numbers s n x d) ≡ false
AreBounds s n x d (Err faults.Memory) = ⊤
AreBounds s n x d (Err faults.Size) = ⊥
AreBounds s n x d (Err faults.Variables) = ⊥
