-- The outcome of working out a linear form.
use Rattle.std.specs.Prelude.{◌≡◌, Result, Ok, Err, List, true, false, ⊤}
use Rattle.lin_form.specs.declared.fault.FormFault.{FormFault}
use Rattle.lin_form.specs.declared.fault.FormFault.TheVariants as faults
use Rattle.lin_form.specs.Lin.{Lin}
use Rattle.lin_form.specs.Kept.{within, lins_numbers}

-- the forms on the way are within the cap and the answer is the value, or one is not; want of memory is free
abbrev pub Formed : List Lin → Lin → Result Lin FormFault → Type 0
Formed xs x (Ok y) = (within (lins_numbers xs) ≡ true) × (y ≡ x)
Formed xs x (Err faults.Number) = within (lins_numbers xs) ≡ false
Formed xs x (Err faults.Memory) = ⊤
Formed xs x (Err faults.Size) = ⊥
Formed xs x (Err faults.Variables) = ⊥
