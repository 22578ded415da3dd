-- The outcome of making literals.
use Rattle.std.specs.Prelude.{◌≡◌, ℤ, List, true, false, Result, Ok, Err, ⊤}
use Rattle.lin_term.specs.declared.Sort.{Sort}
use Rattle.lin_term.specs.declared.Lit.{Lit}
use Rattle.lin_form.specs.declared.FormFault.{FormFault}
use Rattle.lin_form.specs.declared.FormFault.TheVariants as faults
use Rattle.lin_form.specs.Kept.{within}
use Rattle.norm_form.specs.declared.literal.Signs.{Signs}
use Rattle.norm_form.specs.Cap.{atom_numbers}
use Rattle.norm_form.specs.Norm.{signed}
use Rattle.norm_form.specs.View.{shape_of}

-- the numbers are within the cap and the answer is the value, or one is not; want of memory is free
abbrev pub IsFormedLiteral : {A : Type 0} → List ℤ → A → Result A FormFault → Type 0
IsFormedLiteral {A} zs v (Ok x) = (within zs ≡ true) × (x ≡ v)
IsFormedLiteral {A} zs v (Err faults.Number) = within zs ≡ false
IsFormedLiteral {A} zs v (Err faults.Memory) = ⊤
IsFormedLiteral {A} zs v (Err faults.Size) = ⊥
IsFormedLiteral {A} zs v (Err faults.Variables) = ⊥

-- a literal and its negation
abbrev pub AreSigned : Sort → Lit → Result Signs FormFault → Type 0
AreSigned s l (Ok z) = (within (atom_numbers s l) ≡ true) × (shape_of z.yes ≡ signed true s l) × (shape_of z.no ≡ signed false s l)
AreSigned s l (Err faults.Number) = within (atom_numbers s l) ≡ false
AreSigned s l (Err faults.Memory) = ⊤
AreSigned s l (Err faults.Size) = ⊥
AreSigned s l (Err faults.Variables) = ⊥
