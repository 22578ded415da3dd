-- What an atom says of a form, and the formula of a term's cases.
use Rattle.std.specs.Prelude.{◌≡◌, ◌*◌, Bool, List, [], ◌∷◌, Option, Some, Result, Ok, Err, ⊤}
use Rattle.lin_term.specs.declared.Sort.{Sort}
use Rattle.lin_term.specs.declared.Lit.TheVariants as lits
use Rattle.lin_form.specs.declared.FormFault.{FormFault}
use Rattle.lin_form.specs.declared.FormFault.TheVariants as faults
use Rattle.lin_form.specs.Lin.{Lin}
use Rattle.norm_form.specs.declared.claim.Claim.{Claim}
use Rattle.norm_form.specs.declared.claim.Claim.TheVariants as claims
use Rattle.norm_form.specs.declared.normal.LevelForm.{LevelForm as Built}
use Rattle.norm_form.specs.Cap.{capped_maker}
use Rattle.norm_form.specs.Cases.{HasNone}
use Rattle.norm_form.specs.Norm.{modulus}
use Rattle.norm_form.specs.Normal.{Normal}
use Rattle.norm_form.specs.View.{shape_of}

abbrev pub claimed : Claim → Sort → Bool → Lin → Option Normal
claimed claims.AtLeast s q x = capped_maker.signed q s (lits.AtLeast x.form)
claimed claims.Above s q x = capped_maker.signed q s (lits.Above x.form)
claimed claims.Zero s q x = capped_maker.same_number q s x
claimed (claims.Divides n) s q x = capped_maker.formed (modulus n x ∷ []) (capped_maker.signed q s (lits.Divides (n * x.den) x.form))

-- the formulas of a stack, the last one first
abbrev pub stacked_on : List Built → List (Option Normal) → List (Option Normal)
stacked_on [] rs = rs
stacked_on (n ∷ ns) rs = stacked_on ns (Some (shape_of n) ∷ rs)

abbrev pub AreStacked : List (Option Normal) → Result (List Built) FormFault → Type 0
AreStacked rs (Ok ns) = stacked_on ns [] ≡ rs
AreStacked rs (Err faults.Number) = HasNone rs
AreStacked rs (Err faults.Memory) = ⊤
AreStacked rs (Err faults.Size) = ⊥
AreStacked rs (Err faults.Variables) = ⊥
