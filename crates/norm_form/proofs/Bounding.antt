-- The forms and literals of a division, made one after the other.
use Rattle.std.specs.Prelude.{ℕ, ◌≡◌, ℤ, Bool, true, false, ◌&&◌, [], ◌∷◌, Ok, Err}
use Rattle.std.proofs.Common.{ap, ap₂, ◌∙◌, sym, subst, refl}
use Rattle.lin_term.specs.declared.Sort.{Sort}
use Rattle.lin_term.specs.declared.Lit.TheVariants.{AtLeast}
use Rattle.lin_form.specs.declared.FormFault.{FormFault}
use Rattle.lin_form.specs.declared.FormFault.TheVariants as faults
use Rattle.lin_form.specs.Kept.{within, lins_numbers}
use Rattle.lin_form.specs.Lin.{Lin, lin_variable, lin_minus}
use Rattle.lin_form.specs.Outcome.{Formed}
use Rattle.lin_form.proofs.Forming.{formed_after, formed_stop}
use Rattle.lin_form.proofs.Keeping.{within_append}
use Rattle.norm_form.specs.declared.bounds.Sides.{Sides}
use Rattle.norm_form.specs.declared.literal.Signs.{Signs}
use Rattle.norm_form.specs.Cap.{atom_numbers, div_numbers}
use Rattle.norm_form.specs.Norm.{div_forms, div_top, multiple, signed}
use Rattle.norm_form.specs.Literal.{AreSigned}
use Rattle.norm_form.specs.Bounds.{AreSides, AreBounds}

sides_err : (n : ℤ) (x : Lin) (d : ℕ) (w : Lin) (z : FormFault) → Formed (div_forms n x d) w (Err z) → AreSides n x d (Err z)
sides_err n x d w faults.Number h = h
sides_err n x d w faults.Memory h = h
sides_err n x d w faults.Size h = h
sides_err n x d w faults.Variables h = h

pub multiple_stops : (n : ℤ) (x : Lin) (d : ℕ) (z : FormFault) → Formed (lin_variable d ∷ multiple n d ∷ []) (multiple n d) (Err z) → AreSides n x d (Err z)
multiple_stops n x d z h =
    sides_err n x d x z (formed_stop (lin_variable d ∷ multiple n d ∷ []) (lin_minus x (multiple n d) ∷ div_top n d ∷ lin_minus (div_top n d) x ∷ []) (multiple n d) x z h)

pub rest_stops : (n : ℤ) (x : Lin) (d : ℕ) (m : Lin) (z : FormFault) → Formed (lin_variable d ∷ multiple n d ∷ []) (multiple n d) (Ok m) → Formed (lin_minus x m ∷ []) (lin_minus x m) (Err z) → AreSides n x d (Err z)
rest_stops n x d m z h k =
    sides_err n x d x z
    (formed_after (lin_variable d ∷ multiple n d ∷ []) (lin_minus x (multiple n d) ∷ div_top n d ∷ lin_minus (div_top n d) x ∷ []) x (Err z) h.0
    (formed_stop (lin_minus x (multiple n d) ∷ []) (div_top n d ∷ lin_minus (div_top n d) x ∷ []) (lin_minus x (multiple n d)) x z
    (subst (λ (y : Lin). Formed (lin_minus x y ∷ []) (lin_minus x y) (Err z)) h.1 k)))

pub gap_stops : (n : ℤ) (x : Lin) (d : ℕ) (m r : Lin) (z : FormFault) → Formed (lin_variable d ∷ multiple n d ∷ []) (multiple n d) (Ok m) → Formed (lin_minus x m ∷ []) (lin_minus x m) (Ok r) → Formed (div_top n d ∷ lin_minus (div_top n d) x ∷ []) (lin_minus (div_top n d) x) (Err z) → AreSides n x d (Err z)
gap_stops n x d m r z h k l =
    sides_err n x d (lin_minus (div_top n d) x) z
    (formed_after (lin_variable d ∷ multiple n d ∷ []) (lin_minus x (multiple n d) ∷ div_top n d ∷ lin_minus (div_top n d) x ∷ []) (lin_minus (div_top n d) x) (Err z) h.0
    (formed_after (lin_minus x (multiple n d) ∷ []) (div_top n d ∷ lin_minus (div_top n d) x ∷ []) (lin_minus (div_top n d) x) (Err z)
    (subst (λ (y : Lin). within (lins_numbers (lin_minus x y ∷ [])) ≡ true) h.1 k.0) l))

pub sides_made : (n : ℤ) (x : Lin) (d : ℕ) (m : Lin) (b : Sides) → Formed (lin_variable d ∷ multiple n d ∷ []) (multiple n d) (Ok m) → Formed (lin_minus x m ∷ []) (lin_minus x m) (Ok b.rest) → Formed (div_top n d ∷ lin_minus (div_top n d) x ∷ []) (lin_minus (div_top n d) x) (Ok b.gap) → AreSides n x d (Ok b)
sides_made n x d m b h k l =
    let w = formed_after (lin_variable d ∷ multiple n d ∷ []) (lin_minus x (multiple n d) ∷ div_top n d ∷ lin_minus (div_top n d) x ∷ []) (lin_minus (div_top n d) x) (Ok b.gap) h.0
    (formed_after (lin_minus x (multiple n d) ∷ []) (div_top n d ∷ lin_minus (div_top n d) x ∷ []) (lin_minus (div_top n d) x) (Ok b.gap)
    (subst (λ (y : Lin). within (lins_numbers (lin_minus x y ∷ [])) ≡ true) h.1 k.0) l) in
    (w.0, k.1 ∙ ap (lin_minus x) h.1, l.1)

and_false : (b : Bool) → b && false ≡ false
and_false true = refl
and_false false = refl

pub sides_stop : (s : Sort) (n : ℤ) (x : Lin) (d : ℕ) (z : FormFault) → AreSides n x d (Err z) → AreBounds s n x d (Err z)
sides_stop s n x d faults.Number h = ap (λ (b : Bool). b && within (div_numbers s n x d)) h
sides_stop s n x d faults.Memory h = tt
sides_stop s n x d faults.Size h = h
sides_stop s n x d faults.Variables h = h

numbers_are : (s : Sort) (n : ℤ) (x : Lin) (d : ℕ) (b : Sides) → AreSides n x d (Ok b) → within (lins_numbers (div_forms n x d)) && within (div_numbers s n x d) ≡ within (atom_numbers s (AtLeast b.rest.form)) && within (atom_numbers s (AtLeast b.gap.form))
numbers_are s n x d b h =
    ap (λ (t : Bool). t && within (div_numbers s n x d)) h.0
    ∙ within_append (atom_numbers s (AtLeast (lin_minus x (multiple n d)).form)) (atom_numbers s (AtLeast (lin_minus (div_top n d) x).form))
    ∙ ap₂ (λ (y w : Lin). within (atom_numbers s (AtLeast y.form)) && within (atom_numbers s (AtLeast w.form))) (sym h.1) (sym h.2)

pub low_stops : (s : Sort) (n : ℤ) (x : Lin) (d : ℕ) (b : Sides) (z : FormFault) → AreSides n x d (Ok b) → AreSigned s (AtLeast b.rest.form) (Err z) → AreBounds s n x d (Err z)
low_stops s n x d b faults.Number h k = numbers_are s n x d b h ∙ ap (λ (t : Bool). t && within (atom_numbers s (AtLeast b.gap.form))) k
low_stops s n x d b faults.Memory h k = tt
low_stops s n x d b faults.Size h k = k
low_stops s n x d b faults.Variables h k = k

pub high_stops : (s : Sort) (n : ℤ) (x : Lin) (d : ℕ) (b : Sides) (z : FormFault) → AreSides n x d (Ok b) → AreSigned s (AtLeast b.gap.form) (Err z) → AreBounds s n x d (Err z)
high_stops s n x d b faults.Number h k = numbers_are s n x d b h ∙ ap (λ (t : Bool). within (atom_numbers s (AtLeast b.rest.form)) && t) k ∙ and_false (within (atom_numbers s (AtLeast b.rest.form)))
high_stops s n x d b faults.Memory h k = tt
high_stops s n x d b faults.Size h k = k
high_stops s n x d b faults.Variables h k = k

pub bounds_made : (s : Sort) (n : ℤ) (x : Lin) (d : ℕ) (b : Sides) (low high : Signs) → AreSides n x d (Ok b) → AreSigned s (AtLeast b.rest.form) (Ok low) → AreSigned s (AtLeast b.gap.form) (Ok high) → AreBounds s n x d (Ok (record { low = low.yes; high = high.yes; rest = b.rest }))
bounds_made s n x d b low high h k l = (
  numbers_are s n x d b h ∙ ap₂ (λ (t u : Bool). t && u) k.0 l.0,
  k.1 ∙ ap (λ (y : Lin). signed true s (AtLeast y.form)) h.1,
  l.1 ∙ ap (λ (y : Lin). signed true s (AtLeast y.form)) h.2,
  h.1,
)
