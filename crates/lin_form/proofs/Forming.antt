-- Outcomes one after the other.
use Rattle.std.specs.Prelude.{◌≡◌, ℤ, Bool, true, false, ◌&&◌, Result, Ok, Err, List, [], ◌∷◌, ◌++◌}
use Rattle.std.proofs.Common.{ap, ap₂, ◌∙◌, sym, subst, refl, append_assoc}
use Rattle.lin_form.specs.declared.fault.FormFault.{FormFault}
use Rattle.lin_form.specs.declared.fault.FormFault.TheVariants as faults
use Rattle.lin_form.specs.Lin.{Lin}
use Rattle.lin_form.specs.Kept.{within, lin_numbers, lins_numbers}
use Rattle.lin_form.specs.Outcome.{Formed}
use Rattle.lin_form.proofs.Keeping.{within_append}

pub numbers_append : (xs ys : List Lin) → lins_numbers (xs ++ ys) ≡ lins_numbers xs ++ lins_numbers ys
numbers_append [] ys = refl
numbers_append (x ∷ xs) ys = ap (λ (zs : List ℤ). lin_numbers x ++ zs) (numbers_append xs ys) ∙ sym (append_assoc (lin_numbers x) (lins_numbers xs) (lins_numbers ys))

pub within_both : (xs ys : List Lin) → within (lins_numbers (xs ++ ys)) ≡ within (lins_numbers xs) && within (lins_numbers ys)
within_both xs ys = ap within (numbers_append xs ys) ∙ within_append (lins_numbers xs) (lins_numbers ys)

and_false : (b : Bool) → b && false ≡ false
and_false true = refl
and_false false = refl

-- behind forms that are within the cap
pub formed_after : (xs ys : List Lin) (w : Lin) (r : Result Lin FormFault) → within (lins_numbers xs) ≡ true → Formed ys w r → Formed (xs ++ ys) w r
formed_after xs ys w (Ok y) e h = (within_both xs ys ∙ ap₂ (λ (a b : Bool). a && b) e h.0, h.1)
formed_after xs ys w (Err faults.Number) e h = within_both xs ys ∙ ap (λ (b : Bool). within (lins_numbers xs) && b) h ∙ and_false (within (lins_numbers xs))
formed_after xs ys w (Err faults.Memory) e h = tt
formed_after xs ys w (Err faults.Size) e h = h
formed_after xs ys w (Err faults.Variables) e h = h

-- a fault stays a fault
pub formed_stop : (xs ys : List Lin) (v w : Lin) (f : FormFault) → Formed xs v (Err f) → Formed (xs ++ ys) w (Err f)
formed_stop xs ys v w faults.Number h = within_both xs ys ∙ ap (λ (b : Bool). b && within (lins_numbers ys)) h
formed_stop xs ys v w faults.Memory h = tt
formed_stop xs ys v w faults.Size h = h
formed_stop xs ys v w faults.Variables h = h

-- one more step on a form
pub step_one : (f : Lin → Lin) (xs : List Lin) (v x : Lin) (r : Result Lin FormFault) → Formed xs v (Ok x) → Formed (f x ∷ []) (f x) r → Formed (xs ++ f v ∷ []) (f v) r
step_one f xs v x r h k = formed_after xs (f v ∷ []) (f v) r h.0 (subst (λ (y : Lin). Formed (f y ∷ []) (f y) r) h.1 k)

-- a step on two forms
pub step_two : (f : Lin → Lin → Lin) (xs ys : List Lin) (v w x y : Lin) (r : Result Lin FormFault) → Formed xs v (Ok x) → Formed ys w (Ok y) → Formed (f x y ∷ []) (f x y) r → Formed (xs ++ (ys ++ f v w ∷ [])) (f v w) r
step_two f xs ys v w x y r h k l =
    formed_after xs (ys ++ f v w ∷ []) (f v w) r h.0
    (formed_after ys (f v w ∷ []) (f v w) r k.0 (subst (λ (z : Lin). Formed (f v z ∷ []) (f v z) r) k.1 (subst (λ (z : Lin). Formed (f z y ∷ []) (f z y) r) h.1 l)))

pub stop_two : (xs ys zs : List Lin) (v w u x : Lin) (f : FormFault) → Formed xs v (Ok x) → Formed ys w (Err f) → Formed (xs ++ (ys ++ zs)) u (Err f)
stop_two xs ys zs v w u x f h k = formed_after xs (ys ++ zs) u (Err f) h.0 (formed_stop ys zs w u f k)
