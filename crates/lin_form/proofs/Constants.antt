-- Sums and products of constant terms, one term at a time.
use Rattle.std.specs.Prelude.{◌≡◌, true, Result, Ok, Err, List, [], ◌∷◌, ◌++◌}
use Rattle.std.proofs.Common.{ap, ◌∙◌, sym, subst, refl, append_assoc}
use Rattle.lin_truth.specs.Term.{Term, Terms, no_term, term_and}
use Rattle.lin_form.specs.declared.fault.FormFault.{FormFault}
use Rattle.lin_form.specs.Lin.{Lin, lin_plus, lin_times}
use Rattle.lin_form.specs.Low.{as_lin, low, low_sum, low_product, steps, sum_steps, product_steps}
use Rattle.lin_form.specs.Kept.{within, lins_numbers}
use Rattle.lin_form.specs.Outcome.{Formed}
use Rattle.lin_form.specs.Operating.{value_of}
use Rattle.lin_form.proofs.Directs.{plus_step, times_step}
use Rattle.lin_form.proofs.Forming.{formed_after, formed_stop}

-- what is right for the rest behind the total x is right for all
abbrev pub SumGoesOn : Lin → Terms → Terms → Lin → Type 0
SumGoesOn start ts us x =
    (x ≡ as_lin (value_of x)) × ((r : Result Lin FormFault) → Formed (sum_steps us (value_of x)) (as_lin (low_sum us (value_of x))) r → Formed (sum_steps ts (value_of start)) (as_lin (low_sum ts (value_of start))) r)

abbrev pub ProductGoesOn : Lin → Terms → Terms → Lin → Type 0
ProductGoesOn start ts us x =
    (x ≡ as_lin (value_of x)) × ((r : Result Lin FormFault) → Formed (product_steps us (value_of x)) (as_lin (low_product us (value_of x))) r → Formed (product_steps ts (value_of start)) (as_lin (low_product ts (value_of start))) r)

list_one : {A : Type 0} (xs : List A) (y : A) (ys : List A) → xs ++ (y ∷ ys) ≡ (xs ++ y ∷ []) ++ ys
list_one {A} xs y ys = sym (append_assoc xs (y ∷ []) ys)

pub sum_more : (start : Lin) (ts us : Terms) (t : Term) (x y : Lin) → SumGoesOn start ts (term_and t us) x → Formed (steps t ++ lin_plus x (as_lin (low t)) ∷ []) (lin_plus x (as_lin (low t))) (Ok y) → SumGoesOn start ts us y
sum_more start ts us t x y h k =
    let v = value_of x in
    let e : lin_plus x (as_lin (low t)) ≡ as_lin (low_sum (term_and t no_term) v) = ap (λ (z : Lin). lin_plus z (as_lin (low t))) h.0 ∙ plus_step v (low t) in
    let f : y ≡ as_lin (low_sum (term_and t no_term) v) = k.1 ∙ e in (
      subst (λ (z : Lin). z ≡ as_lin (value_of z)) (sym f) refl,
      λ r l. h.1 r
          (subst (λ (zs : List Lin). Formed zs (as_lin (low_sum us (low_sum (term_and t no_term) v))) r) (sym (list_one (steps t) (as_lin (low_sum (term_and t no_term) v)) (sum_steps us (low_sum (term_and t no_term) v))))
          (formed_after (steps t ++ as_lin (low_sum (term_and t no_term) v) ∷ []) (sum_steps us (low_sum (term_and t no_term) v)) (as_lin (low_sum us (low_sum (term_and t no_term) v))) r
          (subst (λ (z : Lin). within (lins_numbers (steps t ++ z ∷ [])) ≡ true) e k.0)
          (subst (λ (z : Lin). Formed (sum_steps us (value_of z)) (as_lin (low_sum us (value_of z))) r) f l))),
    )

pub sum_stops : (start : Lin) (ts us : Terms) (t : Term) (x : Lin) (f : FormFault) → SumGoesOn start ts (term_and t us) x → Formed (steps t ++ lin_plus x (as_lin (low t)) ∷ []) (lin_plus x (as_lin (low t))) (Err f) → Formed (sum_steps ts (value_of start)) (as_lin (low_sum ts (value_of start))) (Err f)
sum_stops start ts us t x f h k =
    let v = value_of x in
    let w = low_sum (term_and t no_term) v in
    let e : lin_plus x (as_lin (low t)) ≡ as_lin w = ap (λ (z : Lin). lin_plus z (as_lin (low t))) h.0 ∙ plus_step v (low t) in
    h.1 (Err f)
    (subst (λ (zs : List Lin). Formed zs (as_lin (low_sum us w)) (Err f)) (sym (list_one (steps t) (as_lin w) (sum_steps us w)))
    (formed_stop (steps t ++ as_lin w ∷ []) (sum_steps us w) (as_lin w) (as_lin (low_sum us w)) f
    (subst (λ (z : Lin). Formed (steps t ++ z ∷ []) z (Err f)) e k)))

pub product_more : (start : Lin) (ts us : Terms) (t : Term) (x y : Lin) → ProductGoesOn start ts (term_and t us) x → Formed (steps t ++ lin_times x (as_lin (low t)) ∷ []) (lin_times x (as_lin (low t))) (Ok y) → ProductGoesOn start ts us y
product_more start ts us t x y h k =
    let v = value_of x in
    let e : lin_times x (as_lin (low t)) ≡ as_lin (low_product (term_and t no_term) v) = ap (λ (z : Lin). lin_times z (as_lin (low t))) h.0 ∙ times_step v (low t) in
    let f : y ≡ as_lin (low_product (term_and t no_term) v) = k.1 ∙ e in (
      subst (λ (z : Lin). z ≡ as_lin (value_of z)) (sym f) refl,
      λ r l. h.1 r
          (subst (λ (zs : List Lin). Formed zs (as_lin (low_product us (low_product (term_and t no_term) v))) r) (sym (list_one (steps t) (as_lin (low_product (term_and t no_term) v)) (product_steps us (low_product (term_and t no_term) v))))
          (formed_after (steps t ++ as_lin (low_product (term_and t no_term) v) ∷ []) (product_steps us (low_product (term_and t no_term) v)) (as_lin (low_product us (low_product (term_and t no_term) v))) r
          (subst (λ (z : Lin). within (lins_numbers (steps t ++ z ∷ [])) ≡ true) e k.0)
          (subst (λ (z : Lin). Formed (product_steps us (value_of z)) (as_lin (low_product us (value_of z))) r) f l))),
    )

pub product_stops : (start : Lin) (ts us : Terms) (t : Term) (x : Lin) (f : FormFault) → ProductGoesOn start ts (term_and t us) x → Formed (steps t ++ lin_times x (as_lin (low t)) ∷ []) (lin_times x (as_lin (low t))) (Err f) → Formed (product_steps ts (value_of start)) (as_lin (low_product ts (value_of start))) (Err f)
product_stops start ts us t x f h k =
    let v = value_of x in
    let w = low_product (term_and t no_term) v in
    let e : lin_times x (as_lin (low t)) ≡ as_lin w = ap (λ (z : Lin). lin_times z (as_lin (low t))) h.0 ∙ times_step v (low t) in
    h.1 (Err f)
    (subst (λ (zs : List Lin). Formed zs (as_lin (low_product us w)) (Err f)) (sym (list_one (steps t) (as_lin w) (product_steps us w)))
    (formed_stop (steps t ++ as_lin w ∷ []) (product_steps us w) (as_lin w) (as_lin (low_product us w)) f
    (subst (λ (z : Lin). Formed (steps t ++ z ∷ []) z (Err f)) e k)))
