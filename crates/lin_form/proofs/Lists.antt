-- Lists of terms, worked out one term at a time.
use Rattle.std.specs.Prelude.{◌≡◌, Result, Ok, Err, List, [], ◌∷◌, ◌++◌}
use Rattle.std.proofs.Common.{sym, subst, append_assoc}
use Rattle.lin_truth.specs.Term.{Terms}
use Rattle.lin_form.specs.declared.fault.FormFault.{FormFault}
use Rattle.lin_form.specs.Lin.{Lin}
use Rattle.lin_form.specs.Outcome.{Formed}
use Rattle.lin_form.proofs.Forming.{formed_after, formed_stop}

-- what is right for the rest us behind the form x is right for all of ts behind the start; `forms` are formed on the way to `value`
abbrev pub GoesOn : (Terms → Lin → List Lin) → (Terms → Lin → Lin) → Lin → Terms → Terms → Lin → Type 0
GoesOn forms value start ts us x = (r : Result Lin FormFault) → Formed (forms us x) (value us x) r → Formed (forms ts start) (value ts start) r

list_one : (xs : List Lin) (y : Lin) (ys : List Lin) → xs ++ (y ∷ ys) ≡ (xs ++ y ∷ []) ++ ys
list_one xs y ys = sym (append_assoc xs (y ∷ []) ys)

-- one more term, whose forms are xs and whose step gives p
pub goes_more : (forms : Terms → Lin → List Lin) (value : Terms → Lin → Lin) (start : Lin) (ts us : Terms) (xs : List Lin) (p y : Lin) → ((r : Result Lin FormFault) → Formed (xs ++ (p ∷ forms us p)) (value us p) r → Formed (forms ts start) (value ts start) r) → Formed (xs ++ p ∷ []) p (Ok y) → GoesOn forms value start ts us y
goes_more forms value start ts us xs p y h k r l =
    h r
    (subst (λ (zs : List Lin). Formed zs (value us p) r) (sym (list_one xs p (forms us p)))
    (formed_after (xs ++ p ∷ []) (forms us p) (value us p) r k.0 (subst (λ (z : Lin). Formed (forms us z) (value us z) r) k.1 l)))

pub goes_stop : (forms : Terms → Lin → List Lin) (value : Terms → Lin → Lin) (start : Lin) (ts us : Terms) (xs : List Lin) (p : Lin) (f : FormFault) → ((r : Result Lin FormFault) → Formed (xs ++ (p ∷ forms us p)) (value us p) r → Formed (forms ts start) (value ts start) r) → Formed (xs ++ p ∷ []) p (Err f) → Formed (forms ts start) (value ts start) (Err f)
goes_stop forms value start ts us xs p f h k =
    h (Err f)
    (subst (λ (zs : List Lin). Formed zs (value us p) (Err f)) (sym (list_one xs p (forms us p)))
    (formed_stop (xs ++ p ∷ []) (forms us p) p (value us p) f k))
