-- The number of variables of a prefix.
use Rattle.std.specs.Prelude.{ℕ, zero, suc, ◌+◌, ◌≡◌, List, [], ◌∷◌, ◌++◌, length}
use Rattle.std.proofs.Common.{arith, ap, ◌∙◌, refl}
use Rattle.dom_core.specs.Game.{flip}
use Rattle.dom_core.specs.declared.Quant.{Quant}
use Rattle.prenex_form.specs.Prenex.{repeat, quants, merge}
use Rattle.prenex_form.specs.Pass.{sum_of}

repeat_length : (n : ℕ) (q : Quant) (qs : List Quant) → length (repeat n q qs) ≡ n + length qs
repeat_length zero q qs = omega arith
repeat_length (suc n) q qs = let h = repeat_length n q qs in omega arith

pub quants_length : (q : Quant) (bs : List ℕ) → length (quants q bs) ≡ sum_of bs
quants_length q [] = refl
quants_length q (b ∷ bs) = repeat_length b q (quants (flip q) bs) ∙ ap (λ (n : ℕ). b + n) (quants_length (flip q) bs)

pub merge_sum : (bs cs : List ℕ) → sum_of (merge bs cs) ≡ sum_of bs + sum_of cs
merge_sum [] cs = omega arith
merge_sum (b ∷ bs) [] = omega arith
merge_sum (b ∷ bs) (c ∷ cs) = let h = merge_sum bs cs in omega arith

pub repeat_more : (n : ℕ) (q : Quant) → repeat n q [] ++ q ∷ [] ≡ repeat (n + 1) q []
repeat_more zero q = refl
repeat_more (suc n) q =
    let e : suc (n + 1) ≡ suc n + 1 = omega arith in
    ap (λ (qs : List Quant). q ∷ qs) (repeat_more n q) ∙ ap (λ (m : ℕ). repeat m q []) e

pub repeat_append : (n : ℕ) (q : Quant) (qs : List Quant) → repeat n q [] ++ qs ≡ repeat n q qs
repeat_append zero q qs = refl
repeat_append (suc n) q qs = ap (λ (rs : List Quant). q ∷ rs) (repeat_append n q qs)
