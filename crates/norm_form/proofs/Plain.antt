-- What a number adds that is not constant.
use Rattle.std.specs.Prelude.{◌≡◌, ◌+◌, ◌*◌, ◌&&◌, List, Bool, false}
use Rattle.std.proofs.Common.{ap, ◌∙◌, sym, refl, ◌⊎◌, inl, inr}
use Rattle.lin_truth.specs.Constant.{is_constant}
use Rattle.lin_truth.specs.Term.{Term, absolute, div_of, mod_of}
use Rattle.lin_truth.specs.declared.Term.{Term as Written}
use Rattle.lin_truth.specs.declared.Term.TheVariants as written
use Rattle.lin_truth.specs.declared.VarSort.{VarSort}
use Rattle.lin_truth.specs.View.{tree_of}
use Rattle.lin_form.proofs.Trees.{tree-Div, tree-Mod}
use Rattle.norm_form.specs.declared.count.Rate.{Rate}
use Rattle.norm_form.specs.Load.{Load, number_load, load_if, after}

-- what its kind says
open_load : (t u : Term) (c : Bool) (l : Load) (r : Rate) (vs : List VarSort) → t ≡ u → number_load u r vs ≡ load_if c l → is_constant u ≡ c → is_constant t ≡ false → number_load t r vs ≡ l
open_load t u c l r vs e f g h = ap (λ (w : Term). number_load w r vs) e ∙ f ∙ ap (λ (b : Bool). load_if b l) (sym g ∙ sym (ap is_constant e) ∙ h)

-- an absolute value
pub absolute_load : (t a : Term) (r : Rate) (vs : List VarSort) → t ≡ absolute a → is_constant t ≡ false → number_load t r vs ≡ after (number_load a r vs) (record { own = 5 * r.node; leaves = 2 })
absolute_load t a r vs e h = open_load t (absolute a) (is_constant a) (after (number_load a r vs) (record { own = 5 * r.node; leaves = 2 })) r vs e refl refl h

-- a whole quotient or a remainder
pub divided_load : (w x A : Written) (r : Rate) (vs : List VarSort) → ((y : Written) × (w ≡ written.Div x y)) ⊎ ((y : Written) × (w ≡ written.Mod x y)) → A ≡ x → is_constant (tree_of w) ≡ false → number_load (tree_of w) r vs ≡ after (number_load (tree_of A) r vs) (record { own = 3 * r.node + r.binder; leaves = 1 })
divided_load w x A r vs (inl (y, e)) g h =
    open_load (tree_of w) (div_of (tree_of A) (tree_of y)) (is_constant (tree_of A) && is_constant (tree_of y)) (after (number_load (tree_of A) r vs) (record { own = 3 * r.node + r.binder; leaves = 1 })) r vs (tree-Div A y x y w g refl e) refl refl h
divided_load w x A r vs (inr (y, e)) g h =
    open_load (tree_of w) (mod_of (tree_of A) (tree_of y)) (is_constant (tree_of A) && is_constant (tree_of y)) (after (number_load (tree_of A) r vs) (record { own = 3 * r.node + r.binder; leaves = 1 })) r vs (tree-Mod A y x y w g refl e) refl refl h
