-- What stands for a term that is none of the kinds that were looked for.
use Rattle.std.specs.Prelude.{ℕ, ◌≡◌, List, true, false}
use Rattle.std.proofs.Common.{ap, ◌∙◌, sym}
use Rattle.lin_truth.specs.Constant.{is_constant}
use Rattle.lin_truth.specs.Term.{Term}
use Rattle.lin_truth.specs.declared.Term.{Term as Written, Term-F, fold-roll-Term, map-Term, out-Term, roll-Term, roll-out-Term}
use Rattle.lin_truth.specs.declared.Term.TheOpen as open_term
use Rattle.lin_truth.specs.declared.Term.TheVariants as written
use Rattle.lin_truth.specs.declared.VarSort.{VarSort}
use Rattle.lin_truth.specs.View.{term_step, tree_of}
use Rattle.norm_form.specs.declared.count.Rate.{Rate}
use Rattle.norm_form.specs.Load.{load, number_load, no_number}

-- the tree of a term, one level
pub seen : (w : Written) (k : Term-F Written) → w ≡ roll-Term k → tree_of w ≡ term_step (map-Term Written Term tree_of k)
seen w k e = ap tree_of e ∙ fold-roll-Term Term term_step k

-- neither a connective, a quantifier nor a comparison: one node
pub node_load : (w : Written) (r : Rate) (s : List VarSort) → ((a : Written) → w ≡ written.Not a → ⊥) → ((n : ℕ) (a : Written) → w ≡ written.Divisible n a → ⊥) → ((a : Written) (b : Written) → w ≡ written.Less a b → ⊥) → ((a : Written) (b : Written) → w ≡ written.AtMost a b → ⊥) → ((a : Written) (b : Written) → w ≡ written.Greater a b → ⊥) → ((a : Written) (b : Written) → w ≡ written.AtLeast a b → ⊥) → ((a : Written) (b : Written) → w ≡ written.Equal a b → ⊥) → ((a : Written) (b : Written) → w ≡ written.Xor a b → ⊥) → ((a : Written) (b : Written) → w ≡ written.Implies a b → ⊥) → ((c : Written) (a : Written) (b : Written) → w ≡ written.Ite c a b → ⊥) → ((ts : List Written) → w ≡ written.And ts → ⊥) → ((ts : List Written) → w ≡ written.Or ts → ⊥) → ((vs : List VarSort) (a : Written) → w ≡ written.Forall vs a → ⊥) → ((vs : List VarSort) (a : Written) → w ≡ written.Exists vs a → ⊥) → load (tree_of w) r s ≡ r.node
node_load w r s no_Not no_Divisible no_Less no_AtMost no_Greater no_AtLeast no_Equal no_Xor no_Implies no_Ite no_And no_Or no_Forall no_Exists = by (out-Term w) (sym (roll-out-Term w))
  where
    by : (k : Term-F Written) → w ≡ roll-Term k → load (tree_of w) r s ≡ r.node
    by open_term.True e = ap (λ (t : Term). load t r s) (seen w open_term.True e)
    by open_term.False e = ap (λ (t : Term). load t r s) (seen w open_term.False e)
    by (open_term.Number n d) e = ap (λ (t : Term). load t r s) (seen w (open_term.Number n d) e)
    by (open_term.Var i) e = ap (λ (t : Term). load t r s) (seen w (open_term.Var i) e)
    by (open_term.Negative a) e = ap (λ (t : Term). load t r s) (seen w (open_term.Negative a) e)
    by (open_term.Abs a) e = ap (λ (t : Term). load t r s) (seen w (open_term.Abs a) e)
    by (open_term.Not a) e = absurd (no_Not a (e ∙ written.rolls-Not a))
    by (open_term.Divisible n a) e = absurd (no_Divisible n a (e ∙ written.rolls-Divisible n a))
    by (open_term.Minus a b) e = ap (λ (t : Term). load t r s) (seen w (open_term.Minus a b) e)
    by (open_term.Quotient a b) e = ap (λ (t : Term). load t r s) (seen w (open_term.Quotient a b) e)
    by (open_term.Div a b) e = ap (λ (t : Term). load t r s) (seen w (open_term.Div a b) e)
    by (open_term.Mod a b) e = ap (λ (t : Term). load t r s) (seen w (open_term.Mod a b) e)
    by (open_term.Less a b) e = absurd (no_Less a b (e ∙ written.rolls-Less a b))
    by (open_term.AtMost a b) e = absurd (no_AtMost a b (e ∙ written.rolls-AtMost a b))
    by (open_term.Greater a b) e = absurd (no_Greater a b (e ∙ written.rolls-Greater a b))
    by (open_term.AtLeast a b) e = absurd (no_AtLeast a b (e ∙ written.rolls-AtLeast a b))
    by (open_term.Equal a b) e = absurd (no_Equal a b (e ∙ written.rolls-Equal a b))
    by (open_term.Xor a b) e = absurd (no_Xor a b (e ∙ written.rolls-Xor a b))
    by (open_term.Implies a b) e = absurd (no_Implies a b (e ∙ written.rolls-Implies a b))
    by (open_term.Ite c a b) e = absurd (no_Ite c a b (e ∙ written.rolls-Ite c a b))
    by (open_term.Plus ts) e = ap (λ (t : Term). load t r s) (seen w (open_term.Plus ts) e)
    by (open_term.Times ts) e = ap (λ (t : Term). load t r s) (seen w (open_term.Times ts) e)
    by (open_term.And ts) e = absurd (no_And ts (e ∙ written.rolls-And ts))
    by (open_term.Or ts) e = absurd (no_Or ts (e ∙ written.rolls-Or ts))
    by (open_term.Forall vs a) e = absurd (no_Forall vs a (e ∙ written.rolls-Forall vs a))
    by (open_term.Exists vs a) e = absurd (no_Exists vs a (e ∙ written.rolls-Exists vs a))

-- no number: no copy of the rest
pub formula_load : (w : Written) (r : Rate) (s : List VarSort) → ((i : ℕ) → w ≡ written.Var i → ⊥) → ((a : Written) → w ≡ written.Negative a → ⊥) → ((a : Written) → w ≡ written.Abs a → ⊥) → ((a : Written) (b : Written) → w ≡ written.Minus a b → ⊥) → ((a : Written) (b : Written) → w ≡ written.Quotient a b → ⊥) → ((a : Written) (b : Written) → w ≡ written.Div a b → ⊥) → ((a : Written) (b : Written) → w ≡ written.Mod a b → ⊥) → ((c : Written) (a : Written) (b : Written) → w ≡ written.Ite c a b → ⊥) → ((ts : List Written) → w ≡ written.Plus ts → ⊥) → ((ts : List Written) → w ≡ written.Times ts → ⊥) → is_constant (tree_of w) ≡ false → number_load (tree_of w) r s ≡ no_number r
formula_load w r s no_Var no_Negative no_Abs no_Minus no_Quotient no_Div no_Mod no_Ite no_Plus no_Times h = by (out-Term w) (sym (roll-out-Term w))
  where
    by : (k : Term-F Written) → w ≡ roll-Term k → number_load (tree_of w) r s ≡ no_number r
    by open_term.True e = ap (λ (t : Term). number_load t r s) (seen w open_term.True e)
    by open_term.False e = ap (λ (t : Term). number_load t r s) (seen w open_term.False e)
    by (open_term.Number n d) e = let g : false ≡ true = sym h ∙ ap is_constant (seen w (open_term.Number n d) e) in absurd (cc)
    by (open_term.Var i) e = absurd (no_Var i (e ∙ written.rolls-Var i))
    by (open_term.Negative a) e = absurd (no_Negative a (e ∙ written.rolls-Negative a))
    by (open_term.Abs a) e = absurd (no_Abs a (e ∙ written.rolls-Abs a))
    by (open_term.Not a) e = ap (λ (t : Term). number_load t r s) (seen w (open_term.Not a) e)
    by (open_term.Divisible n a) e = ap (λ (t : Term). number_load t r s) (seen w (open_term.Divisible n a) e)
    by (open_term.Minus a b) e = absurd (no_Minus a b (e ∙ written.rolls-Minus a b))
    by (open_term.Quotient a b) e = absurd (no_Quotient a b (e ∙ written.rolls-Quotient a b))
    by (open_term.Div a b) e = absurd (no_Div a b (e ∙ written.rolls-Div a b))
    by (open_term.Mod a b) e = absurd (no_Mod a b (e ∙ written.rolls-Mod a b))
    by (open_term.Less a b) e = ap (λ (t : Term). number_load t r s) (seen w (open_term.Less a b) e)
    by (open_term.AtMost a b) e = ap (λ (t : Term). number_load t r s) (seen w (open_term.AtMost a b) e)
    by (open_term.Greater a b) e = ap (λ (t : Term). number_load t r s) (seen w (open_term.Greater a b) e)
    by (open_term.AtLeast a b) e = ap (λ (t : Term). number_load t r s) (seen w (open_term.AtLeast a b) e)
    by (open_term.Equal a b) e = ap (λ (t : Term). number_load t r s) (seen w (open_term.Equal a b) e)
    by (open_term.Xor a b) e = ap (λ (t : Term). number_load t r s) (seen w (open_term.Xor a b) e)
    by (open_term.Implies a b) e = ap (λ (t : Term). number_load t r s) (seen w (open_term.Implies a b) e)
    by (open_term.Ite c a b) e = absurd (no_Ite c a b (e ∙ written.rolls-Ite c a b))
    by (open_term.Plus ts) e = absurd (no_Plus ts (e ∙ written.rolls-Plus ts))
    by (open_term.Times ts) e = absurd (no_Times ts (e ∙ written.rolls-Times ts))
    by (open_term.And ts) e = ap (λ (t : Term). number_load t r s) (seen w (open_term.And ts) e)
    by (open_term.Or ts) e = ap (λ (t : Term). number_load t r s) (seen w (open_term.Or ts) e)
    by (open_term.Forall vs a) e = ap (λ (t : Term). number_load t r s) (seen w (open_term.Forall vs a) e)
    by (open_term.Exists vs a) e = ap (λ (t : Term). number_load t r s) (seen w (open_term.Exists vs a) e)
