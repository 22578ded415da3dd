-- The parts of a term that is no choice.
use Rattle.std.specs.Prelude.{◌≡◌}
use Rattle.std.proofs.Common.{ap, ◌∙◌, sym}
use Rattle.lin_truth.specs.Term.{yes, amount}
use Rattle.lin_truth.specs.Value.{zero_value}
use Rattle.lin_truth.specs.View.{tree_of}
use Rattle.lin_truth.specs.declared.Term.{Term as Written, Term-F, out-Term, roll-Term, roll-out-Term}
use Rattle.lin_truth.specs.declared.Term.TheOpen as open_term
use Rattle.lin_truth.specs.declared.Term.TheVariants as written
use Rattle.norm_form.specs.Pairing.{other_part, test_part}
use Rattle.norm_form.proofs.Remaining.{seen}

pub other_else : (w : Written) → ((c : Written) (a : Written) (b : Written) → w ≡ written.Ite c a b → ⊥) → other_part (tree_of w) ≡ amount zero_value
other_else w no_Ite = by (out-Term w) (sym (roll-out-Term w))
  where
    by : (k : Term-F Written) → w ≡ roll-Term k → other_part (tree_of w) ≡ amount zero_value
    by open_term.True e = ap other_part (seen w open_term.True e)
    by open_term.False e = ap other_part (seen w open_term.False e)
    by (open_term.Number n d) e = ap other_part (seen w (open_term.Number n d) e)
    by (open_term.Var i) e = ap other_part (seen w (open_term.Var i) e)
    by (open_term.Negative a) e = ap other_part (seen w (open_term.Negative a) e)
    by (open_term.Abs a) e = ap other_part (seen w (open_term.Abs a) e)
    by (open_term.Not a) e = ap other_part (seen w (open_term.Not a) e)
    by (open_term.Divisible n a) e = ap other_part (seen w (open_term.Divisible n a) e)
    by (open_term.Minus a b) e = ap other_part (seen w (open_term.Minus a b) e)
    by (open_term.Quotient a b) e = ap other_part (seen w (open_term.Quotient a b) e)
    by (open_term.Div a b) e = ap other_part (seen w (open_term.Div a b) e)
    by (open_term.Mod a b) e = ap other_part (seen w (open_term.Mod a b) e)
    by (open_term.Less a b) e = ap other_part (seen w (open_term.Less a b) e)
    by (open_term.AtMost a b) e = ap other_part (seen w (open_term.AtMost a b) e)
    by (open_term.Greater a b) e = ap other_part (seen w (open_term.Greater a b) e)
    by (open_term.AtLeast a b) e = ap other_part (seen w (open_term.AtLeast a b) e)
    by (open_term.Equal a b) e = ap other_part (seen w (open_term.Equal a b) e)
    by (open_term.Xor a b) e = ap other_part (seen w (open_term.Xor a b) e)
    by (open_term.Implies a b) e = ap other_part (seen w (open_term.Implies a b) e)
    by (open_term.Ite c a b) e = absurd (no_Ite c a b (e ∙ written.rolls-Ite c a b))
    by (open_term.Plus ts) e = ap other_part (seen w (open_term.Plus ts) e)
    by (open_term.Times ts) e = ap other_part (seen w (open_term.Times ts) e)
    by (open_term.And ts) e = ap other_part (seen w (open_term.And ts) e)
    by (open_term.Or ts) e = ap other_part (seen w (open_term.Or ts) e)
    by (open_term.Forall vs a) e = ap other_part (seen w (open_term.Forall vs a) e)
    by (open_term.Exists vs a) e = ap other_part (seen w (open_term.Exists vs a) e)

pub test_else : (w : Written) → ((c : Written) (a : Written) (b : Written) → w ≡ written.Ite c a b → ⊥) → test_part (tree_of w) ≡ yes
test_else w no_Ite = by (out-Term w) (sym (roll-out-Term w))
  where
    by : (k : Term-F Written) → w ≡ roll-Term k → test_part (tree_of w) ≡ yes
    by open_term.True e = ap test_part (seen w open_term.True e)
    by open_term.False e = ap test_part (seen w open_term.False e)
    by (open_term.Number n d) e = ap test_part (seen w (open_term.Number n d) e)
    by (open_term.Var i) e = ap test_part (seen w (open_term.Var i) e)
    by (open_term.Negative a) e = ap test_part (seen w (open_term.Negative a) e)
    by (open_term.Abs a) e = ap test_part (seen w (open_term.Abs a) e)
    by (open_term.Not a) e = ap test_part (seen w (open_term.Not a) e)
    by (open_term.Divisible n a) e = ap test_part (seen w (open_term.Divisible n a) e)
    by (open_term.Minus a b) e = ap test_part (seen w (open_term.Minus a b) e)
    by (open_term.Quotient a b) e = ap test_part (seen w (open_term.Quotient a b) e)
    by (open_term.Div a b) e = ap test_part (seen w (open_term.Div a b) e)
    by (open_term.Mod a b) e = ap test_part (seen w (open_term.Mod a b) e)
    by (open_term.Less a b) e = ap test_part (seen w (open_term.Less a b) e)
    by (open_term.AtMost a b) e = ap test_part (seen w (open_term.AtMost a b) e)
    by (open_term.Greater a b) e = ap test_part (seen w (open_term.Greater a b) e)
    by (open_term.AtLeast a b) e = ap test_part (seen w (open_term.AtLeast a b) e)
    by (open_term.Equal a b) e = ap test_part (seen w (open_term.Equal a b) e)
    by (open_term.Xor a b) e = ap test_part (seen w (open_term.Xor a b) e)
    by (open_term.Implies a b) e = ap test_part (seen w (open_term.Implies a b) e)
    by (open_term.Ite c a b) e = absurd (no_Ite c a b (e ∙ written.rolls-Ite c a b))
    by (open_term.Plus ts) e = ap test_part (seen w (open_term.Plus ts) e)
    by (open_term.Times ts) e = ap test_part (seen w (open_term.Times ts) e)
    by (open_term.And ts) e = ap test_part (seen w (open_term.And ts) e)
    by (open_term.Or ts) e = ap test_part (seen w (open_term.Or ts) e)
    by (open_term.Forall vs a) e = ap test_part (seen w (open_term.Forall vs a) e)
    by (open_term.Exists vs a) e = ap test_part (seen w (open_term.Exists vs a) e)
