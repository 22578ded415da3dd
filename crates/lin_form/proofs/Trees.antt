-- The tree of each kind of term.
use Rattle.std.specs.Prelude.{ℕ, ◌+◌, ◌<◌, ◌≤◌, ◌≡◌, ℤ, List, drop, get_or, length}
use Rattle.std.proofs.lemmas.List.{at_drop_more, at_drop_all}
use Rattle.std.proofs.Common.{ap, ap₂, ◌∙◌, sym}
use Rattle.lin_truth.specs.declared.VarSort.{VarSort}
use Rattle.lin_truth.specs.declared.Term.{Term as Written, fold-roll-Term}
use Rattle.lin_truth.specs.declared.Term.TheOpen as open_term
use Rattle.lin_truth.specs.declared.Term.TheVariants as written
use Rattle.lin_truth.specs.Term.{Term, Terms, no_term, term_and, yes, no, amount, variable, negative, absolute, negated, divisible, minus, quotient_of, div_of, mod_of, less, at_most, greater, at_least, equal, xor_of, implies, ite, plus_of, times_of, and_of, or_of, forall_of, exists_of}
use Rattle.lin_truth.specs.View.{den_of, term_step, tree_of, trees_of}

pub tree-True : (t : Written) → t ≡ written.True → tree_of t ≡ yes
tree-True t g = ap tree_of g ∙ ap tree_of (sym written.rolls-True) ∙ fold-roll-Term Term term_step open_term.True

pub tree-False : (t : Written) → t ≡ written.False → tree_of t ≡ no
tree-False t g = ap tree_of g ∙ ap tree_of (sym written.rolls-False) ∙ fold-roll-Term Term term_step open_term.False

pub tree-Number : (n d : ℤ) (t : Written) → t ≡ written.Number n d → tree_of t ≡ amount (record { num = n; den = den_of d })
tree-Number n d t g = ap tree_of g ∙ ap tree_of (sym (written.rolls-Number n d)) ∙ fold-roll-Term Term term_step (open_term.Number n d)

pub tree-Var : (i : ℕ) (t : Written) → t ≡ written.Var i → tree_of t ≡ variable i
tree-Var i t g = ap tree_of g ∙ ap tree_of (sym (written.rolls-Var i)) ∙ fold-roll-Term Term term_step (open_term.Var i)

pub tree-Negative : (A a t : Written) → A ≡ a → t ≡ written.Negative a → tree_of t ≡ negative (tree_of A)
tree-Negative A a t e g = ap tree_of g ∙ ap tree_of (sym (written.rolls-Negative a)) ∙ fold-roll-Term Term term_step (open_term.Negative a) ∙ ap negative (ap tree_of (sym e))

pub tree-Abs : (A a t : Written) → A ≡ a → t ≡ written.Abs a → tree_of t ≡ absolute (tree_of A)
tree-Abs A a t e g = ap tree_of g ∙ ap tree_of (sym (written.rolls-Abs a)) ∙ fold-roll-Term Term term_step (open_term.Abs a) ∙ ap absolute (ap tree_of (sym e))

pub tree-Not : (A a t : Written) → A ≡ a → t ≡ written.Not a → tree_of t ≡ negated (tree_of A)
tree-Not A a t e g = ap tree_of g ∙ ap tree_of (sym (written.rolls-Not a)) ∙ fold-roll-Term Term term_step (open_term.Not a) ∙ ap negated (ap tree_of (sym e))

pub tree-Divisible : (n : ℕ) (A a t : Written) → A ≡ a → t ≡ written.Divisible n a → tree_of t ≡ divisible n (tree_of A)
tree-Divisible n A a t e g = ap tree_of g ∙ ap tree_of (sym (written.rolls-Divisible n a)) ∙ fold-roll-Term Term term_step (open_term.Divisible n a) ∙ ap (divisible n) (ap tree_of (sym e))

pub tree-Minus : (A B a b t : Written) → A ≡ a → B ≡ b → t ≡ written.Minus a b → tree_of t ≡ minus (tree_of A) (tree_of B)
tree-Minus A B a b t e f g = ap tree_of g ∙ ap tree_of (sym (written.rolls-Minus a b)) ∙ fold-roll-Term Term term_step (open_term.Minus a b) ∙ ap₂ minus (ap tree_of (sym e)) (ap tree_of (sym f))

pub tree-Quotient : (A B a b t : Written) → A ≡ a → B ≡ b → t ≡ written.Quotient a b → tree_of t ≡ quotient_of (tree_of A) (tree_of B)
tree-Quotient A B a b t e f g = ap tree_of g ∙ ap tree_of (sym (written.rolls-Quotient a b)) ∙ fold-roll-Term Term term_step (open_term.Quotient a b) ∙ ap₂ quotient_of (ap tree_of (sym e)) (ap tree_of (sym f))

pub tree-Div : (A B a b t : Written) → A ≡ a → B ≡ b → t ≡ written.Div a b → tree_of t ≡ div_of (tree_of A) (tree_of B)
tree-Div A B a b t e f g = ap tree_of g ∙ ap tree_of (sym (written.rolls-Div a b)) ∙ fold-roll-Term Term term_step (open_term.Div a b) ∙ ap₂ div_of (ap tree_of (sym e)) (ap tree_of (sym f))

pub tree-Mod : (A B a b t : Written) → A ≡ a → B ≡ b → t ≡ written.Mod a b → tree_of t ≡ mod_of (tree_of A) (tree_of B)
tree-Mod A B a b t e f g = ap tree_of g ∙ ap tree_of (sym (written.rolls-Mod a b)) ∙ fold-roll-Term Term term_step (open_term.Mod a b) ∙ ap₂ mod_of (ap tree_of (sym e)) (ap tree_of (sym f))

pub tree-Less : (A B a b t : Written) → A ≡ a → B ≡ b → t ≡ written.Less a b → tree_of t ≡ less (tree_of A) (tree_of B)
tree-Less A B a b t e f g = ap tree_of g ∙ ap tree_of (sym (written.rolls-Less a b)) ∙ fold-roll-Term Term term_step (open_term.Less a b) ∙ ap₂ less (ap tree_of (sym e)) (ap tree_of (sym f))

pub tree-AtMost : (A B a b t : Written) → A ≡ a → B ≡ b → t ≡ written.AtMost a b → tree_of t ≡ at_most (tree_of A) (tree_of B)
tree-AtMost A B a b t e f g = ap tree_of g ∙ ap tree_of (sym (written.rolls-AtMost a b)) ∙ fold-roll-Term Term term_step (open_term.AtMost a b) ∙ ap₂ at_most (ap tree_of (sym e)) (ap tree_of (sym f))

pub tree-Greater : (A B a b t : Written) → A ≡ a → B ≡ b → t ≡ written.Greater a b → tree_of t ≡ greater (tree_of A) (tree_of B)
tree-Greater A B a b t e f g = ap tree_of g ∙ ap tree_of (sym (written.rolls-Greater a b)) ∙ fold-roll-Term Term term_step (open_term.Greater a b) ∙ ap₂ greater (ap tree_of (sym e)) (ap tree_of (sym f))

pub tree-AtLeast : (A B a b t : Written) → A ≡ a → B ≡ b → t ≡ written.AtLeast a b → tree_of t ≡ at_least (tree_of A) (tree_of B)
tree-AtLeast A B a b t e f g = ap tree_of g ∙ ap tree_of (sym (written.rolls-AtLeast a b)) ∙ fold-roll-Term Term term_step (open_term.AtLeast a b) ∙ ap₂ at_least (ap tree_of (sym e)) (ap tree_of (sym f))

pub tree-Equal : (A B a b t : Written) → A ≡ a → B ≡ b → t ≡ written.Equal a b → tree_of t ≡ equal (tree_of A) (tree_of B)
tree-Equal A B a b t e f g = ap tree_of g ∙ ap tree_of (sym (written.rolls-Equal a b)) ∙ fold-roll-Term Term term_step (open_term.Equal a b) ∙ ap₂ equal (ap tree_of (sym e)) (ap tree_of (sym f))

pub tree-Xor : (A B a b t : Written) → A ≡ a → B ≡ b → t ≡ written.Xor a b → tree_of t ≡ xor_of (tree_of A) (tree_of B)
tree-Xor A B a b t e f g = ap tree_of g ∙ ap tree_of (sym (written.rolls-Xor a b)) ∙ fold-roll-Term Term term_step (open_term.Xor a b) ∙ ap₂ xor_of (ap tree_of (sym e)) (ap tree_of (sym f))

pub tree-Implies : (A B a b t : Written) → A ≡ a → B ≡ b → t ≡ written.Implies a b → tree_of t ≡ implies (tree_of A) (tree_of B)
tree-Implies A B a b t e f g = ap tree_of g ∙ ap tree_of (sym (written.rolls-Implies a b)) ∙ fold-roll-Term Term term_step (open_term.Implies a b) ∙ ap₂ implies (ap tree_of (sym e)) (ap tree_of (sym f))

pub tree-Ite : (C A B c a b t : Written) → C ≡ c → A ≡ a → B ≡ b → t ≡ written.Ite c a b → tree_of t ≡ ite (tree_of C) (tree_of A) (tree_of B)
tree-Ite C A B c a b t d e f g = ap tree_of g ∙ ap tree_of (sym (written.rolls-Ite c a b)) ∙ fold-roll-Term Term term_step (open_term.Ite c a b) ∙ ap₂ (λ (x y : Term). ite (tree_of c) x y) (ap tree_of (sym e)) (ap tree_of (sym f)) ∙ ap (λ (x : Term). ite x (tree_of A) (tree_of B)) (ap tree_of (sym d))

pub tree-Plus : (us ts : List Written) (t : Written) → us ≡ ts → t ≡ written.Plus ts → tree_of t ≡ plus_of (trees_of us)
tree-Plus us ts t e g = ap tree_of g ∙ ap tree_of (sym (written.rolls-Plus ts)) ∙ fold-roll-Term Term term_step (open_term.Plus ts) ∙ ap plus_of (ap trees_of (sym e))

pub tree-Times : (us ts : List Written) (t : Written) → us ≡ ts → t ≡ written.Times ts → tree_of t ≡ times_of (trees_of us)
tree-Times us ts t e g = ap tree_of g ∙ ap tree_of (sym (written.rolls-Times ts)) ∙ fold-roll-Term Term term_step (open_term.Times ts) ∙ ap times_of (ap trees_of (sym e))

pub tree-And : (us ts : List Written) (t : Written) → us ≡ ts → t ≡ written.And ts → tree_of t ≡ and_of (trees_of us)
tree-And us ts t e g = ap tree_of g ∙ ap tree_of (sym (written.rolls-And ts)) ∙ fold-roll-Term Term term_step (open_term.And ts) ∙ ap and_of (ap trees_of (sym e))

pub tree-Or : (us ts : List Written) (t : Written) → us ≡ ts → t ≡ written.Or ts → tree_of t ≡ or_of (trees_of us)
tree-Or us ts t e g = ap tree_of g ∙ ap tree_of (sym (written.rolls-Or ts)) ∙ fold-roll-Term Term term_step (open_term.Or ts) ∙ ap or_of (ap trees_of (sym e))

pub tree-Forall : (ws vs : List VarSort) (A a t : Written) → ws ≡ vs → A ≡ a → t ≡ written.Forall vs a → tree_of t ≡ forall_of ws (tree_of A)
tree-Forall ws vs A a t d e g = ap tree_of g ∙ ap tree_of (sym (written.rolls-Forall vs a)) ∙ fold-roll-Term Term term_step (open_term.Forall vs a) ∙ ap₂ forall_of (sym d) (ap tree_of (sym e))

pub tree-Exists : (ws vs : List VarSort) (A a t : Written) → ws ≡ vs → A ≡ a → t ≡ written.Exists vs a → tree_of t ≡ exists_of ws (tree_of A)
tree-Exists ws vs A a t d e g = ap tree_of g ∙ ap tree_of (sym (written.rolls-Exists vs a)) ∙ fold-roll-Term Term term_step (open_term.Exists vs a) ∙ ap₂ exists_of (sym d) (ap tree_of (sym e))

-- ---- lists of terms, from the front

pub trees_more : {A : Type 0} (f : Terms → A) (ts : List Written) (i : ℕ) (d : Written) → i < length ts → f (trees_of (drop i ts)) ≡ f (term_and (tree_of (get_or ts i d)) (trees_of (drop (i + 1) ts)))
trees_more {A} f ts i d h = at_drop_more (λ (us : List Written). f (trees_of us)) ts i d h

pub trees_all : {A : Type 0} (f : Terms → A) (ts : List Written) (i : ℕ) → length ts ≤ i → f (trees_of (drop i ts)) ≡ f no_term
trees_all {A} f ts i h = at_drop_all (λ (us : List Written). f (trees_of us)) ts i h
