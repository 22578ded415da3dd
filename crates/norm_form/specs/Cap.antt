-- The normal form, where all its numbers are within the cap.
use Rattle.std.specs.Prelude.{ℕ, ℤ, List, [], ◌++◌, Bool, true, false}
use Rattle.std.specs.Prelude.{Option, None, Some}
use Rattle.lin_term.specs.declared.Sort.{Sort}
use Rattle.lin_term.specs.declared.Lit.{Lit}
use Rattle.lin_term.specs.declared.Lit.TheVariants.{AtLeast, Above}
use Rattle.lin_term.specs.Wide.{lit_numbers}
use Rattle.lin_form.specs.Kept.{within, lins_numbers}
use Rattle.lin_term.specs.Literal.{prim, neg}
use Rattle.norm_form.specs.Normal.{Normal, Normals, no_part, part}
use Rattle.lin_truth.specs.declared.term.VarSort.{VarSort}
use Rattle.lin_truth.specs.Term.{Term, exists_of}
use Rattle.lin_form.specs.Lin.{Lin, lin_neg, lin_minus}
use Rattle.norm_form.specs.Norm.{Maker, gnorm, closed, signed, same_number, joined_by, either_by, bind_one, same_form, ite_form, abs_form, div_form, multiple, div_top}

-- the literal in primitive form, and its negation
abbrev pub atom_numbers : Sort → Lit → List ℤ
atom_numbers s l = lit_numbers (prim s l) ++ lit_numbers (neg s (prim s l))

abbrev pub same_numbers : Bool → Sort → Lin → List ℤ
same_numbers true s z = atom_numbers s (AtLeast z.form) ++ atom_numbers s (AtLeast (lin_neg z).form)
same_numbers false s z = atom_numbers s (Above z.form) ++ atom_numbers s (Above (lin_neg z).form)

abbrev pub div_numbers : Sort → ℤ → Lin → ℕ → List ℤ
div_numbers s n x d =
    atom_numbers s (AtLeast (lin_minus x (multiple n d)).form) ++ atom_numbers s (AtLeast (lin_minus (div_top n d) x).form)

-- ---- all numbers of a goal's linear forms and literals, in the order in which they are formed
abbrev pub number_maker : Maker (List ℤ) (List ℤ)
number_maker = record {
  formed = λ xs r. lins_numbers xs ++ r;
  closed = λ b. [];
  signed = λ q s l. atom_numbers s l;
  same_number = λ q s z. same_numbers q s z;
  no_part = [];
  part = λ x y. x ++ y;
  joined_by = λ q x. x;
  either_by = λ q x y. x ++ y;
  bind_one = λ q x. x;
  same_form = λ q x y z w. x ++ (y ++ (z ++ w));
  ite_form = λ x y z w. x ++ (y ++ (z ++ w));
  abs_form = λ s f x y. atom_numbers s (AtLeast f.form) ++ (x ++ y);
  div_form = λ s c f e x. div_numbers s c f e ++ x;
}

abbrev pub numbers : Sort → List VarSort → Term → List ℤ
numbers s consts body = gnorm number_maker (exists_of consts body) s true [] 0

-- ---- the form, built as long as all numbers are within the cap
abbrev pub keep : {A : Type 0} → Bool → A → Option A
keep {A} true x = Some x
keep {A} false x = None

abbrev pub keep_if : {A : Type 0} → Bool → Option A → Option A
keep_if {A} true x = x
keep_if {A} false x = None

abbrev pub over : {A B : Type 0} → (A → B) → Option A → Option B
over {A} {B} f None = None
over {A} {B} f (Some x) = Some (f x)

abbrev pub over2 : {A B C : Type 0} → (A → B → C) → Option A → Option B → Option C
over2 {A} {B} {C} f None y = None
over2 {A} {B} {C} f (Some x) y = over (f x) y

abbrev pub over4 : {A B : Type 0} → (A → A → A → A → B) → Option A → Option A → Option A → Option A → Option B
over4 {A} {B} f None y z w = None
over4 {A} {B} f (Some x) None z w = None
over4 {A} {B} f (Some x) (Some y) z w = over2 (f x y) z w

abbrev pub capped_maker : Maker (Option Normal) (Option Normals)
capped_maker = record {
  formed = λ xs x. keep_if (within (lins_numbers xs)) x;
  closed = λ b. Some (closed b);
  signed = λ q s l. keep (within (atom_numbers s l)) (signed q s l);
  same_number = λ q s z. keep (within (same_numbers q s z)) (same_number q s z);
  no_part = Some no_part;
  part = λ x y. over2 part x y;
  joined_by = λ q x. over (joined_by q) x;
  either_by = λ q x y. over2 (either_by q) x y;
  bind_one = λ q x. over (bind_one q) x;
  same_form = λ q x y z w. over4 (same_form q) x y z w;
  ite_form = λ x y z w. over4 ite_form x y z w;
  abs_form = λ s f x y. keep_if (within (atom_numbers s (AtLeast f.form))) (over2 (abs_form s f) x y);
  div_form = λ s c f e x. keep_if (within (div_numbers s c f e)) (over (div_form s c f e) x);
}

-- the normal form, or nothing where a number is past the cap
abbrev pub capped : Sort → List VarSort → Term → Option Normal
capped s consts body = gnorm capped_maker (exists_of consts body) s true [] 0
