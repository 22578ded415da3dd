-- Where all numbers of a goal are within the cap, the literals of its normal form are.
use Rattle.std.specs.Prelude.{ℕ, ◌≡◌, ℤ, List, [], ◌∷◌, ◌++◌, Bool, true, false, ◌&&◌, ⊤}
use Rattle.std.proofs.Common.{◌∙◌, sym, refl}
use Rattle.lin_term.specs.declared.Sort.{Sort}
use Rattle.lin_term.specs.declared.Lit.{Lit}
use Rattle.lin_term.specs.declared.Lit.TheVariants.{AtLeast, Above}
use Rattle.lin_term.specs.Literal.{form_of, prim, neg}
use Rattle.norm_form.specs.Normal.{Normal, one_lit, each_of, some_of, for_all, there_is, Normals, no_part, part}
use Rattle.lin_truth.specs.declared.term.VarSort.{VarSort}
use Rattle.lin_truth.specs.Term.{Term, exists_of}
use Rattle.lin_form.specs.Lin.{Lin, lin_neg, lin_minus}
use Rattle.norm_form.specs.Norm.{normal_maker, normal_of, leaf_by, signed, same_number, closed, joined_by, either_by, bind_one, multiple, div_top}
use Rattle.lin_term.specs.Wide.{lit_numbers}
use Rattle.lin_form.specs.Kept.{lins_numbers, within}
use Rattle.norm_form.specs.Cap.{atom_numbers, same_numbers, div_numbers, number_maker, numbers}
use Rattle.norm_form.proofs.Related.{MakerRel, gnorm_rel}
use Rattle.norm_form.proofs.Capped.{within_append, false_is_true}

abbrev mutual
  pub EachWithin : Normal → Type 0
  EachWithin (one_lit l) = within (lit_numbers l) ≡ true
  EachWithin (each_of ns) = AllWithin ns
  EachWithin (some_of ns) = AllWithin ns
  EachWithin (for_all n) = EachWithin n
  EachWithin (there_is n) = EachWithin n

  pub AllWithin : Normals → Type 0
  AllWithin no_part = ⊤
  AllWithin (part n ns) = EachWithin n × AllWithin ns

first_true : (a b : Bool) → a && b ≡ true → a ≡ true
first_true true b h = refl
first_true false b h = absurd (false_is_true h)

next_true : (a b : Bool) → a && b ≡ true → b ≡ true
next_true true b h = h
next_true false b h = absurd (false_is_true h)

front : (xs ys : List ℤ) → within (xs ++ ys) ≡ true → within xs ≡ true
front xs ys h = first_true (within xs) (within ys) (sym (within_append xs ys) ∙ h)

rest : (xs ys : List ℤ) → within (xs ++ ys) ≡ true → within ys ≡ true
rest xs ys h = next_true (within xs) (within ys) (sym (within_append xs ys) ∙ h)

closed_in : (b : Bool) → EachWithin (closed b)
closed_in true = tt
closed_in false = tt

leaf_in : (us : List (ℕ × ℤ)) (l : Lit) → within (lit_numbers l) ≡ true → EachWithin (leaf_by us l)
leaf_in [] l h = closed_in _
leaf_in (u ∷ us) l h = h

signed_in : (q : Bool) (s : Sort) (l : Lit) → within (atom_numbers s l) ≡ true → EachWithin (signed q s l)
signed_in true s l h = leaf_in (form_of (prim s l)).terms (prim s l) (front (lit_numbers (prim s l)) (lit_numbers (neg s (prim s l))) h)
signed_in false s l h = leaf_in (form_of (neg s (prim s l))).terms (neg s (prim s l)) (rest (lit_numbers (prim s l)) (lit_numbers (neg s (prim s l))) h)

same_in : (q : Bool) (s : Sort) (z : Lin) → within (same_numbers q s z) ≡ true → EachWithin (same_number q s z)
same_in true s z h = (
  signed_in true s (AtLeast z.form) (front (atom_numbers s (AtLeast z.form)) (atom_numbers s (AtLeast (lin_neg z).form)) h),
  (signed_in true s (AtLeast (lin_neg z).form) (rest (atom_numbers s (AtLeast z.form)) (atom_numbers s (AtLeast (lin_neg z).form)) h), tt),
)
same_in false s z h = (
  signed_in true s (Above z.form) (front (atom_numbers s (Above z.form)) (atom_numbers s (Above (lin_neg z).form)) h),
  (signed_in true s (Above (lin_neg z).form) (rest (atom_numbers s (Above z.form)) (atom_numbers s (Above (lin_neg z).form)) h), tt),
)

joined_in : (q : Bool) (ns : Normals) → AllWithin ns → EachWithin (joined_by q ns)
joined_in true no_part h = tt
joined_in true (part n no_part) h = h.0
joined_in true (part n (part m ms)) h = h
joined_in false no_part h = tt
joined_in false (part n no_part) h = h.0
joined_in false (part n (part m ms)) h = h

either_in : (q : Bool) (a b : Normal) → EachWithin a → EachWithin b → EachWithin (either_by q a b)
either_in true a b h k = (h, (k, tt))
either_in false a b h k = (h, (k, tt))

bind_in : (q : Bool) (n : Normal) → EachWithin n → EachWithin (bind_one q n)
bind_in true n h = h
bind_in false n h = h

same_form_in : (q : Bool) (x y z w : Normal) → EachWithin x → EachWithin y → EachWithin z → EachWithin w → EachWithin (normal_maker.same_form q x y z w)
same_form_in true x y z w a b c d = ((b, (c, tt)), ((a, (d, tt)), tt))
same_form_in false x y z w a b c d = ((a, (d, tt)), ((b, (c, tt)), tt))

abbrev WhereIn : Normal → List ℤ → Type 0
WhereIn n ns = within ns ≡ true → EachWithin n

abbrev AllWhereIn : Normals → List ℤ → Type 0
AllWhereIn n ns = within ns ≡ true → AllWithin n

four_in : (x y z w : Normal) (xs ys zs ws : List ℤ) (F : Type 0) → WhereIn x xs → WhereIn y ys → WhereIn z zs → WhereIn w ws → (EachWithin x → EachWithin y → EachWithin z → EachWithin w → F) → within (xs ++ (ys ++ (zs ++ ws))) ≡ true → F
four_in x y z w xs ys zs ws F a b c d f h =
    let h1 = rest xs (ys ++ (zs ++ ws)) h in
    let h2 = rest ys (zs ++ ws) h1 in
    f (a (front xs (ys ++ (zs ++ ws)) h)) (b (front ys (zs ++ ws) h1)) (c (front zs ws h2)) (d (rest zs ws h2))

within_rel : (s : Sort) → MakerRel s normal_maker number_maker (λ x y. WhereIn x y) (λ x y. AllWhereIn x y)
within_rel s = record {
  formed = λ xs x x' h k. h (rest (lins_numbers xs) x' k);
  closed = λ b h. closed_in b;
  signed = λ q l h. signed_in q s l h;
  same_number = λ q z h. same_in q s z h;
  no_part = λ h. tt;
  part = λ x x' xs xs' h k i. (h (front x' xs' i), k (rest x' xs' i));
  joined_by = λ q xs xs' h i. joined_in q xs (h i);
  either_by = λ q x x' y y' h k i. either_in q x y (h (front x' y' i)) (k (rest x' y' i));
  bind_one = λ q x x' h i. bind_in q x (h i);
  same_form = λ q x x' y y' z z' w w' a b c d i. four_in x y z w x' y' z' w' (EachWithin (normal_maker.same_form q x y z w)) a b c d (λ e f g j. same_form_in q x y z w e f g j) i;
  ite_form = λ x x' y y' z z' w w' a b c d i. four_in x y z w x' y' z' w' (EachWithin (normal_maker.ite_form x y z w)) a b c d (λ e f g j. ((f, (g, tt)), ((e, (j, tt)), tt))) i;
  abs_form = λ f x x' y y' h k i.
      let j = rest (atom_numbers s (AtLeast f.form)) (x' ++ y') i in
      let a = front (atom_numbers s (AtLeast f.form)) (x' ++ y') i in
      ((signed_in false s (AtLeast f.form) a, (h (front x' y' j), tt)), ((signed_in true s (AtLeast f.form) a, (k (rest x' y' j), tt)), tt));
  div_form = λ c f e x x' h i.
      let a = front (div_numbers s c f e) x' i in (
        signed_in true s (AtLeast (lin_minus f (multiple c e)).form) (front (atom_numbers s (AtLeast (lin_minus f (multiple c e)).form)) (atom_numbers s (AtLeast (lin_minus (div_top c e) f).form)) a),
        (signed_in true s (AtLeast (lin_minus (div_top c e) f).form) (rest (atom_numbers s (AtLeast (lin_minus f (multiple c e)).form)) (atom_numbers s (AtLeast (lin_minus (div_top c e) f).form)) a), (h (rest (div_numbers s c f e) x' i), tt)),
      );
}

pub normal_within : (s : Sort) (consts : List VarSort) (body : Term) → within (numbers s consts body) ≡ true → EachWithin (normal_of s consts body)
normal_within s consts body h =
    gnorm_rel normal_maker number_maker (λ x y. WhereIn x y) (λ x y. AllWhereIn x y) s (within_rel s) (exists_of consts body) true [] 0 h
