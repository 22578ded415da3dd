-- Where all numbers of a goal are within the cap, so are the negations of the literals of its problem.
use Rattle.std.specs.Prelude.{ℕ, suc, ◌≡◌, ℤ, List, [], ◌∷◌, ◌++◌, Bool, true, false, ◌&&◌, None, ⊤}
use Rattle.std.proofs.Common.{◌∙◌, sym, refl, inl, inr}
use Rattle.lin_term.specs.declared.Sort.{Sort}
use Rattle.lin_term.specs.declared.Lit.{Lit}
use Rattle.lin_term.specs.declared.Lit.TheVariants.{AtLeast, Above}
use Rattle.lin_term.specs.Literal.{form_of, prim, neg}
use Rattle.lin_term.specs.Wide.{first_past, lit_numbers}
use Rattle.norm_form.specs.Normal.{Normal, one_lit, each_of, some_of, for_all, there_is, Normals, no_part, part, IsNormal, AreNormal}
use Rattle.lin_truth.specs.declared.term.VarSort.{VarSort}
use Rattle.lin_truth.specs.Term.{Term, exists_of}
use Rattle.lin_form.specs.Lin.{Lin, lin_neg, lin_minus}
use Rattle.lin_form.specs.Kept.{lins_numbers, within}
use Rattle.norm_form.specs.Norm.{normal_maker, normal_of, leaf_by, signed, same_number, closed, joined_by, either_by, bind_one, multiple, div_top}
use Rattle.norm_form.specs.Cap.{atom_numbers, same_numbers, div_numbers, number_maker, numbers}
use Rattle.norm_form.proofs.Related.{MakerRel, gnorm_rel}
use Rattle.norm_form.proofs.Capped.{within_append, false_is_true}
use Rattle.norm_form.proofs.Own.{EachOwn, AllOwn}
use Rattle.norm_form.proofs.Within.{EachWithin, AllWithin}
use Rattle.prenex_form.specs.Pass.{EachTidy, AllTidy}
use Rattle.prenex_form.proofs.Bounding.{IsFair, none_past, neg_low, fair_kept}

abbrev mutual
  pub EachFair : Normal → Sort → Type 0
  EachFair (one_lit l) s = IsFair s l
  EachFair (each_of ns) s = AllFair ns s
  EachFair (some_of ns) s = AllFair ns s
  EachFair (for_all n) s = EachFair n s
  EachFair (there_is n) s = EachFair n s

  pub AllFair : Normals → Sort → Type 0
  AllFair no_part s = ⊤
  AllFair (part n ns) s = EachFair n s × AllFair ns s

first_true : (a b : Bool) → a && b ≡ true → a ≡ true
first_true true b h = refl
first_true false b h = absurd (false_is_true h)

next_true : (a b : Bool) → a && b ≡ true → b ≡ true
next_true true b h = h
next_true false b h = absurd (false_is_true h)

front : (xs ys : List ℤ) → within (xs ++ ys) ≡ true → within xs ≡ true
front xs ys h = first_true (within xs) (within ys) (sym (within_append xs ys) ∙ h)

rest : (xs ys : List ℤ) → within (xs ++ ys) ≡ true → within ys ≡ true
rest xs ys h = next_true (within xs) (within ys) (sym (within_append xs ys) ∙ h)

closed_in : (b : Bool) (s : Sort) → EachFair (closed b) s
closed_in true s = tt
closed_in false s = tt

leaf_in : (us : List (ℕ × ℤ)) (l : Lit) (s : Sort) → IsFair s l → EachFair (leaf_by us l) s
leaf_in [] l s h = closed_in _ s
leaf_in (u ∷ us) l s h = h

signed_in : (q : Bool) (s : Sort) (l : Lit) → within (atom_numbers s l) ≡ true → EachFair (signed q s l) s
signed_in true s l h =
    leaf_in (form_of (prim s l)).terms (prim s l) s (inl (none_past (lit_numbers (neg s (prim s l))) (rest (lit_numbers (prim s l)) (lit_numbers (neg s (prim s l))) h)))
signed_in false s l h =
    leaf_in (form_of (neg s (prim s l))).terms (neg s (prim s l)) s (inr (neg_low s l (front (lit_numbers (prim s l)) (lit_numbers (neg s (prim s l))) h)))

same_in : (q : Bool) (s : Sort) (z : Lin) → within (same_numbers q s z) ≡ true → EachFair (same_number q s z) s
same_in true s z h = (
  signed_in true s (AtLeast z.form) (front (atom_numbers s (AtLeast z.form)) (atom_numbers s (AtLeast (lin_neg z).form)) h),
  (signed_in true s (AtLeast (lin_neg z).form) (rest (atom_numbers s (AtLeast z.form)) (atom_numbers s (AtLeast (lin_neg z).form)) h), tt),
)
same_in false s z h = (
  signed_in true s (Above z.form) (front (atom_numbers s (Above z.form)) (atom_numbers s (Above (lin_neg z).form)) h),
  (signed_in true s (Above (lin_neg z).form) (rest (atom_numbers s (Above z.form)) (atom_numbers s (Above (lin_neg z).form)) h), tt),
)

joined_in : (q : Bool) (ns : Normals) (s : Sort) → AllFair ns s → EachFair (joined_by q ns) s
joined_in true no_part s h = tt
joined_in true (part n no_part) s h = h.0
joined_in true (part n (part m ms)) s h = h
joined_in false no_part s h = tt
joined_in false (part n no_part) s h = h.0
joined_in false (part n (part m ms)) s h = h

either_in : (q : Bool) (a b : Normal) (s : Sort) → EachFair a s → EachFair b s → EachFair (either_by q a b) s
either_in true a b s h k = (h, (k, tt))
either_in false a b s h k = (h, (k, tt))

bind_in : (q : Bool) (n : Normal) (s : Sort) → EachFair n s → EachFair (bind_one q n) s
bind_in true n s h = h
bind_in false n s h = h

same_form_in : (q : Bool) (x y z w : Normal) (s : Sort) → EachFair x s → EachFair y s → EachFair z s → EachFair w s → EachFair (normal_maker.same_form q x y z w) s
same_form_in true x y z w s a b c d = ((b, (c, tt)), ((a, (d, tt)), tt))
same_form_in false x y z w s a b c d = ((a, (d, tt)), ((b, (c, tt)), tt))

abbrev WhereIn : Sort → Normal → List ℤ → Type 0
WhereIn s n ns = within ns ≡ true → EachFair n s

abbrev AllWhereIn : Sort → Normals → List ℤ → Type 0
AllWhereIn s n ns = within ns ≡ true → AllFair n s

four_in : (s : Sort) (x y z w : Normal) (xs ys zs ws : List ℤ) (F : Type 0) → WhereIn s x xs → WhereIn s y ys → WhereIn s z zs → WhereIn s w ws → (EachFair x s → EachFair y s → EachFair z s → EachFair w s → F) → within (xs ++ (ys ++ (zs ++ ws))) ≡ true → F
four_in s x y z w xs ys zs ws F a b c d f h =
    let h1 = rest xs (ys ++ (zs ++ ws)) h in
    let h2 = rest ys (zs ++ ws) h1 in
    f (a (front xs (ys ++ (zs ++ ws)) h)) (b (front ys (zs ++ ws) h1)) (c (front zs ws h2)) (d (rest zs ws h2))

fair_rel : (s : Sort) → MakerRel s normal_maker number_maker (λ x y. WhereIn s x y) (λ x y. AllWhereIn s x y)
fair_rel s = record {
  formed = λ xs x x' h k. h (rest (lins_numbers xs) x' k);
  closed = λ b h. closed_in b s;
  signed = λ q l h. signed_in q s l h;
  same_number = λ q z h. same_in q s z h;
  no_part = λ h. tt;
  part = λ x x' xs xs' h k i. (h (front x' xs' i), k (rest x' xs' i));
  joined_by = λ q xs xs' h i. joined_in q xs s (h i);
  either_by = λ q x x' y y' h k i. either_in q x y s (h (front x' y' i)) (k (rest x' y' i));
  bind_one = λ q x x' h i. bind_in q x s (h i);
  same_form = λ q x x' y y' z z' w w' a b c d i. four_in s x y z w x' y' z' w' (EachFair (normal_maker.same_form q x y z w) s) a b c d (λ e f g j. same_form_in q x y z w s e f g j) i;
  ite_form = λ x x' y y' z z' w w' a b c d i. four_in s x y z w x' y' z' w' (EachFair (normal_maker.ite_form x y z w) s) a b c d (λ e f g j. ((f, (g, tt)), ((e, (j, tt)), tt))) i;
  abs_form = λ f x x' y y' h k i.
      let j = rest (atom_numbers s (AtLeast f.form)) (x' ++ y') i in
      let a = front (atom_numbers s (AtLeast f.form)) (x' ++ y') i in
      ((signed_in false s (AtLeast f.form) a, (h (front x' y' j), tt)), ((signed_in true s (AtLeast f.form) a, (k (rest x' y' j), tt)), tt));
  div_form = λ c f e x x' h i.
      let a = front (div_numbers s c f e) x' i in (
        signed_in true s (AtLeast (lin_minus f (multiple c e)).form) (front (atom_numbers s (AtLeast (lin_minus f (multiple c e)).form)) (atom_numbers s (AtLeast (lin_minus (div_top c e) f).form)) a),
        (signed_in true s (AtLeast (lin_minus (div_top c e) f).form) (rest (atom_numbers s (AtLeast (lin_minus f (multiple c e)).form)) (atom_numbers s (AtLeast (lin_minus (div_top c e) f).form)) a), (h (rest (div_numbers s c f e) x' i), tt)),
      );
}

pub normal_fair : (s : Sort) (consts : List VarSort) (body : Term) → within (numbers s consts body) ≡ true → EachFair (normal_of s consts body) s
normal_fair s consts body h =
    gnorm_rel normal_maker number_maker (λ x y. WhereIn s x y) (λ x y. AllWhereIn s x y) s (fair_rel s) (exists_of consts body) true [] 0 h

-- the negation of each literal is within the cap
abbrev mutual
  pub EachNegated : Normal → Sort → Type 0
  EachNegated (one_lit l) s = first_past (lit_numbers (neg s l)) ≡ None
  EachNegated (each_of ns) s = AllNegated ns s
  EachNegated (some_of ns) s = AllNegated ns s
  EachNegated (for_all n) s = EachNegated n s
  EachNegated (there_is n) s = EachNegated n s

  pub AllNegated : Normals → Sort → Type 0
  AllNegated no_part s = ⊤
  AllNegated (part n ns) s = EachNegated n s × AllNegated ns s

mutual
  pub negated_within : (n : Normal) (s : Sort) (k : ℕ) → IsNormal n s k → EachOwn n s → EachTidy n → EachWithin n → EachFair n s → EachNegated n s
  negated_within (one_lit l) s k o e a w f = fair_kept s l o.0 e a w f
  negated_within (each_of ns) s k o e a w f = negated_all ns s k o e a w f
  negated_within (some_of ns) s k o e a w f = negated_all ns s k o e a w f
  negated_within (for_all n) s k o e a w f = negated_within n s (suc k) o e a w f
  negated_within (there_is n) s k o e a w f = negated_within n s (suc k) o e a w f

  pub negated_all : (ns : Normals) (s : Sort) (k : ℕ) → AreNormal ns s k → AllOwn ns s → AllTidy ns → AllWithin ns → AllFair ns s → AllNegated ns s
  negated_all no_part s k o e a w f = tt
  negated_all (part n ns) s k o e a w f =
      (negated_within n s k o.0 e.0 a.0 w.0 f.0, negated_all ns s k o.1 e.1 a.1 w.1 f.1)
