-- Each literal of a normal form, and of its matrix, is in primitive form.
use Rattle.std.specs.Prelude.{ℕ, ◌≡◌, ℤ, List, [], ◌∷◌, Bool, true, false, ⊤}
use Rattle.lin_term.specs.declared.Sort.{Sort}
use Rattle.lin_term.specs.declared.Lit.{Lit}
use Rattle.lin_term.specs.declared.Lit.TheVariants.{AtLeast, Above}
use Rattle.lin_term.specs.Literal.{form_of, prim, neg, opposite}
use Rattle.lin_term.proofs.Lowest.{prim_again}
use Rattle.norm_form.specs.Normal.{Normal, one_lit, each_of, some_of, for_all, there_is, Normals, no_part, part}
use Rattle.lin_truth.specs.declared.term.VarSort.{VarSort}
use Rattle.lin_truth.specs.Term.{Term, exists_of}
use Rattle.lin_form.specs.Lin.{Lin, lin_neg, lin_minus}
use Rattle.norm_form.specs.Norm.{normal_maker, normal_of, leaf_by, signed, same_number, closed, joined_by, either_by, bind_one, multiple, div_top}
use Rattle.norm_form.proofs.Related.{MakerRel, gnorm_rel}

abbrev mutual
  pub EachOwn : Normal → Sort → Type 0
  EachOwn (one_lit l) s = prim s l ≡ l
  EachOwn (each_of ns) s = AllOwn ns s
  EachOwn (some_of ns) s = AllOwn ns s
  EachOwn (for_all n) s = EachOwn n s
  EachOwn (there_is n) s = EachOwn n s

  pub AllOwn : Normals → Sort → Type 0
  AllOwn no_part s = ⊤
  AllOwn (part n ns) s = EachOwn n s × AllOwn ns s

closed_own : (b : Bool) (s : Sort) → EachOwn (closed b) s
closed_own true s = tt
closed_own false s = tt

leaf_own : (us : List (ℕ × ℤ)) (l : Lit) (s : Sort) → prim s l ≡ l → EachOwn (leaf_by us l) s
leaf_own [] l s h = closed_own _ s
leaf_own (u ∷ us) l s h = h

signed_own : (q : Bool) (s : Sort) (l : Lit) → EachOwn (signed q s l) s
signed_own true s l = leaf_own (form_of (prim s l)).terms (prim s l) s (prim_again s l)
signed_own false s l = leaf_own (form_of (neg s (prim s l))).terms (neg s (prim s l)) s (prim_again s (opposite s (prim s l)))

same_own : (q : Bool) (s : Sort) (z : Lin) → EachOwn (same_number q s z) s
same_own true s z = (signed_own true s (AtLeast z.form), (signed_own true s (AtLeast (lin_neg z).form), tt))
same_own false s z = (signed_own true s (Above z.form), (signed_own true s (Above (lin_neg z).form), tt))

joined_own : (q : Bool) (ns : Normals) (s : Sort) → AllOwn ns s → EachOwn (joined_by q ns) s
joined_own true no_part s h = tt
joined_own true (part n no_part) s h = h.0
joined_own true (part n (part m ms)) s h = h
joined_own false no_part s h = tt
joined_own false (part n no_part) s h = h.0
joined_own false (part n (part m ms)) s h = h

either_own : (q : Bool) (a b : Normal) (s : Sort) → EachOwn a s → EachOwn b s → EachOwn (either_by q a b) s
either_own true a b s h k = (h, (k, tt))
either_own false a b s h k = (h, (k, tt))

bind_own : (q : Bool) (n : Normal) (s : Sort) → EachOwn n s → EachOwn (bind_one q n) s
bind_own true n s h = h
bind_own false n s h = h

same_form_own : (q : Bool) (x y z w : Normal) (s : Sort) → EachOwn x s → EachOwn y s → EachOwn z s → EachOwn w s → EachOwn (normal_maker.same_form q x y z w) s
same_form_own true x y z w s a b c d = ((b, (c, tt)), ((a, (d, tt)), tt))
same_form_own false x y z w s a b c d = ((a, (d, tt)), ((b, (c, tt)), tt))

own_rel : (s : Sort) → MakerRel s normal_maker normal_maker (λ x y. EachOwn x s) (λ x y. AllOwn x s)
own_rel s = record {
  formed = λ xs x x' h. h;
  closed = λ b. closed_own b s;
  signed = λ q l. signed_own q s l;
  same_number = λ q z. same_own q s z;
  no_part = tt;
  part = λ x x' xs xs' h k. (h, k);
  joined_by = λ q xs xs' h. joined_own q xs s h;
  either_by = λ q x x' y y' h k. either_own q x y s h k;
  bind_one = λ q x x' h. bind_own q x s h;
  same_form = λ q x x' y y' z z' w w' a b c d. same_form_own q x y z w s a b c d;
  ite_form = λ x x' y y' z z' w w' a b c d. ((b, (c, tt)), ((a, (d, tt)), tt));
  abs_form = λ f x x' y y' h k. ((signed_own false s (AtLeast f.form), (h, tt)), ((signed_own true s (AtLeast f.form), (k, tt)), tt));
  div_form = λ c f e x x' h. (signed_own true s (AtLeast (lin_minus f (multiple c e)).form), (signed_own true s (AtLeast (lin_minus (div_top c e) f).form), (h, tt)));
}

pub normal_own : (s : Sort) (consts : List VarSort) (body : Term) → EachOwn (normal_of s consts body) s
normal_own s consts body =
    gnorm_rel normal_maker normal_maker (λ x y. EachOwn x s) (λ x y. AllOwn x s) s (own_rel s) (exists_of consts body) true [] 0
