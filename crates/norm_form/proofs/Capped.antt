-- Where all numbers are within the cap, it is the normal form.
use Rattle.std.specs.Prelude.{◌≡◌, ℤ, nat_abs, nat_le, List, [], ◌∷◌, ◌++◌, Bool, true, false, ⊤, ◌&&◌}
use Rattle.std.specs.Prelude.{Option, None, Some}
use Rattle.std.proofs.Common.{ap, ap₂, ◌∙◌, sym, subst, refl}
use Rattle.lin_term.specs.Form.{cap}
use Rattle.lin_term.specs.declared.Sort.{Sort}
use Rattle.lin_term.specs.declared.Lit.TheVariants.{AtLeast}
use Rattle.norm_form.specs.Normal.{Normal, part}
use Rattle.lin_truth.specs.declared.term.VarSort.{VarSort}
use Rattle.lin_truth.specs.Term.{Term, exists_of}
use Rattle.norm_form.specs.Norm.{normal_maker, norm, signed, same_number, joined_by, either_by, bind_one, same_form, ite_form, abs_form, div_form}
use Rattle.lin_form.specs.Kept.{within, lins_numbers}
use Rattle.norm_form.specs.Cap.{keep, keep_if, over, over2, over4, capped_maker, capped, atom_numbers, same_numbers, div_numbers, number_maker, numbers}
use Rattle.norm_form.proofs.Related.{MakerRel, gnorm_rel}

abbrev pub Yes' : Bool → Type 0
Yes' true = ⊤
Yes' false = ⊥

pub false_is_true : false ≡ true → ⊥
false_is_true e = subst (λ (b : Bool). Yes' b) (sym e) tt

-- what is there is that
abbrev Is : {A : Type 0} → Option A → A → Type 0
Is {A} None y = ⊤
Is {A} (Some x) y = x ≡ y

keep_is : {A : Type 0} (b : Bool) (x : A) → Is (keep b x) x
keep_is {A} true x = refl
keep_is {A} false x = tt

keep_if_is : {A : Type 0} (b : Bool) (x : Option A) (y : A) → Is x y → Is (keep_if b x) y
keep_if_is {A} true x y h = h
keep_if_is {A} false x y h = tt

over_is : {A B : Type 0} (f : A → B) (x : Option A) (y : A) → Is x y → Is (over f x) (f y)
over_is {A} {B} f None y h = tt
over_is {A} {B} f (Some x) y h = ap f h

over2_is : {A B C : Type 0} (f : A → B → C) (x : Option A) (x' : A) (y : Option B) (y' : B) → Is x x' → Is y y' → Is (over2 f x y) (f x' y')
over2_is {A} {B} {C} f None x' y y' h k = tt
over2_is {A} {B} {C} f (Some x) x' None y' h k = tt
over2_is {A} {B} {C} f (Some x) x' (Some y) y' h k = ap₂ f h k

over4_is : {A B : Type 0} (f : A → A → A → A → B) (x : Option A) (x' : A) (y : Option A) (y' : A) (z : Option A) (z' : A) (w : Option A) (w' : A) → Is x x' → Is y y' → Is z z' → Is w w' → Is (over4 f x y z w) (f x' y' z' w')
over4_is {A} {B} f None x' y y' z z' w w' h i j k = tt
over4_is {A} {B} f (Some x) x' None y' z z' w w' h i j k = tt
over4_is {A} {B} f (Some x) x' (Some y) y' None z' w w' h i j k = tt
over4_is {A} {B} f (Some x) x' (Some y) y' (Some z) z' None w' h i j k = tt
over4_is {A} {B} f (Some x) x' (Some y) y' (Some z) z' (Some w) w' h i j k =
    ap₂ (λ (a b : A). f a b z w) h i ∙ ap₂ (λ (a b : A). f x' y' a b) j k

capped_rel : (s : Sort) → MakerRel s capped_maker normal_maker (λ x y. Is x y) (λ x y. Is x y)
capped_rel s = record {
  formed = λ xs x x' h. keep_if_is (within (lins_numbers xs)) x x' h;
  closed = λ b. refl;
  signed = λ q l. keep_is (within (atom_numbers s l)) (signed q s l);
  same_number = λ q z. keep_is (within (same_numbers q s z)) (same_number q s z);
  no_part = refl;
  part = λ x x' xs xs' h k. over2_is part x x' xs xs' h k;
  joined_by = λ q xs xs' h. over_is (joined_by q) xs xs' h;
  either_by = λ q x x' y y' h k. over2_is (either_by q) x x' y y' h k;
  bind_one = λ q x x' h. over_is (bind_one q) x x' h;
  same_form = λ q x x' y y' z z' w w' h i j k. over4_is (same_form q) x x' y y' z z' w w' h i j k;
  ite_form = λ x x' y y' z z' w w' h i j k. over4_is ite_form x x' y y' z z' w w' h i j k;
  abs_form = λ f x x' y y' h k. keep_if_is (within (atom_numbers s (AtLeast f.form))) (over2 (abs_form s f) x y) (abs_form s f x' y') (over2_is (abs_form s f) x x' y y' h k);
  div_form = λ c f e x x' h. keep_if_is (within (div_numbers s c f e)) (over (div_form s c f e) x) (div_form s c f e x') (over_is (div_form s c f e) x x' h);
}

pub capped_is : (s : Sort) (consts : List VarSort) (body : Term) (n : Normal) → capped s consts body ≡ Some n → n ≡ norm (exists_of consts body) s true [] 0
capped_is s consts body n e =
    subst (λ (x : Option Normal). Is x (norm (exists_of consts body) s true [] 0)) e
    (gnorm_rel capped_maker normal_maker (λ x y. Is x y) (λ x y. Is x y) s (capped_rel s) (exists_of consts body) true [] 0)

-- ---- None comes exactly where a number is past the cap

abbrev pub is_there : {A : Type 0} → Option A → Bool
is_there {A} None = false
is_there {A} (Some x) = true

both_false : (b : Bool) → b && false ≡ false
both_false true = refl
both_false false = refl

both_assoc : (a b c : Bool) → (a && b) && c ≡ a && (b && c)
both_assoc true b c = refl
both_assoc false b c = refl

pub within_append : (xs ys : List ℤ) → within (xs ++ ys) ≡ within xs && within ys
within_append [] ys = refl
within_append (x ∷ xs) ys = ap (λ (b : Bool). nat_le (nat_abs x) cap && b) (within_append xs ys) ∙ sym (both_assoc (nat_le (nat_abs x) cap) (within xs) (within ys))

-- there exactly where the numbers are within the cap
abbrev pub Fits : {A : Type 0} → Option A → List ℤ → Type 0
Fits {A} x ns = is_there x ≡ within ns

keep_fits : {A : Type 0} (b : Bool) (x : A) → is_there (keep b x) ≡ b
keep_fits {A} true x = refl
keep_fits {A} false x = refl

keep_if_there : {A : Type 0} (b : Bool) (x : Option A) → is_there (keep_if b x) ≡ b && is_there x
keep_if_there {A} true x = refl
keep_if_there {A} false x = refl

over_there : {A B : Type 0} (f : A → B) (x : Option A) → is_there (over f x) ≡ is_there x
over_there {A} {B} f None = refl
over_there {A} {B} f (Some x) = refl

over2_there : {A B C : Type 0} (f : A → B → C) (x : Option A) (y : Option B) → is_there (over2 f x y) ≡ is_there x && is_there y
over2_there {A} {B} {C} f None y = refl
over2_there {A} {B} {C} f (Some x) y = over_there (f x) y

over4_there : {A B : Type 0} (f : A → A → A → A → B) (x y z w : Option A) → is_there (over4 f x y z w) ≡ is_there x && (is_there y && (is_there z && is_there w))
over4_there {A} {B} f None y z w = refl
over4_there {A} {B} f (Some x) None z w = refl
over4_there {A} {B} f (Some x) (Some y) z w = over2_there (f x y) z w

join_fits : {A B : Type 0} (x : Option A) (ms : List ℤ) (y : Option B) (ns : List ℤ) → Fits x ms → Fits y ns → is_there x && is_there y ≡ within (ms ++ ns)
join_fits {A} {B} x ms y ns h k = ap₂ (λ (a b : Bool). a && b) h k ∙ sym (within_append ms ns)

if_fits : {A : Type 0} (ms : List ℤ) (x : Option A) (ns : List ℤ) → Fits x ns → Fits (keep_if (within ms) x) (ms ++ ns)
if_fits {A} ms x ns h = keep_if_there (within ms) x ∙ ap (λ (b : Bool). within ms && b) h ∙ sym (within_append ms ns)

four_fits : {A B : Type 0} (f : A → A → A → A → B) (x : Option A) (xs : List ℤ) (y : Option A) (ys : List ℤ) (z : Option A) (zs : List ℤ) (w : Option A) (ws : List ℤ) → Fits x xs → Fits y ys → Fits z zs → Fits w ws → Fits (over4 f x y z w) (xs ++ (ys ++ (zs ++ ws)))
four_fits {A} {B} f x xs y ys z zs w ws h i j k =
    over4_there f x y z w ∙ ap₂ (λ (a b : Bool). a && b) h (ap₂ (λ (a b : Bool). a && b) i (ap₂ (λ (a b : Bool). a && b) j k ∙ sym (within_append zs ws)) ∙ sym (within_append ys (zs ++ ws))) ∙ sym (within_append xs (ys ++ (zs ++ ws)))

fits_rel : (s : Sort) → MakerRel s capped_maker number_maker (λ x y. Fits x y) (λ x y. Fits x y)
fits_rel s = record {
  formed = λ xs x x' h. if_fits (lins_numbers xs) x x' h;
  closed = λ b. refl;
  signed = λ q l. keep_fits (within (atom_numbers s l)) (signed q s l);
  same_number = λ q z. keep_fits (within (same_numbers q s z)) (same_number q s z);
  no_part = refl;
  part = λ x x' xs xs' h k. over2_there part x xs ∙ join_fits x x' xs xs' h k;
  joined_by = λ q xs xs' h. over_there (joined_by q) xs ∙ h;
  either_by = λ q x x' y y' h k. over2_there (either_by q) x y ∙ join_fits x x' y y' h k;
  bind_one = λ q x x' h. over_there (bind_one q) x ∙ h;
  same_form = λ q x x' y y' z z' w w' h i j k. four_fits (same_form q) x x' y y' z z' w w' h i j k;
  ite_form = λ x x' y y' z z' w w' h i j k. four_fits ite_form x x' y y' z z' w w' h i j k;
  abs_form = λ f x x' y y' h k. if_fits (atom_numbers s (AtLeast f.form)) (over2 (abs_form s f) x y) (x' ++ y') (over2_there (abs_form s f) x y ∙ join_fits x x' y y' h k);
  div_form = λ c f e x x' h. if_fits (div_numbers s c f e) (over (div_form s c f e) x) x' (over_there (div_form s c f e) x ∙ h);
}

pub capped_there : (s : Sort) (consts : List VarSort) (body : Term) → is_there (capped s consts body) ≡ within (numbers s consts body)
capped_there s consts body =
    gnorm_rel capped_maker number_maker (λ x y. Fits x y) (λ x y. Fits x y) s (fits_rel s) (exists_of consts body) true [] 0

is_kept : {A : Type 0} (b : Bool) (x : Option A) (n : A) → is_there x ≡ b → Is x n → x ≡ keep b n
is_kept {A} true None n h i = absurd (false_is_true h)
is_kept {A} true (Some x) n h i = ap (λ (y : A). Some y) i
is_kept {A} false None n h i = refl
is_kept {A} false (Some x) n h i = absurd (false_is_true (sym h))

-- the capped build is the normal form where all numbers are within the cap, and else nothing
pub capped_whole : (s : Sort) (consts : List VarSort) (body : Term) → capped s consts body ≡ keep (within (numbers s consts body)) (norm (exists_of consts body) s true [] 0)
capped_whole s consts body =
    is_kept (within (numbers s consts body)) (capped s consts body) (norm (exists_of consts body) s true [] 0) (capped_there s consts body)
    (gnorm_rel capped_maker normal_maker (λ x y. Is x y) (λ x y. Is x y) s (capped_rel s) (exists_of consts body) true [] 0)
