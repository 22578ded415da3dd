-- The formula of an atom, made from the cases of its term.
use Rattle.std.specs.Prelude.{ℕ, ◌≡◌, Bool, true, false, ◌&&◌, List, [], ◌∷◌, ◌++◌, Option, None, Some, Result, Ok, Err}
use Rattle.std.proofs.Common.{ap, ap₂, ◌∙◌, sym, subst, refl}
use Rattle.lin_term.specs.declared.Sort.{Sort}
use Rattle.lin_term.specs.declared.Lit.{Lit}
use Rattle.lin_term.specs.declared.Lit.TheVariants.{AtLeast, Above}
use Rattle.lin_term.specs.Linear.{Form}
use Rattle.lin_form.specs.declared.FormFault.{FormFault}
use Rattle.lin_form.specs.declared.FormFault.TheVariants as faults
use Rattle.lin_form.specs.Lin.{Lin, lin_neg}
use Rattle.lin_form.specs.Kept.{within, lins_numbers}
use Rattle.lin_form.specs.Outcome.{Formed}
use Rattle.lin_form.proofs.Keeping.{within_append}
use Rattle.norm_form.specs.declared.branches.Case.{Case}
use Rattle.norm_form.specs.declared.literal.Signs.{Signs}
use Rattle.norm_form.specs.declared.normal.LevelForm.{LevelForm as Built}
use Rattle.norm_form.specs.Cap.{capped_maker, keep, over2, over4, atom_numbers}
use Rattle.norm_form.specs.Cases.{chosen, bounded, between, put, run, HasNone, AreCases}
use Rattle.norm_form.specs.Claim.{stacked_on, AreStacked}
use Rattle.norm_form.specs.Literal.{AreSigned}
use Rattle.norm_form.specs.Norm.{either_by, signed, ite_form, same_form}
use Rattle.norm_form.specs.Normal.{Normal}
use Rattle.norm_form.specs.View.{shape_of, IsBuilt}
use Rattle.norm_form.proofs.Running.{run_append, run_none, none_one}

pub some_same : (a b : Normal) → Some a ≡ Some b → a ≡ b
some_same a b e = cc

none_some : (a : Normal) → None ≡ Some a → ⊥
none_some a e = absurd (cc)

-- a fault on the way is one of the whole
pub built_stop : (x y : Option Normal) (z : FormFault) → (x ≡ None → y ≡ None) → IsBuilt x (Err z) → IsBuilt y (Err z)
built_stop x y faults.Number f h = f h
built_stop x y faults.Memory f h = h
built_stop x y faults.Size f h = h
built_stop x y faults.Variables f h = h

pub built_same : (x y : Option Normal) (r : Result Built FormFault) → x ≡ y → IsBuilt x r → IsBuilt y r
built_same x y r e h = subst (λ (z : Option Normal). IsBuilt z r) e h

-- ---- literals

pub literal_yes : (s : Sort) (l : Lit) (z : Signs) → AreSigned s l (Ok z) → IsBuilt (capped_maker.signed true s l) (Ok z.yes)
literal_yes s l z h = ap₂ (λ (b : Bool) (n : Normal). keep b n) h.0 (sym h.1)

pub literal_no : (s : Sort) (l : Lit) (z : Signs) → AreSigned s l (Ok z) → IsBuilt (capped_maker.signed false s l) (Ok z.no)
literal_no s l z h = ap₂ (λ (b : Bool) (n : Normal). keep b n) h.0 (sym h.2)

pub literal_stops : (s : Sort) (q : Bool) (l : Lit) (z : FormFault) → AreSigned s l (Err z) → IsBuilt (capped_maker.signed q s l) (Err z)
literal_stops s q l faults.Number h = ap (λ (b : Bool). keep b (signed q s l)) h
literal_stops s q l faults.Memory h = h
literal_stops s q l faults.Size h = h
literal_stops s q l faults.Variables h = h

-- ---- two formulas

over2_none : (f : Normal → Normal → Normal) (a : Option Normal) → over2 f a None ≡ None
over2_none f None = refl
over2_none f (Some a) = refl

pub first_missing : (f : Normal → Normal → Normal) (x y : Option Normal) → x ≡ None → over2 f x y ≡ None
first_missing f x y e = ap (λ (z : Option Normal). over2 f z y) e

pub second_missing : (f : Normal → Normal → Normal) (x y : Option Normal) → y ≡ None → over2 f x y ≡ None
second_missing f x y e = ap (over2 f x) e ∙ over2_none f x

pub both_there : (q : Bool) (x y : Option Normal) (a b n : Built) → x ≡ Some (shape_of a) → y ≡ Some (shape_of b) → shape_of n ≡ either_by q (shape_of a) (shape_of b) → over2 (either_by q) x y ≡ Some (shape_of n)
both_there q x y a b n e f g = ap₂ (over2 (either_by q)) e f ∙ ap Some (sym g)

pub ite_is : (c n a b : Option Normal) → over2 (either_by true) (over2 (either_by false) n a) (over2 (either_by false) c b) ≡ over4 ite_form c n a b
ite_is None n a b = over2_none (either_by true) (over2 (either_by false) n a)
ite_is (Some c) None a b = refl
ite_is (Some c) (Some n) None b = refl
ite_is (Some c) (Some n) (Some a) None = refl
ite_is (Some c) (Some n) (Some a) (Some b) = refl

pub same_is : (a n b m : Option Normal) → over2 (either_by true) (over2 (either_by false) n b) (over2 (either_by false) a m) ≡ over4 (same_form true) a n b m
same_is None n b m = over2_none (either_by true) (over2 (either_by false) n b)
same_is (Some a) None b m = refl
same_is (Some a) (Some n) None m = refl
same_is (Some a) (Some n) (Some b) None = refl
same_is (Some a) (Some n) (Some b) (Some m) = refl

pub other_is : (a n b m : Option Normal) → over2 (either_by false) (over2 (either_by true) a m) (over2 (either_by true) n b) ≡ over4 (same_form false) a n b m
other_is None n b m = refl
other_is (Some a) None b m = over2_none (either_by false) (over2 (either_by true) (Some a) m)
other_is (Some a) (Some n) None m = over2_none (either_by false) (over2 (either_by true) (Some a) m)
other_is (Some a) (Some n) (Some b) None = refl
other_is (Some a) (Some n) (Some b) (Some m) = refl

kept_both : (q a b : Bool) (x y : Normal) → over2 (either_by q) (keep a x) (keep b y) ≡ keep (a && b) (either_by q x y)
kept_both q true true x y = refl
kept_both q true false x y = refl
kept_both q false b x y = refl

pub zero_is : (s : Sort) (q : Bool) (l m : Lit) → over2 (either_by q) (capped_maker.signed true s l) (capped_maker.signed true s m) ≡ keep (within (atom_numbers s l ++ atom_numbers s m)) (either_by q (signed true s l) (signed true s m))
zero_is s q l m =
    kept_both q (within (atom_numbers s l)) (within (atom_numbers s m)) (signed true s l) (signed true s m)
    ∙ ap (λ (b : Bool). keep b (either_by q (signed true s l) (signed true s m))) (sym (within_append (atom_numbers s l) (atom_numbers s m)))

-- the negative is never past the cap
pub negative_stops : (x : Lin) (o : Option Normal) (z : FormFault) → within (lins_numbers (lin_neg x ∷ [])) ≡ true → Formed (lin_neg x ∷ []) (lin_neg x) (Err z) → IsBuilt o (Err z)
negative_stops x o faults.Number k h = let e : true ≡ false = sym k ∙ h in absurd (cc)
negative_stops x o faults.Memory k h = tt
negative_stops x o faults.Size k h = h
negative_stops x o faults.Variables k h = h

pub zero_made : (s : Sort) (q : Bool) (x m : Lin) (f g : Form) (r : Result Built FormFault) → q ≡ true → f ≡ x.form → g ≡ m.form → m ≡ lin_neg x → IsBuilt (over2 (either_by true) (capped_maker.signed true s (AtLeast f)) (capped_maker.signed true s (AtLeast g))) r → IsBuilt (capped_maker.same_number q s x) r
zero_made s q x m f g r e h k l b =
    built_same (over2 (either_by true) (capped_maker.signed true s (AtLeast f)) (capped_maker.signed true s (AtLeast g))) (capped_maker.same_number q s x) r
    (ap₂ (λ (u w : Form). over2 (either_by true) (capped_maker.signed true s (AtLeast u)) (capped_maker.signed true s (AtLeast w))) h (k ∙ ap (λ (y : Lin). y.form) l)
    ∙ zero_is s true (AtLeast x.form) (AtLeast (lin_neg x).form)
    ∙ ap (λ (b : Bool). capped_maker.same_number b s x) (sym e)) b

pub not_zero_made : (s : Sort) (q : Bool) (x m : Lin) (f g : Form) (r : Result Built FormFault) → q ≡ false → f ≡ x.form → g ≡ m.form → m ≡ lin_neg x → IsBuilt (over2 (either_by false) (capped_maker.signed true s (Above f)) (capped_maker.signed true s (Above g))) r → IsBuilt (capped_maker.same_number q s x) r
not_zero_made s q x m f g r e h k l b =
    built_same (over2 (either_by false) (capped_maker.signed true s (Above f)) (capped_maker.signed true s (Above g))) (capped_maker.same_number q s x) r
    (ap₂ (λ (u w : Form). over2 (either_by false) (capped_maker.signed true s (Above u)) (capped_maker.signed true s (Above w))) h (k ∙ ap (λ (y : Lin). y.form) l)
    ∙ zero_is s false (Above x.form) (Above (lin_neg x).form)
    ∙ ap (λ (b : Bool). capped_maker.same_number b s x) (sym e)) b

-- ---- the stack

pub stacked_push : (ns : List Built) (n : Built) (rs : List (Option Normal)) → stacked_on (ns ++ n ∷ []) rs ≡ Some (shape_of n) ∷ stacked_on ns rs
stacked_push [] n rs = refl
stacked_push (m ∷ ns) n rs = stacked_push ns n (Some (shape_of m) ∷ rs)

pub with_one : (ns new : List Built) (n : Built) (o : Option Normal) → new ≡ ns ++ n ∷ [] → o ≡ Some (shape_of n) → stacked_on new [] ≡ o ∷ stacked_on ns []
with_one ns new n o e f = ap (λ (ms : List Built). stacked_on ms []) e ∙ stacked_push ns n [] ∙ ap (λ (z : Option Normal). z ∷ stacked_on ns []) (sym f)

pub stack_stop : (ns : List Built) (o : Option Normal) (z : FormFault) → IsBuilt o (Err z) → AreStacked (o ∷ stacked_on ns []) (Err z)
stack_stop ns o faults.Number h = subst (λ (y : Option Normal). HasNone (y ∷ stacked_on ns [])) (sym h) tt
stack_stop ns o faults.Memory h = h
stack_stop ns o faults.Size h = h
stack_stop ns o faults.Variables h = h

pub with_two : (old mid ns new : List Built) (c n a b f : Built) → old ≡ mid ++ a ∷ [] → mid ≡ ns ++ b ∷ [] → new ≡ ns ++ f ∷ [] → shape_of f ≡ ite_form (shape_of c) (shape_of n) (shape_of a) (shape_of b) → stacked_on new [] ≡ chosen (shape_of c) (shape_of n) (stacked_on old [])
with_two old mid ns new c n a b f e g h i =
    with_one ns new f (Some (ite_form (shape_of c) (shape_of n) (shape_of a) (shape_of b))) h (ap Some (sym i))
    ∙ ap (chosen (shape_of c) (shape_of n))
    (ap (λ (rs : List (Option Normal)). Some (shape_of a) ∷ rs) (sym (ap (λ (ms : List Built). stacked_on ms []) g ∙ stacked_push ns b []))
    ∙ sym (ap (λ (ms : List Built). stacked_on ms []) e ∙ stacked_push mid a []))

pub with_bounds : (old ns new : List Built) (l u a f : Built) → old ≡ ns ++ a ∷ [] → new ≡ ns ++ f ∷ [] → shape_of f ≡ between (shape_of l) (shape_of u) (shape_of a) → stacked_on new [] ≡ bounded (shape_of l) (shape_of u) (stacked_on old [])
with_bounds old ns new l u a f e h i =
    with_one ns new f (Some (between (shape_of l) (shape_of u) (shape_of a))) h (ap Some (sym i))
    ∙ ap (bounded (shape_of l) (shape_of u)) (sym (ap (λ (ms : List Built). stacked_on ms []) e ∙ stacked_push ns a []))

-- ---- one case after the other

abbrev pub Stands : (ℕ → Lin → Option Normal) → List Case → List Case → List Built → Type 0
Stands k all todo ns = run todo k (stacked_on ns []) ≡ run all k []

pub stands_more : (k : ℕ → Lin → Option Normal) (all old todo : List Case) (c : Case) (ns new : List Built) → Stands k all old ns → old ≡ todo ++ c ∷ [] → AreStacked (put c k (stacked_on ns [])) (Ok new) → Stands k all todo new
stands_more k all old todo c ns new h e m =
    ap (run todo k) m ∙ sym (run_append todo (c ∷ []) k (stacked_on ns [])) ∙ ap (λ (cs : List Case). run cs k (stacked_on ns [])) (sym e) ∙ h

stands_none : (k : ℕ → Lin → Option Normal) (all old todo : List Case) (c : Case) (ns : List Built) (g : (ℕ → Lin → Option Normal) → Option Normal) → Stands k all old ns → old ≡ todo ++ c ∷ [] → HasNone (put c k (stacked_on ns [])) → AreCases g (Ok all) → g k ≡ None
stands_none k all old todo c ns g h e m a =
    none_one (g k)
    (subst HasNone (sym (run_append todo (c ∷ []) k (stacked_on ns [])) ∙ ap (λ (cs : List Case). run cs k (stacked_on ns [])) (sym e) ∙ h ∙ a k []) (run_none todo k (put c k (stacked_on ns [])) m))

pub stands_stop : (k : ℕ → Lin → Option Normal) (all old todo : List Case) (c : Case) (ns : List Built) (z : FormFault) (g : (ℕ → Lin → Option Normal) → Option Normal) → Stands k all old ns → old ≡ todo ++ c ∷ [] → AreStacked (put c k (stacked_on ns [])) (Err z) → AreCases g (Ok all) → IsBuilt (g k) (Err z)
stands_stop k all old todo c ns faults.Number g h e m a = stands_none k all old todo c ns g h e m a
stands_stop k all old todo c ns faults.Memory g h e m a = tt
stands_stop k all old todo c ns faults.Size g h e m a = m
stands_stop k all old todo c ns faults.Variables g h e m a = m

head_same : (x y : Option Normal) (xs ys : List (Option Normal)) → x ∷ xs ≡ y ∷ ys → x ≡ y
head_same x y xs ys e = cc

pub stands_end : (k : ℕ → Lin → Option Normal) (all todo : List Case) (ns ms : List Built) (n : Built) (g : (ℕ → Lin → Option Normal) → Option Normal) → Stands k all todo ns → todo ≡ [] → ns ≡ ms ++ n ∷ [] → AreCases g (Ok all) → g k ≡ Some (shape_of n)
stands_end k all todo ns ms n g h e f a =
    let p : stacked_on ns [] ≡ g k ∷ [] = ap (λ (cs : List Case). run cs k (stacked_on ns [])) (sym e) ∙ h ∙ a k [] in
    sym (head_same (Some (shape_of n)) (g k) (stacked_on ms []) [] (sym (ap (λ (us : List Built). stacked_on us []) f ∙ stacked_push ms n []) ∙ p))

pub cases_built : (g : (ℕ → Lin → Option Normal) → Option Normal) (k : ℕ → Lin → Option Normal) (z : FormFault) → AreCases g (Err z) → IsBuilt (g k) (Err z)
cases_built g k faults.Number h = h k
cases_built g k faults.Memory h = h
cases_built g k faults.Size h = h
cases_built g k faults.Variables h = h
