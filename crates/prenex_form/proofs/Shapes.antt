-- The form of each kind of node, and lists of forms from the front.
use Rattle.std.specs.Prelude.{ℕ, ◌+◌, ◌<◌, ◌≤◌, ◌≡◌, List, drop, get_or, length}
use Rattle.std.proofs.lemmas.List.{at_drop_more, at_drop_all}
use Rattle.std.proofs.Common.{ap, ◌∙◌, sym}
use Rattle.lin_term.specs.declared.Lit.{Lit}
use Rattle.norm_form.specs.declared.LevelForm.{LevelForm as Built, fold-roll-LevelForm}
use Rattle.norm_form.specs.declared.LevelForm.TheOpen as open_normal
use Rattle.norm_form.specs.declared.LevelForm.TheVariants as built
use Rattle.norm_form.specs.Normal.{Normal, one_lit, each_of, some_of, for_all, there_is, Normals, no_part, part}
use Rattle.norm_form.specs.View.{shape_step, shape_of, shapes_of}

pub shape-Lit : (k l : Lit) (t : Built) → k ≡ l → t ≡ built.Lit l → shape_of t ≡ one_lit k
shape-Lit k l t e g = ap shape_of g ∙ ap shape_of (sym (built.rolls-Lit l)) ∙ fold-roll-LevelForm Normal shape_step (open_normal.Lit l) ∙ ap one_lit (sym e)

pub shape-And : (us ts : List Built) (t : Built) → us ≡ ts → t ≡ built.And ts → shape_of t ≡ each_of (shapes_of us)
shape-And us ts t e g = ap shape_of g ∙ ap shape_of (sym (built.rolls-And ts)) ∙ fold-roll-LevelForm Normal shape_step (open_normal.And ts) ∙ ap each_of (ap shapes_of (sym e))

pub shape-Or : (us ts : List Built) (t : Built) → us ≡ ts → t ≡ built.Or ts → shape_of t ≡ some_of (shapes_of us)
shape-Or us ts t e g = ap shape_of g ∙ ap shape_of (sym (built.rolls-Or ts)) ∙ fold-roll-LevelForm Normal shape_step (open_normal.Or ts) ∙ ap some_of (ap shapes_of (sym e))

pub shape-Forall : (A a t : Built) → A ≡ a → t ≡ built.Forall a → shape_of t ≡ for_all (shape_of A)
shape-Forall A a t e g = ap shape_of g ∙ ap shape_of (sym (built.rolls-Forall a)) ∙ fold-roll-LevelForm Normal shape_step (open_normal.Forall a) ∙ ap for_all (ap shape_of (sym e))

pub shape-Exists : (A a t : Built) → A ≡ a → t ≡ built.Exists a → shape_of t ≡ there_is (shape_of A)
shape-Exists A a t e g = ap shape_of g ∙ ap shape_of (sym (built.rolls-Exists a)) ∙ fold-roll-LevelForm Normal shape_step (open_normal.Exists a) ∙ ap there_is (ap shape_of (sym e))

pub shapes_more : {A : Type 0} (f : Normals → A) (ts : List Built) (i : ℕ) (d : Built) → i < length ts → f (shapes_of (drop i ts)) ≡ f (part (shape_of (get_or ts i d)) (shapes_of (drop (i + 1) ts)))
shapes_more {A} f ts i d h = at_drop_more (λ (us : List Built). f (shapes_of us)) ts i d h

pub shapes_all : {A : Type 0} (f : Normals → A) (ts : List Built) (i : ℕ) → length ts ≤ i → f (shapes_of (drop i ts)) ≡ f no_part
shapes_all {A} f ts i h = at_drop_all (λ (us : List Built). f (shapes_of us)) ts i h
