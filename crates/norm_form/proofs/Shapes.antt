-- The form that each kind of value stands for.
use Rattle.std.specs.Prelude.{suc, ◌+◌, ◌≡◌, ◌≢◌, Bool, true, false, List, [], ◌∷◌, ◌++◌, length, map}
use Rattle.std.proofs.Common.{arith, ap, ◌∙◌, sym, refl, length-append}
use Rattle.std.proofs.lemmas.List.{map-append}
use Rattle.lin_term.specs.declared.Lit.{Lit}
use Rattle.norm_form.specs.declared.normal.LevelForm.{LevelForm as Built, fold-roll-LevelForm}
use Rattle.norm_form.specs.declared.normal.LevelForm.TheOpen as open_normal
use Rattle.norm_form.specs.declared.normal.LevelForm.TheVariants as built
use Rattle.norm_form.specs.Normal.{Normal, one_lit, each_of, some_of, for_all, there_is, Normals, no_part, part}
use Rattle.norm_form.specs.Norm.{joined_by}
use Rattle.norm_form.specs.View.{parts_of, shape_step, shape_of, shapes_of}

pub shape_lit : (l : Lit) → shape_of (built.Lit l) ≡ one_lit l
shape_lit l = ap shape_of (sym (built.rolls-Lit l)) ∙ fold-roll-LevelForm Normal shape_step (open_normal.Lit l)

pub shape_and : (ns : List Built) → shape_of (built.And ns) ≡ each_of (shapes_of ns)
shape_and ns = ap shape_of (sym (built.rolls-And ns)) ∙ fold-roll-LevelForm Normal shape_step (open_normal.And ns)

pub shape_or : (ns : List Built) → shape_of (built.Or ns) ≡ some_of (shapes_of ns)
shape_or ns = ap shape_of (sym (built.rolls-Or ns)) ∙ fold-roll-LevelForm Normal shape_step (open_normal.Or ns)

pub shape_forall : (n : Built) → shape_of (built.Forall n) ≡ for_all (shape_of n)
shape_forall n = ap shape_of (sym (built.rolls-Forall n)) ∙ fold-roll-LevelForm Normal shape_step (open_normal.Forall n)

pub shape_exists : (n : Built) → shape_of (built.Exists n) ≡ there_is (shape_of n)
shape_exists n = ap shape_of (sym (built.rolls-Exists n)) ∙ fold-roll-LevelForm Normal shape_step (open_normal.Exists n)

abbrev pub push_part : Normals → Normal → Normals
push_part no_part m = part m no_part
push_part (part n ns) m = part n (push_part ns m)

parts_push : (ns : List Normal) (m : Normal) → parts_of (ns ++ m ∷ []) ≡ push_part (parts_of ns) m
parts_push [] m = refl
parts_push (n ∷ ns) m = ap (part n) (parts_push ns m)

pub shapes_push : (ns : List Built) (n : Built) → shapes_of (ns ++ n ∷ []) ≡ push_part (shapes_of ns) (shape_of n)
shapes_push ns n = ap parts_of (map-append shape_of ns (n ∷ [])) ∙ parts_push (map shape_of ns) (shape_of n)

two_long : (m n : Built) (ns ms : List Built) → length ns ≡ 1 → ns ≡ m ∷ (ms ++ n ∷ []) → ⊥
two_long m n ns ms h e =
    let f : length ns ≡ suc (length (ms ++ n ∷ [])) = ap length e in
    let g : length (ms ++ n ∷ []) ≡ length ms + 1 = length-append ms (n ∷ []) in
    omega (arith, h, f, g)

one_joined : (q : Bool) (n : Normal) → n ≡ joined_by q (part n no_part)
one_joined true n = refl
one_joined false n = refl

pub joined_one : (q : Bool) (ns ms : List Built) (n : Built) → length ns ≡ 1 → ns ≡ ms ++ n ∷ [] → shape_of n ≡ joined_by q (shapes_of ns)
joined_one q ns [] n h e = one_joined q (shape_of n) ∙ ap (λ (us : List Built). joined_by q (shapes_of us)) (sym e)
joined_one q ns (m ∷ ms) n h e = absurd (two_long m n ns ms h e)

pub joined_all : (ns : List Built) → length ns ≢ 1 → each_of (shapes_of ns) ≡ joined_by true (shapes_of ns)
joined_all [] h = refl
joined_all (n ∷ []) h = absurd (h refl)
joined_all (n ∷ m ∷ ns) h = refl

pub joined_some : (ns : List Built) → length ns ≢ 1 → some_of (shapes_of ns) ≡ joined_by false (shapes_of ns)
joined_some [] h = refl
joined_some (n ∷ []) h = absurd (h refl)
joined_some (n ∷ m ∷ ns) h = refl
