-- The normal form that a value of `src/` stands for.
use Rattle.std.specs.Prelude.{◌≡◌, List, [], ◌∷◌, map, Option, None, Some, Result, Ok, Err, ⊤}
use Rattle.lin_form.specs.declared.FormFault.{FormFault}
use Rattle.lin_form.specs.declared.FormFault.TheVariants as faults
use Rattle.norm_form.specs.declared.normal.LevelForm.{LevelForm as Built, fold-LevelForm}
use Rattle.norm_form.specs.declared.normal.LevelForm.TheOpen.{LevelForm-F}
use Rattle.norm_form.specs.Normal.{Normal, one_lit, each_of, some_of, for_all, there_is, Normals, no_part, part}

abbrev pub parts_of : List Normal → Normals
parts_of [] = no_part
parts_of (n ∷ ns) = part n (parts_of ns)

-- one level, with each part already seen
abbrev pub shape_step : LevelForm-F Normal → Normal
shape_step (LevelForm-F.Lit l) = one_lit l
shape_step (LevelForm-F.And ns) = each_of (parts_of ns)
shape_step (LevelForm-F.Or ns) = some_of (parts_of ns)
shape_step (LevelForm-F.Forall n) = for_all n
shape_step (LevelForm-F.Exists n) = there_is n

abbrev pub shape_of : Built → Normal
shape_of = fold-LevelForm Normal shape_step

-- each part's form
abbrev pub shapes_of : List Built → Normals
shapes_of ns = parts_of (map shape_of ns)

-- the form, or a number on the way to it is past the cap; want of memory is free
abbrev pub IsBuilt : Option Normal → Result Built FormFault → Type 0
IsBuilt x (Ok n) = x ≡ Some (shape_of n)
IsBuilt x (Err faults.Number) = x ≡ None
IsBuilt x (Err faults.Memory) = ⊤
IsBuilt x (Err faults.Size) = ⊥
IsBuilt x (Err faults.Variables) = ⊥
