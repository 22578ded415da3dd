-- Normal forms, with quantifiers inside. A variable is its place on the path, from the outside.
use Rattle.std.specs.Prelude.{ℕ, suc, ⊤}
use Rattle.lin_term.specs.declared.Sort.{Sort}
use Rattle.lin_term.specs.Linear.{Point, Value, IsValue, extend, Below}
use Rattle.lin_term.specs.declared.Lit.{Lit}
use Rattle.lin_term.specs.Literal.{Holds, IsOf, form_of}

mutual
  pub data Normal : Type 0 where
    one_lit : Lit → Normal
    each_of : Normals → Normal
    some_of : Normals → Normal
    for_all : Normal → Normal
    there_is : Normal → Normal

  pub data Normals : Type 0 where
    no_part : Normals
    part : Normal → Normals → Normals

abbrev mutual
  pub TrueN : Normal → Sort → Point → Type 0
  TrueN (one_lit l) s p = Holds l p
  TrueN (each_of ns) s p = AllTrue ns s p
  TrueN (some_of ns) s p = ¬ AllFalse ns s p
  TrueN (for_all n) s p = (v : Value) → IsValue s v → TrueN n s (extend p v)
  TrueN (there_is n) s p = ¬ ((v : Value) → IsValue s v → ¬ TrueN n s (extend p v))

  pub AllTrue : Normals → Sort → Point → Type 0
  AllTrue no_part s p = ⊤
  AllTrue (part n ns) s p = TrueN n s p × AllTrue ns s p

  pub AllFalse : Normals → Sort → Point → Type 0
  AllFalse no_part s p = ⊤
  AllFalse (part n ns) s p = ¬ TrueN n s p × AllFalse ns s p

-- each literal is of the sort and speaks of the k outer variables and those of its path
abbrev mutual
  pub IsNormal : Normal → Sort → ℕ → Type 0
  IsNormal (one_lit l) s k = IsOf s l × Below k (form_of l)
  IsNormal (each_of ns) s k = AreNormal ns s k
  IsNormal (some_of ns) s k = AreNormal ns s k
  IsNormal (for_all n) s k = IsNormal n s (suc k)
  IsNormal (there_is n) s k = IsNormal n s (suc k)

  pub AreNormal : Normals → Sort → ℕ → Type 0
  AreNormal no_part s k = ⊤
  AreNormal (part n ns) s k = IsNormal n s k × AreNormal ns s k
