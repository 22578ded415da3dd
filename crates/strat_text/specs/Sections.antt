-- What a strategy file holds.
use Rattle.std.specs.Prelude.{◌≡◌, ⊤, ℕ, ◌≤◌, Bool, true, nat_le, List}
use Rattle.std.specs.List.{AllByRecursion}
use Rattle.cube_rules.specs.declared.kind.Kind.{Kind}
use Rattle.cube_rules.specs.declared.kind.Kind.TheVariants.{Path, Def, Part, Cases, Sum, Split, Cube, Least, Learn, False}
use Rattle.cube_rules.specs.declared.step.Step.{Step}
use Rattle.cube_rules.specs.Lines.{kind_of}
use Rattle.strat_text.specs.declared.section.Section.{Section}
use Rattle.strat_text.specs.declared.section.Section.TheVariants.{Claimed, Unknown}

-- the version of the file, and a section for each goal
pub record Sections : Type 0 where
  pub version : ℕ
  pub list : List Section

-- the versions that there are
abbrev pub IsVersion : ℕ → Type 0
IsVersion v = (1 ≤ v) × (v ≤ 2)

-- `learn` came with version 2
abbrev pub has_kind : ℕ → Kind → Bool
has_kind v Path = true
has_kind v Def = true
has_kind v Part = true
has_kind v Cases = true
has_kind v Sum = true
has_kind v Split = true
has_kind v Cube = true
has_kind v Least = true
has_kind v Learn = nat_le 2 v
has_kind v False = true

-- the version has a line of this kind
abbrev pub HasLine : ℕ → Step → Type 0
HasLine v x = has_kind v (kind_of x) ≡ true

abbrev pub HasLines : ℕ → Section → Type 0
HasLines v (Claimed side ts t p line) = AllByRecursion (HasLine v) p
HasLines v Unknown = ⊤

-- the version is there, and has all lines of the proofs
abbrev pub IsVersioned : Sections → Type 0
IsVersioned xs = IsVersion xs.version × AllByRecursion (HasLines xs.version) xs.list
