-- The lines that stay, with the numbers that their facts have then.
use Rattle.std.specs.Prelude.{ℕ, zero, suc, ◌+◌, ◌-◌, min, Option, Some, None, List, [], ◌∷◌, ◌++◌, map, length, take, replicate, slice_index_or, slice_get}
use Rattle.cube_rules.specs.declared.Step.{Step}
use Rattle.cube_rules.specs.declared.Step.TheVariants.{Path, Def, Part, Cases, Sum, Split, Cube, Least, Learn, False}
use Rattle.proof_idle.specs.Walk.{added}
use Rattle.proof_prune.specs.declared.item.Item.{Item}
use Rattle.proof_prune.specs.declared.item.Item.TheVariants.{Line, Behind, Read, Hole}
use Rattle.proof_prune.specs.Cutting.{passes}

-- ---- new numbers: for each fact, and for the next one, how many facts before it stay

abbrev pub new_number : List ℕ → ℕ → ℕ
new_number names f = min (slice_index_or names f 0) f

abbrev pub last_number : List ℕ → ℕ
last_number names = slice_index_or names (length names - 1) 0

-- for so many facts, those that are new not staying
abbrev pub fitted : ℕ → List ℕ → List ℕ
fitted n names = take (n + 1) names ++ replicate (n + 1 - length names) (last_number names)

-- with so many more facts, which stay
abbrev pub grown : ℕ → List ℕ → List ℕ
grown zero names = names
grown (suc a) names = grown a (names ++ (min (last_number names) (length names - 1) + 1) ∷ [])

-- the line with the new numbers of its facts
abbrev pub renumbered : List ℕ → Step → Step
renumbered names (Path k) = Path k
renumbered names (Def v i) = Def v i
renumbered names (Part f i) = Part (new_number names f) i
renumbered names (Cases f n) = Cases (new_number names f) n
renumbered names (Sum p f q h g) = Sum p (new_number names f) q (new_number names h) g
renumbered names (Split l) = Split l
renumbered names (Cube fs) = Cube (map (new_number names) fs)
renumbered names (Least v n) = Least v n
renumbered names (Learn ls) = Learn ls
renumbered names (False f) = False (new_number names f)

-- ---- one item after the other

abbrev pub line_written : List ℕ → Option Step → List Step
line_written names None = []
line_written names (Some l) = renumbered names l ∷ []

abbrev pub line_copied : Option Step → List Step
line_copied None = []
line_copied (Some l) = l ∷ []

abbrev pub names_behind : List ℕ → Option Step → List ℕ
names_behind names None = names
names_behind names (Some l) = grown (added l) names

-- of these lines, those of the item
abbrev pub item_lines : List Step → List ℕ → Item → List Step
item_lines ls names (Line i n) = line_written (fitted n names) (slice_get ls i)
item_lines ls names (Behind i) = line_copied (slice_get ls i)
item_lines ls names (Read f) = []
item_lines ls names (Hole n d) = []

abbrev pub item_names : List Step → List ℕ → Item → List ℕ
item_names ls names (Line i n) = names_behind (fitted n names) (slice_get ls i)
item_names ls names (Behind i) = names
item_names ls names (Read f) = names
item_names ls names (Hole n d) = fitted n names

-- those of all items but the first so many
abbrev pub written : List Step → List ℕ → ℕ → List Item → List Step
written ls names d [] = []
written ls names zero (e ∷ es) = item_lines ls names e ++ written ls (item_names ls names e) (passes e) es
written ls names (suc d) (e ∷ es) = written ls names d es
