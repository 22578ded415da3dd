-- The words of the rules.
use Rattle.std.specs.Prelude.{ℕ, List, [], ◌∷◌, codes, Option, Some, None, if◌then◌else◌}
use Rattle.std.specs.Str.{bytes_eq}
use Rattle.cube_rules.specs.declared.kind.Kind.{Kind}
use Rattle.cube_rules.specs.declared.kind.Kind.TheVariants.{Path, Def, Part, Cases, Sum, Split, Cube, Least, Learn, False}
use Rattle.cube_rules.specs.declared.rule.Rule.{Rule}
use Rattle.cube_rules.specs.declared.rule.Rule.TheVariants.{Form, Goals, Turns, Move, Line}

-- the word with which a line begins
abbrev pub word_of : Kind → List ℕ
word_of Path = codes "path"
word_of Def = codes "def"
word_of Part = codes "part"
word_of Cases = codes "cases"
word_of Sum = codes "sum"
word_of Split = codes "split"
word_of Cube = codes "cube"
word_of Least = codes "least"
word_of Learn = codes "learn"
word_of False = codes "false"

-- every kind
abbrev pub kinds : List Kind
kinds = Path ∷ Def ∷ Part ∷ Cases ∷ Sum ∷ Split ∷ Cube ∷ Least ∷ Learn ∷ False ∷ []

abbrev pub first_named : List ℕ → List Kind → Option Kind
first_named w [] = None
first_named w (k ∷ ks) = if bytes_eq w (word_of k) then Some k else first_named w ks

-- the kind with that word
abbrev pub kind_named : List ℕ → Option Kind
kind_named w = first_named w kinds

-- the word that is printed of a broken rule
abbrev pub printed : Rule → List ℕ
printed Form = codes "form"
printed Goals = codes "goals"
printed Turns = codes "turns"
printed Move = codes "move"
printed (Line k) = word_of k
