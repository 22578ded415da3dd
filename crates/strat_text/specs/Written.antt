-- How forms, literals, proof lines, trees and sections are written.
use Rattle.std.specs.Prelude.{ℕ, ◌+◌, Bool, true, false, List, [], ◌∷◌, ◌++◌, length, map, codes, ℤ}
use Rattle.std.specs.List.{flat_map, concat}
use Rattle.lin_term.specs.Form.{Form}
use Rattle.lin_term.specs.Move.{Move}
use Rattle.lin_term.specs.declared.lit.Lit.{Lit}
use Rattle.lin_term.specs.declared.lit.Lit.TheVariants.{AtLeast, Above, Divides, NotDivides}
use Rattle.cube_rules.specs.declared.step.Step.{Step}
use Rattle.cube_rules.specs.declared.step.Step.TheVariants.{Path, Def, Part, Cases, Sum, Split, Cube, Least, Learn, False}
use Rattle.cube_rules.specs.Lines.{kind_of}
use Rattle.cube_rules.specs.Name.{word_of}
use Rattle.game_tree.specs.declared.tree.Tree.{Tree, fold-Tree}
use Rattle.game_tree.specs.declared.tree.Branch.{Branch, fold-Branch}
use Rattle.game_tree.specs.declared.tree.Tree.TheOpen.{Tree-F, Branch-F}
use Rattle.dom_core.specs.declared.Side.{Side}
use Rattle.dom_core.specs.declared.Side.TheVariants.{Exists, Forall}
pub use Rattle.strat_words.specs.Spelled.{natural, signed}
use Rattle.strat_text.specs.Sections.{Sections}
use Rattle.strat_text.specs.declared.section.Section.{Section}
use Rattle.strat_text.specs.declared.section.Section.TheVariants.{Claimed, Unknown}

-- ---- lines of a proof

abbrev pub term : ℕ × ℤ → List ℕ
term t = signed t.1 ++ natural t.0

abbrev pub row : Form → List ℕ
row r = signed r.constant ++ flat_map term r.terms

abbrev pub literal : Lit → List ℕ
literal (AtLeast r) = codes " >=" ++ row r
literal (Above r) = codes " >" ++ row r
literal (Divides d r) = codes " |" ++ (natural d ++ row r)
literal (NotDivides d r) = codes " !|" ++ (natural d ++ row r)

abbrev pub arguments : Step → List ℕ
arguments (Path k) = natural k
arguments (Def v i) = natural v ++ natural i
arguments (Part f i) = natural f ++ natural i
arguments (Cases f n) = natural f ++ natural n
arguments (Sum p f q h g) = signed p ++ (natural f ++ (signed q ++ (natural h ++ signed g)))
arguments (Split l) = literal l
arguments (Cube fs) = flat_map natural fs
arguments (Least v n) = natural v ++ natural n
arguments (Learn ls) = flat_map literal ls
arguments (False f) = natural f

abbrev pub step : Step → List ℕ
step x = word_of (kind_of x) ++ (arguments x ++ 10 ∷ [])

abbrev pub proof : List Step → List ℕ
proof xs = codes "proof" ++ (natural (length xs) ++ (10 ∷ flat_map step xs))

-- ---- trees

abbrev pub move_words : Move → List ℕ
move_words m = codes "m" ++ (natural m.div ++ row m.numer)

-- one level, with each part already spelled
abbrev pub tree_step : Tree-F (List ℕ) (List ℕ) → List ℕ
tree_step Tree-F.End = []
tree_step (Tree-F.Theirs below) = codes "t" ++ (10 ∷ below)
tree_step (Tree-F.Mine parts) = codes "o" ++ (natural (length parts) ++ (10 ∷ concat parts))

abbrev pub branch_step : Branch-F (List ℕ) (List ℕ) → List ℕ
branch_step b = move_words b.term ++ (10 ∷ b.rest)

abbrev pub tree : Tree → List ℕ
tree = fold-Tree (List ℕ) (List ℕ) tree_step branch_step

abbrev pub branch : Branch → List ℕ
branch = fold-Branch (List ℕ) (List ℕ) tree_step branch_step

-- ---- sections

abbrev pub letter : Bool → ℕ
letter true = 111
letter false = 116

abbrev pub turns_word : List Bool → List ℕ
turns_word [] = codes "-"
turns_word (t ∷ ts) = map letter (t ∷ ts)

abbrev pub verdict : Side → List ℕ
verdict Exists = codes " sat"
verdict Forall = codes " unsat"

abbrev pub claims : Section → List ℕ
claims (Claimed side ts t p line) = verdict side ++ (10 ∷ (codes "turns " ++ (turns_word ts ++ (10 ∷ (tree t ++ proof p)))))
claims Unknown = codes " unknown" ++ 10 ∷ []

abbrev pub section : ℕ → Section → List ℕ
section number x = codes "goal" ++ (natural number ++ claims x)

abbrev pub sections_from : ℕ → List Section → List ℕ
sections_from number [] = []
sections_from number (x ∷ xs) = section number x ++ sections_from (number + 1) xs

abbrev pub spelling : Sections → List ℕ
spelling xs = codes "simsat-strategy" ++ (natural xs.version ++ (10 ∷ (codes "goals" ++ (natural (length xs.list) ++ (10 ∷ (sections_from 0 xs.list ++ (codes "end" ++ 10 ∷ [])))))))
