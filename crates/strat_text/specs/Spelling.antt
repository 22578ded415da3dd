-- Which lists of sections can be written, and what spells them.
use Rattle.std.specs.Prelude.{◌≡◌, ◌≢◌, ⊤, ℕ, zero, suc, ◌+◌, ◌≤◌, Bool, true, false, List, [], ◌∷◌, ◌++◌, length, map}
use Rattle.std.specs.List.{AllByRecursion}
use Rattle.lin_term.specs.Form.{cap}
use Rattle.lin_term.specs.Linear.{Below}
use Rattle.lin_term.specs.Move.{Move, IsMove}
use Rattle.cube_rules.specs.declared.step.Step.{Step}
use Rattle.cube_rules.specs.Limits.{IsCount, IsStep}
use Rattle.cube_rules.specs.Lines.{parts}
use Rattle.game_tree.specs.declared.tree.Tree.{Tree}
use Rattle.game_tree.specs.declared.tree.Tree.TheVariants as trees
use Rattle.game_tree.specs.declared.tree.Branch.{Branch}
use Rattle.strat_text.specs.Sections.{Sections, IsVersioned}
use Rattle.strat_text.specs.Written.{spelling}
use Rattle.strat_text.specs.declared.section.Section.{Section}
use Rattle.strat_text.specs.declared.section.Section.TheVariants.{Claimed, Unknown}

-- so many proofs in preorder, one after the other: a line stands for itself and for the proofs that follow it
abbrev pub AreProofs : ℕ → List Step → Type 0
AreProofs zero [] = ⊤
AreProofs zero (x ∷ xs) = ⊥
AreProofs (suc others) [] = ⊥
AreProofs (suc others) (x ∷ xs) = IsStep x × AreProofs (others + parts x) xs

abbrev pub IsProof : List Step → Type 0
IsProof xs = AreProofs 1 xs × (length xs ≤ cap)

-- a move over the variables before its position
abbrev pub IsMoveLine : ℕ → Move → Type 0
IsMoveLine position m = IsMove m × Below position m.numer

-- no two of them are the same, nor one of those before
abbrev pub Differ : List Move → List Branch → Type 0
Differ before [] = ⊤
Differ before (b ∷ bs) = AllByRecursion (λ m. m ≢ b.term) before × Differ (before ++ b.term ∷ []) bs

-- the tree follows the turns from a position on
abbrev pub FollowsTurns : List Bool → ℕ → Tree → Type 0
FollowsTurns [] position t = t ≡ trees.End
FollowsTurns (false ∷ ts) position t = (below : Tree) × (t ≡ trees.Theirs below) × FollowsTurns ts (position + 1) below
FollowsTurns (true ∷ ts) position t = (bs : List Branch) × (t ≡ trees.Mine bs) × IsCount 1 (length bs) × Differ [] bs × AllByRecursion (λ b. IsMoveLine position b.term × FollowsTurns ts (position + 1) b.rest) bs

abbrev pub IsSection : Section → Type 0
IsSection (Claimed side ts t p line) = (length ts ≤ 1024) × FollowsTurns ts 0 t × IsProof p
IsSection Unknown = ⊤

abbrev pub AreSections : List Section → Type 0
AreSections xs = (length xs ≤ cap) × AllByRecursion IsSection xs

-- The bytes spell the sections.
abbrev pub Spells : List ℕ → Sections → Type 0
Spells bytes xs = IsVersioned xs × AreSections xs.list × (bytes ≡ spelling xs)

-- The field `line` says where a section stood. It is no part of what is spelled.
abbrev pub without_line : Section → Section
without_line (Claimed side ts t p line) = Claimed side ts t p 0
without_line Unknown = Unknown

abbrev pub without_lines : Sections → Sections
without_lines xs = record { version = xs.version; list = map without_line xs.list }

-- where a section stood; 0 for one that claims nothing
abbrev pub line_of : Section → ℕ
line_of (Claimed side ts t p line) = line
line_of Unknown = 0
