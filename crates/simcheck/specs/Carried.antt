-- What is carried to the answer: what each section is worth for its problem, and how a file is read.
use Rattle.std.specs.Prelude.{ℕ, ◌≡◌, List, [], ◌∷◌, Ok, ⊤}
use Rattle.lin_term.specs.declared.Sort.{Sort}
use Rattle.dom_core.specs.declared.Side.{Side}
use Rattle.dom_core.specs.declared.Side.TheVariants.{Exists, Forall}
use Rattle.dom_core.specs.Game.{Problem, TrueP}
use Rattle.strat_text.specs.declared.Section.{Section}
use Rattle.strat_text.specs.Sections.{Sections}
use Rattle.strat_text.specs.File.{reading}
use Rattle.strat_text.specs.Spelling.{Spells, without_lines}
use Rattle.strat_check.specs.declared.Checked.{Checked}
use Rattle.strat_check.specs.declared.Checked.TheVariants.{Accepted, Unclaimed, Rejected}
use Rattle.strat_check.specs.Section.{verdict}
use Rattle.strat_check.specs.Accepted.{Accepts}

-- what a verdict says of the problem
abbrev pub Wins : Sort → Problem → Section → Checked → Type 0
Wins s P x (Accepted Exists) = Accepts s P Exists x × TrueP s P
Wins s P x (Accepted Forall) = Accepts s P Forall x × (¬ TrueP s P)
Wins s P x Unclaimed = (owner : Side) → ¬ Accepts s P owner x
Wins s P x (Rejected line rule) = (owner : Side) → ¬ Accepts s P owner x

abbrev pub EachWins : Sort → List Problem → List Section → Type 0
EachWins s [] xs = ⊤
EachWins s (P ∷ Ps) [] = ⊤
EachWins s (P ∷ Ps) (x ∷ xs) = Wins s P x (verdict s P x) × EachWins s Ps xs

-- what is spelled is read, but for where sections stood
abbrev pub ReadsSpelled : List ℕ → Type 0
ReadsSpelled file = (spelled : Sections) → Spells file spelled → (xs : Sections) × (reading file ≡ Ok xs) × (without_lines xs ≡ without_lines spelled)
