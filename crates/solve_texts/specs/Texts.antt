-- What is printed of outcomes, and what the strategy file holds of them.
use Rattle.std.specs.Prelude.{ℕ, List, ◌++◌, map, codes}
use Rattle.std.specs.List.{flat_map}
use Rattle.dom_core.specs.declared.Side.{Side}
use Rattle.dom_core.specs.declared.Side.TheVariants.{Exists, Forall}
use Rattle.strat_words.specs.Spelled.{natural, signed}
use Rattle.strat_text.specs.declared.Section.{Section}
use Rattle.strat_text.specs.declared.Section.TheVariants.{Unknown}
use Rattle.strat_text.specs.Sections.{Sections}
use Rattle.strat_text.specs.Written.{spelling}
use Rattle.strat_text.specs.TreeText.{text_line}
use Rattle.strat_section.specs.Claim.{claim_of}
use Rattle.game_board.specs.declared.Why.{Why}
use Rattle.game_board.specs.declared.Why.TheVariants as why
use Rattle.game_board.specs.Entries.{wideness_of, number_of}
use Rattle.team_work.specs.declared.Verdict.{Verdict}
use Rattle.team_work.specs.declared.Verdict.TheVariants as verdict
use Rattle.solve_texts.specs.declared.solved.Solved.{Solved}
use Rattle.solve_texts.specs.declared.solved.Solved.TheVariants as solved

-- ---- printed

-- with a space before it
abbrev pub side_word : Side → List ℕ
side_word Exists = codes " exists"
side_word Forall = codes " forall"

-- why there is no verdict: a note with its side, version and number, the rounds of the budget, or the nodes of a union
abbrev pub cause : {D : Type 0} → Why D → List ℕ
cause {D} (why.Coefficient n) = codes "; coefficient" ++ (side_word n.side ++ (natural n.version ++ signed (number_of (wideness_of n.why))))
cause {D} (why.Rounds n) = codes "; rounds" ++ natural n
cause {D} (why.Nodes n) = codes "; nodes" ++ natural n

abbrev pub verdict_lines : {D : Type 0} → Verdict D → List ℕ
verdict_lines {D} (verdict.Sat w) = text_line (codes "sat")
verdict_lines {D} (verdict.Unsat w) = text_line (codes "unsat")
verdict_lines {D} (verdict.Unknown y) = text_line (codes "unknown") ++ text_line (cause y)

abbrev pub goal_lines : Solved → List ℕ
goal_lines (solved.Rat o) = verdict_lines o.verdict
goal_lines (solved.Int o) = verdict_lines o.verdict

-- the lines of all goals
abbrev pub lines : List Solved → List ℕ
lines os = flat_map goal_lines os

-- ---- the strategy file

-- the section that claims the verdict
abbrev pub verdict_section : {D : Type 0} → Verdict D → Section
verdict_section {D} (verdict.Sat w) = claim_of Exists w
verdict_section {D} (verdict.Unsat w) = claim_of Forall w
verdict_section {D} (verdict.Unknown y) = Unknown

abbrev pub goal_section : Solved → Section
goal_section (solved.Rat o) = verdict_section o.verdict
goal_section (solved.Int o) = verdict_section o.verdict

-- a section for each goal, in a file of version 2
abbrev pub strategy_sections : List Solved → Sections
strategy_sections os = record { version = 2; list = map goal_section os }

abbrev pub strategy_text : List Solved → List ℕ
strategy_text os = spelling (strategy_sections os)
