-- The note on a version, in a history.
use Rattle.std.specs.Prelude.{ℕ, ◌≡◌, Some, None, Option, List}
use Rattle.dom_core.specs.declared.Side.{Side}
use Rattle.dom_core.specs.declared.Side.TheVariants.{Exists, Forall}
use Rattle.game_tree.specs.Among.{IsAmong}
use Rattle.proof_rules.specs.Won.{WonGame}
use Rattle.game_history.specs.History.{Wideness, Entry, noted}
use Rattle.game_board.specs.declared.WideNote.{WideNote}
use Rattle.game_board.specs.Entries.{wideness_of}
use Rattle.team_work.specs.declared.outcome.Verdict.{Verdict}
use Rattle.team_work.specs.declared.outcome.Verdict.TheVariants as verdict

-- the entry is a note on the side's version, and this one; or it is none
abbrev pub ReadsNote : {D : Type 0} → Entry → Side → ℕ → Option (WideNote D) → Type 0
ReadsNote {D} e side v None = (y : Wideness) → ¬ (e ≡ noted side v y)
ReadsNote {D} e side v (Some n) = (n.side ≡ side) × (n.version ≡ v) × (e ≡ noted side v (wideness_of n.why))

-- an entry is a note on the side's version, and this one; or none is
abbrev pub FindsNote : {D : Type 0} → List Entry → Side → ℕ → Option (WideNote D) → Type 0
FindsNote {D} H side v None = (y : Wideness) → ¬ IsAmong (noted side v y) H
FindsNote {D} H side v (Some n) = (n.side ≡ side) × (n.version ≡ v) × IsAmong (noted side v (wideness_of n.why)) H

-- the verdict that a side has won
abbrev pub verdict_of : {D : Type 0} → Side → WonGame → Verdict D
verdict_of {D} Exists w = verdict.Sat w
verdict_of {D} Forall w = verdict.Unsat w
