-- When a file is accepted for a goal of a script: acceptance whole, said of the bytes of both.
use Rattle.std.specs.Prelude.{ℕ, ◌≡◌, List, length, slice_get, Some, Ok}
use Rattle.dom_core.specs.declared.Side.{Side}
use Rattle.dom_core.specs.Game.{Problem}
use Rattle.strat_text.specs.declared.Section.{Section}
use Rattle.strat_text.specs.Sections.{Sections}
use Rattle.strat_text.specs.File.{reading}
use Rattle.strat_text.specs.Spelling.{Spells}
use Rattle.strat_check.specs.Accepted.{Accepts as SectionAccepts}
use Rattle.script_games.specs.Games.{Games, games}

-- The file accepts goal k of the script, from 0, for this side: the script has games, the file spells a section for each of them, and
-- section k claims this side of game k and proves its claim.
pub record Accepts (script file : List ℕ) (k : ℕ) (side : Side) : Type 0 where
  pub asked : Games
  pub script_asks : games script ≡ Ok asked
  pub sections : Sections
  pub file_spells : Spells file sections
  pub one_each : length asked.problems ≡ length sections.list
  pub problem : Problem
  pub its_game : slice_get asked.problems k ≡ Some problem
  pub claim : Section
  pub its_section : slice_get sections.list k ≡ Some claim
  pub proved : SectionAccepts asked.sort problem side claim

-- what is read of a file is spelled by it
abbrev pub IsReadAsSpelled : List ℕ → Type 0
IsReadAsSpelled file = (sections : Sections) → reading file ≡ Ok sections → Spells file sections
