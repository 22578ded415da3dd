-- What is printed of a file for the games of a script.
use Rattle.std.specs.Prelude.{ℕ, ◌++◌, ◌||◌, Bool, true, false, if◌then◌else◌, List, [], ◌∷◌, length, Result, Ok, Err, codes, decimal, nat_eq}
use Rattle.ss_names.specs.declared.ScriptFault.{ScriptFault}
use Rattle.lin_term.specs.declared.Sort.{Sort}
use Rattle.dom_core.specs.declared.Side.TheVariants.{Exists, Forall}
use Rattle.dom_core.specs.Game.{Problem}
use Rattle.cube_rules.specs.Name.{printed}
use Rattle.strat_words.specs.Spot.{Place}
use Rattle.strat_text.specs.declared.Section.{Section}
use Rattle.strat_text.specs.Sections.{Sections}
use Rattle.strat_text.specs.File.{reading}
use Rattle.strat_check.specs.declared.Checked.{Checked}
use Rattle.strat_check.specs.declared.Checked.TheVariants.{Accepted, Unclaimed, Rejected}
use Rattle.strat_check.specs.Section.{verdict}
use Rattle.script_games.specs.Games.{Games}
use Rattle.script_games.specs.Refusal.{refusal_text}
use Rattle.simcheck.specs.declared.status.CheckStatus.{CheckStatus}
use Rattle.simcheck.specs.declared.status.CheckStatus.TheVariants as status

-- how a run ends, and what it prints
pub record Answer : Type 0 where
  pub status : CheckStatus
  pub text : List ℕ

abbrev pub usage : Answer
usage = record { status = status.Usage; text = codes "usage: simcheck SCRIPT FILE\n" }

abbrev pub refusal : ScriptFault → Answer
refusal fault = record { status = status.Refused; text = refusal_text fault }

-- the line of one goal
abbrev pub verdict_text : Checked → List ℕ
verdict_text (Accepted Exists) = codes "accepted sat\n"
verdict_text (Accepted Forall) = codes "accepted unsat\n"
verdict_text Unclaimed = codes "unclaimed\n"
verdict_text (Rejected line rule) = codes "rejected " ++ (decimal line ++ (codes " " ++ (printed rule ++ codes "\n")))

abbrev pub is_rejected : Checked → Bool
is_rejected (Accepted side) = false
is_rejected Unclaimed = false
is_rejected (Rejected line rule) = true

-- one line for each problem and its section
unfoldable pub lines : Sort → List Problem → List Section → List ℕ
lines s [] xs = []
lines s (P ∷ Ps) [] = []
lines s (P ∷ Ps) (x ∷ xs) = verdict_text (verdict s P x) ++ lines s Ps xs

unfoldable pub any_rejected : Sort → List Problem → List Section → Bool
any_rejected s [] xs = false
any_rejected s (P ∷ Ps) [] = false
any_rejected s (P ∷ Ps) (x ∷ xs) = is_rejected (verdict s P x) || any_rejected s Ps xs

abbrev pub status_of : Bool → CheckStatus
status_of true = status.Rejected
status_of false = status.Accepted

abbrev pub checked : Games → List Section → Answer
checked g xs =
    if nat_eq (length g.problems) (length xs)
    then record { status = status_of (any_rejected g.sort g.problems xs); text = lines g.sort g.problems xs }
    else record { status = status.Rejected; text = codes "rejected 2 goals\n" }

abbrev pub judged_of : Games → Result Sections Place → Answer
judged_of g (Err place) = record { status = status.Rejected; text = codes "rejected " ++ (decimal place.line ++ codes " form\n") }
judged_of g (Ok xs) = checked g xs.list

-- the answer where the script asks for these games and the file has these bytes
unfoldable pub printed_for : Games → List ℕ → Answer
printed_for g file = judged_of g (reading file)
