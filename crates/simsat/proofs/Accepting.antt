-- Outcomes of the problems are outcomes of the goals, and what spells their sections is accepted.
use Rattle.std.proofs.Common.{◌≡◌, ℕ, map, List, length, Some, Ok, refl, ap, sym, ◌∙◌, subst}
use Rattle.std.specs.Prelude.{slice_get}
use Rattle.std.specs.Option.{option_map}
use Rattle.std.proofs.lemmas.Option.{slice_get-map}
use Rattle.std.proofs.lemmas.List.{length-map}
use Rattle.lin_term.specs.declared.Sort.{Sort}
use Rattle.lin_term.specs.declared.Sort.TheVariants.{Rat, Int}
use Rattle.dom_core.specs.declared.Side.{Side}
use Rattle.dom_core.specs.declared.Side.TheVariants.{Exists, Forall}
use Rattle.dom_core.specs.Game.{Problem, TrueP}
use Rattle.lin_truth.specs.Truth.{Same}
use Rattle.proof_rules.specs.Won.{WonGame}
use Rattle.strat_text.specs.Spelling.{Spells}
use Rattle.strat_check.specs.Section.{turns_of}
use Rattle.strat_check.specs.Accepted.{Accepts as SectionAccepts}
use Rattle.strat_section.specs.Claim.{claim_of}
use Rattle.strat_section.proofs.Written.{is_borne_out}
use Rattle.script_games.specs.Games.{Games, games}
use Rattle.script_games.specs.Given.{AsksFor}
use Rattle.script_games.specs.Headline.{IsTrue}
use Rattle.script_games.specs.Acceptance.{Accepts}
use Rattle.game_history.specs.History.{Entry}
use Rattle.team_work.specs.declared.Verdict.{Verdict}
use Rattle.team_work.specs.declared.Verdict.TheVariants as verdict
use Rattle.team_work.specs.Outcome.{IsRight, IsWonBy, Says}
use Rattle.solve_texts.specs.declared.Solved.{Solved}
use Rattle.solve_texts.specs.declared.Solved.TheVariants as solved
use Rattle.solve_texts.specs.Texts.{verdict_section, goal_section, strategy_sections, strategy_text}
use Rattle.simsat.specs.Solved.{IsSolved, IsSolvedAt, AcceptsVerdict, AcceptsSolved, FirstSolved, AllSolved}
use Rattle.simsat.specs.Plan.{ArePlayed}
use Rattle.simsat.proofs.Outcomes.{played_at}

-- ---- the truth of a goal in place of that of its problem

right_for : {D : Type 0} (A B : Type 0) → Same A B → (v : Verdict D) → IsRight B v → IsRight A v
right_for {D} A B same (verdict.Sat w) h = same.1 h
right_for {D} A B same (verdict.Unsat w) h = λ a. h (same.0 a)
right_for {D} A B same (verdict.Unknown y) h = tt

solved_for : (B : ℕ) (s : Sort) (P : Problem) (X Y : Type 0) → Same X Y → (o : Solved) → IsSolved B s P Y o → IsSolved B s P X o
solved_for B s P X Y same (solved.Rat o) h = (h.0, h.1, right_for X Y same o.verdict h.2)
solved_for B s P X Y same (solved.Int o) h = (h.0, h.1, right_for X Y same o.verdict h.2)

pub solved_at : (script : List ℕ) (g : Games) (B : ℕ) (os : List Solved) → AsksFor script g → ArePlayed B g.sort g.problems os → (k : ℕ) (o : Solved) → slice_get os k ≡ Some o → IsSolvedAt script g B k o
solved_at script g B os asks h k o e =
    let p = played_at B g.sort g.problems os h k o e in
    let a = asks.same k p.0 p.1 in record {
      problem = p.0;
      its_problem = p.1;
      goal = a.0;
      its_goal = a.1;
      solved = solved_for B g.sort p.0 (IsTrue a.0) (TrueP g.sort p.0) a.2 o p.2;
    }

-- ---- acceptance

section_there : (os : List Solved) (k : ℕ) (o : Solved) → slice_get os k ≡ Some o → slice_get (map goal_section os) k ≡ Some (goal_section o)
section_there os k o e = slice_get-map goal_section os k ∙ ap (option_map goal_section) e

-- the section of a won game
accepts_claim : (script file : List ℕ) (g : Games) (os : List Solved) (k : ℕ) (side : Side) (s : Sort) (P : Problem) (H : List Entry) (w : WonGame) → games script ≡ Ok g → Spells file (strategy_sections os) →
    length os ≡ length g.problems → slice_get g.problems k ≡ Some P → g.sort ≡ s → slice_get (map goal_section os) k ≡ Some (claim_of side w) → IsWonBy s P H side w → Accepts script file k side
accepts_claim script file g os k side s P H w asked spelled all there sort section won = record {
  asked = g;
  script_asks = asked;
  sections = strategy_sections os;
  file_spells = spelled;
  one_each = sym all ∙ sym (length-map os goal_section);
  problem = P;
  its_game = there;
  claim = claim_of side w;
  its_section = section;
  proved = subst (λ (t : Sort). SectionAccepts t P side (claim_of side w)) (sym sort) (is_borne_out s side w (turns_of w.problem.prefix) w.tree w.proof refl refl refl won.is_won P (sym won.problem));
}

accepts_verdict : {D : Type 0} (script file : List ℕ) (g : Games) (os : List Solved) (k B : ℕ) (s : Sort) (P : Problem) (H : List Entry) (v : Verdict D) → games script ≡ Ok g → Spells file (strategy_sections os) →
    length os ≡ length g.problems → slice_get g.problems k ≡ Some P → g.sort ≡ s → slice_get (map goal_section os) k ≡ Some (verdict_section v) → Says s P B H v → AcceptsVerdict script file k v
accepts_verdict {D} script file g os k B s P H (verdict.Sat w) asked spelled all there sort section won = accepts_claim script file g os k Exists s P H w asked spelled all there sort section won
accepts_verdict {D} script file g os k B s P H (verdict.Unsat w) asked spelled all there sort section won = accepts_claim script file g os k Forall s P H w asked spelled all there sort section won
accepts_verdict {D} script file g os k B s P H (verdict.Unknown y) asked spelled all there sort section won = tt

accepts_solved : (script file : List ℕ) (g : Games) (os : List Solved) (k B : ℕ) (P : Problem) (Truth : Type 0) (o : Solved) → games script ≡ Ok g → Spells file (strategy_sections os) → length os ≡ length g.problems →
    slice_get g.problems k ≡ Some P → slice_get os k ≡ Some o → IsSolved B g.sort P Truth o → AcceptsSolved script file k o
accepts_solved script file g os k B P Truth (solved.Rat o) asked spelled all there e h =
    accepts_verdict script file g os k B Rat P _ o.verdict asked spelled all there h.0 (section_there os k (solved.Rat o) e) h.1.says
accepts_solved script file g os k B P Truth (solved.Int o) asked spelled all there e h =
    accepts_verdict script file g os k B Int P _ o.verdict asked spelled all there h.0 (section_there os k (solved.Int o) e) h.1.says

pub first_solved : (script : List ℕ) (g : Games) (B : ℕ) (os : List Solved) → AsksFor script g → ArePlayed B g.sort g.problems os → FirstSolved script g B os
first_solved script g B os asks h = record {
  asked = asks.asked;
  each = solved_at script g B os asks h;
  accepted = λ all file spelled k o e. let p = played_at B g.sort g.problems os h k o e in accepts_solved script file g os k B p.0 (TrueP g.sort p.0) o asks.asked spelled all p.1 e p.2;
}

pub all_solved : (script : List ℕ) (g : Games) (B : ℕ) (os : List Solved) → AsksFor script g → ArePlayed B g.sort g.problems os → length os ≡ length g.problems → Spells (strategy_text os) (strategy_sections os) →
    AllSolved script g B os
all_solved script g B os asks h all spelled = record { first = first_solved script g B os asks h; all = all; spelled = spelled }
