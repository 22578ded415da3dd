-- Plans of games are plans for the words that ask for them.
use Rattle.std.proofs.Common.{◌≡◌, ℕ, map, List, [], ◌∷◌, length, Option, Some, None, Result, Ok, Err, inl, inr, refl, ap, sym, ◌∙◌, subst}
use Rattle.std.proofs.lemmas.List.{length-map}
use Rattle.lin_term.specs.declared.Sort.TheVariants.{Rat}
use Rattle.dom_rat.specs.declared.Rat.{Rat as Rationals}
use Rattle.dom_core.specs.declared.Quant.{Quant}
use Rattle.dom_core.specs.Game.{Problem, TrueP}
use Rattle.dom_core.specs.Problem.{WrittenProblem, problem_of, IsTrueProblem}
use Rattle.strat_text.specs.Spelling.{Spells}
use Rattle.ss_names.specs.declared.ScriptFault.{ScriptFault}
use Rattle.ss_shelf.specs.Outside.{Files, Counts, Tells}
use Rattle.script_games.specs.Told.{ReadCounted}
use Rattle.script_games.specs.Games.{Games, games}
use Rattle.script_games.specs.Given.{AsksFor}
use Rattle.team_work.specs.declared.Outcome.{Outcome}
use Rattle.team_work.specs.Outcome.{IsOutcome, IsRight}
use Rattle.solve_words.specs.Words.{Word, Names, solve, generate}
use Rattle.solve_texts.specs.declared.Solved.{Solved}
use Rattle.solve_texts.specs.declared.Solved.TheVariants as solved
use Rattle.solve_texts.specs.Texts.{lines, strategy_sections, strategy_text}
use Rattle.solve_texts.specs.Generated.{generated}
use Rattle.simsat.specs.declared.status.SolveStatus.TheVariants as status
use Rattle.simsat.specs.declared.plan.Plan.{Plan}
use Rattle.simsat.specs.declared.plan.Halt.{Halt}
use Rattle.simsat.specs.declared.plan.Halt.TheVariants as halt
use Rattle.simsat.specs.Answer.{Answer, AnswersGames, refused_answer, stores_by, solved_answer, generated_answer, IsGenerated}
use Rattle.simsat.specs.Run.{IsBegun}
use Rattle.simsat.specs.Plan.{answer_of, IsReady, ArePlayed, PlansSolved, PlansGames, PlansWords, stores_named}
use Rattle.simsat.proofs.Accepting.{first_solved, all_solved}

-- ---- games

prefixes_in : Games → List (List Quant)
prefixes_in g = map (λ (P : Problem). P.prefix) g.problems

stores_same : (strategy : Word) (journal : Option Word) (g : Games) (os : List Solved) → stores_named strategy journal (map (λ (P : Problem). P.prefix) g.problems) os ≡ stores_by strategy journal g os
stores_same strategy None g os = refl
stores_same strategy (Some j) g os = refl

pub plans_games : (names : Names) (g : Games) (qs : List (List Quant)) (os : List Solved) (r : Result Plan Halt) → qs ≡ map (λ (P : Problem). P.prefix) g.problems → ArePlayed names.rounds g.sort g.problems os →
    length os ≡ length g.problems → PlansSolved names qs os r → PlansGames names g r
plans_games names g qs os (Ok p) e h all (is, ready, spelled) =
    let q : p.outcomes.items ≡ os = ap (λ (a : Answer). a.outcomes) is in
    let stores : stores_named names.strategy names.journal qs os ≡ stores_by names.strategy names.journal g os =
    ap (λ (xs : List (List Quant)). stores_named names.strategy names.journal xs os) e ∙ stores_same names.strategy names.journal g os in
    let answer : answer_of p ≡ solved_answer names g os = is ∙ ap (λ (xs : List (Word × List ℕ)). let a : Answer = record { status = status.Done; text = lines os; outcomes = os; stores = xs } in a) stores in
    subst (λ (xs : List Solved). ArePlayed names.rounds g.sort g.problems xs × (length xs ≡ length g.problems) × Spells (strategy_text xs) (strategy_sections xs) × (answer_of p ≡ solved_answer names g xs) × IsReady p.status) (sym q)
    (h, all, spelled, answer, ready)
plans_games names g qs os (Err halt.Unread) e h all s = absurd s
plans_games names g qs os (Err (halt.Memory xs)) e h all s = subst (λ (ys : List Solved). ArePlayed names.rounds g.sort g.problems ys) (sym s) h

pub as_many : (g : Games) (qs : List (List Quant)) (os : List Solved) → qs ≡ map (λ (P : Problem). P.prefix) g.problems → length os ≡ length g.problems → length qs ≡ length os
as_many g qs os e all = ap length e ∙ length-map g.problems (λ (P : Problem). P.prefix) ∙ sym all

-- ---- words

pub script_planned : (told : Option Files) (names : Names) (script : List ℕ) (g : Games) (r : Result Plan Halt) → Tells told names.script script → AsksFor script g → PlansGames names g r → PlansWords told (Some (solve names)) r
script_planned told names script g (Ok p) there asks (h, all, spelled, answer, ready) =
    let os = p.outcomes.items in
    let games_are : AnswersGames names script (Ok g) (answer_of p) = (os, all_solved script g names.rounds os asks h all spelled, answer) in (
      (script, there, subst (λ q. AnswersGames names script q (answer_of p)) (sym asks.asked) games_are),
      ready,
    )
script_planned told names script g (Err halt.Unread) there asks h = absurd h
script_planned told names script g (Err (halt.Memory os)) there asks h = inr (inl (record { names = names; asked = refl; script = script; there = there; games = g; first = first_solved script g names.rounds os.items asks h }))

pub refused_planned : (told : Option Files) (names : Names) (script : List ℕ) (f : ScriptFault) (p : Plan) → Tells told names.script script → games script ≡ Err f → answer_of p ≡ refused_answer f → IsReady p.status →
    PlansWords told (Some (solve names)) (Ok p)
refused_planned told names script f p there e is ready = ((script, there, subst (λ q. AnswersGames names script q (answer_of p)) (sym e) is), ready)

-- a plan, or want of memory, is no fault of reading
pub never_unread : (names : Names) (g : Games) (r : Result Plan Halt) → PlansGames names g r → r ≡ Err halt.Unread → ⊥
never_unread names g (Ok p) h e = absurd (cc)
never_unread names g (Err halt.Unread) h e = h
never_unread names g (Err (halt.Memory os)) h e = absurd (cc)

pub counted_so : (watched watched' : List ℕ → Type 0) (before now : Counts) (failed failed' : Type 0) → ((n : List ℕ) → watched n → watched' n) → ((n : List ℕ) → watched' n → watched n) → (failed' → failed) → (failed → failed') →
    ReadCounted watched before now failed → ReadCounted watched' before now failed'
counted_so watched watched' before now failed failed' to from back forth c = record {
  rose = λ f. let r = c.rose (back f) in (r.0, to r.0 r.1, r.2);
  kept = λ n. c.kept (λ f. n (forth f));
  others = λ kind name not. c.others kind name (λ k w. not k (to name w));
}

-- ---- the generated problem

pub is_generated : (n B : ℕ) (P : WrittenProblem) (o : Outcome Rationals) → problem_of P ≡ generated n → IsOutcome Rat (problem_of P) B o → IsRight (IsTrueProblem Rat P) o.verdict → IsGenerated n B o
is_generated n B P o e h r = (subst (λ (Q : Problem). IsOutcome Rat Q B o) e h, subst (λ (Q : Problem). IsRight (TrueP Rat Q) o.verdict) e r)

pub generated_planned : (told : Option Files) (n B : ℕ) (o : Outcome Rationals) (p : Plan) → IsGenerated n B o → answer_of p ≡ generated_answer n o → IsReady p.status → PlansWords told (Some (generate n B)) (Ok p)
generated_planned told n B o p h e ready = ((o, h, e), ready)

pub generated_halted : (told : Option Files) (n B : ℕ) (o : Outcome Rationals) (os : List Solved) → IsGenerated n B o → os ≡ solved.Rat o ∷ [] → IsBegun told (Some (generate n B)) os
generated_halted told n B o os h e = inr (inr (record { size = n; rounds = B; asked = refl; outcome = o; right = h; alone = e }))

pub never_generated : (told : Option Files) (n B : ℕ) (r : Result Plan Halt) → PlansWords told (Some (generate n B)) r → r ≡ Err halt.Unread → ⊥
never_generated told n B r h e = let u : PlansWords told (Some (generate n B)) (Err halt.Unread) = subst (λ (q : Result Plan Halt). PlansWords told (Some (generate n B)) q) e h in never (u.0) u.1
  where
    never : (names : Names) → Some (generate n B) ≡ Some (solve names) → ⊥
    never names q = absurd (cc)

pub nothing_counted : (watched : List ℕ → Type 0) (counts : Counts) (failed : Type 0) → (failed → ⊥) → ReadCounted watched counts counts failed
nothing_counted watched counts failed h = record { rose = λ f. absurd (h f); kept = λ n. refl; others = λ kind name not. refl }
