-- From goal to goal: problems, faults, and their truth.
use Rattle.std.proofs.Common.{◌≡◌, ℕ, zero, suc, List, [], ◌∷◌, ◌++◌, map, Result, Ok, Err, Some, refl, ap, sym, ◌∙◌, subst, append_assoc, append-nil}
use Rattle.std.specs.Prelude.{IfOk, slice_get}
use Rattle.lin_term.specs.declared.Sort.{Sort}
use Rattle.lin_term.specs.declared.Sort.TheVariants as sorts
use Rattle.ss_names.specs.declared.FaultKind.{FaultKind}
use Rattle.ss_names.specs.declared.ScriptFault.{ScriptFault}
use Rattle.ss_names.specs.declared.ScriptFault.TheVariants.{Bad, Memory}
use Rattle.smt_lex.specs.Place.{Place, place}
use Rattle.dom_core.specs.Game.{Problem, TrueP}
use Rattle.dom_core.specs.Problem.{WrittenProblem, problem_of}
use Rattle.lin_truth.specs.Truth.{Same}
use Rattle.lin_truth.specs.Goal.{Goal}
use Rattle.smt_term.specs.Reading.{Read, ◌>>=◌}
use Rattle.smt_goal.specs.Command.{Asked}
use Rattle.smt_goal.specs.Script.{Questions, read}
use Rattle.smt_goal.specs.Answer.{asked_by, Answers}
use Rattle.prenex_form.specs.Whole.{FormResult, a_problem, too_large, too_many_variables, number_past_cap}
use Rattle.prenex_form.specs.Outcome.{form, kind_of}
use Rattle.script_games.specs.Games.{games, games_asked, games_of, game_of, at_check_sat}
use Rattle.script_games.specs.Carried.{questions_in, IsGameOf, AreGamesOf}
use Rattle.script_games.specs.Headline.{asked_at, IsTrue}
use Rattle.script_games.specs.declared.given.ScriptGames.{ScriptGames}
use Rattle.script_games.specs.declared.given.ScriptGames.TheVariants as given
use Rattle.script_games.specs.Given.{games_of_given, AsksFor, AreGiven, GivesGames}

-- ---- problems, goal by goal

pub games_step : (s : Sort) (all rest : List Goal) (g : Goal) (items : List WrittenProblem) (P : WrittenProblem) → IsGameOf s g P →
    ((Ps : List WrittenProblem) → AreGamesOf s (g ∷ rest) Ps → AreGamesOf s all (items ++ Ps)) →
    (Ps : List WrittenProblem) → AreGamesOf s rest Ps → AreGamesOf s all ((items ++ P ∷ []) ++ Ps)
games_step s all rest g items P is keep Ps h = subst (AreGamesOf s all) (sym (append_assoc items (P ∷ []) Ps)) (keep (P ∷ Ps) (is, h))

pub games_end : (s : Sort) (all : List Goal) (items : List WrittenProblem) →
    ((Ps : List WrittenProblem) → AreGamesOf s [] Ps → AreGamesOf s all (items ++ Ps)) → AreGamesOf s all items
games_end s all items keep = subst (AreGamesOf s all) (append-nil items) (keep [] tt)

at_problem : (p : Place) (r : FormResult) (P : Problem) → r ≡ a_problem P → at_check_sat p r ≡ Ok P
at_problem p r P e = ap (at_check_sat p) e

game_is : (s : Sort) (g : Goal) (P : WrittenProblem) → IsGameOf s g P → game_of (asked_by g) ≡ Ok (problem_of P)
game_is s g P is = at_problem (place g.line g.column) (form g) (problem_of P) is.1

pub fault_step : (s : Sort) (g : Goal) (rest : List Goal) (P : WrittenProblem) → IsGameOf s g P → (f : ScriptFault) →
    games_of (map asked_by rest) ≡ Err f → games_of (map asked_by (g ∷ rest)) ≡ Err f
fault_step s g rest P is f h =
    ap (λ (r : Read Problem). r >>= λ Q. games_of (map asked_by rest) >>= λ Qs. Ok (Q ∷ Qs)) (game_is s g P is)
    ∙ ap (λ (r : Read (List Problem)). r >>= λ Qs. Ok (problem_of P ∷ Qs)) h

at_fault : (p : Place) (r : FormResult) (k : FaultKind) → kind_of r ≡ Some k → at_check_sat p r ≡ Err (Bad k p.line p.column)
at_fault p (a_problem P) k e = absurd (cc)
at_fault p too_large k e = ap (λ (x : FaultKind). Err (Bad x p.line p.column)) (cc)
at_fault p too_many_variables k e = ap (λ (x : FaultKind). Err (Bad x p.line p.column)) (cc)
at_fault p number_past_cap k e = ap (λ (x : FaultKind). Err (Bad x p.line p.column)) (cc)

pub fault_here : (g : Goal) (rest : List Goal) (k : FaultKind) (l c : ℕ) → kind_of (form g) ≡ Some k → l ≡ g.line → c ≡ g.column →
    games_of (map asked_by (g ∷ rest)) ≡ Err (Bad k l c)
fault_here g rest k l c e el ec =
    ap (λ (r : Read Problem). r >>= λ Q. games_of (map asked_by rest) >>= λ Qs. Ok (Q ∷ Qs)) (at_fault (place g.line g.column) (form g) k e)
    ∙ ap (λ (x : ℕ). Err (Bad k x g.column)) (sym el) ∙ ap (λ (x : ℕ). Err (Bad k l x)) (sym ec)

games_are : (s : Sort) (gs : List Goal) (Ps : List WrittenProblem) → AreGamesOf s gs Ps → games_of (map asked_by gs) ≡ Ok (map problem_of Ps)
games_are s [] [] h = refl
games_are s [] (P ∷ Ps) h = absurd h
games_are s (g ∷ gs) [] h = absurd h
games_are s (g ∷ gs) (P ∷ Ps) h =
    ap (λ (r : Read Problem). r >>= λ Q. games_of (map asked_by gs) >>= λ Qs. Ok (Q ∷ Qs)) (game_is s g P h.0)
    ∙ ap (λ (r : Read (List Problem)). r >>= λ Qs. Ok (problem_of P ∷ Qs)) (games_are s gs Ps h.1)

-- goal k, with the truth of problem k
abbrev IsPlayed : List Goal → ℕ → Sort → Problem → Type 0
IsPlayed gs k s P = (a : Asked) × (slice_get (map asked_by gs) k ≡ Some a) × Same (IsTrue a) (TrueP s P)

played_here : (s : Sort) (g : Goal) (gs : List Goal) (P : WrittenProblem) (Q : Problem) → IsGameOf s g P → Some (problem_of P) ≡ Some Q → IsPlayed (g ∷ gs) 0 s Q
played_here s g gs P Q is e = subst (λ (R : Problem). IsPlayed (g ∷ gs) 0 s R) (let k : problem_of P ≡ Q = cc in k) (asked_by g, refl, is.2)

played_at : (s : Sort) (gs : List Goal) (Ps : List WrittenProblem) (k : ℕ) (Q : Problem) → AreGamesOf s gs Ps → slice_get (map problem_of Ps) k ≡ Some Q → IsPlayed gs k s Q
played_at s [] [] k Q h e = absurd (cc)
played_at s [] (P ∷ Ps) k Q h e = absurd h
played_at s (g ∷ gs) [] k Q h e = absurd h
played_at s (g ∷ gs) (P ∷ Ps) zero Q h e = played_here s g gs P Q h.0 e
played_at s (g ∷ gs) (P ∷ Ps) (suc k) Q h e = played_at s gs Ps k Q h.1 e

-- ---- the games of a script

games_read : (script : List ℕ) (s : Sort) (gs : List Goal) → read script ≡ Ok (questions_in s gs) → games script ≡ games_asked (questions_in s gs)
unfolding games
games_read script s gs e = ap (λ (r : Read Questions). r >>= games_asked) e

games_fault : (script : List ℕ) (f : ScriptFault) → read script ≡ Err f → games script ≡ Err f
unfolding games
games_fault script f e = ap (λ (r : Read Questions). r >>= games_asked) e

-- the fault of a script that was not read
pub unread : (script : List ℕ) (f : ScriptFault) → Answers (read script) (Err f) → GivesGames script (Err f)
unread script (Bad kind line column) h = games_fault script (Bad kind line column) h
unread script Memory h = tt

asked_fault : (s : Sort) (gs : List Goal) (f : ScriptFault) → games_of (map asked_by gs) ≡ Err f → games_asked (questions_in s gs) ≡ Err f
asked_fault s gs f e = ap (λ (r : Read (List Problem)). r >>= λ Ps. Ok (record { sort = s; problems = Ps })) e

asked_games : (s : Sort) (gs : List Goal) (Ps : List Problem) → games_of (map asked_by gs) ≡ Ok Ps → games_asked (questions_in s gs) ≡ Ok (record { sort = s; problems = Ps })
asked_games s gs Ps e = ap (λ (r : Read (List Problem)). r >>= λ Qs. Ok (record { sort = s; problems = Qs })) e

-- problems of the goals that were read are what the script asks for
asks_for : (script : List ℕ) (s : Sort) (gs : List Goal) (Ps : List WrittenProblem) → read script ≡ Ok (questions_in s gs) → AreGamesOf s gs Ps →
    AsksFor script (record { sort = s; problems = map problem_of Ps })
asks_for script s gs Ps r h = record {
  asked = games_read script s gs r ∙ asked_games s gs (map problem_of Ps) (games_are s gs Ps h);
  same = λ k P e. let p = played_at s gs Ps k P h e in (p.0, ap (λ (q : Read Questions). asked_at q k) r ∙ p.1, p.2);
}

asks_for_given : (script : List ℕ) (s : Sort) (gs : List Goal) (g : ScriptGames) → read script ≡ Ok (questions_in s gs) → AreGiven s gs g → AsksFor script (games_of_given g)
asks_for_given script s gs (given.Rat problems) r h =
    asks_for script sorts.Rat gs problems.items (subst (λ (t : Sort). read script ≡ Ok (questions_in t gs)) h.0 r) h.1
asks_for_given script s gs (given.Int problems) r h =
    asks_for script sorts.Int gs problems.items (subst (λ (t : Sort). read script ≡ Ok (questions_in t gs)) h.0 r) h.1

-- what playing the goals that were read gives
pub gives_games : (script : List ℕ) (s : Sort) (gs : List Goal) (r : Result ScriptGames ScriptFault) → read script ≡ Ok (questions_in s gs) → IfOk r (λ g. AreGiven s gs g) →
    ((k : FaultKind) (l c : ℕ) → r ≡ Err (Bad k l c) → games_of (map asked_by gs) ≡ Err (Bad k l c)) → GivesGames script r
gives_games script s gs (Ok g) e h fault = asks_for_given script s gs g e h
gives_games script s gs (Err (Bad kind line column)) e h fault = games_read script s gs e ∙ asked_fault s gs (Bad kind line column) (fault kind line column refl)
gives_games script s gs (Err Memory) e h fault = tt
