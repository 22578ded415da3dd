use Rattle.std.proofs.Common.{◌≡◌, ◌+◌, ◌∷◌, ◌++◌, List, map, drop, Err, ap, sym, ◌∙◌, subst}
use Rattle.std.proofs.lemmas.List.{drop_more, drop_all}
use Rattle.lin_truth.specs.Goal.{Goal}
use Rattle.dom_core.specs.Problem.{WrittenProblem}
use Rattle.ss_names.specs.declared.ScriptFault.{ScriptFault}
use Rattle.smt_goal.specs.Answer.{asked_by}
use Rattle.script_games.specs.Carried.{AreOfSort}
use Rattle.script_games.specs.Games.{games_of}
use Rattle.script_games.specs.Carried.{IsGameOf, AreGamesOf}
use Rattle.script_games.proofs.Carrying.{games_step, games_end, fault_step}
use Rattle.script_games.proofs.problems.problems_of.Goals as goal

pub loop-goal-preserved : goal.loop-goal-preserved
loop-goal-preserved g c =
    let s = g.D.Domain.SORT in
    let gs = c.args.goals.now in
    let i = c.loop-goal.goal-index in
    let d = c.goal-item.result in
    let rest = drop (i + 1) gs in
    let e : drop i gs ≡ d ∷ rest = drop_more gs i d c.loop-goal-test.true ∙ ap (λ (x : Goal). x ∷ rest) (sym c.goal-item.is) in
    let sorts = subst (AreOfSort s) e c.loop-goal.invariant.2 in
    let is : IsGameOf s d c.in-Ok.problem = (sorts.0, c.in-Ok.ensures.form, c.in-Ok.ensures.truth) in
    let keep = subst (λ (x : List Goal). (Ps : List WrittenProblem) → AreGamesOf s x Ps → AreGamesOf s gs (c.loop-goal.problems.items ++ Ps)) e c.loop-goal.invariant.0 in
    let fault = subst (λ (x : List Goal). (f : ScriptFault) → games_of (map asked_by x) ≡ Err f → games_of (map asked_by gs) ≡ Err f) e c.loop-goal.invariant.1 in (
      subst (λ (items : List WrittenProblem). (Ps : List WrittenProblem) → AreGamesOf s rest Ps → AreGamesOf s gs (items ++ Ps)) (sym c.in-Ok-push.ensures.items)
          (games_step s gs rest d c.loop-goal.problems.items c.in-Ok.problem is keep),
      λ f h. fault f (fault_step s d rest c.in-Ok.problem is f h),
      sorts.1,
    )

pub returns-clause-games : goal.returns-clause-games
returns-clause-games g c =
    let s = g.D.Domain.SORT in
    let gs = c.args.goals.now in
    let e = drop_all c.loop-goal.goal-index gs c.loop-goal-test.false in
    games_end s gs c.loop-goal.problems.items (subst (λ (x : List Goal). (Ps : List WrittenProblem) → AreGamesOf s x Ps → AreGamesOf s gs (c.loop-goal.problems.items ++ Ps)) e c.loop-goal.invariant.0)
