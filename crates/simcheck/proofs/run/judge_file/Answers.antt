use Rattle.std.proofs.Common.{◌≡◌, List, ℕ, map, sym, ◌∙◌, subst}
use Rattle.std.proofs.lemmas.List.{length-map}
use Rattle.dom_core.specs.Problem.{problem_of}
use Rattle.script_games.specs.Games.{Games}
use Rattle.script_games.specs.Acceptance.{IsReadAsSpelled}
use Rattle.simcheck.specs.Verdicts.{printed_for}
use Rattle.simcheck.specs.Carried.{ReadsSpelled}
use Rattle.simcheck.specs.Answer.{answer_of}
use Rattle.simcheck.proofs.Heading.{AllWin, answers_given}
use Rattle.simcheck.proofs.run.judge_file.Goals as goal

pub returns-in-Ok-judge-clause-answer : goal.returns-in-Ok-judge-clause-answer
returns-in-Ok-judge-clause-answer g c =
    let Ps = c.args.problems.now in
    let game : Games = record { sort = g.D.Domain.SORT; problems = map problem_of Ps } in
    let a = answer_of c.in-Ok-judge.report in
    let e = c.as_slice.ensures.value in
    answers_given (g.S.Shelf.files c.args.shelf.now) c.args.file.now c.in-Ok.bytes.items game a c.in-Ok.ensures.bytes
    (subst (λ (bytes : List ℕ). a ≡ printed_for game bytes) e c.in-Ok-judge.ensures.answer)
    (subst (λ (bytes : List ℕ). AllWin game bytes) e (λ xs h n. c.in-Ok-judge.ensures.wins xs h (sym (length-map Ps problem_of) ∙ n)))
    (subst (λ (bytes : List ℕ). IsReadAsSpelled bytes) e c.in-Ok-judge.ensures.spelled)
    (subst (λ (bytes : List ℕ). ReadsSpelled bytes) e c.in-Ok-judge.ensures.reads)
