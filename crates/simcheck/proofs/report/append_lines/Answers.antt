use Rattle.std.proofs.Common.{◌≡◌, ◌+◌, ◌<◌, ◌^◌, ◌||◌, ◌++◌, ◌∷◌, List, map, length, drop, Ok, ap, sym, ◌∙◌, subst, arith}
use Rattle.std.proofs.lemmas.List.{drop_more, drop_all}
use Rattle.std.specs.List.{AllByRecursion}
use Rattle.dom_core.specs.Problem.{WrittenProblem, problem_of}
use Rattle.strat_text.specs.declared.Section.{Section}
use Rattle.strat_text.specs.Spelling.{IsSection, line_of}
use Rattle.simcheck.specs.Verdicts.{verdict_text, is_rejected, lines, any_rejected}
use Rattle.simcheck.specs.Carried.{EachWins}
use Rattle.simcheck.proofs.Lining.{lines_step, any_step, lines_end, any_end}
use Rattle.simcheck.proofs.Winning.{wins}
use Rattle.simcheck.proofs.report.append_lines.Goals as goal

pub loop-i-preserved : goal.loop-i-preserved
loop-i-preserved g c =
    let s = g.D.Domain.SORT in
    let Ps = c.args.problems.now in
    let xs = c.args.sections.now in
    let i = c.loop-i.i in
    let P = c.index-problems-i.result in
    let x = c.index-sections-i.result in
    let hs : i < length xs = omega (arith, c.requires.count, c.loop-i-test.true) in
    let eP : drop i Ps ≡ P ∷ drop (i + 1) Ps = drop_more Ps i P c.loop-i-test.true ∙ ap (λ (y : WrittenProblem). y ∷ drop (i + 1) Ps) (sym c.index-problems-i.is) in
    let ex : drop i xs ≡ x ∷ drop (i + 1) xs = drop_more xs i x hs ∙ ap (λ (y : Section). y ∷ drop (i + 1) xs) (sym c.index-sections-i.is) in
    let text = subst (λ (Qs : List WrittenProblem). c.loop-i.text.items ++ lines s (map problem_of Qs) (drop i xs) ≡ c.args.text.now.items ++ lines s (map problem_of Ps) xs) eP c.loop-i.invariant.0 in
    let text = subst (λ (ys : List Section). c.loop-i.text.items ++ lines s (map problem_of (P ∷ drop (i + 1) Ps)) ys ≡ c.args.text.now.items ++ lines s (map problem_of Ps) xs) ex text in
    let any = subst (λ (Qs : List WrittenProblem). (c.loop-i.rejected || any_rejected s (map problem_of Qs) (drop i xs)) ≡ any_rejected s (map problem_of Ps) xs) eP c.loop-i.invariant.1 in
    let any = subst (λ (ys : List Section). (c.loop-i.rejected || any_rejected s (map problem_of (P ∷ drop (i + 1) Ps)) ys) ≡ any_rejected s (map problem_of Ps) xs) ex any in
    let each = subst (λ (Qs : List WrittenProblem). EachWins s (map problem_of Qs) (drop i xs) → EachWins s (map problem_of Ps) xs) eP c.loop-i.invariant.2 in
    let each = subst (λ (ys : List Section). EachWins s (map problem_of (P ∷ drop (i + 1) Ps)) ys → EachWins s (map problem_of Ps) xs) ex each in
    let sections = subst (λ (ys : List Section). AllByRecursion IsSection ys) ex c.loop-i.invariant.3 in
    let early = subst (λ (ys : List Section). AllByRecursion (λ y. line_of y < 2 ^ 63) ys) ex c.loop-i.invariant.4 in
    let is = c.in-Ok.ensures.verdict in
    let win = wins s (problem_of P) x c.in-Ok.verdict is c.in-Ok.ensures.accepted (λ e. c.in-Ok.ensures.sat (ap Ok e)) (λ e. c.in-Ok.ensures.unsat (ap Ok e)) in (
      lines_step s P x (drop (i + 1) Ps) (drop (i + 1) xs) c.loop-i.text.items c.extend_from_slice.new.self.items c.as_bytes.result.now (c.args.text.now.items ++ lines s (map problem_of Ps) xs)
          c.in_ok-extend_from_slice.ensures.items (c.as_bytes.ensures.value ∙ c.in_ok-line.ensures ∙ ap verdict_text is) text,
      any_step s P x (drop (i + 1) Ps) (drop (i + 1) xs) c.loop-i.rejected c.either-rejected.result c.rejects.result (any_rejected s (map problem_of Ps) xs)
          c.either-rejected.ensures (c.rejects.ensures ∙ ap is_rejected is) any,
      λ rest. each (win, rest),
      sections.1,
      early.1,
    )

pub returns-clause-text : goal.returns-clause-text
returns-clause-text g c =
    lines_end g.D.Domain.SORT (drop c.loop-i.i c.args.problems.now) (drop c.loop-i.i c.args.sections.now) _ _ (drop_all c.loop-i.i c.args.problems.now c.loop-i-test.false) c.loop-i.invariant.0

pub returns-clause-rejected : goal.returns-clause-rejected
returns-clause-rejected g c =
    any_end g.D.Domain.SORT (drop c.loop-i.i c.args.problems.now) (drop c.loop-i.i c.args.sections.now) _ _ (drop_all c.loop-i.i c.args.problems.now c.loop-i-test.false) c.loop-i.invariant.1
