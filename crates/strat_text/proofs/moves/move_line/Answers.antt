use Rattle.std.proofs.lemmas.Result.{err_from_is_err_and}
use Rattle.strat_words.specs.View.{spot}
use Rattle.strat_text.proofs.MoveLists.{line_repeats, line_fails, line_done}
use Rattle.strat_text.proofs.moves.move_line.Goals as goal

pub returns-then-not-branch-clause-gives : goal.returns-then-not-branch-clause-gives
returns-then-not-branch-clause-gives c = λ ms h.
    rw c.last_fault.ensures (line_repeats c.args.pos ms (spot c.args.at) (c.in_ok-term.term, spot c.in_ok-term.after) c.in_ok-term.text.now c.in_ok-term.ensures.gives c.in_ok-term.ensures.text c.in_ok-is_new.field-0 (c.in_ok-is_new.ensures.fresh ms h) c.if-not-branch.true)

pub returns-in_err-after-clause-gives : goal.returns-in_err-after-clause-gives
returns-in_err-after-clause-gives c = λ ms h.
    let p = err_from_is_err_and c.from_residual-in_err-after.result c.from_residual-in_err-after.ensures.1 in
    rw (p.1, p.2) (line_fails c.args.pos ms (spot c.args.at) (c.in_ok-term.term, spot c.in_ok-term.after) c.in_ok-term.text.now c.in_ok-term.ensures.gives c.in_ok-term.ensures.text c.in_err-after.field-0.0 c.in_ok-is_new.field-0 (c.in_ok-is_new.ensures.fresh ms h) c.if-not-branch.false c.in_err-after.ensures.gives)

pub returns-clause-gives : goal.returns-clause-gives
returns-clause-gives c = λ ms h.
    line_done c.args.pos ms (spot c.args.at) (c.in_ok-term.term, spot c.in_ok-term.after) c.in_ok-term.text.now c.in_ok-term.ensures.gives c.in_ok-term.ensures.text (spot c.in_ok-after.after) c.in_ok-is_new.field-0 (c.in_ok-is_new.ensures.fresh ms h) c.if-not-branch.false c.in_ok-after.ensures.gives
