use Rattle.std.proofs.Common.{◌∙◌, sym, refl}
use Rattle.game_board.specs.Replies.{WinsVersion}
use Rattle.game_board.proofs.Asking.{refuted}
use Rattle.game_board.proofs.Verdicts.{win_ends}
use Rattle.game_board.proofs.board.Board.finish.Goals as goal

pub end-requires : goal.end-requires
end-requires g c =
    win_ends g.D.Domain.SORT c.args.self.now c.args.won c.args.side c.args.version c.is_win.ensures.dual (sym c.is_over.ensures ∙ c.if-is_over.false) (c.is_win.ensures.value.0 c.if-not-is_win.false) c.skeleton-lost.ensures.lost

pub returns-then-is_over : goal.returns-then-is_over
returns-then-is_over g c =
    (sym c.is_over.ensures ∙ c.if-is_over.true, refl)

pub returns-then-not-is_win : goal.returns-then-not-is_win
returns-then-not-is_win g c =
    (sym c.is_over.ensures ∙ c.if-is_over.false, refuted c.is_win.result (WinsVersion g.D.Domain.SORT c.args.self.now c.args.won c.args.side c.args.version) c.is_win.ensures.value c.if-not-is_win.true, refl)

pub returns : goal.returns
returns g c =
    (sym c.is_over.ensures ∙ c.if-is_over.false, c.is_win.ensures.value.0 c.if-not-is_win.false, c.end.ensures)
