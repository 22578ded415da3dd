use Rattle.std.proofs.Common.{List, subst}
use Rattle.std.specs.Prelude.{Option}
use Rattle.game_board.specs.declared.Entry.{Entry}
use Rattle.game_board.specs.declared.WideNote.{WideNote}
use Rattle.game_board.specs.Entries.{entries_of}
use Rattle.team_work.specs.Noting.{FindsNote}
use Rattle.team_work.proofs.Ended.{blocked_finds, blocked_says}
use Rattle.team_work.proofs.ending.blocked.Goals as goal

pub unreachable-requires : goal.unreachable-requires
unreachable-requires g c =
    let r = c.unbeaten-side.result in
    let e = c.unbeaten-side.ensures in
    blocked_finds g.D.Domain.SORT c.args.board r.0 r.1 c.requires.stops.0 c.requires.stops.1 e.unbeaten e.newest
    (subst (λ (o : Option (WideNote g.row.D.Denot)). FindsNote (entries_of c.args.board.history) r.0 r.1 o) c.in_default.is
    (subst (λ (xs : List (Entry g.row.D.Denot)). FindsNote (entries_of xs) r.0 r.1 c.in_ok-found.found) c.history.ensures.value c.in_ok-found.ensures))

pub undecided-requires-clause-says : goal.undecided-requires-clause-says
undecided-requires-clause-says g c =
    let r = c.unbeaten-side.result in
    let e = c.unbeaten-side.ensures in
    blocked_says g.D.Domain.SORT c.args.board r.0 r.1 c.in-Some.note c.args.rounds c.requires.stops.0 c.requires.stops.1 c.requires.stops.3 e.unbeaten e.newest e.exists_first
    (subst (λ (o : Option (WideNote g.row.D.Denot)). FindsNote (entries_of c.args.board.history) r.0 r.1 o) c.in-Some.is
    (subst (λ (xs : List (Entry g.row.D.Denot)). FindsNote (entries_of xs) r.0 r.1 c.in_ok-found.found) c.history.ensures.value c.in_ok-found.ensures))
