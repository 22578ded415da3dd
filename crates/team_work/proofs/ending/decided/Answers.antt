use Rattle.std.proofs.Common.{◌∙◌, sym}
use Rattle.game_tree.specs.View.{skeleton_of}
use Rattle.team_work.proofs.Ended.{won_outcome, is_part, won_ends}
use Rattle.team_work.proofs.ending.decided.Goals as goal

pub returns : goal.returns
returns g c =
    let s = g.D.Domain.SORT in
    let b = c.args.board in
    let w = c.in_ok-won.won in
    let t = c.in_ok-won.ensures in
    let k = c.close-history.ensures in
    let p = c.proof-refutes.ensures in
    won_ends s b c.args.side w c.args.rounds c.close-history.result.history c.verdict_for.result c.requires.rounds k.history k.legal c.verdict_for.ensures
    (won_outcome s b c.args.side c.in-Some.won w c.requires.duals c.requires.won (sym k.won ∙ c.in-Some.is) t.problem (is_part (skeleton_of w.tree) (skeleton_of c.in-Some.won.tree) t.inside) (record { skeleton = c.skeleton-lost.ensures.kept; refutes = p.refutes; writable = p.writable }))
