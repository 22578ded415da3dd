use Rattle.std.specs.Prelude.{◌≡◌}
use Rattle.std.proofs.Common.{sym, ◌∙◌}
use Rattle.lin_term.specs.Move.{move_divisor}
use Rattle.lin_term.proofs.Defining.{kept_divisor}
use Rattle.lin_term.proofs.KeptMoves.{divisor_at, kept_where, where_kept}
use Rattle.lin_term.proofs.moves.Move.is_kept.Goals as goal

pub returns : goal.returns
returns c =
    let s = c.args.sort in
    let m = c.args.self.now in
    let d = c.definition_constant-number.ensures in
    let u = c.definition_constant-number.result in
    let g : c.divisor_of-g.result ≡ move_divisor s m = divisor_at s m c.row-row.result.now c.coefs.result.now c.constant_part.result c.div.result c.divisor_of-g.result c.coefs.ensures.terms c.row-row.ensures c.constant_part.ensures.kept c.constant_part.ensures.value c.div.ensures.greatest c.div.ensures.value c.divisor_of-g.ensures in
    let t = c.is_one_and_within.ensures in (
      λ h. let e = t.0 h in kept_where s m u d.of_move (sym g ∙ e.0) d.value d.size e.1,
      λ k. t.1 (g ∙ kept_divisor s m d.of_move k, where_kept s m u d.of_move d.value d.size k),
    )
