use Rattle.std.specs.Prelude.{nat_abs}
use Rattle.std.proofs.Common.{subst, sym, w64, SFits, to_z-of_z}
use Rattle.lin_term.specs.Move.{Move, IsLowest}
use Rattle.lin_term.proofs.Lowering.{move_with, lowest_again}
use Rattle.lin_term.proofs.moves.Move.make.Goals as goal

pub with_definition-requires : goal.with_definition-requires
with_definition-requires c =
    let f : SFits w64 c.args.div = c.ranges.div in
    let e = simp to_z-of_z at c.lowest_form.ensures in
    subst (λ (m : Move). IsLowest c.args.sort m) (sym e) (lowest_again c.args.sort (move_with c.args.row (nat_abs c.args.div)))
