use Rattle.std.proofs.Common.{◌≡◌, drop}
use Rattle.lin_term.specs.Wide.{first_past}
use Rattle.game_play.specs.Worth.{sum_worth, sum_steps, row_worth, row_steps}
use Rattle.game_play.proofs.worth.row_value.Given as goal

abbrev pub invariant-loop-var : goal.invariant-loop-var
invariant-loop-var l = record {
  items : l.var-items ≡ l.row.terms;
  numbers : first_past (sum_steps l.values l.sum (drop l.var-index l.var-items)) ≡ first_past (row_steps l.values l.row);
  worth : sum_worth l.values l.sum (drop l.var-index l.var-items) ≡ row_worth l.values l.row;
}
