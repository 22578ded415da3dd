-- Sizes as linear forms over the sizes of what stands for the parameters.
use Rattle.std.specs.Prelude.{List}
use Rattle.term_table.specs.declared.amount.Amount.{Amount}
use Rattle.term_table.specs.declared.amount.Weight.{Weight}

-- a size of its own, and how each parameter counts
pub record Linear : Type 0 where
  pub own : Amount
  pub uses : List Weight
