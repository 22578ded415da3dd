-- What is known of a term as a constant term.
use Rattle.std.specs.Prelude.{ℕ, pos, nat_le, if◌then◌else◌, Option, Some, None}
use Rattle.lin_term.specs.Linear.{Value}
use Rattle.lin_truth.specs.Term.{Term}
use Rattle.lin_truth.specs.Constant.{is_constant}
use Rattle.lin_truth.specs.Size.{node_count}
use Rattle.lin_truth.specs.Worked.{worked}
use Rattle.term_table.specs.declared.worth.Worth.{Worth}
use Rattle.term_table.specs.declared.worth.Worth.TheVariants as worth

-- the most nodes of a goal
abbrev pub most_nodes : ℕ
most_nodes = 1048576

abbrev pub value_known : Option Value → Worth
value_known None = worth.Wide
value_known (Some v) = worth.Value v.num (pos v.den)

-- a constant term is worked out where it is no larger than a goal may be
abbrev pub worth_of : Term → Worth
worth_of t = if is_constant t then (if nat_le (node_count t) most_nodes then value_known (worked t) else worth.Large) else worth.Free
