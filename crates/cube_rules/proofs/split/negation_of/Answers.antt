use Rattle.std.proofs.Common.{sym, ◌∙◌}
use Rattle.cube_rules.proofs.Comparing.{primitive_is}
use Rattle.cube_rules.proofs.split.negation_of.Goals as goal

pub negate-requires : goal.negate-requires
negate-requires c =
    primitive_is c.args.sort c.args.lit.now (sym c.in_ok-is_primitive_literal.ensures ∙ c.if-not-branch.false)
