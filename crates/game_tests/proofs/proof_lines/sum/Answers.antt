use Rattle.std.proofs.Common.{sym, ◌∙◌}
use Rattle.cube_rules.proofs.Comparing.{primitive_is}
use Rattle.game_tests.proofs.proof_lines.sum.Goals as goal

pub summed-requires-clause-a_primitive : goal.summed-requires-clause-a_primitive
summed-requires-clause-a_primitive c =
    primitive_is c.args.sort c.args.a.now (sym c.in_ok-is_primitive_literal.ensures ∙ c.if-not-branch.false)

pub summed-requires-clause-b_primitive : goal.summed-requires-clause-b_primitive
summed-requires-clause-b_primitive c =
    primitive_is c.args.sort c.args.b.now (sym c.in_ok-is_primitive_literal-2.ensures ∙ c.if-not-branch-2.false)
