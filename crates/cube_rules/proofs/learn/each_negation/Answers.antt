use Rattle.std.specs.Prelude.{◌≡◌, None}
use Rattle.std.proofs.Common.{sym, ◌∙◌}
use Rattle.lin_term.specs.declared.Lit.{Lit}
use Rattle.lin_term.specs.Wide.{first_past, lit_numbers}
use Rattle.cube_rules.proofs.Learning.{each_at, negated_none, negated_more, negated_missing, negated_done}
use Rattle.cube_rules.proofs.learn.each_negation.Goals as goal

pub loop-lit-init : goal.loop-lit-init
loop-lit-init c = negated_none c.args.sort c.args.nodes c.args.lits.now c.new-all.result c.new-all.ensures

pub negation_of-requires : goal.negation_of-requires
negation_of-requires c = record {
  kept = each_at (λ (l : Lit). first_past (lit_numbers l) ≡ None) c.args.lits.now c.loop-lit.lit-index c.lit-item.result c.requires.kept c.loop-lit-test.true c.lit-item.is;
}

pub returns-in_default : goal.returns-in_default
returns-in_default c =
    negated_missing c.args.sort c.args.nodes c.args.lits.now c.loop-lit.lit-index c.loop-lit.all c.lit-item.result c.loop-lit.invariant c.loop-lit-test.true c.lit-item.is (sym c.in_default.is ∙ c.in_ok-negation.ensures)

pub loop-lit-preserved : goal.loop-lit-preserved
loop-lit-preserved c =
    negated_more c.args.sort c.args.nodes c.args.lits.now c.loop-lit.lit-index c.loop-lit.all c.push.new.self c.lit-item.result c.in-Some.negation c.loop-lit.invariant c.loop-lit-test.true c.lit-item.is (sym c.in-Some.is ∙ c.in_ok-negation.ensures) c.in_ok-push.ensures.ok

pub returns : goal.returns
returns c =
    negated_done c.args.sort c.args.nodes c.args.lits.now c.loop-lit.lit-index c.loop-lit.all c.loop-lit.invariant c.loop-lit-test.false
