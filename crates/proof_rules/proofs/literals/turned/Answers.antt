use Rattle.std.specs.Prelude.{◌++◌, reverse, List}
use Rattle.std.proofs.Common.{ap}
use Rattle.lin_term.specs.declared.Lit.{Lit}
use Rattle.proof_rules.proofs.KnownLemmas.{turned_more, turned_all}
use Rattle.proof_rules.proofs.literals.turned.Goals as goal

pub loop-lit-init : goal.loop-lit-init
loop-lit-init c = ap (λ (ls : List Lit). ls ++ reverse c.args.lits) c.new-turned.ensures

pub loop-lit-preserved : goal.loop-lit-preserved
loop-lit-preserved c =
    turned_more c.args.lits c.loop-lit.left c.pop.new.self c.loop-lit.turned c.push.new.self c.in-Some.lit c.loop-lit.invariant c.in-Some.ensures c.in_ok-push.ensures.ok

pub returns : goal.returns
returns c = turned_all c.args.lits c.loop-lit.left c.loop-lit.turned c.loop-lit.invariant c.in_default.ensures.0
