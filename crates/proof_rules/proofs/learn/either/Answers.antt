use Rattle.std.specs.Prelude.{option_map}
use Rattle.std.proofs.Common.{ap, sym, ◌∙◌}
use Rattle.proof_rules.proofs.LearnLemmas.{one_known}
use Rattle.proof_rules.proofs.learn.either.Goals as goal

pub returns-then-len-eq1-clause-kept : goal.returns-then-len-eq1-clause-kept
returns-then-len-eq1-clause-kept c = λ s w p.
    one_known s c.args.clause c.in-Some.literal.value (ap (option_map (λ l. l.value)) (sym c.in-Some.is) ∙ c.in_ok-literal.ensures.value) p
