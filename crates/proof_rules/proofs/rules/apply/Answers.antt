use Rattle.std.specs.Prelude.{Option, Some, None, IfSome}
use Rattle.std.proofs.Common.{sym, ◌∙◌}
use Rattle.lose_system.proofs.Tabled.{IfOk_with}
use Rattle.cube_rules.specs.Limits.{IsStep}
use Rattle.proof_rules.specs.declared.fact.Next.{Next}
use Rattle.proof_rules.proofs.CheckLemmas.{if_any}
use Rattle.proof_rules.proofs.rules.apply.Goals as goal

pub returns-clause-step : goal.returns-clause-step
returns-clause-step g c =
    IfOk_with c.by_kind.result (λ o _. if_any o (c.within.ensures.exact.0 c.if-not-within.false)) c.by_kind.ensures

pub by_kind-requires-clause-within : goal.by_kind-requires-clause-within
by_kind-requires-clause-within g c = sym c.within.ensures.value ∙ c.if-not-within.false
