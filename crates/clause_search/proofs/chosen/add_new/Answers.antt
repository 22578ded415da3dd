use Rattle.std.specs.Prelude.{List}
use Rattle.std.proofs.Common.{subst, refl, inl, inr}
use Rattle.lin_term.specs.declared.Lit.{Lit}
use Rattle.proof_rules.proofs.StackLemmas.{OnOk_with}
use Rattle.cube_elim.specs.Among.{IsAmong}
use Rattle.clause_search.proofs.Choosing.{missing_from}
use Rattle.clause_search.proofs.chosen.add_new.Goals as goal

pub returns-then-has : goal.returns-then-has
returns-then-has c = inl (refl, subst (λ (ls : List Lit). IsAmong c.args.lit ls) c.as_slice.ensures (c.has.ensures.0 c.if-has.true))

pub returns : goal.returns
returns c =
    OnOk_with c.push.result
    (λ e. inr (subst (λ (ls : List Lit). ¬ IsAmong c.args.lit ls) c.as_slice.ensures (missing_from c.args.lit c.as_slice.result.now c.has.result c.has.ensures c.if-has.false), e))
    c.push.ensures
