use Rattle.std.specs.Prelude.{List}
use Rattle.std.proofs.Common.{◌∙◌, sym, subst}
use Rattle.lin_term.specs.declared.Lit.{Lit}
use Rattle.proof_rules.proofs.StackLemmas.{OnOk_with}
use Rattle.cube_elim.specs.Among.{IsAmong}
use Rattle.clause_search.proofs.Choosing.{missing_from, no_definition, definition_there, definition_added}
use Rattle.clause_search.proofs.chosen.add_definition.Goals as goal

pub returns-in_default : goal.returns-in_default
returns-in_default g c =
    no_definition g.D.Domain.SORT c.args.system.now c.args.node c.args.which c.args.chosen.now (sym c.in_default.is ∙ c.in_ok-lit.ensures)

pub returns-then-has : goal.returns-then-has
returns-then-has g c =
    definition_there g.D.Domain.SORT c.args.system.now c.args.node c.args.which c.in-Some.lit c.args.chosen.now (sym c.in-Some.is ∙ c.in_ok-lit.ensures)
    (subst (λ (ls : List Lit). IsAmong c.in-Some.lit ls) c.as_slice.ensures (c.has.ensures.0 c.if-has.true))

pub returns : goal.returns
returns g c =
    OnOk_with c.push_definition.result
    (λ e. definition_added g.D.Domain.SORT c.args.system.now c.args.node c.args.which c.in-Some.lit c.args.chosen.now c.push_definition.new.chosen (sym c.in-Some.is ∙ c.in_ok-lit.ensures) c.matrix-kept.ensures.skeleton
    (subst (λ (ls : List Lit). ¬ IsAmong c.in-Some.lit ls) c.as_slice.ensures (missing_from c.in-Some.lit c.as_slice.result.now c.has.result c.has.ensures c.if-has.false)) e)
    c.push_definition.ensures
