use Rattle.std.specs.Prelude.{List, Option, Some}
use Rattle.std.proofs.Common.{ℤ, ◌≡◌, ◌+◌, ◌∙◌, true, ap, sym, drop, length}
use Rattle.lin_term.specs.declared.Lit.{Lit}
use Rattle.lin_term.specs.Linear.{Below}
use Rattle.lin_term.specs.Literal.{form_of}
use Rattle.dom_core.specs.Elimination.{is_lower}
use Rattle.dom_core.proofs.Picking.{lower_size}
use Rattle.cube_elim.specs.Between.{from_below}
use Rattle.cube_elim.specs.Stored.{lits_of}
use Rattle.cube_elim.proofs.Storing.{read_each, rest_of}
use Rattle.cube_elim.proofs.bound.least_between.Goals as goal

pub greater_with-best-requires-clause-below : goal.greater_with-best-requires-clause-below
greater_with-best-requires-clause-below c =
    read_each (λ l. Below (length c.args.trial.now.nums) (form_of l)) c.args.lits.now c.args.ids.now c.loop-id.id-index c.index-lits-id.result c.loop-id-test.true c.requires.within c.index-lits-id.is c.requires.below

pub greater_with-best-requires-clause-least : goal.greater_with-best-requires-clause-least
greater_with-best-requires-clause-least c =
    lower_size c.args.var c.index-lits-id.result
    (read_each (λ l. is_lower c.args.var l ≡ true) c.args.lits.now c.args.ids.now c.loop-id.id-index c.index-lits-id.result c.loop-id-test.true c.requires.within c.index-lits-id.is c.requires.lower)

pub loop-id-preserved : goal.loop-id-preserved
loop-id-preserved c =
    let k = c.loop-id.id-index in
    let lits = c.args.lits.now in
    let ids = c.args.ids.now in
    record {
      value = ap (λ (o : Option ℤ). from_below c.args.var c.args.trial.now o (lits_of lits (drop (k + 1) ids))) c.greater_with-best.ensures.value
          ∙ ap (λ (ls : List Lit). from_below c.args.var c.args.trial.now c.loop-id.best ls) (sym (rest_of lits ids k c.index-lits-id.result c.loop-id-test.true c.requires.within c.index-lits-id.is))
          ∙ c.loop-id.invariant.value;
      kept = c.greater_with-best.ensures.kept;
    }
