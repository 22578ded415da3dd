use Rattle.std.specs.Prelude.{List, Option, Some}
use Rattle.std.proofs.Common.{ℤ, ◌≡◌, ◌+◌, ◌∙◌, true, ap, sym, drop, length}
use Rattle.lin_term.specs.declared.Lit.{Lit}
use Rattle.lin_term.specs.Linear.{Below}
use Rattle.lin_term.specs.Literal.{form_of}
use Rattle.dom_core.specs.Elimination.{is_upper}
use Rattle.dom_core.proofs.Picking.{upper_size}
use Rattle.cube_elim.specs.Between.{from_above}
use Rattle.cube_elim.specs.Stored.{lits_of}
use Rattle.cube_elim.proofs.Storing.{read_each, rest_of}
use Rattle.cube_elim.proofs.bound.greatest_between.Goals as goal

pub lesser_with-best-requires-clause-below : goal.lesser_with-best-requires-clause-below
lesser_with-best-requires-clause-below c =
    read_each (λ l. Below (length c.args.trial.now.nums) (form_of l)) c.args.lits.now c.args.ids.now c.loop-id.id-index c.index-lits-id.result c.loop-id-test.true c.requires.within c.index-lits-id.is c.requires.below

pub lesser_with-best-requires-clause-least : goal.lesser_with-best-requires-clause-least
lesser_with-best-requires-clause-least c =
    upper_size c.args.var c.index-lits-id.result
    (read_each (λ l. is_upper c.args.var l ≡ true) c.args.lits.now c.args.ids.now c.loop-id.id-index c.index-lits-id.result c.loop-id-test.true c.requires.within c.index-lits-id.is c.requires.upper)

pub loop-id-preserved : goal.loop-id-preserved
loop-id-preserved c =
    let k = c.loop-id.id-index in
    let lits = c.args.lits.now in
    let ids = c.args.ids.now in
    record {
      value = ap (λ (o : Option ℤ). from_above c.args.var c.args.trial.now o (lits_of lits (drop (k + 1) ids))) c.lesser_with-best.ensures.value
          ∙ ap (λ (ls : List Lit). from_above c.args.var c.args.trial.now c.loop-id.best ls) (sym (rest_of lits ids k c.index-lits-id.result c.loop-id-test.true c.requires.within c.index-lits-id.is))
          ∙ c.loop-id.invariant.value;
      kept = c.lesser_with-best.ensures.kept;
    }
