use Rattle.std.specs.Prelude.{List}
use Rattle.std.proofs.Common.{◌≡◌, ◌+◌, ◌∙◌, true, ap, sym, drop, length}
use Rattle.lin_term.specs.declared.Lit.{Lit}
use Rattle.lin_term.specs.Linear.{Below}
use Rattle.lin_term.specs.Literal.{form_of}
use Rattle.dom_core.specs.Elimination.{is_upper}
use Rattle.dom_core.proofs.Picking.{upper_size}
use Rattle.cube_elim.specs.Between.{lowest_bound}
use Rattle.cube_elim.specs.Stored.{lits_of}
use Rattle.cube_elim.specs.declared.bound.Bound.{Bound}
use Rattle.cube_elim.proofs.Storing.{read_each, rest_of}
use Rattle.cube_elim.proofs.value.least_bound.Goals as goal

pub lower-best-requires-clause-below : goal.lower-best-requires-clause-below
lower-best-requires-clause-below c =
    read_each (λ l. Below (length c.args.trial.now.nums) (form_of l)) c.args.lits.now c.args.ids.now c.loop-id.id-index c.index-lits-id.result c.loop-id-test.true c.requires.within c.index-lits-id.is c.requires.below

pub lower-best-requires-clause-upper : goal.lower-best-requires-clause-upper
lower-best-requires-clause-upper c =
    upper_size c.args.var c.index-lits-id.result
    (read_each (λ l. is_upper c.args.var l ≡ true) c.args.lits.now c.args.ids.now c.loop-id.id-index c.index-lits-id.result c.loop-id-test.true c.requires.within c.index-lits-id.is c.requires.upper)

pub loop-id-preserved : goal.loop-id-preserved
loop-id-preserved c =
    let k = c.loop-id.id-index in
    let lits = c.args.lits.now in
    let ids = c.args.ids.now in
    record {
      value = ap (λ (b : Bound). lowest_bound c.args.var c.args.trial.now b (lits_of lits (drop (k + 1) ids))) c.lower-best.ensures.value
          ∙ ap (λ (ls : List Lit). lowest_bound c.args.var c.args.trial.now c.loop-id.best ls) (sym (rest_of lits ids k c.index-lits-id.result c.loop-id-test.true c.requires.within c.index-lits-id.is))
          ∙ c.loop-id.invariant.value;
      size = c.lower-best.ensures.size;
      least = c.lower-best.ensures.least;
      kept = c.lower-best.ensures.kept;
    }
