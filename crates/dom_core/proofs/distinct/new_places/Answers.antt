use Rattle.std.proofs.Common.{Bool, List, ◌++◌, [], ◌∷◌, ap}
use Rattle.dom_core.specs.Distinct.{new_places}
use Rattle.dom_core.proofs.Distincts.{places_more}
use Rattle.dom_core.proofs.distinct.new_places.Goals as goal

pub loop-lit-init : goal.loop-lit-init
loop-lit-init c =
    (c.args.old.now, c.in-Ok.ensures, ap (λ (bs : List Bool). bs ++ new_places c.args.old.now c.args.more.now) c.new-places.ensures)

pub loop-lit-preserved : goal.loop-lit-preserved
loop-lit-preserved c =
    let met = c.loop-lit.invariant.0 in (
      met ++ c.lit-item.result ∷ [],
      c.in-Ok-is_new.ensures.then met c.loop-lit.invariant.1,
      places_more c.loop-lit.places c.push.new.self met c.args.more.now c.loop-lit.lit-index c.lit-item.result c.in-Ok-is_new.fresh (new_places c.args.old.now c.args.more.now) c.loop-lit-test.true c.lit-item.is (c.in-Ok-is_new.ensures.fresh met c.loop-lit.invariant.1) c.in-Ok-push.ensures.ok c.loop-lit.invariant.2,
    )
