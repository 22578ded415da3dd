use Rattle.std.proofs.Common.{refl, arith}
use Rattle.smt_goal.proofs.Growing.{declared}
use Rattle.smt_goal.proofs.session.Session.declare.Goals as goal

pub returns : goal.returns
returns c = declared c.args.self.now _ c.args.name.now c.args.sort c.in-Ok.node c.len-place.result c.requires (record {
  rest = record { logic = refl; asserted = refl; goals = refl; ended = refl; read_in = refl; around = refl };
  signatures = refl;
  names = c.in-Ok-push.ensures.ok;
  consts = c.in-Ok-push-2.ensures.items;
  is = c.in-Ok.ensures.gives.0;
  below = c.in-Ok.ensures.gives.1;
  place_is = omega (arith, c.len-place.ensures, c.args.self.now.consts.ok.0);
  grown = c.add.ensures.extends;
})
