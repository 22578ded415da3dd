use Rattle.std.proofs.Common.{refl}
use Rattle.smt_goal.proofs.Growing.{asserted_one}
use Rattle.smt_goal.proofs.session.Session.add.Goals as goal

pub returns-in-Ok : goal.returns-in-Ok
returns-in-Ok c =
    asserted_one c.args.self.now _ c.args.node c.requires.ready c.requires.below (record { reader = refl; logic = refl; consts = refl; goals = refl; ended = refl }) c.in-Ok.ensures.items
