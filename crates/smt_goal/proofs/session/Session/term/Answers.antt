use Rattle.std.proofs.Common.{refl}
use Rattle.smt_goal.proofs.Growing.{remains}
use Rattle.smt_goal.proofs.session.Session.term.Goals as goal

pub returns-in-Ok-clause-keeps : goal.returns-in-Ok-clause-keeps
returns-in-Ok-clause-keeps c =
    remains c.args.self.now _ c.requires (record { logic = refl; consts = refl; asserted = refl; goals = refl; ended = refl }) c.in-Ok.ensures.keeps c.in-Ok.ensures.gives.2
