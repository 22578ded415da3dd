use Rattle.std.proofs.Common.{refl, arith}
use Rattle.smt_goal.proofs.ParameterNames.{defined}
use Rattle.smt_goal.proofs.session.Session.define_as.Goals as goal

pub returns : goal.returns
returns c =
    defined c.args.self.now _ c.args.name.now c.args.params.now c.args.meaning c.in_ok-sorts.sorts c.len-at.result c.requires.ready c.requires.below
    (omega (arith, c.len-at.ensures, c.args.self.now.reader.signatures.ok.0)) c.in_ok-sorts.ensures
    c.in-Ok-push.ensures.ok c.in-Ok.ensures.items refl refl refl (record { logic = refl; consts = refl; asserted = refl; goals = refl; ended = refl })
