use Rattle.std.proofs.Common.{refl, ◌∙◌}
use Rattle.smt_goal.proofs.Growing.{asked_one}
use Rattle.smt_goal.proofs.session.Session.ask.Goals as goal

pub returns : goal.returns
returns c =
    asked_one c.args.self.now _ (record { sort = c.args.self.now.reader.logic; line = c.args.line; column = c.args.column; consts = c.in_ok-consts.consts; root = c.in-Ok.root }) c.in_ok-parts.parts
    c.requires (record { names = refl; signatures = refl; read_in = refl; around = refl; logic = refl; consts = refl; asserted = refl; ended = refl }) c.add.ensures.extends
    c.in-Ok-push.ensures.items (c.in_ok-parts.ensures ∙ c.as_slice.ensures.value) c.in-Ok.ensures.gives.0 c.in-Ok.ensures.gives.1 refl (c.in_ok-consts.ensures ∙ c.as_slice-2.ensures.value)
