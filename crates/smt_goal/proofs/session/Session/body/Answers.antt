use Rattle.std.proofs.Common.{refl, subst, ◌≡◌, ◌-◌, ℕ, length, drop}
use Rattle.smt_goal.proofs.ParameterNames.{body_keeps}
use Rattle.smt_goal.proofs.session.Session.body.Goals as goal

pub returns-clause-keeps : goal.returns-clause-keeps
returns-clause-keeps c =
    body_keeps c.args.self.now c.bind.new.reader c.term.new.self c.args.params.now c.truncate.new.self _ c.requires c.in-Ok.ensures c.in-Ok-term.ensures.keeps c.in-Ok-term.ensures.gives.2
    (subst (λ (n : ℕ). c.truncate.new.self ≡ drop (length c.term.new.self.names - n) c.term.new.self.names) c.len-count.ensures c.truncate.ensures) refl refl refl refl refl
    (record { logic = refl; consts = refl; asserted = refl; goals = refl; ended = refl })
