use Rattle.std.proofs.Common.{map, sym, subst}
use Rattle.smt_lex.specs.Place.{place}
use Rattle.smt_term.specs.View.{part}
use Rattle.smt_goal.specs.declared.command.Command.{Command}
use Rattle.smt_goal.specs.Command.{obeyed}
use Rattle.smt_goal.specs.Session.{state_seen, Obeys}
use Rattle.smt_goal.proofs.Obeying.{passes-obeys}
use Rattle.smt_goal.proofs.session.Session.obey.Goals as goal

pub returns-in-SetInfo : goal.returns-in-SetInfo
unfolding obeyed
returns-in-SetInfo c =
    let s = c.args.self.now in
    subst (λ (x : Command). Obeys (obeyed x (state_seen s) (place c.args.line c.args.column) (map part c.args.items.now)) c.set_info.result s) (sym c.in-SetInfo.is)
    (passes-obeys s _ c.set_info.result c.requires (c.set_info.ensures (state_seen s)))

pub returns-in-SetOption : goal.returns-in-SetOption
unfolding obeyed
returns-in-SetOption c =
    let s = c.args.self.now in
    subst (λ (x : Command). Obeys (obeyed x (state_seen s) (place c.args.line c.args.column) (map part c.args.items.now)) c.set_option.result s) (sym c.in-SetOption.is)
    (passes-obeys s _ c.set_option.result c.requires (c.set_option.ensures (state_seen s)))
