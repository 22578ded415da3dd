use Rattle.std.proofs.Common.{length, refl, sym}
use Rattle.std.proofs.lemmas.Option.{slice_get_past, slice_get_read}
use Rattle.smt_goal.specs.Command.{commands}
use Rattle.smt_goal.proofs.command.command_at.Goals as goal

pub returns-in-None : goal.returns-in-None
returns-in-None c = sym (slice_get_past commands c.args.row c.in-None.ensures.lookup.3)

pub returns-in-Some : goal.returns-in-Some
returns-in-Some c = sym (slice_get_read commands (length commands) c.args.row c.in-Some.command.now refl c.in-Some.ensures.lookup.3.0 c.in-Some.ensures.lookup.1)
