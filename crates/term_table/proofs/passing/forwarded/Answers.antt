use Rattle.std.proofs.Common.{ℕ, List, length, sym, subst}
use Rattle.std.specs.Prelude.{IfSome}
use Rattle.term_table.specs.Meaning.{AreBelow}
use Rattle.term_table.specs.Forwarding.{Stand}
use Rattle.term_table.proofs.PassedOn.{inner-parts, forwards}
use Rattle.term_table.proofs.passing.forwarded.Goals as goal

pub arguments_of-requires-clause-parts : goal.arguments_of-requires-clause-parts
arguments_of-requires-clause-parts c =
    let es = c.args.entries.now in
    subst (AreBelow (length es)) (sym c.as_slice.ensures) (inner-parts es c.args.body c.in-Use.inner c.in-Use.parts c.index-entries-body.result c.requires.entries.ordered c.requires.body c.index-entries-body.is c.in-Use.is).1

pub returns-in-Some : goal.returns-in-Some
returns-in-Some c =
    let es = c.args.entries.now in
    let args = c.args.args.now in
    let found : Stand es c.as_slice.result.now args c.in-Some.outs = subst (λ r. IfSome r (Stand es c.as_slice.result.now args)) c.in-Some.is c.in_ok-arguments_of-in-Use.ensures in
    forwards es c.args.body c.in-Use.inner c.in-Use.parts args c.in-Some.outs c.index-entries-body.result c.requires.entries.ordered c.requires.body c.index-entries-body.is c.in-Use.is
    (subst (λ (ps : List ℕ). Stand es ps args c.in-Some.outs) c.as_slice.ensures found)
