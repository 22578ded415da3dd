use Rattle.std.proofs.Common.{◌≡◌, true, Ok, List, sym, ap, ◌∙◌}
use Rattle.smt_lex.specs.Place.{place}
use Rattle.term_table.specs.Placed.{Typed}
use Rattle.term_table.specs.Meaning.{meanings}
use Rattle.smt_term.specs.Reading.{Read}
use Rattle.smt_term.specs.declared.seen.Seen.{Seen}
use Rattle.smt_term.specs.Apply.{application, applied}
use Rattle.smt_term.specs.View.{all_at, typed_at, worths_at}
use Rattle.smt_term.specs.Apply as spec
use Rattle.smt_term.proofs.ApplyLemmas.{application-arity, application-sort, application-linear, applied-is, fault_as, done_fault, linear-asked}
use Rattle.smt_term.proofs.apply.application.Goals as goal

pub returns-then-not-arity_fits : goal.returns-then-not-arity_fits
returns-then-not-arity_fits c =
    rw c.bad.ensures (application-arity (meanings c.args.table.now) c.args.args.now c.args.op (place c.args.line c.args.column) (sym c.if-not-arity_fits.ensures))

pub returns-then-not-sorts_fit : goal.returns-then-not-sorts_fit
returns-then-not-sorts_fit c =
    rw c.bad-then-not-sorts_fit.ensures (application-sort (meanings c.args.table.now) c.args.args.now c.args.op (place c.args.line c.args.column) (sym c.if-not-arity_fits.ensures) (sym c.if-not-sorts_fit.ensures))

pub returns-in-Err : goal.returns-in-Err
returns-in-Err c =
    let ms = meanings c.args.table.now in
    let p = place c.args.line c.args.column in
    let ts = all_at ms c.args.args.now in
    let tests = spec.linear_fits c.args.op.linear c.args.worths.now p in
    fault_as c.args.table.now c.args.table.now (application c.args.op p ts) c.in-Err.fault tests (λ fits. Ok (applied c.args.op ts))
    (application-linear ms c.args.args.now c.args.op p tests (sym c.if-not-arity_fits.ensures) (sym c.if-not-sorts_fit.ensures)
    (sym (linear-asked c.args.op.linear c.args.worths.now (worths_at ms c.args.args.now) p c.requires.worths)))
    (done_fault tests c.in-Err.fault c.in-Err.ensures)

term_read : Typed → Read Typed
term_read t = Ok t

pub returns : goal.returns
unfolding term_read
returns c =
    let ms = meanings c.args.table.now in
    let news = meanings c.built.new.table in
    let p = place c.args.line c.args.column in
    let ts = all_at ms c.args.args.now in
    let seen : Seen = record { sort = c.sort_of.result; node = c.in-Ok-built.node } in
    let is : applied c.args.op ts ≡ typed_at news seen = applied-is ms news c.args.args.now c.args.op seen c.sort_of.ensures c.in-Ok-built.ensures.0 in
    let fits : spec.linear_fits c.args.op.linear (worths_at ms c.args.args.now) p ≡ Ok true =
    sym (linear-asked c.args.op.linear c.args.worths.now (worths_at ms c.args.args.now) p c.requires.worths) ∙ c.in-Ok.ensures in (
      application-linear ms c.args.args.now c.args.op p (Ok true) (sym c.if-not-arity_fits.ensures) (sym c.if-not-sorts_fit.ensures) fits ∙ ap term_read is,
      c.in-Ok-built.ensures.1,
      c.in-Ok-built.ensures.2,
    )
