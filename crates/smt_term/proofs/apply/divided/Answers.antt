use Rattle.std.proofs.Common.{Ok, sym, ap, ◌∙◌}
use Rattle.std.proofs.lemmas.Bool.{ne_eqb}
use Rattle.smt_lex.specs.Place.{place}
use Rattle.lin_truth.specs.declared.VarSort.TheVariants as sort
use Rattle.term_table.specs.Placed.{Typed}
use Rattle.term_table.specs.Meaning.{Meaning, meanings}
use Rattle.smt_term.specs.Reading.{Read}
use Rattle.smt_term.proofs.ApplyLemmas.{divided-arity, divided-sort, divided-zero, divided-is}
use Rattle.smt_term.proofs.apply.divided.Goals as goal

pub returns-then-args-ne1 : goal.returns-then-args-ne1
returns-then-args-ne1 c =
    rw c.bad.ensures (divided-arity (meanings c.args.table.now) c.args.args.now c.args.modulus (place c.args.line c.args.column) c.if-args-ne1.true)

pub returns-then-not-is_same : goal.returns-then-not-is_same
returns-then-not-is_same c =
    rw c.bad-then-not-is_same.ensures (divided-sort (meanings c.args.table.now) c.args.args.now c.args.modulus (place c.args.line c.args.column) c.if-args-ne1.false (sym c.if-not-is_same.ensures))

pub returns-then-modulus-eq0 : goal.returns-then-modulus-eq0
returns-then-modulus-eq0 c =
    rw c.bad-then-modulus-eq0.ensures (divided-zero (meanings c.args.table.now) c.args.args.now c.args.modulus (place c.args.line c.args.column) c.if-args-ne1.false (sym c.if-not-is_same.ensures) c.if-modulus-eq0.true)

bool_with : Meaning → Read Typed
bool_with m = Ok (record { sort = sort.Bool; tree = m })

pub returns : goal.returns
unfolding bool_with
returns c = (
  divided-is (meanings c.args.table.now) c.args.args.now c.args.modulus (place c.args.line c.args.column) c.if-args-ne1.false (sym c.if-not-is_same.ensures)
      (ne_eqb c.args.modulus 0 c.if-modulus-eq0.false)
      ∙ ap bool_with (sym c.in-Ok.ensures.0),
  c.in-Ok.ensures.1,
  c.in-Ok.ensures.2,
)
