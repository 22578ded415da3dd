use Rattle.std.proofs.Common.{sym}
use Rattle.smt_lex.specs.Place.{place}
use Rattle.term_table.specs.Meaning.{meanings}
use Rattle.smt_term.proofs.OpenLemmas.{quantified-is}
use Rattle.smt_term.proofs.binders.quantified.Goals as goal

pub returns : goal.returns
returns c = (
  quantified-is (meanings c.args.table.now) (meanings c.added.new.table) c.args.around c.args.quantifier c.args.variables.now c.in_ok-sorts.sorts (place c.args.line c.args.column)
      c.args.body c.in-Ok.node (sym c.if-not-is_same.ensures) c.in_ok-sorts.ensures c.in-Ok.ensures.0,
  c.in-Ok.ensures.1,
  c.in-Ok.ensures.2,
)
