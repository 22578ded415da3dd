use Rattle.std.proofs.Common.{ℕ, List, length, sym, subst}
use Rattle.symbol_table.specs.declared.Known.{Known}
use Rattle.term_table.proofs.Growth.{Extends-length}
use Rattle.smt_term.specs.View.{NamesIn}
use Rattle.smt_term.proofs.WalkLemmas.{NamesIn-more}
use Rattle.script_tests.proofs.terms.add_constant.Goals as goal

pub returns-in-Ok : goal.returns-in-Ok
returns-in-Ok c =
    let old = c.args.reader.now in
    let table = c.add.new.self in
    subst (λ (ks : List (List ℕ × Known)). NamesIn (length table) ks) (sym c.in-Ok.ensures.ok)
    (c.in_ok-node.ensures.gives.1, NamesIn-more (length old.table) (length table) old.names (Extends-length old.table table c.in_ok-node.ensures.extends) c.requires)
