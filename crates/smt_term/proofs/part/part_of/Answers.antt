use Rattle.std.proofs.Common.{List, sym, ap, ◌∙◌}
use Rattle.smt_lex.specs.Place.{place}
use Rattle.smt_tree.specs.declared.Expr.{Expr}
use Rattle.smt_tree.specs.Seen.{all_seen}
use Rattle.smt_term.specs.Reading.{group}
use Rattle.smt_term.specs.View.{part}
use Rattle.smt_term.proofs.PartLemmas.{part-leaf, part-list}
use Rattle.smt_term.proofs.part.part_of.Goals as goal

pub returns-in-Leaf : goal.returns-in-Leaf
returns-in-Leaf c = sym (ap part c.in-Leaf.is ∙ part-leaf c.in-Leaf.token)

pub returns-in-List : goal.returns-in-List
returns-in-List c =
    let p = place c.in-List.line c.in-List.column in
    ap (λ (es : List Expr). group p (all_seen es)) c.as_slice.ensures ∙ sym (ap part c.in-List.is ∙ part-list c.in-List.line c.in-List.column c.in-List.items)
