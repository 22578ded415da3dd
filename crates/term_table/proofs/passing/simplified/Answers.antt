use Rattle.std.proofs.Common.{ℕ, List, map, sym, subst}
use Rattle.std.specs.Prelude.{IfSome}
use Rattle.term_table.specs.declared.node.Node.{Node}
use Rattle.term_table.specs.Placed.{used}
use Rattle.term_table.specs.Meaning.{meaning, meanings, at}
use Rattle.term_table.specs.Entries.{nodes_of}
use Rattle.term_table.specs.Forwarding.{IsSame}
use Rattle.term_table.proofs.passing.simplified.Goals as goal

pub returns-in-Some : goal.returns-in-Some
returns-in-Some c =
    let es = c.args.entries.now in
    let ms = meanings (nodes_of es) in
    let body = c.in-Use.body in
    let other = c.in-Some.other in
    let found : IsSame es (used (at ms body) (map (at ms) c.as_slice.result.now)) other = subst (λ r. IfSome r (IsSame es (used (at ms body) (map (at ms) c.as_slice.result.now)))) c.in-Some.is c.in_ok-other.ensures in
    subst (λ (x : Node). IsSame es (meaning ms x) other) (sym c.in-Use.is)
    (subst (λ (is : List ℕ). IsSame es (used (at ms body) (map (at ms) is)) other) c.as_slice.ensures found)
