use Rattle.std.proofs.Common.{◌≡◌, ◌<◌, ℕ, List, length, map, sym, subst}
use Rattle.std.specs.Prelude.{IfSome}
use Rattle.term_table.specs.declared.node.Node.{Node}
use Rattle.term_table.specs.Placed.{used}
use Rattle.term_table.specs.Meaning.{meaning, meanings, at, IsAt}
use Rattle.term_table.specs.Entries.{nodes_of}
use Rattle.term_table.proofs.PassedOn.{if_some-at}
use Rattle.term_table.proofs.passing.passed_on.Goals as goal

pub returns-in-Use : goal.returns-in-Use
returns-in-Use c =
    let es = c.args.entries.now in
    let ms = meanings (nodes_of es) in
    let body = c.in-Use.body in
    subst (λ (x : Node). IfSome c.stand_in.result (λ i. IsAt (nodes_of es) i (meaning ms x))) (sym c.in-Use.is)
    (if_some-at c.stand_in.result es (used (at ms body) (map (at ms) c.in-Use.args))
    (subst (λ (is : List ℕ). IfSome c.stand_in.result (λ i. (i < length es) × (at ms i ≡ used (at ms body) (map (at ms) is)))) c.as_slice.ensures c.stand_in.ensures))
