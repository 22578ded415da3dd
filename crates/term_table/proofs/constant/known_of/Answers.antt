use Rattle.std.proofs.Common.{◌≡◌, ◌∙◌, ℕ, List, map, ap, sym, subst, arith}
use Rattle.std.specs.Prelude.{IfOk}
use Rattle.term_table.specs.declared.node.Node.{Node}
use Rattle.term_table.specs.Scale.{by_freedom}
use Rattle.term_table.specs.Placed.{top, used}
use Rattle.term_table.specs.Built.{several_of}
use Rattle.term_table.specs.Meaning.{meaning, meanings, at}
use Rattle.term_table.specs.Known.{known_one, known_two, known_several}
use Rattle.term_table.specs.Entries.{nodes_of, knowns_of, known_at, IsKnown}
use Rattle.term_table.proofs.Knowing.{free-none, known-at, know-one, know-two, know-several, if_ok-is}
use Rattle.term_table.proofs.constant.known_of.Goals as goal

pub returns-then-size-gt0 : goal.returns-then-size-gt0
returns-then-size-gt0 c =
    let ms = meanings (nodes_of c.args.entries.now) in
    λ le. free-none (meaning ms c.args.node.now top 0) c.args.size.free (c.requires.size by_freedom) (omega (arith, c.if-size-gt0.true))

pub returns-in-One : goal.returns-in-One
returns-in-One c =
    let es = c.args.entries.now in
    let ms = meanings (nodes_of es) in
    let op = c.in-One.op in
    let a = c.in-One.a in
    let is : IsKnown (at ms a) (known_at es a) = known-at ms (knowns_of es) a c.requires.entries.known in
    subst (λ (x : Node). IsKnown (meaning ms x) c.known_one.result) (sym c.in-One.is)
    (λ le. (c.known_one.ensures ∙ ap (known_one op) c.known_at.ensures) ∙ know-one (at ms a) op (known_at es a) is le)

pub returns-in-Two : goal.returns-in-Two
returns-in-Two c =
    let es = c.args.entries.now in
    let ms = meanings (nodes_of es) in
    let op = c.in-Two.op in
    let a = c.in-Two.a in
    let b = c.in-Two.b in
    let left : IsKnown (at ms a) (known_at es a) = known-at ms (knowns_of es) a c.requires.entries.known in
    let right : IsKnown (at ms b) (known_at es b) = known-at ms (knowns_of es) b c.requires.entries.known in
    subst (λ (x : Node). IsKnown (meaning ms x) c.known_two.result) (sym c.in-Two.is)
    (λ le. (c.known_two.ensures ∙ (λ k. known_two op (c.known_at-in-Two.ensures k) (c.known_at-in-Two-2.ensures k))) ∙ know-two (at ms a) (at ms b) op (known_at es a) (known_at es b) left right le)

pub returns-in-Several : goal.returns-in-Several
returns-in-Several c =
    let es = c.args.entries.now in
    let ms = meanings (nodes_of es) in
    let op = c.in-Several.op in
    let parts = c.in-Several.parts in
    subst (λ (x : Node). IfOk c.known_whole.result (IsKnown (meaning ms x))) (sym c.in-Several.is)
    (if_ok-is c.known_whole.result (λ frame n. several_of op (map (λ i. at ms i frame n) parts)) (known_several op (map (known_at es) parts))
    (know-several ms (knowns_of es) op parts c.requires.entries.known)
    (subst (λ (is : List ℕ). IfOk c.known_whole.result (λ known. known ≡ known_several op (map (known_at es) is))) c.as_slice.ensures c.known_whole.ensures))

pub returns-in-Use : goal.returns-in-Use
returns-in-Use c =
    let ms = meanings (nodes_of c.args.entries.now) in
    let body = c.in-Use.body in
    subst (λ (x : Node). IfOk c.known_use.result (IsKnown (meaning ms x))) (sym c.in-Use.is)
    (subst (λ (is : List ℕ). IfOk c.known_use.result (IsKnown (used (at ms body) (map (at ms) is)))) c.as_slice-in-Use.ensures c.known_use.ensures)
