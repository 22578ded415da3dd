use Rattle.std.proofs.Common.{ℕ, List, length, map, sym, ap, subst, ◌∙◌}
use Rattle.lin_truth.specs.Term.{negated}
use Rattle.term_table.specs.Built.{distinct_of}
use Rattle.term_table.specs.Meaning.{Meaning, at, meanings, AreBelow}
use Rattle.smt_term.specs.Apply.{trees}
use Rattle.smt_term.specs.View.{all_at}
use Rattle.smt_term.proofs.MakingLemmas.{AreBelow-nodes, makes_as, trees-seen, length-trees, all_differ-many, all_differ-two, makes_then}
use Rattle.smt_term.proofs.making.apart.Goals as goal

pub added-requires : goal.added-requires
added-requires c = subst (AreBelow (length c.args.table.now)) (sym c.in_ok-parts.ensures) (AreBelow-nodes (length c.args.table.now) c.args.args.now c.requires)

pub returns-then-args-ne2 : goal.returns-then-args-ne2
returns-then-args-ne2 c =
    let ms = meanings c.args.table.now in
    makes_as c.args.table.now c.added.new.table c.added.result _ _
    (λ frame n.
    let ts = trees (all_at ms c.args.args.now) frame n in
    ap (λ (is : List ℕ). distinct_of (map (λ i. at ms i frame n) is)) c.in_ok-parts.ensures ∙ ap distinct_of (sym (trees-seen ms c.args.args.now frame n))
    ∙ sym (all_differ-many ts (λ two. c.if-args-ne2.true (sym (length-trees ms c.args.args.now frame n) ∙ two))))
    c.added.ensures

pub returns : goal.returns
returns c =
    let ms = meanings c.args.table.now in
    makes_then c.args.table.now c.added-2.new.table c.added-3.new.table c.added-3.result _ c.in-Ok.ensures.2
    (makes_as c.added-2.new.table c.added-3.new.table c.added-3.result _ _
    (λ frame n. ap (λ (m : Meaning). negated (m frame n)) c.in-Ok.ensures.0 ∙ sym (all_differ-two ms c.args.args.now frame n c.if-args-ne2.false))
    c.added-3.ensures)
