use Rattle.std.proofs.Common.{ℕ, List, length, map, sym, ap, subst, ◌∙◌}
use Rattle.term_table.specs.Built.{several_of}
use Rattle.term_table.specs.Meaning.{at, meanings, AreBelow}
use Rattle.smt_term.proofs.MakingLemmas.{AreBelow-nodes, makes_as, trees-seen}
use Rattle.smt_term.proofs.making.several.Goals as goal

pub added-requires : goal.added-requires
added-requires c = subst (AreBelow (length c.args.table.now)) (sym c.in_ok-parts.ensures) (AreBelow-nodes (length c.args.table.now) c.args.args.now c.requires)

pub returns : goal.returns
returns c =
    let ms = meanings c.args.table.now in
    makes_as c.args.table.now c.added.new.table c.added.result _ _
    (λ frame n. ap (λ (is : List ℕ). several_of c.args.op (map (λ i. at ms i frame n) is)) c.in_ok-parts.ensures ∙ ap (several_of c.args.op) (sym (trees-seen ms c.args.args.now frame n)))
    c.added.ensures
