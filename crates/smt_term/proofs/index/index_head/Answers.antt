use Rattle.std.proofs.Common.{◌≡◌, Bool, true, false, sym, ap, ◌∙◌}
use Rattle.smt_lex.specs.Place.{place}
use Rattle.smt_tree.specs.Seen.{all_seen}
use Rattle.ss_names.specs.declared.FaultKind.TheVariants as kind
use Rattle.smt_term.specs.Reading.{Part, unless}
use Rattle.smt_term.specs.Terms.{index_head, is_mark, divisible_index}
use Rattle.smt_term.specs.View.{part, part_seen}
use Rattle.smt_term.proofs.PartLemmas.{index-short, index-three, read_as}
use Rattle.smt_term.proofs.index.index_head.Goals as goal

pub returns-then-items-ne3 : goal.returns-then-items-ne3
returns-then-items-ne3 c =
    rw c.bad.ensures (index-short c.args.logic (place c.args.line c.args.column) c.args.items.now c.if-items-ne3.true)

pub returns-then-not-is_mark : goal.returns-then-not-is_mark
returns-then-not-is_mark c =
    let p = place c.args.line c.args.column in
    let a = c.index-items-0.result in
    let b = c.index-items-1.result in
    let d = c.index-items-2.result in
    let mark : is_mark (part a) ≡ false = ap is_mark (sym c.part_of-mark.ensures) ∙ sym c.if-not-is_mark.ensures in
    rw c.bad-then-not-is_mark.ensures (index-three c.args.logic p c.args.items.now a b d c.if-items-ne3.false c.index-items-0.is c.index-items-1.is c.index-items-2.is
    ∙ ap (λ (m : Bool). unless m kind.Sort p (divisible_index c.args.logic (part b) (part d))) mark)

pub returns : goal.returns
returns c =
    let p = place c.args.line c.args.column in
    let a = c.index-items-0.result in
    let b = c.index-items-1.result in
    let d = c.index-items-2.result in
    let mark : is_mark (part a) ≡ true = ap is_mark (sym c.part_of-mark.ensures) ∙ sym c.if-not-is_mark.ensures in
    let given = divisible_index c.args.logic (part_seen c.part_of-word.result) (part_seen c.part_of-index.result) in
    let same : given ≡ index_head c.args.logic p (all_seen c.args.items.now) =
    ap (λ (x : Part). divisible_index c.args.logic x (part_seen c.part_of-index.result)) c.part_of-word.ensures
    ∙ ap (λ (x : Part). divisible_index c.args.logic (part b) x) c.part_of-index.ensures
    ∙ ap (λ (m : Bool). unless m kind.Sort p (divisible_index c.args.logic (part b) (part d))) (sym mark)
    ∙ sym (index-three c.args.logic p c.args.items.now a b d c.if-items-ne3.false c.index-items-0.is c.index-items-1.is c.index-items-2.is) in
    read_as given (index_head c.args.logic p (all_seen c.args.items.now)) c.divisible_index.result same c.divisible_index.ensures
