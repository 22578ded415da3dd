use Rattle.std.proofs.Common.{◌≡◌, ℕ, ◌+◌, List, ◌++◌, ◌∙◌, ap, sym, take, append_assoc, arith}
use Rattle.strat_text.specs.Written as spelled
use Rattle.strat_text.proofs.Appending.{sections_more}
use Rattle.strat_text.proofs.writing.put_sections.Goals as goal

pub loop-number-preserved : goal.loop-number-preserved
loop-number-preserved c =
    let b = c.index-sections-number.result in
    let i = c.loop-number.number in
    let front : List ℕ = spelled.sections_from 0 (take i c.args.sections.now) in
    let n : i ≡ 0 + i = omega arith in
    c.in_ok-put_section.ensures
    ∙ ap (λ (t : List ℕ). t ++ spelled.section i b) c.loop-number.invariant
    ∙ append_assoc c.args.out.now.items front (spelled.section i b)
    ∙ ap (λ (t : List ℕ). c.args.out.now.items ++ t) (ap (λ m. front ++ spelled.section m b) n ∙ ap (λ x. front ++ spelled.section (0 + i) x) c.index-sections-number.is ∙ sym (sections_more c.args.sections.now 0 i b c.loop-number-test.true))
