use Rattle.std.proofs.Common.{◌+◌, ◌++◌, ◌∷◌, [], ℕ, List, take, get_or, sym, subst, arith}
use Rattle.std.proofs.lemmas.List.{take_more}
use Rattle.term_table.specs.Forwarding.{Stand}
use Rattle.term_table.proofs.Amounts.{below-at}
use Rattle.term_table.proofs.PassedOn.{stand-push}
use Rattle.term_table.proofs.passing.arguments_of.Goals as goal

pub stand_in-requires-clause-body : goal.stand_in-requires-clause-body
stand_in-requires-clause-body c = below-at _ c.args.parts.now c.loop-part.part-index c.requires.parts (omega (arith, c.loop-part-test.true))

pub loop-part-preserved : goal.loop-part-preserved
loop-part-preserved c =
    let es = c.args.entries.now in
    let parts = c.args.parts.now in
    let i = c.loop-part.part-index in
    let step = stand-push es (take i parts) c.args.args.now c.loop-part.all.items (get_or parts i 0) c.in-Some.argument c.loop-part.invariant c.in-Some.ensures.0 c.in-Some.ensures.1 in
    subst (λ (outs : List ℕ). Stand es (take (i + 1) parts) c.args.args.now outs) (sym c.in_ok-push-in-Some.ensures.items)
    (subst (λ (ps : List ℕ). Stand es ps c.args.args.now (c.loop-part.all.items ++ c.in-Some.argument ∷ [])) (sym (take_more parts i 0 (omega (arith, c.loop-part-test.true)))) step)
