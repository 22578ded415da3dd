use Rattle.std.proofs.Common.{◌∙◌, ◌+◌, ◌++◌, ◌∷◌, [], ℕ, List, ap, append_assoc}
use Rattle.term_table.specs.Placed.{places}
use Rattle.term_table.proofs.WriterLemmas.{places-push}
use Rattle.term_table.proofs.writer.bound_of.Goals as goal

pub loop-i-preserved : goal.loop-i-preserved
loop-i-preserved c =
    let i = c.loop-i.i in
    let n = c.args.above in
    c.in_ok-push.ensures.items ∙ ap (λ (xs : List ℕ). xs ++ (n + i) ∷ []) c.loop-i.invariant ∙ append_assoc c.args.outer.now (places i n) ((n + i) ∷ []) ∙ ap (λ (xs : List ℕ). c.args.outer.now ++ xs) (places-push i n)
