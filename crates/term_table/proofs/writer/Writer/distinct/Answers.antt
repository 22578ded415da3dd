use Rattle.std.proofs.Common.{◌≡◌, ◌∙◌, ◌++◌, ◌∷◌, [], List, length, refl, ap, arith, append_assoc}
use Rattle.term_table.specs.declared.step.Step.TheVariants as step
use Rattle.term_table.specs.declared.step.Task.{Task}
use Rattle.term_table.specs.declared.step.Task.TheVariants as task
use Rattle.term_table.specs.declared.node.Variadic.TheVariants as variadic
use Rattle.term_table.specs.Steps.{frames_of, run, aparts}
use Rattle.term_table.proofs.WriterLemmas.{with_tasks, distinct-done, distinct-below}
use Rattle.term_table.proofs.writer.Writer.distinct.Goals as goal

pub returns : goal.returns
returns c =
    λ ms. let old = c.args.self.now in
    let pairs = aparts c.args.parts.now c.args.frame c.args.above in
    let is : c.push_pairs.new.todo.items ≡ pairs = c.in_ok-push_pairs.ensures ∙ ap (λ (xs : List Task). xs ++ pairs) c.new-pairs.ensures.items in
    let count : c.len-count.result ≡ length pairs = omega (arith, c.len-count.ensures, c.push_pairs.new.todo.ok.0, ap length is) in
    let put = task.Put (step.Several variadic.And c.len-count.result) in
    with_tasks ms old _ (put ∷ pairs) _ c.requires.ready refl refl
    (c.in_ok-append.ensures.items ∙ (λ k. c.in_ok-push.ensures.items k ++ is k) ∙ append_assoc old.todo.items (put ∷ []) pairs)
    (distinct-below (length old.frames.items) c.args.parts.now c.args.frame c.args.above c.len-count.result c.requires.below)
    (distinct-done ms (frames_of ms old.frames.items) c.args.parts.now c.args.frame c.args.above c.len-count.result (run old.steps.items []) count)
