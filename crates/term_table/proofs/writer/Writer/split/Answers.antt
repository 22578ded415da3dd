use Rattle.std.proofs.Common.{◌∙◌, ◌++◌, ◌∷◌, [], List, length, refl, ap, append_assoc}
use Rattle.term_table.specs.declared.step.Task.{Task}
use Rattle.term_table.specs.declared.step.Task.TheVariants as task
use Rattle.term_table.specs.Steps.{frames_of, run, writes}
use Rattle.term_table.proofs.WriterLemmas.{with_tasks, split-done, split-below}
use Rattle.term_table.proofs.writer.Writer.split.Goals as goal

pub returns : goal.returns
returns c =
    λ ms. let old = c.args.self.now in
    let parts = writes c.args.parts.now c.args.frame c.args.above in
    with_tasks ms old _ (task.Put c.args.step ∷ parts) _ c.requires.ready refl refl
    (c.in_ok-push_parts.ensures ∙ ap (λ (xs : List Task). xs ++ parts) c.in_ok-push.ensures.items ∙ append_assoc old.todo.items (task.Put c.args.step ∷ []) parts)
    (split-below (length old.frames.items) c.args.step c.args.parts.now c.args.frame c.args.above c.requires.below)
    (split-done ms (frames_of ms old.frames.items) c.args.step c.args.parts.now c.args.frame c.args.above (run old.steps.items []))
