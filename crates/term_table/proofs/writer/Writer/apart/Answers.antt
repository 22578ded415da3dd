use Rattle.std.proofs.Common.{◌∙◌, ◌++◌, ◌∷◌, [], List, refl, ap, append_assoc}
use Rattle.term_table.specs.declared.step.Step.TheVariants as step
use Rattle.term_table.specs.declared.step.Task.{Task}
use Rattle.term_table.specs.declared.step.Task.TheVariants as task
use Rattle.term_table.specs.declared.node.Unary.TheVariants as unary
use Rattle.term_table.specs.declared.node.Binary.TheVariants as binary
use Rattle.term_table.specs.Steps.{writes}
use Rattle.term_table.proofs.WriterLemmas.{with_tasks}
use Rattle.term_table.proofs.writer.Writer.apart.Goals as goal

pub returns : goal.returns
returns c =
    λ ms. let old = c.args.self.now in
    let parts = writes (c.args.left ∷ c.args.right ∷ []) c.args.frame c.args.above in
    let first = task.Put (step.One unary.Not) in
    let second = task.Put (step.Two binary.Equal) in
    with_tasks ms old _ (first ∷ second ∷ parts) _ c.requires.ready refl refl
    (c.in_ok-push_parts.ensures ∙ ap (λ (xs : List Task). xs ++ parts) (c.in_ok-push-2.ensures.items ∙ ap (λ (xs : List Task). xs ++ second ∷ []) c.in_ok-push.ensures.items)
    ∙ append_assoc (old.todo.items ++ first ∷ []) (second ∷ []) parts ∙ append_assoc old.todo.items (first ∷ []) (second ∷ parts))
    (tt, (tt, (c.requires.below, (c.requires.below, tt)))) refl
