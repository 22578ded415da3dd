use Rattle.std.proofs.Common.{◌∷◌, [], refl}
use Rattle.term_table.specs.declared.step.Task.TheVariants as task
use Rattle.term_table.proofs.WriterLemmas.{with_tasks}
use Rattle.term_table.proofs.writer.Writer.write.Goals as goal

pub returns : goal.returns
returns c = λ ms. with_tasks ms c.args.self.now _ (task.Write c.args.thing c.args.above ∷ []) _ c.requires.ready refl refl c.in_ok-push.ensures.items (c.requires.below, tt) refl
