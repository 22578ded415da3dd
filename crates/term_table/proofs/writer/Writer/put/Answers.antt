use Rattle.std.proofs.Common.{refl}
use Rattle.term_table.proofs.WriterLemmas.{with_step}
use Rattle.term_table.proofs.writer.Writer.put.Goals as goal

pub returns : goal.returns
returns c = λ ms. with_step ms c.args.self.now _ c.args.step c.requires refl refl c.in_ok-push.ensures.items
