use Rattle.std.proofs.Common.{refl}
use Rattle.term_table.proofs.WriterLemmas.{with_later}
use Rattle.term_table.proofs.writer.Writer.later.Goals as goal

pub returns : goal.returns
returns c = with_later c.args.self.now _ c.args.step c.requires refl refl c.in_ok-push.ensures.items
