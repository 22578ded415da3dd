use Rattle.std.proofs.Common.{refl, arith}
use Rattle.term_table.proofs.WriterLemmas.{with_frame}
use Rattle.term_table.proofs.writer.Writer.enter.Goals as goal

pub returns : goal.returns
returns c =
    λ ms. with_frame ms c.args.self.now _ c.args.around c.args.body c.len-frame.result c.args.above c.requires.ready c.in_ok-push.ensures.items refl c.in_ok-push-2.ensures.items
    (omega (arith, c.len-frame.ensures, c.args.self.now.frames.ok.0)) c.requires.below
