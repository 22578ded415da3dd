use Rattle.std.proofs.Common.{◌∙◌, [], refl, sym}
use Rattle.term_table.specs.declared.writer.Writer.{Writer}
use Rattle.term_table.specs.Meaning.{meanings}
use Rattle.term_table.specs.Entries.{nodes_of}
use Rattle.term_table.specs.Steps.{run}
use Rattle.term_table.proofs.WriterLemmas.{taken, ends-taken}
use Rattle.term_table.proofs.writer.Writer.finish.Goals as goal

pub perform-requires-clause-ready : goal.perform-requires-clause-ready
perform-requires-clause-ready c =
    let w : Writer = record { frames = c.loop.self.frames; todo = c.pop.new.self; steps = c.loop.self.steps } in
    (taken c.loop.self w c.in-Some.task c.loop.invariant.0 refl c.in-Some.ensures.items).0

pub perform-requires-clause-below : goal.perform-requires-clause-below
perform-requires-clause-below c =
    let w : Writer = record { frames = c.loop.self.frames; todo = c.pop.new.self; steps = c.loop.self.steps } in
    (taken c.loop.self w c.in-Some.task c.loop.invariant.0 refl c.in-Some.ensures.items).1

pub loop-preserved : goal.loop-preserved
loop-preserved c =
    let w : Writer = record { frames = c.loop.self.frames; todo = c.pop.new.self; steps = c.loop.self.steps } in
    let ms = meanings (nodes_of c.args.entries.now) in
    let goes = c.in_ok-perform-in-Some.ensures in
    (goes.ready, goes.same ∙ sym (ends-taken ms c.loop.self w c.in-Some.task (run c.loop.self.steps.items []) refl c.in-Some.ensures.items) ∙ c.loop.invariant.1)
