use Rattle.std.proofs.Common.{◌∷◌, [], length, map, ap, sym, subst}
use Rattle.term_table.specs.declared.step.Around.{Around}
use Rattle.term_table.specs.Placed.{Frame, used}
use Rattle.term_table.specs.Meaning.{at}
use Rattle.term_table.specs.Steps.{frames_of, frame_of, frame_at, run, AreThingsBelow}
use Rattle.term_table.proofs.WriterLemmas.{goes-as, used-frame, things-here}
use Rattle.term_table.proofs.writer.Writer.definition.Goals as goal

pub enter-requires-clause-below : goal.enter-requires-clause-below
enter-requires-clause-below c =
    subst (AreThingsBelow (length c.args.self.now.frames.items)) (sym c.in_ok-given.ensures) (things-here (length c.args.self.now.frames.items) c.args.args.now c.args.frame c.requires.below)

pub returns : goal.returns
returns c =
    let w = c.args.self.now in
    let args = c.args.args.now in
    let x : Around = record { given = c.in_ok-given.given; bound = c.new-bound.result } in
    goes-as c.enter.result w c.enter.new.self (λ ms. at ms c.args.body (frame_of ms (frames_of ms w.frames.items) x) c.args.above ∷ run w.steps.items [])
    (λ ms. used (at ms c.args.body) (map (at ms) args) (frame_at (frames_of ms w.frames.items) c.args.frame) c.args.above ∷ run w.steps.items [])
    (λ ms. ap (λ (f : Frame). at ms c.args.body f c.args.above ∷ run w.steps.items []) (used-frame ms (frames_of ms w.frames.items) args c.new-bound.result c.in_ok-given.given c.args.frame c.in_ok-given.ensures c.new-bound.ensures))
    c.enter.ensures
