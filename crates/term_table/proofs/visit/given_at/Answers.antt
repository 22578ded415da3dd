use Rattle.std.proofs.Common.{◌∙◌, List, length, map, get_or, ap, sym, subst, arith}
use Rattle.term_table.specs.declared.step.Thing.{Thing}
use Rattle.term_table.specs.Placed.{Frame, nothing}
use Rattle.term_table.specs.Steps.{frames_of, thing_of, AreThingsBelow}
use Rattle.term_table.proofs.StepLemmas.{frame-is, given-below, thing-below, given-at, given-none}
use Rattle.term_table.proofs.visit.given_at.Goals as goal

pub returns-then-number-given : goal.returns-then-number-given
returns-then-number-given c =
    let xs = c.args.frames.now in
    let x = c.index-frames-frame.result in
    let ts = c.as_slice-given.result.now in
    let none : Thing = record { node = 0; frame = 0 } in (
      thing-below (length xs) ts c.args.number none (subst (AreThingsBelow (length xs)) (sym c.as_slice-given.ensures) (given-below xs c.args.frame x c.requires.ordered c.requires.below c.index-frames-frame.is)) c.if-number-given.true,
      λ ms. ap (λ (f : Frame). get_or f.given c.args.number nothing) (frame-is ms xs c.args.frame x c.requires.ordered c.requires.below c.index-frames-frame.is)
          ∙ ap (λ (us : List Thing). get_or (map (thing_of ms (frames_of ms xs)) us) c.args.number nothing) (sym c.as_slice-given.ensures)
          ∙ given-at ms (frames_of ms xs) ts c.args.number none c.if-number-given.true,
    )

pub returns : goal.returns
returns c =
    λ ms. let xs = c.args.frames.now in
    let x = c.index-frames-frame.result in
    ap (λ (f : Frame). get_or f.given c.args.number nothing) (frame-is ms xs c.args.frame x c.requires.ordered c.requires.below c.index-frames-frame.is)
    ∙ ap (λ (us : List Thing). get_or (map (thing_of ms (frames_of ms xs)) us) c.args.number nothing) (sym c.as_slice-given.ensures)
    ∙ given-none ms (frames_of ms xs) c.as_slice-given.result.now c.args.number (omega (arith, c.if-number-given.false))
