use Rattle.std.proofs.Common.{◌≡◌, ◌∙◌, ◌++◌, ℕ, List, length, map, take, ap, sym, subst}
use Rattle.term_table.specs.Placed.{Frame, places, inner}
use Rattle.term_table.specs.Steps.{frames_of, thing_of, AreThingsBelow}
use Rattle.term_table.proofs.StepLemmas.{frame-is, given-below}
use Rattle.term_table.proofs.visit.inner_of.Goals as goal

pub returns : goal.returns
returns c =
    let xs = c.args.frames.now in
    let x = c.index-frames-frame.result in
    let given : c.in_ok-given.given ≡ x.given = c.in_ok-given.ensures ∙ c.as_slice.ensures in
    let bound : c.in_ok-bound.bound ≡ take c.args.around x.bound ++ places c.args.count c.args.above =
    c.in_ok-bound.ensures ∙ ap (λ (is : List ℕ). is ++ places c.args.count c.args.above) (c.first_of.ensures ∙ ap (take c.args.around) c.as_slice-2.ensures) in (
      subst (AreThingsBelow (length xs)) (sym given) (given-below xs c.args.frame x c.requires.ordered c.requires.below c.index-frames-frame.is),
      λ ms. (λ k. record { given = map (thing_of ms (frames_of ms xs)) (given k); bound = bound k })
          ∙ sym (ap (λ (f : Frame). inner c.args.around c.args.count f c.args.above) (frame-is ms xs c.args.frame x c.requires.ordered c.requires.below c.index-frames-frame.is)),
    )
