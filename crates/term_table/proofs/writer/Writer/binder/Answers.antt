use Rattle.std.proofs.Common.{◌≡◌, ◌∙◌, ◌∷◌, [], ◌+◌, List, length, ap, subst}
use Rattle.lin_truth.specs.Term.{Term}
use Rattle.term_table.specs.declared.step.Step.TheVariants as step
use Rattle.term_table.specs.declared.step.Around.{Around}
use Rattle.term_table.specs.Placed.{inner}
use Rattle.term_table.specs.Built.{binder_of}
use Rattle.term_table.specs.Meaning.{Meaning, at}
use Rattle.term_table.specs.Steps.{frames_of, frame_of, frame_at, run}
use Rattle.term_table.proofs.WriterLemmas.{goes-as, goes-later}
use Rattle.term_table.proofs.writer.Writer.binder.Goals as goal

pub returns : goal.returns
returns c =
    let w = c.args.self.now in
    let k = length c.args.sorts.now in
    let q = c.args.quantifier in
    let rest = run w.steps.items [] in
    let mid = c.later.new.self in
    let x = step.Binder q c.in_ok-sorts.sorts in
    let inside = c.in_ok-inner.inner in
    let f : List Meaning → Term = λ ms. at ms c.args.body (frame_of ms (frames_of ms mid.frames.items) inside) (c.args.above + k) in
    goes-as c.enter.result w c.enter.new.self (λ ms. binder_of q c.in_ok-sorts.sorts (f ms) ∷ rest)
    (λ ms. binder_of q c.args.sorts.now (at ms c.args.body (inner c.args.around k (frame_at (frames_of ms w.frames.items) c.args.frame) c.args.above) (c.args.above + k)) ∷ rest)
    (λ ms. let frame : frame_of ms (frames_of ms mid.frames.items) inside ≡ inner c.args.around k (frame_at (frames_of ms w.frames.items) c.args.frame) c.args.above =
    ap (λ (xs : List Around). frame_of ms (frames_of ms xs) inside) c.in_ok-later.ensures.frames
    ∙ subst (λ (xs : List Around). frame_of ms (frames_of ms xs) inside ≡ inner c.args.around k (frame_at (frames_of ms xs) c.args.frame) c.args.above) c.as_slice.ensures.value (c.in_ok-inner.ensures.1 ms) in
    λ j. binder_of q (c.in_ok-sorts.ensures j) (at ms c.args.body (frame j) (c.args.above + k)) ∷ rest)
    (goes-later c.enter.result w mid c.enter.new.self x f c.in_ok-later.ensures c.enter.ensures)
