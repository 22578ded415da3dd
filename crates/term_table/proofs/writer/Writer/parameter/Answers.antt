use Rattle.std.proofs.Common.{◌≡◌, ◌∙◌, ◌∷◌, [], List, get_or, ap, sym, subst}
use Rattle.lin_truth.specs.Term.{no}
use Rattle.term_table.specs.declared.step.Around.{Around}
use Rattle.term_table.specs.Placed.{nothing, parameter}
use Rattle.term_table.specs.Steps.{frames_of, frame_at, thing_of, run}
use Rattle.term_table.proofs.WriterLemmas.{goes-as}
use Rattle.term_table.proofs.writer.Writer.parameter.Goals as goal

pub returns-in-None : goal.returns-in-None
returns-in-None c =
    let w = c.args.self.now in
    let p = c.args.number in
    goes-as c.put.result w c.put.new.self (λ ms. no ∷ run w.steps.items []) (λ ms. parameter p (frame_at (frames_of ms w.frames.items) c.args.frame) c.args.above ∷ run w.steps.items [])
    (λ ms. let e = sym (c.in-None.ensures ms) ∙ ap (λ (xs : List Around). get_or (frame_at (frames_of ms xs) c.args.frame).given p nothing) c.as_slice.ensures.value in
    λ k. e k c.args.above ∷ run w.steps.items [])
    c.put.ensures

pub returns-in-Some : goal.returns-in-Some
returns-in-Some c =
    let w = c.args.self.now in
    let p = c.args.number in
    let t = c.in-Some.thing in
    goes-as c.write.result w c.write.new.self (λ ms. thing_of ms (frames_of ms w.frames.items) t c.args.above ∷ run w.steps.items []) (λ ms. parameter p (frame_at (frames_of ms w.frames.items) c.args.frame) c.args.above ∷ run w.steps.items [])
    (λ ms. let e = subst (λ (xs : List Around). get_or (frame_at (frames_of ms xs) c.args.frame).given p nothing ≡ thing_of ms (frames_of ms xs) t) c.as_slice.ensures.value (c.in-Some.ensures.1 ms) in
    λ k. sym e k c.args.above ∷ run w.steps.items [])
    c.write.ensures
