use Rattle.std.proofs.Common.{◌∙◌, ◌∷◌, [], ℕ, List, get_or, ap, sym}
use Rattle.lin_truth.specs.Term.{variable}
use Rattle.term_table.specs.declared.step.Around.{Around}
use Rattle.term_table.specs.Placed.{binding}
use Rattle.term_table.specs.Steps.{frames_of, frame_at, run}
use Rattle.term_table.proofs.WriterLemmas.{goes-as}
use Rattle.term_table.proofs.writer.Writer.binding.Goals as goal

pub returns : goal.returns
returns c =
    let w = c.args.self.now in
    let i = c.args.place in
    goes-as c.put.result w c.put.new.self (λ ms. variable c.place_at-variable.result ∷ run w.steps.items []) (λ ms. binding i (frame_at (frames_of ms w.frames.items) c.args.frame) c.args.above ∷ run w.steps.items [])
    (λ ms. ap (λ (v : ℕ). variable v ∷ run w.steps.items [])
    (sym (c.place_at-variable.ensures ms) ∙ ap (λ (xs : List Around). get_or (frame_at (frames_of ms xs) c.args.frame).bound i 0) c.as_slice.ensures.value))
    c.put.ensures
