use Rattle.std.proofs.Common.{◌≡◌, ◌∙◌, ◌∷◌, ◌++◌, [], List, map, ap}
use Rattle.term_table.specs.declared.step.Task.{Task}
use Rattle.term_table.specs.declared.step.Around.{Around}
use Rattle.term_table.specs.Placed.{used}
use Rattle.term_table.specs.Meaning.{at, meanings}
use Rattle.term_table.specs.Entries.{nodes_of}
use Rattle.term_table.specs.Steps.{run, frames_of, frame_at, all_done}
use Rattle.term_table.proofs.StepLemmas.{frame-start}
use Rattle.term_table.proofs.written.steps_of.Goals as goal

pub finish-requires-clause-ready : goal.finish-requires-clause-ready
finish-requires-clause-ready c = (c.in_ok-definition.ensures []).ready

pub returns : goal.returns
returns c =
    let ms = meanings (nodes_of c.args.entries.now) in
    let outer : Around = record { given = c.new-4.result; bound = c.new-5.result } in
    let frames = c.push.new.self.items in
    let one : frames ≡ outer ∷ [] = c.in_ok-push.ensures.items ∙ ap (λ (xs : List Around). xs ++ outer ∷ []) c.new.ensures.items in
    c.in_ok-finish.ensures ∙ (c.in_ok-definition.ensures ms).same
    ∙ ap (λ (xs : List Task). all_done ms (frames_of ms frames) xs (used (at ms c.args.body) (map (at ms) c.args.args.now) (frame_at (frames_of ms frames) 0) c.args.above ∷ run c.new-3.result.items [])) c.new-2.ensures.items
    ∙ (λ k. used (at ms c.args.body) (map (at ms) c.args.args.now) (frame-start ms frames outer one c.new-4.ensures c.new-5.ensures k) c.args.above ∷ run (c.new-3.ensures.items k) [])
