use Rattle.std.proofs.Common.{◌≡◌, ◌∙◌, ◌∷◌, [], ◌<◌, length, ap, sym, arith}
use Rattle.lin_truth.specs.Term.{no}
use Rattle.term_table.specs.Meaning.{at, meaning, meanings}
use Rattle.term_table.specs.Entries.{nodes_of}
use Rattle.term_table.specs.Steps.{frames_of, frame_at, thing_of, run}
use Rattle.term_table.proofs.Growth.{node-at, length-meanings}
use Rattle.term_table.proofs.EntryForms.{length-nodes}
use Rattle.term_table.proofs.WriterLemmas.{goes-at, at-none, node-entry}
use Rattle.term_table.proofs.writer.Writer.thing.Goals as goal

pub returns-then-thing-entries : goal.returns-then-thing-entries
returns-then-thing-entries c =
    let w = c.args.self.now in
    let es = c.args.entries.now in
    let ms = meanings (nodes_of es) in
    let frame = frame_at (frames_of ms w.frames.items) c.args.thing.frame in
    let none = at-none ms c.args.thing.node (omega (arith, length-meanings (nodes_of es), length-nodes es, c.if-thing-entries.true)) in
    goes-at c.put.result ms w c.put.new.self (λ ns. no ∷ run w.steps.items []) (thing_of ms (frames_of ms w.frames.items) c.args.thing c.args.above ∷ run w.steps.items [])
    (λ k. sym none k frame c.args.above ∷ run w.steps.items []) c.put.ensures

pub returns : goal.returns
returns c =
    let w = c.args.self.now in
    let es = c.args.entries.now in
    let ms = meanings (nodes_of es) in
    let i = c.args.thing.node in
    let e = c.index-entries-thing.result in
    let lt : i < length es = omega (arith, c.if-thing-entries.false) in
    let is : meaning ms e.node ≡ at ms i =
    sym (node-at (nodes_of es) i e.node c.requires.entries.ordered (omega (arith, length-nodes es, lt)) ∙ ap (meaning ms) (node-entry es i e e.node lt c.index-entries-thing.is)) in
    goes-at c.visit.result ms w c.visit.new.self (λ ns. meaning ns e.node (frame_at (frames_of ns w.frames.items) c.args.thing.frame) c.args.above ∷ run w.steps.items []) (thing_of ms (frames_of ms w.frames.items) c.args.thing c.args.above ∷ run w.steps.items [])
    (λ k. is k (frame_at (frames_of ms w.frames.items) c.args.thing.frame) c.args.above ∷ run w.steps.items []) c.visit.ensures
