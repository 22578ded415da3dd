use Rattle.std.proofs.Common.{◌∙◌, ◌++◌, ◌∷◌, [], ◌+◌, ℕ, List, length, map, ap, sym, subst}
use Rattle.std.specs.Prelude.{IfOk}
use Rattle.lin_truth.specs.declared.term.VarSort.{VarSort}
use Rattle.lin_truth.specs.Term.{Term}
use Rattle.term_table.specs.declared.node.Node.{Node}
use Rattle.term_table.specs.declared.step.Step.TheVariants as step
use Rattle.term_table.specs.Placed.{inner, used}
use Rattle.term_table.specs.Built.{several_of, distinct_of, binder_of}
use Rattle.term_table.specs.Meaning.{Meaning, at, meaning}
use Rattle.term_table.specs.Steps.{frames_of, frame_at, run, stepped}
use Rattle.term_table.specs.Writing.{Goes}
use Rattle.term_table.proofs.StepLemmas.{several-done}
use Rattle.term_table.proofs.WriterLemmas.{goes-as, length-maps}
use Rattle.term_table.proofs.writer.Writer.visit.Goals as goal

pub returns-in-Leaf : goal.returns-in-Leaf
returns-in-Leaf c =
    let w = c.args.self.now in
    subst (λ (x : Node). IfOk c.put.result (λ _. (ms : List Meaning) → Goes ms w c.put.new.self (meaning ms x (frame_at (frames_of ms w.frames.items) c.args.frame) c.args.above))) (sym c.in-Leaf.is)
    (c.put.ensures)

pub returns-in-Parameter : goal.returns-in-Parameter
returns-in-Parameter c =
    let w = c.args.self.now in
    subst (λ (x : Node). IfOk c.parameter.result (λ _. (ms : List Meaning) → Goes ms w c.parameter.new.self (meaning ms x (frame_at (frames_of ms w.frames.items) c.args.frame) c.args.above))) (sym c.in-Parameter.is)
    (c.parameter.ensures)

pub returns-in-Binding : goal.returns-in-Binding
returns-in-Binding c =
    let w = c.args.self.now in
    subst (λ (x : Node). IfOk c.binding.result (λ _. (ms : List Meaning) → Goes ms w c.binding.new.self (meaning ms x (frame_at (frames_of ms w.frames.items) c.args.frame) c.args.above))) (sym c.in-Binding.is)
    (c.binding.ensures)

pub returns-in-One : goal.returns-in-One
returns-in-One c =
    let w = c.args.self.now in
    subst (λ (x : Node). IfOk c.split.result (λ _. (ms : List Meaning) → Goes ms w c.split.new.self (meaning ms x (frame_at (frames_of ms w.frames.items) c.args.frame) c.args.above))) (sym c.in-One.is)
    (c.split.ensures)

pub returns-in-Two : goal.returns-in-Two
returns-in-Two c =
    let w = c.args.self.now in
    subst (λ (x : Node). IfOk c.split-in-Two.result (λ _. (ms : List Meaning) → Goes ms w c.split-in-Two.new.self (meaning ms x (frame_at (frames_of ms w.frames.items) c.args.frame) c.args.above))) (sym c.in-Two.is)
    (c.split-in-Two.ensures)

pub returns-in-Choice : goal.returns-in-Choice
returns-in-Choice c =
    let w = c.args.self.now in
    subst (λ (x : Node). IfOk c.split-in-Choice.result (λ _. (ms : List Meaning) → Goes ms w c.split-in-Choice.new.self (meaning ms x (frame_at (frames_of ms w.frames.items) c.args.frame) c.args.above))) (sym c.in-Choice.is)
    (c.split-in-Choice.ensures)

pub returns-in-Several : goal.returns-in-Several
returns-in-Several c =
    let w = c.args.self.now in
    subst (λ (x : Node). IfOk c.split-in-Several.result (λ _. (ms : List Meaning) → Goes ms w c.split-in-Several.new.self (meaning ms x (frame_at (frames_of ms w.frames.items) c.args.frame) c.args.above))) (sym c.in-Several.is)
    (goes-as c.split-in-Several.result w c.split-in-Several.new.self
    (λ ms. stepped (step.Several c.in-Several.op c.len.result) (map (λ i. at ms i (frame_at (frames_of ms w.frames.items) c.args.frame) c.args.above) c.as_slice.result.now ++ run w.steps.items []))
    (λ ms. several_of c.in-Several.op (map (λ i. at ms i (frame_at (frames_of ms w.frames.items) c.args.frame) c.args.above) c.in-Several.parts) ∷ run w.steps.items [])
    (λ ms. let f : ℕ → Term = λ i. at ms i (frame_at (frames_of ms w.frames.items) c.args.frame) c.args.above in
    ap (λ (is : List ℕ). stepped (step.Several c.in-Several.op c.len.result) (map f is ++ run w.steps.items [])) c.as_slice.ensures
    ∙ several-done c.in-Several.op c.len.result (map f c.in-Several.parts) (run w.steps.items []) (length-maps f c.in-Several.parts ∙ sym c.len.ensures))
    c.split-in-Several.ensures)

pub returns-in-Distinct : goal.returns-in-Distinct
returns-in-Distinct c =
    let w = c.args.self.now in
    subst (λ (x : Node). IfOk c.distinct.result (λ _. (ms : List Meaning) → Goes ms w c.distinct.new.self (meaning ms x (frame_at (frames_of ms w.frames.items) c.args.frame) c.args.above))) (sym c.in-Distinct.is)
    (goes-as c.distinct.result w c.distinct.new.self
    (λ ms. distinct_of (map (λ i. at ms i (frame_at (frames_of ms w.frames.items) c.args.frame) c.args.above) c.as_slice-in-Distinct.result.now) ∷ run w.steps.items [])
    (λ ms. distinct_of (map (λ i. at ms i (frame_at (frames_of ms w.frames.items) c.args.frame) c.args.above) c.in-Distinct.parts) ∷ run w.steps.items [])
    (λ ms. ap (λ (is : List ℕ). distinct_of (map (λ i. at ms i (frame_at (frames_of ms w.frames.items) c.args.frame) c.args.above) is) ∷ run w.steps.items []) c.as_slice-in-Distinct.ensures)
    c.distinct.ensures)

pub returns-in-Binder : goal.returns-in-Binder
returns-in-Binder c =
    let w = c.args.self.now in
    subst (λ (x : Node). IfOk c.binder.result (λ _. (ms : List Meaning) → Goes ms w c.binder.new.self (meaning ms x (frame_at (frames_of ms w.frames.items) c.args.frame) c.args.above))) (sym c.in-Binder.is)
    (let q = c.in-Binder.quantifier in
    let around = c.in-Binder.around in
    let body = c.in-Binder.body in
    let f : List Meaning → List VarSort → List Term = λ ms us. binder_of q us (at ms body (inner around (length us) (frame_at (frames_of ms w.frames.items) c.args.frame) c.args.above) (c.args.above + length us)) ∷ run w.steps.items [] in
    goes-as c.binder.result w c.binder.new.self (λ ms. f ms c.as_slice-in-Binder.result.now) (λ ms. f ms c.in-Binder.sorts) (λ ms. ap (f ms) c.as_slice-in-Binder.ensures) c.binder.ensures)

pub returns-in-Use : goal.returns-in-Use
returns-in-Use c =
    let w = c.args.self.now in
    subst (λ (x : Node). IfOk c.definition.result (λ _. (ms : List Meaning) → Goes ms w c.definition.new.self (meaning ms x (frame_at (frames_of ms w.frames.items) c.args.frame) c.args.above))) (sym c.in-Use.is)
    (let f : List Meaning → List ℕ → List Term = λ ms is. used (at ms c.in-Use.body) (map (at ms) is) (frame_at (frames_of ms w.frames.items) c.args.frame) c.args.above ∷ run w.steps.items [] in
    goes-as c.definition.result w c.definition.new.self (λ ms. f ms c.as_slice-in-Use.result.now) (λ ms. f ms c.in-Use.args) (λ ms. ap (f ms) c.as_slice-in-Use.ensures) c.definition.ensures)
