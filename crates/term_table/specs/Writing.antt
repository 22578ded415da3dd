-- A writer that goes on.
use Rattle.std.specs.Prelude.{◌≡◌, List, [], ◌∷◌, length}
use Rattle.lin_truth.specs.Term.{Term}
use Rattle.term_table.specs.declared.writer.Writer.{Writer}
use Rattle.term_table.specs.declared.step.Step.{Step}
use Rattle.term_table.specs.Meaning.{Meaning}
use Rattle.term_table.specs.Steps.{frames_of, stepped, run, all_done, AreFramesFrom, AreTasksBelow}

-- its tasks and frames name only frames that are there
pub record IsReady (w : Writer) : Type 0 where
  pub frames : AreFramesFrom 0 w.frames.items
  pub tasks : AreTasksBelow (length w.frames.items) w.todo.items

-- the trees that it ends with, once these are on the stack
abbrev pub ends : List Meaning → Writer → List Term → List Term
ends ms w ts = all_done ms (frames_of ms w.frames.items) w.todo.items ts

-- the new one ends as the old one would with these trees on the stack
pub record GoesBy (ms : List Meaning) (old new : Writer) (ts : List Term) : Type 0 where
  pub ready : IsReady new
  pub same : ends ms new (run new.steps.items []) ≡ ends ms old ts

-- the new one ends as the old one would with one more tree
abbrev pub Goes : List Meaning → Writer → Writer → Term → Type 0
Goes ms old new t = GoesBy ms old new (t ∷ run old.steps.items [])

-- the new one has this step as its next task
pub record Later (old new : Writer) (x : Step) : Type 0 where
  pub ready : IsReady new
  pub same : (ms : List Meaning) (ts : List Term) → ends ms new ts ≡ ends ms old (stepped x ts)
  pub steps : new.steps.items ≡ old.steps.items
  pub frames : new.frames.items ≡ old.frames.items
