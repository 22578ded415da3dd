-- Trees written out as steps.
use Rattle.std.specs.Prelude.{◌<◌, ℕ, suc, List, [], ◌∷◌, ◌++◌, map, take, drop, slice_index_or, ⊤}
use Rattle.lin_truth.specs.Term.{Term, no, variable, ite, negated, equal}
use Rattle.term_table.specs.declared.step.Step.{Step}
use Rattle.term_table.specs.declared.step.Step.TheVariants as step
use Rattle.term_table.specs.declared.step.Thing.{Thing}
use Rattle.term_table.specs.declared.step.Around.{Around}
use Rattle.term_table.specs.declared.step.Task.{Task}
use Rattle.term_table.specs.declared.step.Task.TheVariants as task
use Rattle.term_table.specs.Placed.{Placed, Frame, top}
use Rattle.term_table.specs.Built.{leaf_of, one_of, two_of, several_of, binder_of}
use Rattle.term_table.specs.Meaning.{Meaning, at}

-- ---- steps

abbrev pub first : List Term → Term
first [] = no
first (t ∷ ts) = t

abbrev pub rest : List Term → List Term
rest [] = []
rest (t ∷ ts) = ts

-- one step on a stack of trees, the top first
abbrev pub stepped : Step → List Term → List Term
stepped (step.Leaf l) ts = leaf_of l ∷ ts
stepped (step.Variable i) ts = variable i ∷ ts
stepped (step.One op) ts = one_of op (first ts) ∷ rest ts
stepped (step.Two op) ts = two_of op (first ts) (first (rest ts)) ∷ rest (rest ts)
stepped step.Choice ts = ite (first ts) (first (rest ts)) (first (rest (rest ts))) ∷ rest (rest (rest ts))
stepped (step.Several op k) ts = several_of op (take k ts) ∷ drop k ts
stepped (step.Binder q us) ts = binder_of q us (first ts) ∷ rest ts

abbrev pub run : List Step → List Term → List Term
run [] ts = ts
run (x ∷ xs) ts = run xs (stepped x ts)

-- ---- frames

abbrev pub frame_at : List Frame → ℕ → Frame
frame_at fs e = slice_index_or fs e top

abbrev pub thing_of : List Meaning → List Frame → Thing → Placed
thing_of ms fs t = at ms t.node (frame_at fs t.frame)

abbrev pub frame_of : List Meaning → List Frame → Around → Frame
frame_of ms fs x = record { given = map (thing_of ms fs) x.given; bound = x.bound }

-- each frame, from those before it
abbrev pub frames_from : List Meaning → List Frame → List Around → List Frame
frames_from ms fs [] = fs
frames_from ms fs (x ∷ xs) = frames_from ms (fs ++ frame_of ms fs x ∷ []) xs

unfoldable pub frames_of : List Meaning → List Around → List Frame
frames_of ms = frames_from ms []

abbrev pub AreThingsBelow : ℕ → List Thing → Type 0
AreThingsBelow n [] = ⊤
AreThingsBelow n (t ∷ ts) = (t.frame < n) × AreThingsBelow n ts

-- what is given in a frame has a frame before it
abbrev pub AreFramesFrom : ℕ → List Around → Type 0
AreFramesFrom n [] = ⊤
AreFramesFrom n (x ∷ xs) = AreThingsBelow n x.given × AreFramesFrom (suc n) xs

-- ---- what is to be done

abbrev pub done : List Meaning → List Frame → Task → List Term → List Term
done ms fs (task.Write t n) ts = thing_of ms fs t n ∷ ts
done ms fs (task.Apart a b e n) ts = negated (equal (at ms a (frame_at fs e) n) (at ms b (frame_at fs e) n)) ∷ ts
done ms fs (task.Put x) ts = stepped x ts

-- the last task first
abbrev pub all_done : List Meaning → List Frame → List Task → List Term → List Term
all_done ms fs [] ts = ts
all_done ms fs (x ∷ xs) ts = done ms fs x (all_done ms fs xs ts)

abbrev pub IsTaskBelow : ℕ → Task → Type 0
IsTaskBelow n (task.Write t m) = t.frame < n
IsTaskBelow n (task.Apart a b e m) = e < n
IsTaskBelow n (task.Put x) = ⊤

abbrev pub AreTasksBelow : ℕ → List Task → Type 0
AreTasksBelow n [] = ⊤
AreTasksBelow n (x ∷ xs) = IsTaskBelow n x × AreTasksBelow n xs

-- ---- tasks for parts

abbrev pub things : List ℕ → ℕ → List Thing
things is e = map (λ i. record { node = i; frame = e }) is

abbrev pub writes : List ℕ → ℕ → ℕ → List Task
writes is e n = map (λ i. task.Write (record { node = i; frame = e }) n) is

-- one for each pair, in order
abbrev pub aparts : List ℕ → ℕ → ℕ → List Task
aparts [] e n = []
aparts (i ∷ is) e n = map (λ j. task.Apart i j e n) is ++ aparts is e n
