-- One step of a writer.
use Rattle.std.proofs.Common.{◌≡◌, ℕ, zero, suc, ◌+◌, ◌<◌, ◌≤◌, List, [], ◌∷◌, ◌++◌, length, map, get_or, Result, Ok, Err, refl, sym, ap, subst, ◌∙◌, arith, append_assoc, length-append}
use Rattle.std.specs.Prelude.{IfOk}
use Rattle.lin_truth.specs.Term.{Term, negated, equal}
use Rattle.term_table.specs.declared.node.Variadic.TheVariants as variadic
use Rattle.term_table.specs.declared.step.Step.{Step}
use Rattle.term_table.specs.declared.step.Step.TheVariants as step
use Rattle.term_table.specs.declared.step.Thing.{Thing}
use Rattle.term_table.specs.declared.step.Around.{Around}
use Rattle.term_table.specs.declared.step.Task.{Task}
use Rattle.term_table.specs.declared.step.Task.TheVariants as task
use Rattle.term_table.specs.declared.writer.Writer.{Writer}
use Rattle.term_table.specs.Placed.{Placed, Frame, places}
use Rattle.term_table.specs.Built.{apart, pairs_apart, distinct_of}
use Rattle.term_table.specs.declared.entry.Entry.{Entry}
use Rattle.term_table.specs.declared.node.Node.{Node}
use Rattle.term_table.specs.Entries.{nodes_of}
use Rattle.term_table.specs.Meaning.{Meaning, nowhere, at}
use Rattle.term_table.specs.Steps.{stepped, run, frame_at, thing_of, frame_of, frames_of, AreThingsBelow, AreFramesFrom, done, all_done, IsTaskBelow, AreTasksBelow, things, writes, aparts}
use Rattle.term_table.specs.Writing.{IsReady, ends, GoesBy, Later, Goes}
use Rattle.term_table.proofs.StepLemmas.{all_done-append, run-append, writes-done, several-done, tasks_kept, frame-new}

places-suc : (k n : ℕ) → places k n ++ (n + k) ∷ [] ≡ places (suc k) n
places-suc zero n = let e : n + 0 ≡ n = omega arith in ap (λ m. m ∷ []) e
places-suc (suc k) n = let e : n + suc k ≡ suc n + k = omega arith in ap (λ m. n ∷ (places k (suc n) ++ m ∷ [])) e ∙ ap (λ (r : List ℕ). n ∷ r) (places-suc k (suc n))

pub places-push : (k n : ℕ) → places k n ++ (n + k) ∷ [] ≡ places (k + 1) n
places-push k n = let e : suc k ≡ k + 1 = omega arith in places-suc k n ∙ ap (λ j. places j n) e

tasks-append : (n : ℕ) (xs ys : List Task) → AreTasksBelow n xs → AreTasksBelow n ys → AreTasksBelow n (xs ++ ys)
tasks-append n [] ys p q = q
tasks-append n (x ∷ xs) ys p q = (p.0, tasks-append n xs ys p.1 q)

writes-below : (n : ℕ) (is : List ℕ) (e m : ℕ) → e < n → AreTasksBelow n (writes is e m)
writes-below n [] e m lt = tt
writes-below n (i ∷ is) e m lt = (lt, writes-below n is e m lt)

apart-below : (n i : ℕ) (js : List ℕ) (e m : ℕ) → e < n → AreTasksBelow n (map (λ j. task.Apart i j e m) js)
apart-below n i [] e m lt = tt
apart-below n i (j ∷ js) e m lt = (lt, apart-below n i js e m lt)

aparts-below : (n : ℕ) (is : List ℕ) (e m : ℕ) → e < n → AreTasksBelow n (aparts is e m)
aparts-below n [] e m lt = tt
aparts-below n (i ∷ is) e m lt = tasks-append n (map (λ j. task.Apart i j e m) is) (aparts is e m) (apart-below n i is e m lt) (aparts-below n is e m lt)

-- ---- more tasks

-- the new one has more tasks, and as many frames
pub with_tasks : (ms : List Meaning) (old new : Writer) (more : List Task) (ts : List Term) → IsReady old → new.frames.items ≡ old.frames.items → new.steps.items ≡ old.steps.items
    → new.todo.items ≡ old.todo.items ++ more → AreTasksBelow (length old.frames.items) more
    → all_done ms (frames_of ms old.frames.items) more (run old.steps.items []) ≡ ts → GoesBy ms old new ts
with_tasks ms old new more ts ready frames steps todo below is = record {
  ready = record {
    frames = subst (AreFramesFrom 0) (sym frames) ready.frames;
    tasks = subst (λ (xs : List Around). AreTasksBelow (length xs) new.todo.items) (sym frames)
        (subst (AreTasksBelow (length old.frames.items)) (sym todo) (tasks-append (length old.frames.items) old.todo.items more ready.tasks below));
  };
  same = (λ k. all_done ms (frames_of ms (frames k)) (todo k) (run (steps k) []))
      ∙ all_done-append ms (frames_of ms old.frames.items) old.todo.items more (run old.steps.items [])
      ∙ ap (all_done ms (frames_of ms old.frames.items) old.todo.items) is;
}

-- the new one has one more step
pub with_step : (ms : List Meaning) (old new : Writer) (x : Step) → IsReady old → new.frames.items ≡ old.frames.items → new.todo.items ≡ old.todo.items
    → new.steps.items ≡ old.steps.items ++ x ∷ [] → GoesBy ms old new (stepped x (run old.steps.items []))
with_step ms old new x ready frames todo steps = record {
  ready = record {
    frames = subst (AreFramesFrom 0) (sym frames) ready.frames;
    tasks = subst (λ (xs : List Around). AreTasksBelow (length xs) new.todo.items) (sym frames) (subst (AreTasksBelow (length old.frames.items)) (sym todo) ready.tasks);
  };
  same = (λ k. all_done ms (frames_of ms (frames k)) (todo k) (run (steps k) [])) ∙ ap (all_done ms (frames_of ms old.frames.items) old.todo.items) (run-append old.steps.items (x ∷ []) []);
}

pub with_later : (old new : Writer) (x : Step) → IsReady old → new.frames.items ≡ old.frames.items → new.steps.items ≡ old.steps.items
    → new.todo.items ≡ old.todo.items ++ task.Put x ∷ [] → Later old new x
with_later old new x ready frames steps todo = record {
  ready = record {
    frames = subst (AreFramesFrom 0) (sym frames) ready.frames;
    tasks = subst (λ (xs : List Around). AreTasksBelow (length xs) new.todo.items) (sym frames)
        (subst (AreTasksBelow (length old.frames.items)) (sym todo) (tasks-append (length old.frames.items) old.todo.items (task.Put x ∷ []) ready.tasks (tt, tt)));
  };
  same = λ ms ts. (λ k. all_done ms (frames_of ms (frames k)) (todo k) ts) ∙ all_done-append ms (frames_of ms old.frames.items) old.todo.items (task.Put x ∷ []) ts;
  steps = steps;
  frames = frames;
}

-- ---- what tasks leave

pub split-done : (ms : List Meaning) (fs : List Frame) (x : Step) (is : List ℕ) (e n : ℕ) (ts : List Term)
    → all_done ms fs (task.Put x ∷ writes is e n) ts ≡ stepped x (map (λ i. at ms i (frame_at fs e) n) is ++ ts)
split-done ms fs x is e n ts = ap (stepped x) (writes-done ms fs is e n ts)

map-append : {A B : Type 0} → (f : A → B) (xs ys : List A) → map f (xs ++ ys) ≡ map f xs ++ map f ys
map-append f [] ys = refl
map-append f (x ∷ xs) ys = ap (λ r. f x ∷ r) (map-append f xs ys)

apart-done : (ms : List Meaning) (fs : List Frame) (i : ℕ) (js : List ℕ) (e n : ℕ) (ts : List Term)
    → all_done ms fs (map (λ j. task.Apart i j e n) js) ts ≡ apart (at ms i (frame_at fs e) n) (map (λ j. at ms j (frame_at fs e) n) js) ++ ts
apart-done ms fs i [] e n ts = refl
apart-done ms fs i (j ∷ js) e n ts = ap (λ r. negated (equal (at ms i (frame_at fs e) n) (at ms j (frame_at fs e) n)) ∷ r) (apart-done ms fs i js e n ts)

aparts-done : (ms : List Meaning) (fs : List Frame) (is : List ℕ) (e n : ℕ) (ts : List Term)
    → all_done ms fs (aparts is e n) ts ≡ pairs_apart (map (λ i. at ms i (frame_at fs e) n) is) ++ ts
aparts-done ms fs [] e n ts = refl
aparts-done ms fs (i ∷ is) e n ts =
    let f : ℕ → Term = λ j. at ms j (frame_at fs e) n in
    all_done-append ms fs (map (λ j. task.Apart i j e n) is) (aparts is e n) ts
    ∙ apart-done ms fs i is e n (all_done ms fs (aparts is e n) ts)
    ∙ ap (λ r. apart (f i) (map f is) ++ r) (aparts-done ms fs is e n ts)
    ∙ sym (append_assoc (apart (f i) (map f is)) (pairs_apart (map f is)) ts)

pub length-maps : {A B : Type 0} → (f : A → B) (xs : List A) → length (map f xs) ≡ length xs
length-maps f [] = refl
length-maps f (x ∷ xs) = ap suc (length-maps f xs)

pub length-aparts : (ms : List Meaning) (fs : List Frame) (is : List ℕ) (e n : ℕ) → length (pairs_apart (map (λ i. at ms i (frame_at fs e) n) is)) ≡ length (aparts is e n)
length-aparts ms fs [] e n = refl
length-aparts ms fs (i ∷ is) e n =
    let f : ℕ → Term = λ j. at ms j (frame_at fs e) n in
    let a = length-append (apart (f i) (map f is)) (pairs_apart (map f is)) in
    let b = length-append (map (λ j. task.Apart i j e n) is) (aparts is e n) in
    let c = length-maps (λ u. negated (equal (f i) u)) (map f is) in
    let d = length-maps f is in
    let g = length-maps (λ j. task.Apart i j e n) is in
    let r = length-aparts ms fs is e n in
    omega arith

pub distinct-done : (ms : List Meaning) (fs : List Frame) (is : List ℕ) (e n k : ℕ) (ts : List Term) → k ≡ length (aparts is e n)
    → all_done ms fs (task.Put (step.Several variadic.And k) ∷ aparts is e n) ts ≡ distinct_of (map (λ i. at ms i (frame_at fs e) n) is) ∷ ts
distinct-done ms fs is e n k ts len =
    let xs = pairs_apart (map (λ i. at ms i (frame_at fs e) n) is) in
    ap (stepped (step.Several variadic.And k)) (aparts-done ms fs is e n ts) ∙ several-done variadic.And k xs ts (length-aparts ms fs is e n ∙ sym len)

pub distinct-below : (n : ℕ) (is : List ℕ) (e m k : ℕ) → e < n → AreTasksBelow n (task.Put (step.Several variadic.And k) ∷ aparts is e m)
distinct-below n is e m k lt = (tt, aparts-below n is e m lt)

pub split-below : (n : ℕ) (x : Step) (is : List ℕ) (e m : ℕ) → e < n → AreTasksBelow n (task.Put x ∷ writes is e m)
split-below n x is e m lt = (tt, writes-below n is e m lt)

-- ---- a new frame

frames-push-below : (n : ℕ) (xs : List Around) (x : Around) → AreFramesFrom n xs → AreThingsBelow (n + length xs) x.given → AreFramesFrom n (xs ++ x ∷ [])
frames-push-below n [] x are below = (subst (λ k. AreThingsBelow k x.given) (omega arith) below, tt)
frames-push-below n (y ∷ xs) x are below = (are.0, frames-push-below (suc n) xs x are.1 (subst (λ k. AreThingsBelow k x.given) (omega arith) below))

tasks_more : (n m : ℕ) (xs : List Task) → n ≤ m → AreTasksBelow n xs → AreTasksBelow m xs
tasks_more n m [] le below = tt
tasks_more n m (task.Write t k ∷ xs) le below = (omega (arith, below.0), tasks_more n m xs le below.1)
tasks_more n m (task.Apart a b e k ∷ xs) le below = (omega (arith, below.0), tasks_more n m xs le below.1)
tasks_more n m (task.Put x ∷ xs) le below = (tt, tasks_more n m xs le below.1)

pub with_frame : (ms : List Meaning) (old new : Writer) (x : Around) (body e n : ℕ) → IsReady old → new.frames.items ≡ old.frames.items ++ x ∷ [] → new.steps.items ≡ old.steps.items
    → new.todo.items ≡ old.todo.items ++ task.Write (record { node = body; frame = e }) n ∷ [] → e ≡ length old.frames.items → AreThingsBelow (length old.frames.items) x.given
    → Goes ms old new (at ms body (frame_of ms (frames_of ms old.frames.items) x) n)
with_frame ms old new x body e n ready frames steps todo place below =
    let more : length (old.frames.items ++ x ∷ []) ≡ length old.frames.items + 1 = length-append old.frames.items (x ∷ []) in
    let t : Task = task.Write (record { node = body; frame = e }) n in
    record {
      ready = record {
        frames = subst (AreFramesFrom 0) (sym frames) (frames-push-below 0 old.frames.items x ready.frames (subst (λ k. AreThingsBelow k x.given) (omega arith) below));
        tasks = subst (λ (xs : List Around). AreTasksBelow (length xs) new.todo.items) (sym frames)
            (subst (AreTasksBelow (length (old.frames.items ++ x ∷ []))) (sym todo)
            (tasks-append (length (old.frames.items ++ x ∷ [])) old.todo.items (t ∷ []) (tasks_more (length old.frames.items) (length (old.frames.items ++ x ∷ [])) old.todo.items (omega arith) ready.tasks) (omega arith, tt)));
      };
      same = (λ k. all_done ms (frames_of ms (frames k)) (todo k) (run (steps k) []))
          ∙ all_done-append ms (frames_of ms (old.frames.items ++ x ∷ [])) old.todo.items (t ∷ []) (run old.steps.items [])
          ∙ tasks_kept ms old.frames.items x old.todo.items (at ms body (frame_at (frames_of ms (old.frames.items ++ x ∷ [])) e) n ∷ run old.steps.items []) ready.tasks
          ∙ (λ k. all_done ms (frames_of ms old.frames.items) old.todo.items (at ms body ((ap (frame_at (frames_of ms (old.frames.items ++ x ∷ []))) place ∙ frame-new ms old.frames.items x) k) n ∷ run old.steps.items []));
    }

-- ---- the same trees

pub goes-as : {A E : Type 0} → (r : Result A E) (old new : Writer) (f g : List Meaning → List Term) → ((ms : List Meaning) → f ms ≡ g ms)
    → IfOk r (λ _. (ms : List Meaning) → GoesBy ms old new (f ms)) → IfOk r (λ _. (ms : List Meaning) → GoesBy ms old new (g ms))
goes-as (Ok x) old new f g same goes = λ ms. subst (GoesBy ms old new) (same ms) (goes ms)
goes-as (Err e) old new f g same goes = goes

-- a step that was put down for later
pub goes-later : {A E : Type 0} → (r : Result A E) (old mid new : Writer) (x : Step) (f : List Meaning → Term) → Later old mid x
    → IfOk r (λ _. (ms : List Meaning) → Goes ms mid new (f ms)) → IfOk r (λ _. (ms : List Meaning) → GoesBy ms old new (stepped x (f ms ∷ run old.steps.items [])))
goes-later (Ok y) old mid new x f later goes = λ ms. record {
  ready = (goes ms).ready;
  same = (goes ms).same ∙ later.same ms (f ms ∷ run mid.steps.items []) ∙ ap (λ (xs : List Step). ends ms old (stepped x (f ms ∷ run xs []))) later.steps;
}
goes-later (Err e) old mid new x f later goes = goes

things-same : (ms : List Meaning) (fs : List Frame) (is : List ℕ) (e : ℕ) → map (thing_of ms fs) (things is e) ≡ map (λ (a : Meaning). a (frame_at fs e)) (map (at ms) is)
things-same ms fs [] e = refl
things-same ms fs (i ∷ is) e = ap (λ (r : List Placed). at ms i (frame_at fs e) ∷ r) (things-same ms fs is e)

pub used-frame : (ms : List Meaning) (fs : List Frame) (is bound : List ℕ) (given : List Thing) (e : ℕ) → given ≡ things is e → bound ≡ []
    → frame_of ms fs (record { given = given; bound = bound }) ≡ record { given = map (λ (a : Meaning). a (frame_at fs e)) (map (at ms) is); bound = [] }
used-frame ms fs is bound given e p q = λ k. record { given = (ap (map (thing_of ms fs)) p ∙ things-same ms fs is e) k; bound = q k }

pub things-here : (n : ℕ) (is : List ℕ) (e : ℕ) → e < n → AreThingsBelow n (things is e)
things-here n [] e lt = tt
things-here n (i ∷ is) e lt = (lt, things-here n is e lt)

pub goes-at : {A E : Type 0} → (r : Result A E) (ms : List Meaning) (old new : Writer) (f : List Meaning → List Term) (ts : List Term) → f ms ≡ ts
    → IfOk r (λ _. (ns : List Meaning) → GoesBy ns old new (f ns)) → IfOk r (λ _. GoesBy ms old new ts)
goes-at (Ok x) ms old new f ts same goes = subst (GoesBy ms old new) same (goes ms)
goes-at (Err e) ms old new f ts same goes = goes

pub at-none : (ms : List Meaning) (i : ℕ) → length ms ≤ i → at ms i ≡ nowhere
at-none [] i le = refl
at-none (m ∷ ms) zero le = absurd (omega arith)
at-none (m ∷ ms) (suc i) le = at-none ms i (omega arith)

pub node-entry : (es : List Entry) (i : ℕ) (e : Entry) (d : Node) → i < length es → e ≡ get_or es i e → get_or (nodes_of es) i d ≡ e.node
node-entry es i e d lt is = map_at es i lt ∙ ap (λ (x : Entry). x.node) (sym is)
  where
    map_at : (xs : List Entry) (j : ℕ) → j < length xs → get_or (map (λ (x : Entry). x.node) xs) j d ≡ (get_or xs j e).node
    map_at [] j lt = absurd (omega arith)
    map_at (x ∷ xs) zero lt = refl
    map_at (x ∷ xs) (suc j) lt = map_at xs j (omega arith)

-- ---- the last task is taken

last_below : (n : ℕ) (xs : List Task) (x : Task) → AreTasksBelow n (xs ++ x ∷ []) → AreTasksBelow n xs × IsTaskBelow n x
last_below n [] x below = (tt, below.0)
last_below n (y ∷ xs) x below = let more = last_below n xs x below.1 in ((below.0, more.0), more.1)

pub taken : (old new : Writer) (x : Task) → IsReady old → new.frames.items ≡ old.frames.items → old.todo.items ≡ new.todo.items ++ x ∷ [] → IsReady new × IsTaskBelow (length new.frames.items) x
taken old new x ready frames todo =
    let below = last_below (length old.frames.items) new.todo.items x (subst (AreTasksBelow (length old.frames.items)) todo ready.tasks) in (
      record { frames = subst (AreFramesFrom 0) (sym frames) ready.frames; tasks = subst (λ (xs : List Around). AreTasksBelow (length xs) new.todo.items) (sym frames) below.0 },
      subst (λ (xs : List Around). IsTaskBelow (length xs) x) (sym frames) below.1,
    )

pub ends-taken : (ms : List Meaning) (old new : Writer) (x : Task) (ts : List Term) → new.frames.items ≡ old.frames.items → old.todo.items ≡ new.todo.items ++ x ∷ []
    → ends ms old ts ≡ ends ms new (done ms (frames_of ms new.frames.items) x ts)
ends-taken ms old new x ts frames todo =
    (λ k. all_done ms (frames_of ms (sym frames k)) (todo k) ts) ∙ all_done-append ms (frames_of ms new.frames.items) new.todo.items (x ∷ []) ts
