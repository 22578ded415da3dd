-- Frames that grow, and tasks that stand for trees.
use Rattle.std.proofs.Common.{◌≡◌, ℕ, zero, suc, ◌+◌, ◌<◌, ◌≤◌, List, [], ◌∷◌, ◌++◌, length, map, take, drop, get_or, refl, sym, ap, subst, ◌∙◌, arith, append_assoc, length-append}
use Rattle.std.proofs.Math.Seq.{get_or-append_seam}
use Rattle.std.proofs.lemmas.List.{get_or_append_left}
use Rattle.lin_truth.specs.Term.{Term, negated, equal}
use Rattle.term_table.specs.declared.node.Variadic.{Variadic}
use Rattle.term_table.specs.declared.step.Step.{Step}
use Rattle.term_table.specs.declared.step.Step.TheVariants as step
use Rattle.term_table.specs.declared.step.Thing.{Thing}
use Rattle.term_table.specs.declared.step.Around.{Around}
use Rattle.term_table.specs.declared.step.Task.{Task}
use Rattle.term_table.specs.declared.step.Task.TheVariants as task
use Rattle.term_table.specs.Placed.{Frame, nothing, top}
use Rattle.term_table.specs.Built.{several_of}
use Rattle.term_table.specs.Meaning.{Meaning, at}
use Rattle.term_table.specs.Steps.{stepped, run, frame_at, thing_of, frame_of, frames_from, frames_of, AreThingsBelow, AreFramesFrom, done, all_done, AreTasksBelow, writes}

append_nil : {A : Type 0} → (xs : List A) → xs ++ [] ≡ xs
append_nil [] = refl
append_nil (x ∷ xs) = ap (λ r. x ∷ r) (append_nil xs)

-- ---- frames

frames_from-append : (ms : List Meaning) (xs ys : List Around) (fs : List Frame) → frames_from ms fs (xs ++ ys) ≡ frames_from ms (frames_from ms fs xs) ys
frames_from-append ms [] ys fs = refl
frames_from-append ms (x ∷ xs) ys fs = frames_from-append ms xs ys (fs ++ frame_of ms fs x ∷ [])

length-frames_from : (ms : List Meaning) (xs : List Around) (fs : List Frame) → length (frames_from ms fs xs) ≡ length fs + length xs
length-frames_from ms [] fs = omega arith
length-frames_from ms (x ∷ xs) fs = omega (arith, length-frames_from ms xs (fs ++ frame_of ms fs x ∷ []), length-append fs (frame_of ms fs x ∷ []))

pub length-frames : (ms : List Meaning) (xs : List Around) → length (frames_of ms xs) ≡ length xs
unfolding frames_of
length-frames ms xs = omega (arith, length-frames_from ms xs [])

pub frames-push : (ms : List Meaning) (xs : List Around) (x : Around) → frames_of ms (xs ++ x ∷ []) ≡ frames_of ms xs ++ frame_of ms (frames_of ms xs) x ∷ []
unfolding frames_of
frames-push ms xs x = frames_from-append ms xs (x ∷ []) []

-- the frame that was added
pub frame-new : (ms : List Meaning) (xs : List Around) (x : Around) → frame_at (frames_of ms (xs ++ x ∷ [])) (length xs) ≡ frame_of ms (frames_of ms xs) x
frame-new ms xs x =
    ap (λ (fs : List Frame). frame_at fs (length xs)) (frames-push ms xs x)
    ∙ ap (λ (k : ℕ). frame_at (frames_of ms xs ++ frame_of ms (frames_of ms xs) x ∷ []) k) (sym (length-frames ms xs))
    ∙ get_or-append_seam (frames_of ms xs) (frame_of ms (frames_of ms xs) x) [] top

pub frame-kept : (ms : List Meaning) (xs : List Around) (x : Around) (e : ℕ) → e < length xs → frame_at (frames_of ms (xs ++ x ∷ [])) e ≡ frame_at (frames_of ms xs) e
frame-kept ms xs x e lt =
    ap (λ (fs : List Frame). frame_at fs e) (frames-push ms xs x)
    ∙ get_or_append_left (frames_of ms xs) (frame_of ms (frames_of ms xs) x ∷ []) top e (omega (arith, length-frames ms xs))

-- each frame, in terms of all of them
abbrev AreFrames : List Meaning → List Frame → List Around → List Frame → Type 0
AreFrames ms all [] [] = Unit {0}
AreFrames ms all [] (f ∷ fs) = ⊥
AreFrames ms all (x ∷ xs) [] = ⊥
AreFrames ms all (x ∷ xs) (f ∷ fs) = (f ≡ frame_of ms all x) × AreFrames ms all xs fs

things_kept : (ms : List Meaning) (fs : List Frame) (f : Frame) (n : ℕ) (ts : List Thing) → length fs ≡ n → AreThingsBelow n ts → map (thing_of ms (fs ++ f ∷ [])) ts ≡ map (thing_of ms fs) ts
things_kept ms fs f n [] len below = refl
things_kept ms fs f n (t ∷ ts) len below =
    λ k. at ms t.node (get_or_append_left fs (f ∷ []) top t.frame (omega (arith, below.0)) k) ∷ things_kept ms fs f n ts len below.1 k

things_more : (n m : ℕ) (ts : List Thing) → n ≤ m → AreThingsBelow n ts → AreThingsBelow m ts
things_more n m [] le below = tt
things_more n m (t ∷ ts) le below = (omega (arith, below.0), things_more n m ts le below.1)

frames_kept : (ms : List Meaning) (all : List Frame) (f : Frame) (n : ℕ) (xs : List Around) (fs : List Frame) → AreFramesFrom n xs → n + length xs ≤ length all → AreFrames ms all xs fs
    → AreFrames ms (all ++ f ∷ []) xs fs
frames_kept ms all f n [] [] below le are = tt
frames_kept ms all f n [] (g ∷ fs) below le are = absurd are
frames_kept ms all f n (x ∷ xs) [] below le are = absurd are
frames_kept ms all f n (x ∷ xs) (g ∷ fs) below le are = (
  are.0 ∙ sym (λ k. record { given = things_kept ms all f (length all) x.given refl (things_more n (length all) x.given (omega arith) below.0) k; bound = x.bound }),
  frames_kept ms all f (suc n) xs fs below.1 (omega arith) are.1,
)

pub framed : List Around → List Frame → List Meaning → Type 0
framed xs fs ms = AreFrames ms fs xs fs

pub given-at : (ms : List Meaning) (fs : List Frame) (ts : List Thing) (p : ℕ) (d : Thing) → p < length ts → get_or (map (thing_of ms fs) ts) p nothing ≡ thing_of ms fs (get_or ts p d)
given-at ms fs [] p d lt = absurd (omega arith)
given-at ms fs (t ∷ ts) zero d lt = refl
given-at ms fs (t ∷ ts) (suc p) d lt = given-at ms fs ts p d (omega arith)

pub given-none : (ms : List Meaning) (fs : List Frame) (ts : List Thing) (p : ℕ) → length ts ≤ p → get_or (map (thing_of ms fs) ts) p nothing ≡ nothing
given-none ms fs [] p le = refl
given-none ms fs (t ∷ ts) zero le = absurd (omega arith)
given-none ms fs (t ∷ ts) (suc p) le = given-none ms fs ts p (omega arith)

-- ---- tasks

pub all_done-append : (ms : List Meaning) (fs : List Frame) (xs ys : List Task) (ts : List Term) → all_done ms fs (xs ++ ys) ts ≡ all_done ms fs xs (all_done ms fs ys ts)
all_done-append ms fs [] ys ts = refl
all_done-append ms fs (x ∷ xs) ys ts = ap (done ms fs x) (all_done-append ms fs xs ys ts)

pub run-append : (xs ys : List Step) (ts : List Term) → run (xs ++ ys) ts ≡ run ys (run xs ts)
run-append [] ys ts = refl
run-append (x ∷ xs) ys ts = run-append xs ys (stepped x ts)

pub writes-done : (ms : List Meaning) (fs : List Frame) (is : List ℕ) (e n : ℕ) (ts : List Term) → all_done ms fs (writes is e n) ts ≡ map (λ i. at ms i (frame_at fs e) n) is ++ ts
writes-done ms fs [] e n ts = refl
writes-done ms fs (i ∷ is) e n ts = ap (λ r. at ms i (frame_at fs e) n ∷ r) (writes-done ms fs is e n ts)

take_all : (xs ys : List Term) (k : ℕ) → length xs ≡ k → take k (xs ++ ys) ≡ xs
take_all [] ys zero e = refl
take_all [] ys (suc k) e = cc
take_all (x ∷ xs) ys zero e = cc
take_all (x ∷ xs) ys (suc k) e = ap (λ r. x ∷ r) (take_all xs ys k (omega arith))

drop_all : (xs ys : List Term) (k : ℕ) → length xs ≡ k → drop k (xs ++ ys) ≡ ys
drop_all [] ys zero e = refl
drop_all [] ys (suc k) e = cc
drop_all (x ∷ xs) ys zero e = cc
drop_all (x ∷ xs) ys (suc k) e = drop_all xs ys k (omega arith)

pub several-done : (op : Variadic) (k : ℕ) (xs ts : List Term) → length xs ≡ k → stepped (step.Several op k) (xs ++ ts) ≡ several_of op xs ∷ ts
several-done op k xs ts e = λ j. several_of op (take_all xs ts k e j) ∷ drop_all xs ts k e j

-- tasks stay the same where frames are added
pub tasks_kept : (ms : List Meaning) (xs : List Around) (x : Around) (todo : List Task) (ts : List Term) → AreTasksBelow (length xs) todo
    → all_done ms (frames_of ms (xs ++ x ∷ [])) todo ts ≡ all_done ms (frames_of ms xs) todo ts
tasks_kept ms xs x [] ts below = refl
tasks_kept ms xs x (task.Write t n ∷ todo) ts below =
    λ k. at ms t.node (frame-kept ms xs x t.frame below.0 k) n ∷ tasks_kept ms xs x todo ts below.1 k
tasks_kept ms xs x (task.Apart a b e n ∷ todo) ts below =
    λ k. negated (equal (at ms a (frame-kept ms xs x e below.0 k) n) (at ms b (frame-kept ms xs x e below.0 k) n)) ∷ tasks_kept ms xs x todo ts below.1 k
tasks_kept ms xs x (task.Put y ∷ todo) ts below = ap (stepped y) (tasks_kept ms xs x todo ts below.1)

-- ---- each frame in terms of all of them

frames_last : (ms : List Meaning) (all : List Frame) (xs : List Around) (fs : List Frame) (x : Around) (f : Frame) → AreFrames ms all xs fs → f ≡ frame_of ms all x → AreFrames ms all (xs ++ x ∷ []) (fs ++ f ∷ [])
frames_last ms all [] [] x f are is = (is, tt)
frames_last ms all [] (g ∷ fs) x f are is = absurd are
frames_last ms all (y ∷ xs) [] x f are is = absurd are
frames_last ms all (y ∷ xs) (g ∷ fs) x f are is = (are.0, frames_last ms all xs fs x f are.1 is)

frames_before : (n : ℕ) (xs : List Around) (x : Around) → AreFramesFrom n xs → AreThingsBelow (n + length xs) x.given → AreFramesFrom n (xs ++ x ∷ [])
frames_before n [] x are below = (subst (λ k. AreThingsBelow k x.given) (omega arith) below, tt)
frames_before n (z ∷ xs) x are below = (are.0, frames_before (suc n) xs x are.1 (subst (λ k. AreThingsBelow k x.given) (omega arith) below))

frames_on : (ms : List Meaning) (ys xs : List Around) (fs : List Frame) → AreFramesFrom 0 xs → AreFramesFrom (length xs) ys → length fs ≡ length xs → AreFrames ms fs xs fs
    → AreFrames ms (frames_from ms fs ys) (xs ++ ys) (frames_from ms fs ys)
frames_on ms [] xs fs before below len are = subst (λ (zs : List Around). AreFrames ms fs zs fs) (sym (append_nil xs)) are
frames_on ms (y ∷ ys) xs fs before below len are =
    let f = frame_of ms fs y in
    let more : length (xs ++ y ∷ []) ≡ suc (length xs) = length-append xs (y ∷ []) ∙ omega arith in
    let kept = frames_kept ms fs f 0 xs fs before (omega (arith, len)) are in
    let last : f ≡ frame_of ms (fs ++ f ∷ []) y = sym (λ k. record { given = things_kept ms fs f (length xs) y.given len below.0 k; bound = y.bound }) in
    subst (λ (zs : List Around). AreFrames ms (frames_from ms (fs ++ f ∷ []) ys) zs (frames_from ms (fs ++ f ∷ []) ys)) (append_assoc xs (y ∷ []) ys)
    (frames_on ms ys (xs ++ y ∷ []) (fs ++ f ∷ []) (frames_before 0 xs y before (subst (λ k. AreThingsBelow k y.given) (let z : length xs ≡ 0 + length xs = omega arith in z) below.0)) (subst (λ k. AreFramesFrom k ys) (sym more) below.1) (length-append fs (f ∷ []) ∙ omega (arith, len, more)) (frames_last ms (fs ++ f ∷ []) xs fs y f kept last))

frames_are : (ms : List Meaning) (xs : List Around) → AreFramesFrom 0 xs → AreFrames ms (frames_of ms xs) xs (frames_of ms xs)
unfolding frames_of
frames_are ms xs below = frames_on ms xs [] [] tt below refl tt

frame_in : (ms : List Meaning) (all : List Frame) (xs : List Around) (fs : List Frame) (e : ℕ) (d : Around) → AreFrames ms all xs fs → e < length xs → get_or fs e top ≡ frame_of ms all (get_or xs e d)
frame_in ms all [] fs e d are lt = absurd (omega arith)
frame_in ms all (x ∷ xs) [] e d are lt = absurd are
frame_in ms all (x ∷ xs) (f ∷ fs) zero d are lt = are.0
frame_in ms all (x ∷ xs) (f ∷ fs) (suc e) d are lt = frame_in ms all xs fs e d are.1 (omega arith)

-- a frame that is there
pub frame-is : (ms : List Meaning) (xs : List Around) (e : ℕ) (x : Around) → AreFramesFrom 0 xs → e < length xs → x ≡ get_or xs e x → frame_at (frames_of ms xs) e ≡ frame_of ms (frames_of ms xs) x
frame-is ms xs e x below lt is = frame_in ms (frames_of ms xs) xs (frames_of ms xs) e x (frames_are ms xs below) lt ∙ ap (frame_of ms (frames_of ms xs)) (sym is)

pub things-below : (n : ℕ) (xs : List Around) (e : ℕ) (d : Around) → AreFramesFrom n xs → e < length xs → AreThingsBelow (n + e) (get_or xs e d).given
things-below n [] e d below lt = absurd (omega arith)
things-below n (x ∷ xs) zero d below lt = subst (λ k. AreThingsBelow k x.given) (omega arith) below.0
things-below n (x ∷ xs) (suc e) d below lt = subst (λ k. AreThingsBelow k (get_or xs e d).given) (omega arith) (things-below (suc n) xs e d below.1 (omega arith))

pub given-below : (xs : List Around) (e : ℕ) (x : Around) → AreFramesFrom 0 xs → e < length xs → x ≡ get_or xs e x → AreThingsBelow (length xs) x.given
given-below xs e x below lt is =
    things_more e (length xs) x.given (omega arith) (subst (λ (y : Around). AreThingsBelow e y.given) (sym is) (subst (λ k. AreThingsBelow k (get_or xs e x).given) (omega arith) (things-below 0 xs e x below lt)))

pub thing-below : (n : ℕ) (ts : List Thing) (p : ℕ) (d : Thing) → AreThingsBelow n ts → p < length ts → (get_or ts p d).frame < n
thing-below n [] p d below lt = absurd (omega arith)
thing-below n (t ∷ ts) zero d below lt = below.0
thing-below n (t ∷ ts) (suc p) d below lt = thing-below n ts p d below.1 (omega arith)

-- a frame with nothing in it
pub frame-start : (ms : List Meaning) (xs : List Around) (x : Around) → xs ≡ x ∷ [] → x.given ≡ [] → x.bound ≡ [] → frame_at (frames_of ms xs) 0 ≡ top
unfolding frames_of
frame-start ms xs x is given bound =
    ap (λ (ys : List Around). frame_at (frames_from ms [] ys) 0) is ∙ (λ k. record { given = map (thing_of ms []) (given k); bound = bound k })
