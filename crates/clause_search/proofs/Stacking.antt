-- Goals that are split, one below the other: each step of the search.
use Rattle.std.specs.Prelude.{ℕ, suc, ◌+◌, ◌<◌, ◌≤◌, ◌≡◌, nat_lt, Bool, false, Option, Some, None, unwrap_or, get_or, List, [], ◌∷◌, ◌++◌, length, reverse}
use Rattle.std.proofs.Common.{ap, ◌∙◌, sym, subst, refl}
use Rattle.std.proofs.lemmas.Bool.{ltb-false}
use Rattle.std.proofs.lemmas.List.{reverse-append}
use Rattle.clause_search.proofs.Root.{start_kept}
use Rattle.lin_term.specs.declared.Sort.{Sort}
use Rattle.lin_term.specs.Form.{cap}
use Rattle.lin_term.specs.Linear.{Point as a_point}
use Rattle.dom_core.specs.declared.Matrix.{Matrix as Tree, And}
use Rattle.lose_system.specs.Written.{WrittenSystem}
use Rattle.cube_rules.specs.declared.Step.{Step}
use Rattle.cube_rules.specs.declared.Step.TheVariants as line
use Rattle.cube_elim.specs.WideCubes.{WideLits}
use Rattle.clause_search.specs.declared.goal.Part.{Part}
use Rattle.clause_search.specs.declared.goal.Goal.{Goal}
use Rattle.clause_search.specs.declared.found.Found.{Found}
use Rattle.clause_search.specs.declared.found.Found.TheVariants.{Point, Refuted, Wide}
use Rattle.clause_search.specs.declared.split.Split.{Split}
use Rattle.clause_search.specs.Taken.{IsPart, IsGoal}
use Rattle.clause_search.specs.Searching.{with_open, Reaches, Finds, Splits}
use Rattle.clause_search.specs.declared.split.State.{State}
use Rattle.clause_search.specs.declared.split.State.TheVariants.{Open, Ended, Done}
use Rattle.clause_search.specs.Stacked.{IsSplit, FindsChild, child_of, Owes, Ends, Begins, Advances, Opens, Takes, Stands_at, LastLeft, Runs, Turns}
use Rattle.clause_search.proofs.Splitting.{split_none, child_behind, child_kept, split_closed, split_wide, split_ends, split_widens, ends_behind}

-- the goal that is open has its answer
pub owes_ends : {D : Type 0} (s : Sort) (w : WrittenSystem) (root : Goal) (start : List Step) (xs : List (Split D)) (g : Goal) (before now : List Step) (f : Found D) → Owes s w root start xs g before → Finds s w g before now f → Ends s w root start xs now f
owes_ends {D} s w root start [] g before now f o h = o f now h
owes_ends {D} s w root start (x ∷ xs) g before now f o h = (o.0, o.1, o.2, o.3, o.4 f now h, o.5)

-- a goal that was reached from the one that is open
pub owes_behind : {D : Type 0} (s : Sort) (w : WrittenSystem) (root : Goal) (start : List Step) (xs : List (Split D)) (g h : Goal) (before between : List Step) → Reaches s w g before h between → Owes s w root start xs g before → Owes s w root start xs h between
owes_behind {D} s w root start [] g h before between r o = λ f later k. o f later (ends_behind s w g h before between later f r k)
owes_behind {D} s w root start (x ∷ xs) g h before between r o = (o.0, o.1, o.2, o.3, (λ f later k. o.4 f later (ends_behind s w g h before between later f r k)), o.5)

-- a goal is split
pub begun : {D : Type 0} (s : Sort) (w : WrittenSystem) (g : Goal) (x : Part) (before now : List Step) (h : Split D) (n : ℕ) → x.matrix.now ≡ And h.parts.now → n ≡ length h.parts.now → n ≤ cap → now ≡ before ++ line.Cases x.number n ∷ [] → h.goal ≡ g → h.part ≡ x → h.place ≡ 0 → h.wide ≡ None → IsGoal s w g → IsPart s w x → IsSplit D s w h before now
begun {D} s w g x before now h n e c k q a b p v i j = record {
  kept = subst (λ (z : Goal). IsGoal s w z) (sym a) i;
  part = subst (λ (z : Part). IsPart s w z) (sym b) j;
  is = ap (λ (z : Part). z.matrix.now) b ∙ e;
  done =
      subst (λ (o : Option WideLits). Splits s w h.goal h.part h.parts.now before h.place now o) (sym v)
      (subst (λ (m : ℕ). Splits s w h.goal h.part h.parts.now before m now None) (sym p)
      (split_none s w h.goal h.part h.parts.now before now n (ap (λ (z : Part). z.matrix.now) b ∙ e) c k (q ∙ ap (λ (z : Part). before ++ line.Cases z.number n ∷ []) (sym b))));
}

within : (n : ℕ) (b : Bool) → b ≡ nat_lt cap n → b ≡ false → n ≤ cap
within n b e f = ltb-false cap n (sym e ∙ f)

pub begins : {D : Type 0} (s : Sort) (g : Goal) (x : Part) (before now : List Step) (h : Split D) (n : ℕ) (b : Bool) → x.matrix.now ≡ And h.parts.now → n ≡ length h.parts.now → b ≡ nat_lt cap n → b ≡ false → now ≡ before ++ line.Cases x.number n ∷ [] → h.goal ≡ g → h.part ≡ x → h.place ≡ 0 → h.wide ≡ None → Begins {D = D} s g x before now h
begins {D} s g x before now h n b e c u f q a d p v = record {
  goal = a;
  part = d;
  split = λ w i j. begun s w g x before now h n e c (within n b u f) q a d p v i j;
}

-- the goal of a child is opened
finds_child : {D : Type 0} (s : Sort) (w : WrittenSystem) (x : Split D) (h : Goal) (y : Part) (t : Tree) (before now : List Step) (f : Found D) → x.part.matrix.now ≡ And x.parts.now → x.place < length x.parts.now → t ≡ get_or x.parts.now x.place t → y.number ≡ x.goal.count → y.path ≡ x.part.path → y.matrix.now ≡ t → h ≡ record { count = suc x.goal.count; next = x.goal.next; waiting = x.goal.waiting ++ y ∷ []; lits = x.goal.lits } → Finds s w h before now f → FindsChild s w x (child_of s w x t) before now f
finds_child {D} s w x h y t before now (Point p) e l k n r c q j = λ F b. j (F ++ child_of s w x t ∷ []) (child_behind s w F x.goal h x.part y x.parts.now x.place t e l k n r c q b)
finds_child {D} s w x h y t before now Refuted e l k n r c q j = λ F b. j (F ++ child_of s w x t ∷ []) (child_behind s w F x.goal h x.part y x.parts.now x.place t e l k n r c q b)
finds_child {D} s w x h y t before now (Wide z) e l k n r c q j = λ F b. j (F ++ child_of s w x t ∷ []) (child_behind s w F x.goal h x.part y x.parts.now x.place t e l k n r c q b)

pub child_opened : {D : Type 0} (s : Sort) (w : WrittenSystem) (root : Goal) (start : List Step) (xs : List (Split D)) (x : Split D) (h : Goal) (y : Part) (t : Tree) (before now : List Step) → x.place < length x.parts.now → t ≡ get_or x.parts.now x.place t → y.number ≡ x.goal.count → y.path ≡ x.part.path → y.matrix.now ≡ t → h ≡ record { count = suc x.goal.count; next = x.goal.next; waiting = x.goal.waiting ++ y ∷ []; lits = x.goal.lits } → IsSplit D s w x before now → Owes s w root start xs (with_open x.goal x.part) before → IsGoal s w h × Owes s w root start (x ∷ xs) h now
child_opened {D} s w root start xs x h y t before now l k n r c q d o = (
  child_kept s w x.goal h x.part y x.parts.now x.place t d.is l k r c q d.part d.kept,
  (before, now, t, record { halved = d; left = l; child = k }, (λ f later j. finds_child s w x h y t now later f d.is l k n r c q j), o),
)

-- all children are done
pub all_closed : {D : Type 0} (s : Sort) (w : WrittenSystem) (root : Goal) (start : List Step) (xs : List (Split D)) (x : Split D) (before now : List Step) → length x.parts.now ≤ x.place → x.wide ≡ None → IsSplit D s w x before now → Owes s w root start xs (with_open x.goal x.part) before → Ends {D = D} s w root start xs now Refuted
all_closed {D} s w root start xs x before now l e d o =
    owes_ends s w root start xs (with_open x.goal x.part) before now Refuted o
    (split_ends s w x.goal x.part x.parts.now before now x.place d.is l (subst (λ (v : Option WideLits). Splits s w x.goal x.part x.parts.now before x.place now v) e d.done))

pub all_wide : {D : Type 0} (s : Sort) (w : WrittenSystem) (root : Goal) (start : List Step) (xs : List (Split D)) (x : Split D) (before now : List Step) (cube : WideLits) → length x.parts.now ≤ x.place → x.wide ≡ Some cube → IsSplit D s w x before now → Owes s w root start xs (with_open x.goal x.part) before → Ends {D = D} s w root start xs now (Wide cube)
all_wide {D} s w root start xs x before now cube l e d o =
    owes_ends s w root start xs (with_open x.goal x.part) before now (Wide cube) o
    (split_widens s w x.goal x.part x.parts.now before now x.place x.wide cube d.is l e d.done)

-- ---- the answer of a child

pub point_taken : {D : Type 0} (s : Sort) (w : WrittenSystem) (root : Goal) (start : List Step) (xs : List (Split D)) (x : Split D) (now : List Step) (p : a_point) → Ends {D = D} s w root start (x ∷ xs) now (Point p) → Ends {D = D} s w root start xs now (Point p)
point_taken {D} s w root start xs x now p k = owes_ends s w root start xs (with_open x.goal x.part) k.0 now (Point p) k.5 k.4

pub refuted_taken : {D : Type 0} (s : Sort) (w : WrittenSystem) (root : Goal) (start : List Step) (xs : List (Split D)) (x : Split D) (now : List Step) → Ends {D = D} s w root start (x ∷ xs) now Refuted → (before : List Step) × IsSplit D s w (record x { place = x.place + 1 }) before now × Owes s w root start xs (with_open x.goal x.part) before
refuted_taken {D} s w root start xs x now k =
    let d = k.3.halved in (
      k.0,
      record {
        kept = d.kept;
        part = d.part;
        is = d.is;
        done = split_closed s w x.goal x.part x.parts.now k.0 k.1 now x.place k.2 x.wide k.3.left k.3.child k.4 d.done;
      },
      k.5,
    )

pub wide_taken : {D : Type 0} (s : Sort) (w : WrittenSystem) (root : Goal) (start : List Step) (xs : List (Split D)) (x : Split D) (now : List Step) (cube first : WideLits) → first ≡ unwrap_or x.wide cube → Ends {D = D} s w root start (x ∷ xs) now (Wide cube) → (before : List Step) × IsSplit D s w (record x { place = x.place + 1; wide = Some first }) before now × Owes s w root start xs (with_open x.goal x.part) before
wide_taken {D} s w root start xs x now cube first e k =
    let d = k.3.halved in (
      k.0,
      record {
        kept = d.kept;
        part = d.part;
        is = d.is;
        done = split_wide s w x.goal x.part x.parts.now k.0 k.1 now x.place k.2 x.wide cube first k.3.left k.3.child k.4 e d.done;
      },
      k.5,
    )

-- ---- a goal is searched

pub opened : {D : Type 0} (s : Sort) (w : WrittenSystem) (xs ys : List (Split D)) (g h : Goal) (x : Part) (before between now : List Step) (split : Split D) (state : State D) → Reaches s w g before (with_open h x) between → IsGoal s w h → IsPart s w x → Begins {D = D} s h x between now split → Advances s xs split ys state → Opens s w xs g before ys now state
opened {D} s w xs ys g h x before between now split state r i p b a = λ root start o.
    a w root start between now (b.split w i p) (
    subst (λ (z : Goal). Owes s w root start xs (with_open z split.part) between) (sym b.goal)
    (subst (λ (z : Part). Owes s w root start xs (with_open h z) between) (sym b.part)
    (owes_behind s w root start xs g (with_open h x) before between r o))
    )

-- it has its answer
pub answered : {D : Type 0} (s : Sort) (w : WrittenSystem) (xs : List (Split D)) (g h : Goal) (before between now : List Step) (f : Found D) → Reaches s w g before h between → Finds s w h between now f → Opens s w xs g before xs now (Ended f)
answered {D} s w xs g h before between now f r k = λ root start o. owes_ends s w root start xs g before now f o (ends_behind s w g h before between now f r k)

-- ---- the list of split goals, the last one first

abbrev nothing_taken_yet : Goal
nothing_taken_yet = record { count = 0; next = 0; waiting = []; lits = [] }

pushed : {D : Type 0} (xs ys : List (Split D)) (x : Split D) → ys ≡ xs ++ x ∷ [] → reverse ys ≡ x ∷ reverse xs
pushed {D} xs ys x e = ap reverse e ∙ reverse-append xs (x ∷ [])

pub advanced : {D : Type 0} (s : Sort) (xs ys : List (Split D)) (x : Split D) (h : Goal) (y : Part) (t : Tree) → x.place < length x.parts.now → t ≡ get_or x.parts.now x.place t → y.number ≡ x.goal.count → y.path ≡ x.part.path → y.matrix.now ≡ t → h ≡ record { count = suc x.goal.count; next = x.goal.next; waiting = x.goal.waiting ++ y ∷ []; lits = x.goal.lits } → ys ≡ xs ++ x ∷ [] → Advances s (reverse xs) x (reverse ys) (Open h)
advanced {D} s xs ys x h y t l k n r c q e = λ w root start before now d o.
    subst (λ (us : List (Split D)). Stands_at s w root start us now (Open h)) (sym (pushed xs ys x e))
    (child_opened s w root start (reverse xs) x h y t before now l k n r c q d o)

pub takes_refuted : {D : Type 0} (s : Sort) (xs ys : List (Split D)) (x z : Split D) (f : Found D) (state : State D) → f ≡ Refuted → z ≡ record x { place = x.place + 1 } → Advances s xs z ys state → Takes s xs x f ys state
takes_refuted {D} s xs ys x z f state i e a = λ w root start now k.
    let r = refuted_taken s w root start xs x now (subst (λ (y : Found D). Ends s w root start (x ∷ xs) now y) i k) in
    subst (λ (v : Split D). Advances s xs v ys state) e a w root start r.0 now r.1 r.2

pub takes_wide : {D : Type 0} (s : Sort) (xs ys : List (Split D)) (x z : Split D) (f : Found D) (cube : WideLits) (state : State D) → f ≡ Wide cube → z ≡ record x { place = x.place + 1; wide = Some (unwrap_or x.wide cube) } → Advances s xs z ys state → Takes s xs x f ys state
takes_wide {D} s xs ys x z f cube state i e a = λ w root start now k.
    let r = wide_taken s w root start xs x now cube (unwrap_or x.wide cube) refl (subst (λ (y : Found D). Ends s w root start (x ∷ xs) now y) i k) in
    subst (λ (v : Split D). Advances s xs v ys state) e a w root start r.0 now r.1 r.2

pub takes_point : {D : Type 0} (s : Sort) (xs : List (Split D)) (x : Split D) (f : Found D) (p : a_point) → f ≡ Point p → Takes {D = D} s xs x f xs (Ended (Point p))
takes_point {D} s xs x f p i = λ w root start now k. point_taken s w root start xs x now p (subst (λ (y : Found D). Ends s w root start (x ∷ xs) now y) i k)

-- the last split goal is taken off
pub popped : {D : Type 0} (s : Sort) (w : WrittenSystem) (root : Goal) (start : List Step) (xs ys : List (Split D)) (x : Split D) (now : List Step) (f : Found D) → xs ≡ ys ++ x ∷ [] → Ends s w root start (reverse xs) now f → Ends s w root start (x ∷ reverse ys) now f
popped {D} s w root start xs ys x now f e k = subst (λ (us : List (Split D)). Ends s w root start us now f) (pushed ys xs x e) k

pub still_left : {D : Type 0} (s : Sort) (w : WrittenSystem) (root : Goal) (start : List Step) (xs : List (Split D)) (x : Split D) (now : List Step) (f : Found D) → Ends s w root start (x ∷ xs) now f → x.place < length x.parts.now
still_left {D} s w root start xs x now f k = k.3.left

pub root_ends : {D : Type 0} (s : Sort) (w : WrittenSystem) (root : Goal) (start : List Step) (xs : List (Split D)) (now : List Step) (f : Found D) → xs ≡ [] → Ends s w root start (reverse xs) now f → Finds s w root start now f
root_ends {D} s w root start xs now f e k = subst (λ (us : List (Split D)). Ends s w root start (reverse us) now f) e k

pub started : {D : Type 0} (s : Sort) (w : WrittenSystem) (g : Goal) (start : List Step) (xs : List (Split D)) → g ≡ nothing_taken_yet → xs ≡ [] → IsGoal s w g × Owes s w nothing_taken_yet start (reverse xs) g start
started {D} s w g start xs e n = (
  start_kept s w g e,
  subst (λ (us : List (Split D)). Owes s w nothing_taken_yet start (reverse us) g start) (sym n)
      (subst (λ (z : Goal). Owes {D = D} s w nothing_taken_yet start [] z start) (sym e) (λ f later k. k)),
)

-- ---- one turn

pub runs : {D : Type 0} (s : Sort) (w : WrittenSystem) (root : Goal) (start : List Step) (xs : List (Split D)) (now : List Step) (state : State D) → Stands_at s w root start xs now state → Runs s w xs state
runs {D} s w root start xs now (Open g) k = k.0
runs {D} s w root start [] now (Ended f) k = tt
runs {D} s w root start (x ∷ xs) now (Ended f) k = k.3.left
runs {D} s w root start xs now (Done f) k = tt

pub open_runs : {D : Type 0} (s : Sort) (w : WrittenSystem) (xs : List (Split D)) (state : State D) (g : Goal) → state ≡ Open g → Runs s w xs state → IsGoal s w g
open_runs {D} s w xs state g e k = subst (λ (z : State D). Runs s w xs z) e k

pub turned_open : {D : Type 0} (s : Sort) (w : WrittenSystem) (xs ys : List (Split D)) (before now : List Step) (from state : State D) (g : Goal) → from ≡ Open g → Opens s w xs g before ys now state → Turns s w xs before from ys now state
turned_open {D} s w xs ys before now from state g e o = λ root start k.
    o root start (subst (λ (z : State D). Stands_at s w root start xs before z) e k).1

pub turned_done : {D : Type 0} (s : Sort) (w : WrittenSystem) (xs ys : List (Split D)) (now : List Step) (from : State D) (f : Found D) → from ≡ Done f → Turns s w (reverse xs) now from (reverse ys) now (Done f)
turned_done {D} s w xs ys now from f e = λ root start k. subst (λ (z : State D). Stands_at s w root start (reverse xs) now z) e k

pub turned_first : {D : Type 0} (s : Sort) (w : WrittenSystem) (xs ys : List (Split D)) (now : List Step) (from : State D) (f : Found D) → from ≡ Ended f → xs ≡ [] → Turns s w (reverse xs) now from (reverse ys) now (Done f)
turned_first {D} s w xs ys now from f e n = λ root start k.
    root_ends s w root start xs now f n (subst (λ (z : State D). Stands_at s w root start (reverse xs) now z) e k)

pub last_left : {D : Type 0} (s : Sort) (w : WrittenSystem) (xs ys : List (Split D)) (x : Split D) (from : State D) (f : Found D) → from ≡ Ended f → xs ≡ ys ++ x ∷ [] → Runs s w (reverse xs) from → x.place < length x.parts.now
last_left {D} s w xs ys x from f e q k =
    subst (λ (us : List (Split D)). LastLeft us) (pushed ys xs x q) (subst (λ (z : State D). Runs s w (reverse xs) z) e k)

pub turned_ended : {D : Type 0} (s : Sort) (w : WrittenSystem) (xs ys zs : List (Split D)) (x : Split D) (now : List Step) (from state : State D) (f : Found D) → from ≡ Ended f → xs ≡ ys ++ x ∷ [] → Takes s (reverse ys) x f zs state → Turns s w (reverse xs) now from zs now state
turned_ended {D} s w xs ys zs x now from state f e q t = λ root start k.
    t w root start now (popped s w root start xs ys x now f q (subst (λ (z : State D). Stands_at s w root start (reverse xs) now z) e k))

pub found_done : {D : Type 0} (s : Sort) (w : WrittenSystem) (root : Goal) (start : List Step) (xs : List (Split D)) (now : List Step) (state : State D) (f : Found D) → state ≡ Done f → Stands_at s w root start xs now state → Finds s w root start now f
found_done {D} s w root start xs now state f e k = subst (λ (z : State D). Stands_at s w root start xs now z) e k
