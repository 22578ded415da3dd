-- A disjunction is split: child by child.
use Rattle.std.specs.Prelude.{ℕ, zero, suc, ◌+◌, ◌<◌, ◌≤◌, ◌≡◌, Option, Some, None, IfSome, unwrap_or, slice_get, get_or, List, [], ◌∷◌, ◌++◌, drop, length}
use Rattle.std.proofs.Common.{ap, arith, ◌∙◌, sym, subst, refl, append_assoc, inl, inr}
use Rattle.lin_term.specs.declared.Sort.{Sort}
use Rattle.lin_term.specs.declared.Lit.{Lit}
use Rattle.lin_term.specs.Form.{cap}
use Rattle.dom_core.specs.declared.Matrix.{Matrix as Tree, And}
use Rattle.dom_core.specs.Game.{Matrix, some, Matrices, none, more, IsMatrix}
use Rattle.dom_core.specs.Problem.{HasNegations}
use Rattle.dom_core.specs.View.{matrix_of, matrices_of}
use Rattle.dom_core.proofs.AddingLemmas.{split_at}
use Rattle.lose_system.specs.Losing.{System}
use Rattle.lose_system.specs.Written.{WrittenSystem, system_of}
use Rattle.lose_system.proofs.LostLemmas.{matrix_part, negations_part}
use Rattle.cube_rules.specs.declared.Step.{Step}
use Rattle.cube_rules.specs.declared.Step.TheVariants as line
use Rattle.cube_rules.specs.Facts.{count}
use Rattle.cube_rules.specs.Lines.{each_child}
use Rattle.proof_rules.specs.Held.{part_on, parts_on, IsPath}
use Rattle.proof_rules.proofs.PartLemmas.{matrix_and}
use Rattle.cube_elim.specs.Among.{IsTakenFrom}
use Rattle.cube_elim.specs.WideCubes.{WideLits}
use Rattle.clause_search.specs.declared.goal.Part.{Part}
use Rattle.clause_search.specs.declared.goal.Goal.{Goal}
use Rattle.clause_search.specs.Branches.{branches, SomeIs}
use Rattle.clause_search.specs.Taken.{Leads, facts_alone, rules_of, Meets, EachThrough, StopsBehind, Completes, matrix_at, taken_by, left_of, Stands, IsBehind, IsPart, IsGoal}
use Rattle.clause_search.specs.declared.found.Found.{Found}
use Rattle.clause_search.specs.declared.found.Found.TheVariants.{Point, Refuted, Wide}
use Rattle.clause_search.specs.Searching.{with_open, Reaches, Closed, Widened, Finds, SplitAt, Splits}
use Rattle.clause_search.proofs.Leading.{leads_then, leads_before}
use Rattle.clause_search.proofs.Rules.{cases_lead}
use Rattle.clause_search.proofs.Completing.{child_taken}
use Rattle.clause_search.proofs.Reaching.{got_either, length-more, all_more, all_less, all_stand_more, stands_last}
use Rattle.clause_search.proofs.Parting.{left_behind, disjunction_at, child_there}

counted : (s : Sort) (w : WrittenSystem) (x : Part) (ts : List Tree) → count (parts_on s w x.path (matrices_of ts)) ≡ length ts
counted s w x [] = refl
counted s w x (t ∷ ts) = ap suc (counted s w x ts)

-- the disjunction is a fact
fork_there : (s : Sort) (w : WrittenSystem) (F : List Matrix) (g : Goal) (x : Part) (ts : List Tree) → x.matrix.now ≡ And ts → IsBehind s w F (with_open g x) → slice_get F x.number ≡ Some (some (parts_on s w x.path (matrices_of ts)))
fork_there s w F g x ts e b = (all_less (Stands s w F) g.waiting x b.waiting).1 ∙ ap (λ (m : Matrix). Some m) (disjunction_at s w x ts e)

pub split_none : (s : Sort) (w : WrittenSystem) (g : Goal) (x : Part) (ts : List Tree) (before now : List Step) (n : ℕ) → x.matrix.now ≡ And ts → n ≡ length ts → n ≤ cap → now ≡ before ++ line.Cases x.number n ∷ [] → Splits s w g x ts before 0 now None
split_none s w g x ts before now n e c k q F b = record {
  lines = λ _. (line.Cases x.number n ∷ [], q, cases_lead s w F x.number n (parts_on s w x.path (matrices_of ts)) (fork_there s w F g x ts e b) (counted s w x ts ∙ sym c) k);
  stops = λ h. h;
  this = tt;
}

-- the goal of a child
pub child_behind : (s : Sort) (w : WrittenSystem) (F : List Matrix) (g h : Goal) (x y : Part) (ts : List Tree) (i : ℕ) (t : Tree) → x.matrix.now ≡ And ts → i < length ts → t ≡ get_or ts i t → y.number ≡ g.count → y.path ≡ x.path → y.matrix.now ≡ t → h ≡ record { count = suc g.count; next = g.next; waiting = g.waiting ++ y ∷ []; lits = g.lits } → IsBehind s w F (with_open g x) → IsBehind s w (F ++ part_on s w x.path (matrix_of t) ∷ []) h
child_behind s w F g h x y ts i t e l k n p c q b =
    let m = part_on s w x.path (matrix_of t) in
    let a = all_less (Stands s w F) g.waiting x b.waiting in
    subst (λ (z : Goal). IsBehind s w (F ++ m ∷ []) z) (sym q) (record {
      count = length-more F m ∙ ap suc b.count;
      waiting = all_more (Stands s w (F ++ m ∷ [])) g.waiting y (all_stand_more s w F m g.waiting a.0) (stands_last s w F m y (n ∙ sym b.count) seen);
      lits = all_stand_more s w F m g.lits b.lits;
      completes =
          subst (λ (ms : List Matrix). Completes (system_of s w) (taken_by s w g) ms) (sym (left_behind s w g y ∙ ap (λ (z : Matrix). z ∷ left_of s w g) seen))
          (child_taken (system_of s w) (taken_by s w g) (parts_on s w x.path (matrices_of ts)) i m (left_of s w g) (child_there s w x ts i t l k)
          (subst (λ (ms : List Matrix). Completes (system_of s w) (taken_by s w g) ms) (left_behind s w g x ∙ ap (λ (z : Matrix). z ∷ left_of s w g) (disjunction_at s w x ts e)) b.completes));
    })
  where
    seen : matrix_at s w y ≡ part_on s w x.path (matrix_of t)
    seen = ap (λ (j : ℕ). part_on s w j (matrix_of y.matrix.now)) p ∙ ap (λ (z : Tree). part_on s w x.path (matrix_of z)) c

pub child_kept : (s : Sort) (w : WrittenSystem) (g h : Goal) (x y : Part) (ts : List Tree) (i : ℕ) (t : Tree) → x.matrix.now ≡ And ts → i < length ts → t ≡ get_or ts i t → y.path ≡ x.path → y.matrix.now ≡ t → h ≡ record { count = suc g.count; next = g.next; waiting = g.waiting ++ y ∷ []; lits = g.lits } → IsPart s w x → IsGoal s w g → IsGoal s w h
child_kept s w g h x y ts i t e l k p c q r o =
    let a = ap matrix_of e ∙ matrix_and ts in
    subst (λ (z : Goal). IsGoal s w z) (sym q) (record {
      waiting = all_more (IsPart s w) g.waiting y o.waiting (
        subst (λ (j : ℕ). IsPath w j) (sym p) r.0,
        subst (λ (z : Tree). IsMatrix (matrix_of z) s (length w.problem.prefix)) (sym c) (matrix_part ts s (length w.problem.prefix) i t l k (subst (λ (z : Matrix). IsMatrix z s (length w.problem.prefix)) a r.1)),
        subst (λ (z : Tree). HasNegations (matrix_of z) s) (sym c) (negations_part ts s i t l k (subst (λ (z : Matrix). HasNegations z s) a r.2)),
      );
      lits = o.lits;
      next = o.next;
    })

-- branches through the facts and the child, or one of those behind it
through_more : (s : Sort) (sys : System) (F : List Matrix) (m : Matrix) (ms : Matrices) → StopsBehind s sys (F ++ m ∷ []) → EachThrough s sys F ms → EachThrough s sys F (more m ms)
through_more s sys F m ms h k b g f (inl j) = h b g (λ i n e. got_either (λ (x : Matrix). Meets x b) F m n i e (λ d u. f d n u) j)
through_more s sys F m ms h k b g f (inr j) = k b g f j

rest_of : (s : Sort) (w : WrittenSystem) (x : Part) (ts : List Tree) (i : ℕ) (t : Tree) → i < length ts → t ≡ get_or ts i t → parts_on s w x.path (matrices_of (drop i ts)) ≡ more (part_on s w x.path (matrix_of t)) (parts_on s w x.path (matrices_of (drop (i + 1) ts)))
rest_of s w x ts i t l k = ap (λ (us : List Tree). parts_on s w x.path (matrices_of us)) (split_at ts i t l k)

-- a child is closed
pub split_closed : (s : Sort) (w : WrittenSystem) (g : Goal) (x : Part) (ts : List Tree) (before now new : List Step) (i : ℕ) (t : Tree) (wide : Option WideLits) → i < length ts → t ≡ get_or ts i t → ((F : List Matrix) → IsBehind s w F (with_open g x) → Closed s w (F ++ part_on s w x.path (matrix_of t) ∷ []) now new) → Splits s w g x ts before i now wide → Splits s w g x ts before (i + 1) new wide
split_closed s w g x ts before now new i t wide l k c h F b =
    let a = h F b in
    let d = c F b in
    let m = part_on s w x.path (matrix_of t) in
    let ms = parts_on s w x.path (matrices_of (drop (i + 1) ts)) in
    record {
      lines = λ q.
          let r = a.lines q in (
            r.0 ++ d.added,
            d.written ∙ ap (λ (ls : List Step). ls ++ d.added) r.1 ∙ append_assoc before r.0 d.added,
            leads_then (rules_of s w) (facts_alone F ∷ []) (each_child (facts_alone F) (more m ms)) (each_child (facts_alone F) ms) r.0 d.added
                (subst (λ (js : Matrices). Leads (rules_of s w) (facts_alone F ∷ []) r.0 (each_child (facts_alone F) js)) (rest_of s w x ts i t l k) r.2)
                (leads_before (rules_of s w) (facts_alone (F ++ m ∷ []) ∷ []) [] (each_child (facts_alone F) ms) d.added d.leads),
          );
      stops = λ u. a.stops (subst (λ (js : Matrices). EachThrough s (system_of s w) F js) (sym (rest_of s w x ts i t l k)) (through_more s (system_of s w) F m ms d.stops u));
      this = a.this;
    }

-- a child ends with a wide cube
pub split_wide : (s : Sort) (w : WrittenSystem) (g : Goal) (x : Part) (ts : List Tree) (before now new : List Step) (i : ℕ) (t : Tree) (wide : Option WideLits) (cube first : WideLits) → i < length ts → t ≡ get_or ts i t → ((F : List Matrix) → IsBehind s w F (with_open g x) → Widened s w (F ++ part_on s w x.path (matrix_of t) ∷ []) cube.lits) → first ≡ unwrap_or wide cube → Splits s w g x ts before i now wide → Splits s w g x ts before (i + 1) new (Some first)
split_wide s w g x ts before now new i t wide cube first l k c q h F b =
    let a = h F b in
    let d = c F b in
    let m = part_on s w x.path (matrix_of t) in
    let ms = parts_on s w x.path (matrices_of (drop (i + 1) ts)) in
    record {
      lines = λ e. absurd (no_none e);
      stops = λ u. a.stops (subst (λ (js : Matrices). EachThrough s (system_of s w) F js) (sym (rest_of s w x ts i t l k)) (through_more s (system_of s w) F m ms d.stops u));
      this = subst (λ (z : WideLits). SomeIs (IsTakenFrom z.lits) (branches (system_of s w))) (sym q) (one wide a.this d.this);
    }
  where
    no_none : Some first ≡ None → ⊥
    no_none e = cc

    one : (o : Option WideLits) → IfSome o (λ z. SomeIs (IsTakenFrom z.lits) (branches (system_of s w))) → SomeIs (IsTakenFrom cube.lits) (branches (system_of s w)) → SomeIs (IsTakenFrom (unwrap_or o cube).lits) (branches (system_of s w))
    one None u v = v
    one (Some z) u v = u

-- ---- all children

none_left : (s : Sort) (w : WrittenSystem) (x : Part) (ts : List Tree) (i : ℕ) → length ts ≤ i → parts_on s w x.path (matrices_of (drop i ts)) ≡ none
none_left s w x [] zero h = refl
none_left s w x [] (suc i) h = refl
none_left s w x (t ∷ ts) zero h = absurd (omega arith)
none_left s w x (t ∷ ts) (suc i) h = none_left s w x ts i (omega arith)

no_branch : (s : Sort) (sys : System) (F : List Matrix) → EachThrough s sys F none
no_branch s sys F b g f h = absurd h

all_stopped : (s : Sort) (w : WrittenSystem) (g : Goal) (x : Part) (ts : List Tree) (before now : List Step) (i : ℕ) (wide : Option WideLits) (F : List Matrix) → x.matrix.now ≡ And ts → length ts ≤ i → IsBehind s w F (with_open g x) → SplitAt s w F x ts before i now wide → StopsBehind s (system_of s w) F
all_stopped s w g x ts before now i wide F e l b a c t f =
    a.stops (subst (λ (js : Matrices). EachThrough s (system_of s w) F js) (sym (none_left s w x ts i l)) (no_branch s (system_of s w) F)) c t f
    (f x.number (some (parts_on s w x.path (matrices_of ts))) (fork_there s w F g x ts e b))

pub split_ends : (s : Sort) (w : WrittenSystem) (g : Goal) (x : Part) (ts : List Tree) (before now : List Step) (i : ℕ) → x.matrix.now ≡ And ts → length ts ≤ i → Splits s w g x ts before i now None → (F : List Matrix) → IsBehind s w F (with_open g x) → Closed s w F before now
split_ends s w g x ts before now i e l h F b =
    let a = h F b in
    let r = a.lines refl in
    record {
      added = r.0;
      written = r.1;
      leads = subst (λ (js : Matrices). Leads (rules_of s w) (facts_alone F ∷ []) r.0 (each_child (facts_alone F) js)) (none_left s w x ts i l) r.2;
      stops = all_stopped s w g x ts before now i None F e l b a;
    }

pub split_widens : (s : Sort) (w : WrittenSystem) (g : Goal) (x : Part) (ts : List Tree) (before now : List Step) (i : ℕ) (wide : Option WideLits) (cube : WideLits) → x.matrix.now ≡ And ts → length ts ≤ i → wide ≡ Some cube → Splits s w g x ts before i now wide → (F : List Matrix) → IsBehind s w F (with_open g x) → Widened s w F cube.lits
split_widens s w g x ts before now i wide cube e l q h F b =
    let a = h F b in
    record {
      stops = all_stopped s w g x ts before now i wide F e l b a;
      this = subst (λ (o : Option WideLits). IfSome o (λ z. SomeIs (IsTakenFrom z.lits) (branches (system_of s w)))) q a.this;
    }

-- ---- a goal that was reached from another

pub closed_behind : (s : Sort) (w : WrittenSystem) (g h : Goal) (before between now : List Step) → Reaches s w g before h between → ((F : List Matrix) → IsBehind s w F h → Closed s w F between now) → (F : List Matrix) → IsBehind s w F g → Closed s w F before now
closed_behind s w g h before between now p c F b =
    let a = p F b in
    let d = c a.facts a.behind in
    record {
      added = a.added ++ d.added;
      written = d.written ∙ ap (λ (ls : List Step). ls ++ d.added) a.written ∙ append_assoc before a.added d.added;
      leads = leads_then (rules_of s w) (facts_alone F ∷ []) (facts_alone a.facts ∷ []) [] a.added d.added a.leads d.leads;
      stops = a.stops d.stops;
    }

pub widened_behind : (s : Sort) (w : WrittenSystem) (g h : Goal) (before between : List Step) (x : List Lit) → Reaches s w g before h between → ((F : List Matrix) → IsBehind s w F h → Widened s w F x) → (F : List Matrix) → IsBehind s w F g → Widened s w F x
widened_behind s w g h before between x p c F b =
    let a = p F b in
    let d = c a.facts a.behind in
    record { stops = a.stops d.stops; this = d.this }

pub ends_behind : {D : Type 0} (s : Sort) (w : WrittenSystem) (g h : Goal) (before between now : List Step) (f : Found D) → Reaches s w g before h between → Finds s w h between now f → Finds s w g before now f
ends_behind {D} s w g h before between now (Point p) r k = λ F b. let a = r F b in k a.facts a.behind
ends_behind {D} s w g h before between now Refuted r k = closed_behind s w g h before between now r k
ends_behind {D} s w g h before between now (Wide x) r k = widened_behind s w g h before between x.lits r k
