-- What the elimination answers, for the goal whose literals were handed to it, and how the attack ends.
use Rattle.std.specs.Prelude.{ℕ, ◌≡◌, Bool, true, false, Option, Some, None, Err, List, []}
use Rattle.std.proofs.Common.{ap, ◌∙◌, sym, subst, refl}
use Rattle.lin_term.specs.declared.Sort.{Sort}
use Rattle.lin_term.specs.declared.Lit.{Lit}
use Rattle.lin_term.specs.declared.Short.{Short}
use Rattle.lin_term.specs.declared.Short.TheVariants.{Fault}
use Rattle.lin_term.specs.Linear.{Point as a_point}
use Rattle.dom_core.specs.Game.{Problem}
use Rattle.game_tree.specs.Skeleton.{Skeleton}
use Rattle.lose_system.specs.Losing.{Solves}
use Rattle.lose_system.specs.Written.{WrittenSystem, system_of}
use Rattle.cube_rules.specs.declared.Step.{Step}
use Rattle.cube_rules.specs.Bare.{ClosesBare}
use Rattle.proof_rules.specs.declared.bad_line.BadLine.{BadLine}
use Rattle.proof_rules.specs.Rules.{Refutes}
use Rattle.proof_rules.specs.Checked.{Judged}
use Rattle.cube_elim.specs.Answers.{Answers, IsWideOf}
use Rattle.cube_elim.specs.Deciding.{IsSolution}
use Rattle.cube_elim.specs.Determined.{WideAt}
use Rattle.cube_elim.specs.WideCubes.{WideLits}
use Rattle.cube_elim.specs.declared.decided.Decided.{Decided}
use Rattle.cube_elim.specs.declared.decided.Decided.TheVariants as decided
use Rattle.clause_search.specs.declared.goal.Part.{Part}
use Rattle.clause_search.specs.declared.goal.Goal.{Goal}
use Rattle.clause_search.specs.declared.found.Found.{Found}
use Rattle.clause_search.specs.declared.found.Found.TheVariants.{Point, Refuted, Wide}
use Rattle.clause_search.specs.Branches.{EndsWide}
use Rattle.clause_search.specs.Taken.{IsGoal}
use Rattle.clause_search.specs.Searching.{with_open, Closed, Passes, Reaches, ReachesFork, ReachesEnd, TakesPath, Expands, Eliminates, EndsEarly, Finds}
use Rattle.clause_search.proofs.Ending.{refuted_early, wide_early}
use Rattle.clause_search.proofs.Reaching.{reaches_self}
use Rattle.clause_search.proofs.Parting.{same_again}
use Rattle.clause_search.proofs.Root.{start_behind, widened_ends}

pub point_answer : {D : Type 0} (s : Sort) (n m : ℕ) (c k : List Lit) (d : Decided D) (p : a_point) → d ≡ decided.Point p → n ≡ m → k ≡ c → Answers s n k d → IsSolution s m c p
point_answer {D} s n m c k d p e f h a =
    subst (λ (j : ℕ). IsSolution s j c p) f (subst (λ (ls : List Lit). IsSolution s n ls p) h (subst (λ (x : Decided D). Answers s n k x) e a))

pub refuted_answer : {D : Type 0} (s : Sort) (n m : ℕ) (c k : List Lit) (d : Decided D) (steps : List Step) → d ≡ decided.Refuted steps → n ≡ m → k ≡ c → Answers s n k d → ClosesBare s m c steps
refuted_answer {D} s n m c k d steps e f h a =
    subst (λ (j : ℕ). ClosesBare s j c steps) f (subst (λ (ls : List Lit). ClosesBare s n ls steps) h (subst (λ (x : Decided D). Answers s n k x) e a))

pub wide_answer : {D : Type 0} (s : Sort) (n : ℕ) (c k : List Lit) (d : Decided D) (y : WideLits) → d ≡ decided.Wide y → k ≡ c → Answers s n k d → IsWideOf s c y
wide_answer {D} s n c k d y e h a =
    subst (λ (ls : List Lit). IsWideOf s ls y) h (subst (λ (x : Decided D). Answers s n k x) e a)

-- ---- before all is taken

pub early_refuted : {D : Type 0} (s : Sort) (w : WrittenSystem) (g : Goal) (x : Part) (cube : List Lit) (before now : List Step) (f : Found D) → f ≡ Refuted → Eliminates s w g cube before now f → EndsEarly {D = D} s w g x before now (Some Refuted)
early_refuted {D} s w g x cube before now f e h = λ F b. refuted_early s w g x before now (subst (λ (y : Found D). Eliminates s w g cube before now y) e h) F b

pub early_wide : {D : Type 0} (s : Sort) (w : WrittenSystem) (g : Goal) (x : Part) (cube : List Lit) (before now : List Step) (f : Found D) (y : WideLits) → f ≡ Wide y → Passes s w (with_open g x) → Eliminates s w g cube before now f → EndsEarly {D = D} s w g x before now (Some (Wide y))
early_wide {D} s w g x cube before now f y e p h =
    let k = subst (λ (z : Found D). Eliminates s w g cube before now z) e h in
    λ F b. wide_early s w g x y.lits p k.0 F b

pub nothing_written : {D : Type 0} (s : Sort) (w : WrittenSystem) (g : Goal) (cube : List Lit) (before now : List Step) (f : Found D) (p : a_point) → f ≡ Point p → Eliminates s w g cube before now f → now ≡ before
nothing_written {D} s w g cube before now f p e h = let k = subst (λ (z : Found D). Eliminates s w g cube before now z) e h in k.1

pub nothing_closed : {D : Type 0} (s : Sort) (w : WrittenSystem) (g : Goal) (cube : List Lit) (before now : List Step) (f : Found D) (y : WideLits) → f ≡ Wide y → Eliminates s w g cube before now f → now ≡ before
nothing_closed {D} s w g cube before now f y e h = let k = subst (λ (z : Found D). Eliminates s w g cube before now z) e h in k.1

-- ---- a path

pub path_taken : (s : Sort) (w : WrittenSystem) (g : Goal) (xs : List Part) (h : Goal) (before now : List Step) (b : Bool) → g.waiting ≡ [] → xs ≡ [] → b ≡ true → TakesPath s w (record g { waiting = xs }) before h now b → Reaches s w g before h now × IsGoal s w h
path_taken s w g xs h before now b e f q t =
    subst (λ (z : Goal). Reaches s w z before h now × IsGoal s w h) (same_again g xs e f) (subst (λ (c : Bool). TakesPath s w (record g { waiting = xs }) before h now c) q t)

pub path_ended : (s : Sort) (w : WrittenSystem) (g : Goal) (xs : List Part) (h : Goal) (before now : List Step) (b : Bool) → g.waiting ≡ [] → xs ≡ [] → b ≡ false → IsGoal s w g → TakesPath s w (record g { waiting = xs }) before h now b → ReachesEnd s w g before h now
path_ended s w g xs h before now b e f q k t =
    let r = subst (λ (c : Bool). TakesPath s w (record g { waiting = xs }) before h now c) q t in
    let same : h ≡ g = r.0 ∙ same_again g xs e f in (
      subst (λ (z : Goal). Reaches s w g before z now) (sym same) (subst (λ (ls : List Step). Reaches s w g before g ls) (sym r.1) (reaches_self s w g before)),
      subst (λ (z : Goal). IsGoal s w z) (sym same) k,
      ap (λ (z : Goal). z.waiting) same ∙ e,
      r.2,
    )

-- ---- the attack

abbrev nothing_yet : Goal
nothing_yet = record { count = 0; next = 0; waiting = []; lits = [] }

pub attack_point : {D : Type 0} (s : Sort) (w : WrittenSystem) (before now : List Step) (f : Found D) (p : a_point) → f ≡ Point p → Finds s w nothing_yet before now f → Solves s (system_of s w) p
attack_point {D} s w before now f p e h =
    let k = subst (λ (z : Found D). Finds s w nothing_yet before now z) e h in k [] (start_behind s w nothing_yet refl)

pub attack_wide : {D : Type 0} (s : Sort) (w : WrittenSystem) (before now : List Step) (f : Found D) (y : WideLits) → f ≡ Wide y → WideAt s y.lits y.number → Finds s w nothing_yet before now f → EndsWide s (system_of s w) y.lits y.number
attack_wide {D} s w before now f y e v h =
    let k = subst (λ (z : Found D). Finds s w nothing_yet before now z) e h in
    widened_ends s w y.lits y.number v (k [] (start_behind s w nothing_yet refl))

pub attack_refuted : {D : Type 0} (s : Sort) (w : WrittenSystem) (before now : List Step) (f : Found D) → f ≡ Refuted → Finds s w nothing_yet before now f → Closed s w [] before now
attack_refuted {D} s w before now f e h =
    let k = subst (λ (z : Found D). Finds s w nothing_yet before now z) e h in k [] (start_behind s w nothing_yet refl)

-- lines that refute are not refused
pub not_refused : (A : Type 0) (s : Sort) (P : Problem) (S : Skeleton) (steps : List Step) (x : Short BadLine) (b : BadLine) → x ≡ Fault b → Judged s P S steps {A = A} (Err x) → Refutes s P S steps → ⊥
not_refused A s P S steps x b e j r = (subst (λ (y : Short BadLine). Judged s P S steps {A = A} (Err y)) e j).0 r

-- ---- what was taken apart

pub forked : (s : Sort) (w : WrittenSystem) (g h : Goal) (before now : List Step) (o : Option Part) (x : Part) → o ≡ Some x → Expands s w g before h now o → ReachesFork s w g before h now x
forked s w g h before now o x e k = subst (λ (y : Option Part). Expands s w g before h now y) e k

pub all_apart : (s : Sort) (w : WrittenSystem) (g h : Goal) (before now : List Step) (o : Option Part) → o ≡ None → Expands s w g before h now o → ReachesEnd s w g before h now
all_apart s w g h before now o e k = subst (λ (y : Option Part). Expands s w g before h now y) e k

pub early_found : {D : Type 0} (s : Sort) (w : WrittenSystem) (g : Goal) (x : Part) (before now : List Step) (o : Option (Found D)) (f : Found D) → o ≡ Some f → EndsEarly s w g x before now o → Finds s w (with_open g x) before now f
early_found {D} s w g x before now o f e k = subst (λ (y : Option (Found D)). EndsEarly s w g x before now y) e k

pub early_nothing : {D : Type 0} (s : Sort) (w : WrittenSystem) (g : Goal) (x : Part) (before now : List Step) (o : Option (Found D)) → o ≡ None → EndsEarly s w g x before now o → now ≡ before
early_nothing {D} s w g x before now o e k = subst (λ (y : Option (Found D)). EndsEarly s w g x before now y) e k
