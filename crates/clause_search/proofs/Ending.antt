-- How a goal ends whose literals are eliminated.
use Rattle.std.specs.Prelude.{ℕ, zero, suc, ◌≤◌, ◌≡◌, ◌⊎◌, List, [], ◌∷◌, ◌++◌, map, drop, length, reverse}
use Rattle.std.specs.List.{AllByRecursion}
use Rattle.std.proofs.Common.{ap, arith, ◌∙◌, sym, subst, refl, append_assoc, inl, inr}
use Rattle.lin_term.specs.declared.Sort.{Sort}
use Rattle.lin_term.specs.declared.Lit.{Lit}
use Rattle.lin_term.specs.Linear.{Point as a_point, origin}
use Rattle.dom_core.specs.Cube.{IsPrimitiveCube}
use Rattle.dom_core.specs.Game.{Matrix}
use Rattle.dom_core.proofs.AddingLemmas.{cube_of}
use Rattle.dom_core.proofs.Duals.{origin_point}
use Rattle.lose_system.specs.Losing.{Solves}
use Rattle.lose_system.specs.Written.{WrittenSystem, system_of}
use Rattle.cube_rules.specs.declared.Step.{Step}
use Rattle.cube_rules.specs.declared.Step.TheVariants as line
use Rattle.cube_rules.specs.Bare.{ClosesBare}
use Rattle.cube_rules.proofs.Lifting.{bare_is_empty}
use Rattle.cube_elim.specs.Among.{IsAmong}
use Rattle.cube_elim.specs.Answers.{IsWideOf}
use Rattle.cube_elim.specs.Deciding.{IsSolution}
use Rattle.cube_elim.specs.WideCubes.{WideLits}
use Rattle.clause_search.specs.declared.goal.Part.{Part}
use Rattle.clause_search.specs.declared.goal.Goal.{Goal}
use Rattle.clause_search.specs.declared.chosen.Chosen.{Chosen}
use Rattle.clause_search.specs.Branches.{definition_literals}
use Rattle.clause_search.specs.Taken.{facts_alone, rules_of, Meets, GoesThrough, MeetsFacts, Completes, AreWays, matrix_at, literals_in, taken_by, left_of, Stands, IsBehind}
use Rattle.clause_search.specs.Chosen.{Chooses, HasFirst, HasNodes}
use Rattle.clause_search.specs.declared.found.Found.{Found}
use Rattle.clause_search.specs.declared.found.Found.TheVariants.{Point, Refuted, Wide}
use Rattle.clause_search.specs.Searching.{with_open, Closed, Widened, HasLits, WidelyEnds, Passes, Eliminates, Finds}
use Rattle.clause_search.proofs.Leading.{leads_then}
use Rattle.clause_search.proofs.Rules.{cube_leads}
use Rattle.clause_search.proofs.Stopping.{Within, refuted_stops, wide_stops, on_branch}
use Rattle.clause_search.proofs.Completing.{taken_solves}
use Rattle.clause_search.proofs.Choosing.{found, stands_there, all_defined, taken_holds}

-- a branch through the facts has the literals that are taken
taken_met : (s : Sort) (w : WrittenSystem) (F : List Matrix) (xs : List Part) (b : List Lit) (l : Lit) → AllByRecursion (Stands s w F) xs → MeetsFacts F b → IsAmong l (literals_in (map (matrix_at s w) xs)) → IsAmong l b
taken_met s w F xs b l h f k =
    let r = found s w xs l k in
    subst (λ (m : Matrix). Meets m b) r.is (f r.part.number (matrix_at s w r.part) (stands_there s w F xs r.place r.part h r.there))

chosen_met : (s : Sort) (w : WrittenSystem) (F : List Matrix) (g : Goal) (c : Chosen) (b : List Lit) → Chooses s w g c → HasLits s w F g → GoesThrough (system_of s w) b → MeetsFacts F b → Within c.cube b
chosen_met s w F g c b ch h t f l k = by (ch.from l k)
  where
    by : IsAmong l (definition_literals (system_of s w).defs) ⊎ IsAmong l (taken_by s w g) → IsAmong l b
    by (inl j) = t.defs l j
    by (inr j) = taken_met s w F g.lits b l h.lits f j

-- lines that close a cube name a fact
some_numbers : (s : Sort) (n : ℕ) (cube : List Lit) (numbers : List ℕ) (steps : List Step) → IsPrimitiveCube s cube → length numbers ≡ length cube → ClosesBare s n cube steps → 1 ≤ length numbers
some_numbers s n [] numbers steps p e k = absurd (bare_is_empty s n [] steps k tt origin (origin_point s) tt)
some_numbers s n (l ∷ cube) numbers steps p e k = positive (length numbers) (length cube) e
  where
    positive : (a b : ℕ) → a ≡ suc b → 1 ≤ a
    positive a b e = omega arith

pub refuted_closes : (s : Sort) (w : WrittenSystem) (g : Goal) (c : Chosen) (steps before now : List Step) → Chooses s w g c → ClosesBare s (system_of s w).count c.cube steps → now ≡ ((before ++ c.defs) ++ line.Cube c.numbers ∷ []) ++ steps → (F : List Matrix) → HasLits s w F g → Closed s w F before now
refuted_closes s w g c steps before now ch k e F h =
    let a = ch.chose F h.count h.lits in
    record {
      added = c.defs ++ line.Cube c.numbers ∷ steps;
      written = e ∙ append_assoc (before ++ c.defs) (line.Cube c.numbers ∷ []) steps ∙ append_assoc before c.defs (line.Cube c.numbers ∷ steps);
      leads = leads_then (rules_of s w) (facts_alone F ∷ []) (facts_alone (F ++ a.more) ∷ []) [] c.defs (line.Cube c.numbers ∷ steps) a.leads
          (cube_leads s w (F ++ a.more) (system_of s w).count c.numbers c.cube steps (omega arith) a.at (some_numbers s (system_of s w).count c.cube c.numbers steps ch.primitive ch.long k) k);
      stops = λ b t f. refuted_stops s (system_of s w).count c.cube b steps k (cube_of s c.cube ch.primitive) (chosen_met s w F g c b ch h t f);
    }

pub wide_ends : (s : Sort) (w : WrittenSystem) (g : Goal) (c : Chosen) (x : WideLits) → Chooses s w g c → IsWideOf s c.cube x → (F : List Matrix) → HasLits s w F g → WidelyEnds s w F g x.lits
wide_ends s w g c x ch k F h = record {
  stops = λ b t f. wide_stops s x.lits c.cube b x.number k.0 k.1 ch.once (chosen_met s w F g c b ch h t f);
  this = λ left ws p a. on_branch s (system_of s w) x.lits c.cube (taken_by s w g) left ws k.0 ch.once ch.from p a;
}

-- ---- nothing is left

pub lits_of : (s : Sort) (w : WrittenSystem) (F : List Matrix) (g : Goal) → IsBehind s w F g → HasLits s w F g
lits_of s w F g b = record { count = b.count; lits = b.lits }

pub nothing_left : (s : Sort) (w : WrittenSystem) (g : Goal) → g.waiting ≡ [] → length (system_of s w).paths ≤ g.next → left_of s w g ≡ []
nothing_left s w g e h = ap (λ (xs : List Part). map (matrix_at s w) (reverse xs) ++ drop g.next (system_of s w).paths) e ∙ gone (system_of s w).paths g.next h
  where
    gone : (ms : List Matrix) (n : ℕ) → length ms ≤ n → drop n ms ≡ []
    gone [] zero h = refl
    gone [] (suc n) h = refl
    gone (m ∷ ms) zero h = absurd (omega arith)
    gone (m ∷ ms) (suc n) h = gone ms n (omega arith)

pub solution_solves : (s : Sort) (w : WrittenSystem) (F : List Matrix) (g : Goal) (cube : List Lit) (p : a_point) → left_of s w g ≡ [] → HasFirst s w g (length g.lits) cube → HasNodes (system_of s w) (system_of s w).count cube → IsSolution s (system_of s w).count cube p → IsBehind s w F g → Solves s (system_of s w) p
solution_solves s w F g cube p e f n k b =
    taken_solves s (system_of s w) (taken_by s w g) p (subst (λ (ms : List Matrix). Completes (system_of s w) (taken_by s w g) ms) e b.completes) k.point k.count (λ l j. taken_holds s w g cube p f k.holds l j) (all_defined s w cube p n k.holds)

pub widened : (s : Sort) (w : WrittenSystem) (F : List Matrix) (g : Goal) (x : List Lit) → left_of s w g ≡ [] → WidelyEnds s w F g x → IsBehind s w F g → Widened s w F x
widened s w F g x e h b = record {
  stops = h.stops;
  this = h.this (left_of s w g) [] b.completes (subst (λ (ms : List Matrix). AreWays ms []) (sym e) tt);
}

-- ---- how the whole ends

pub whole_ends : {D : Type 0} (s : Sort) (w : WrittenSystem) (g : Goal) (cube : List Lit) (before now : List Step) (f : Found D) → g.waiting ≡ [] → length (system_of s w).paths ≤ g.next → HasFirst s w g (length g.lits) cube → HasNodes (system_of s w) (system_of s w).count cube → Eliminates s w g cube before now f → Finds s w g before now f
whole_ends {D} s w g cube before now (Point p) e l h n k = λ F b. solution_solves s w F g cube p (nothing_left s w g e l) h n k.0 b
whole_ends {D} s w g cube before now Refuted e l h n k = λ F b. k F (lits_of s w F g b)
whole_ends {D} s w g cube before now (Wide x) e l h n k = λ F b. widened s w F g x.lits (nothing_left s w g e l) (k.0 F (lits_of s w F g b)) b

-- ---- how a goal ends early

open_lits : (s : Sort) (w : WrittenSystem) (F : List Matrix) (g : Goal) (x : Part) → IsBehind s w F (with_open g x) → HasLits s w F g
open_lits s w F g x b = record { count = b.count; lits = b.lits }

pub refuted_early : (s : Sort) (w : WrittenSystem) (g : Goal) (x : Part) (before now : List Step) → ((F : List Matrix) → HasLits s w F g → Closed s w F before now) → (F : List Matrix) → IsBehind s w F (with_open g x) → Closed s w F before now
refuted_early s w g x before now k F b = k F (open_lits s w F g x b)

pub wide_early : (s : Sort) (w : WrittenSystem) (g : Goal) (x : Part) (cube : List Lit) → Passes s w (with_open g x) → ((F : List Matrix) → HasLits s w F g → WidelyEnds s w F g cube) → (F : List Matrix) → IsBehind s w F (with_open g x) → Widened s w F cube
wide_early s w g x cube p k F b =
    let h = k F (open_lits s w F g x b) in
    record { stops = h.stops; this = h.this (left_of s w (with_open g x)) p.0 b.completes p.1 }
