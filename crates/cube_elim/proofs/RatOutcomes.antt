-- The end of a search over the rationals decides the cube.
use Rattle.std.specs.Prelude.{ℕ, ◌+◌, ◌≡◌, Result, Ok, Err, IfOk, List, length}
use Rattle.std.proofs.Common.{sym, subst}
use Rattle.lin_term.specs.declared.Memory.{Memory}
use Rattle.lin_term.specs.declared.Sort.TheVariants.{Rat}
use Rattle.lin_term.specs.declared.Lit.{Lit}
use Rattle.lin_term.specs.declared.Wide.{Wide as a_number}
use Rattle.lin_term.specs.Linear.{Point as a_point}
use Rattle.dom_core.specs.Cube.{IsCube}
use Rattle.cube_rules.specs.Bare.{ClosesBare}
use Rattle.cube_elim.specs.Deciding.{IsSolution}
use Rattle.cube_elim.specs.Determined.{height, WideBelow}
use Rattle.cube_elim.specs.Outcomes.{Decides, IsEnd, IsOutcomeOf}
use Rattle.cube_elim.specs.Reaching.{Keeps, Reaches}
use Rattle.cube_elim.specs.Stored.{IsStore}
use Rattle.cube_elim.specs.declared.descent.Reached.{Reached}
use Rattle.cube_elim.specs.declared.descent.Reached.TheVariants as reached
use Rattle.cube_elim.specs.declared.store.Store.{Store}
use Rattle.cube_elim.specs.declared.whole.Outcome.{Outcome}
use Rattle.cube_elim.specs.declared.whole.Outcome.TheVariants.{Point, Refuted, Wide}
use Rattle.cube_elim.proofs.RatWhole.{taken_cube, solved, below_own}

pub end_is : (h g : ℕ) (c : List Lit) (old new : Store) (r : Reached) → g ≡ length c → IsStore (length c) old → Reaches h c new.lits r → Keeps old new r → IsEnd g new r
end_is h g c old new (reached.Point p) e s a k = tt
end_is h g c old new (reached.False i) e s a k = (subst (λ (n : ℕ). IsStore n new) (sym e) (k.1 (length c) s), a)
end_is h g c old new (reached.Wide w) e s a k = tt

pub outcome_decides : (h n k g : ℕ) (c : List Lit) (old new : Store) (r : Reached) (o : Result Outcome Memory) → k + h ≡ n → h ≡ height c → IsCube Rat c → old.lits ≡ c → g ≡ length c → Reaches h c new.lits r → Keeps old new r → IfOk o (IsOutcomeOf g new r k) → IfOk o (Decides Rat n c)
outcome_decides h n k g c old new r (Err f) e q i l m a d w = tt
outcome_decides h n k g c old new (reached.Point p) (Ok (Point y)) e q i l m a d w =
    subst (λ (u : a_point). IsSolution Rat n c u) (sym w.0) (solved h n k c p e i (below_own h c q) w.1 a)
outcome_decides h n k g c old new (reached.Point p) (Ok (Refuted steps)) e q i l m a d w = absurd w
outcome_decides h n k g c old new (reached.Point p) (Ok (Wide z)) e q i l m a d w = absurd w
outcome_decides h n k g c old new (reached.False j) (Ok (Point y)) e q i l m a d w = absurd w
outcome_decides h n k g c old new (reached.False j) (Ok (Refuted steps)) e q i l m a d w =
    subst (λ (ls : List Lit). ClosesBare Rat n ls steps) (taken_cube c old.lits new.lits g l m d.0) (w n)
outcome_decides h n k g c old new (reached.False j) (Ok (Wide z)) e q i l m a d w = absurd w
outcome_decides h n k g c old new (reached.Wide v) (Ok (Point y)) e q i l m a d w = absurd w
outcome_decides h n k g c old new (reached.Wide v) (Ok (Refuted steps)) e q i l m a d w = absurd w
outcome_decides h n k g c old new (reached.Wide v) (Ok (Wide z)) e q i l m a d w =
    subst (λ (j : ℕ). WideBelow j Rat c z.number) q (subst (λ (y : a_number). WideBelow h Rat c y.number) (sym w) a)
