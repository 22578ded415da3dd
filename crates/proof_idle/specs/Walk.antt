-- The walk over the lines of a proof, one after the other, that finds the first idle one.
use Rattle.std.specs.Prelude.{ℕ, suc, ◌+◌, ◌-◌, nat_eq, Bool, true, false, not, ◌&&◌, if◌then◌else◌, Option, Some, None, List, [], ◌∷◌, ◌++◌, length, take, replicate, reverse, slice_index_or, slice_set}
use Rattle.cube_rules.specs.declared.Step.{Step}
use Rattle.cube_rules.specs.declared.Step.TheVariants.{Path, Def, Part, Cases, Sum, Split, Cube, Least, Learn, False}
use Rattle.cube_rules.specs.Lines.{parts}
use Rattle.proof_rules.specs.Idle.{is_cube, is_cases}
use Rattle.proof_idle.specs.declared.open_line.OpenLine.{OpenLine}
use Rattle.proof_idle.specs.Least.{lesser}

-- which facts of the subproof are read so far, one flag for each; the lines around it that have subproofs left, the innermost first; the
-- first idle line so far; how many subproofs behind a `cube` are passed over
pub record Standing : Type 0 where
  pub used : List Bool
  pub around : List OpenLine
  pub least : Option ℕ
  pub skip : ℕ

abbrev pub all_marked : List ℕ → List Bool → List Bool
all_marked [] us = us
all_marked (f ∷ fs) us = all_marked fs (slice_set us f true)

-- with the facts that the line reads
abbrev pub marked : Step → List Bool → List Bool
marked (Path k) us = us
marked (Def v i) us = us
marked (Part f i) us = slice_set us f true
marked (Cases f n) us = slice_set us f true
marked (Sum p f q h g) us = slice_set (slice_set us f true) h true
marked (Split l) us = us
marked (Cube fs) us = all_marked fs us
marked (Least v n) us = us
marked (Learn ls) us = us
marked (False f) us = slice_set us f true

-- how many facts its first subproof has besides
abbrev pub added : Step → ℕ
added (Path k) = 1
added (Def v i) = 1
added (Part f i) = 1
added (Cases f n) = 1
added (Sum p f q h g) = 1
added (Split l) = 1
added (Cube fs) = 1
added (Least v n) = 1
added (Learn ls) = length ls
added (False f) = 1

-- the line of `cases`, where its subproof that ends has not read the child
abbrev pub idle_part : OpenLine → List Bool → Option ℕ
idle_part o us = if o.is_cases && not (slice_index_or us o.facts false) then Some o.line else None

abbrev pub with_left : OpenLine → ℕ → OpenLine
with_left o n = record { line = o.line; facts = o.facts; left = n; is_cases = o.is_cases }

-- a subproof has ended: the innermost line that has one left goes on with it
abbrev pub closed : List OpenLine → List Bool → Option ℕ → Standing
closed [] us b = record { used = us; around = []; least = b; skip = 0 }
closed (o ∷ os) us b =
    if nat_eq o.left 0 then closed os us (lesser b (idle_part o us))
    else record { used = take o.facts us ++ false ∷ []; around = with_left o (o.left - 1) ∷ os; least = lesser b (idle_part o us); skip = 0 }

-- behind a `cube`
abbrev pub passed : Step → Standing → Standing
passed l w = if nat_eq (w.skip - 1 + parts l) 0 then closed w.around w.used w.least else record { used = w.used; around = w.around; least = w.least; skip = w.skip - 1 + parts l }

-- a line that leaves subproofs
abbrev pub opened : Step → ℕ → List OpenLine → List Bool → Option ℕ → Standing
opened l i os us b = record {
  used = us ++ replicate (added l) false;
  around = record { line = i; facts = length us; left = parts l - 1; is_cases = is_cases l } ∷ os;
  least = b;
  skip = 0;
}

abbrev pub entered : Step → ℕ → List OpenLine → List Bool → Option ℕ → Standing
entered l i os us b =
    if is_cube l then record { used = us; around = os; least = b; skip = parts l }
    else if nat_eq (parts l) 0 then closed os us b else opened l i os us b

-- line l, which has number i
abbrev pub step : Step → ℕ → Standing → Standing
step l i w = if nat_eq w.skip 0 then entered l i w.around (marked l w.used) w.least else passed l w

abbrev pub run : ℕ → List Step → Standing → Standing
run i [] w = w
run i (l ∷ ls) w = run (suc i) ls (step l i w)

abbrev pub begin : Standing
begin = record { used = []; around = []; least = None; skip = 0 }

-- of what the walk keeps, the innermost line last
abbrev pub standing : List Bool → List OpenLine → Option ℕ → ℕ → Standing
standing us os b n = record { used = us; around = reverse os; least = b; skip = n }
