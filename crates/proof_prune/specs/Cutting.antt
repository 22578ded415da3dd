-- The walk over the lines of a proof, one after the other, that cuts out lines that add what their subproof does not read.
use Rattle.std.specs.Prelude.{ℕ, zero, suc, ◌+◌, ◌-◌, nat_eq, Bool, true, false, if◌then◌else◌, List, [], ◌∷◌, ◌++◌, map, length, take, drop, replicate, reverse, slice_set}
use Rattle.cube_rules.specs.declared.Step.{Step}
use Rattle.cube_rules.specs.Lines.{parts}
use Rattle.proof_rules.specs.Idle.{is_cube}
use Rattle.proof_idle.specs.Walk.{added}
use Rattle.proof_prune.specs.declared.item.Item.{Item}
use Rattle.proof_prune.specs.declared.item.Item.TheVariants.{Line, Behind, Read, Hole}
use Rattle.proof_prune.specs.declared.item.Around.{Around}
use Rattle.proof_prune.specs.Counting.{facts_read, counted, uncounted, all_unread}

-- ---- the list of what stays so far

abbrev pub item_reads : Item → List ℕ
item_reads (Line i n) = []
item_reads (Behind i) = []
item_reads (Read f) = f ∷ []
item_reads (Hole n d) = []

-- how many items behind it are cut out
abbrev pub passes : Item → ℕ
passes (Line i n) = 0
passes (Behind i) = 0
passes (Read f) = 0
passes (Hole n d) = d

-- the facts that are read in items that are not cut out; so many are passed over first
abbrev pub reads_from : ℕ → List Item → List ℕ
reads_from n [] = []
reads_from zero (e ∷ es) = item_reads e ++ reads_from (passes e) es
reads_from (suc n) (e ∷ es) = reads_from n es

-- a line that has n facts before it, and the facts that it reads
abbrev pub line_items : ℕ → ℕ → Step → List Item
line_items i n l = Line i n ∷ map Read (facts_read l)

-- ---- the walk

-- how often each fact is read in what stays; what stays so far; the lines around that have subproofs left, the innermost first; how many
-- subproofs are passed over, and whether they stay
pub record Cutting : Type 0 where
  pub counts : List ℕ
  pub items : List Item
  pub around : List Around
  pub skip : ℕ
  pub copies : Bool

-- what was read since the line, before the subproof that ends
abbrev pub reads_before : Around → List Item → List ℕ
reads_before o es = reads_from 0 (drop o.at (take o.begin es))

-- the line and its subproofs before the one that ends are cut out
abbrev pub cut_items : Around → List Item → List Item
cut_items o es = slice_set es o.at (Hole o.facts (o.begin - o.at - 1))

-- the subproof that ends has read none of the facts that were added for it
abbrev pub is_spare : Around → List ℕ → Bool
is_spare o cs = all_unread (drop o.facts cs)

abbrev pub counts_left : Around → List ℕ → List Item → List ℕ
counts_left o cs es = if is_spare o cs then uncounted (reads_before o es) (take o.facts cs) else take o.facts cs

abbrev pub items_left : Around → List ℕ → List Item → List Item
items_left o cs es = if is_spare o cs then cut_items o es else es

abbrev pub next_part : Around → ℕ → Around
next_part o b = record { at = o.at; begin = b; facts = o.facts; left = o.left - 1 }

-- where subproofs of the line are left: they are passed over, or the next one begins with one fact more
abbrev pub gone_on : Around → List Around → Bool → List ℕ → List Item → Cutting
gone_on o os true cs es = record { counts = cs; items = es; around = os; skip = o.left; copies = false }
gone_on o os false cs es = record { counts = cs ++ 0 ∷ []; items = es; around = next_part o (length es) ∷ os; skip = 0; copies = false }

-- a subproof has ended
abbrev pub part_closed : List Around → List ℕ → List Item → Cutting
part_closed [] cs es = record { counts = cs; items = es; around = []; skip = 0; copies = false }
part_closed (o ∷ os) cs es =
    if nat_eq o.left 0 then part_closed os (counts_left o cs es) (items_left o cs es)
    else gone_on o os (is_spare o cs) (counts_left o cs es) (items_left o cs es)

abbrev pub parts_opened : Step → List Around → ℕ → List ℕ → List Item → Cutting
parts_opened l os a cs es = record {
  counts = cs ++ replicate (added l) 0;
  items = es;
  around = record { at = a; begin = length es; facts = length cs; left = parts l - 1 } ∷ os;
  skip = 0;
  copies = false;
}

-- line l, whose item has place a
abbrev pub line_entered : Step → List Around → ℕ → List ℕ → List Item → Cutting
line_entered l os a cs es =
    if is_cube l then record { counts = cs; items = es; around = os; skip = parts l; copies = true }
    else if nat_eq (parts l) 0 then part_closed os cs es else parts_opened l os a cs es

-- line i behind one that is passed over
abbrev pub line_passed : Step → ℕ → Cutting → Cutting
line_passed l i w =
    if nat_eq (w.skip - 1 + parts l) 0 then part_closed w.around w.counts (if w.copies then w.items ++ Behind i ∷ [] else w.items)
    else record { counts = w.counts; items = if w.copies then w.items ++ Behind i ∷ [] else w.items; around = w.around; skip = w.skip - 1 + parts l; copies = w.copies }

abbrev pub cut_step : Step → ℕ → Cutting → Cutting
cut_step l i w =
    if nat_eq w.skip 0 then line_entered l w.around (length w.items) (counted (facts_read l) w.counts) (w.items ++ line_items i (length w.counts) l)
    else line_passed l i w

abbrev pub cut : ℕ → List Step → Cutting → Cutting
cut i [] w = w
cut i (l ∷ ls) w = cut (suc i) ls (cut_step l i w)

abbrev pub uncut : Cutting
uncut = record { counts = []; items = []; around = []; skip = 0; copies = false }

-- of what the walk keeps, the innermost line last
abbrev pub cutting : List ℕ → List Item → List Around → ℕ → Bool → Cutting
cutting cs es os n b = record { counts = cs; items = es; around = reverse os; skip = n; copies = b }
