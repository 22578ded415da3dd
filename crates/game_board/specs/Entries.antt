-- The entries of `src/` as those of a history.
use Rattle.std.specs.Prelude.{ℤ, List, map, ⊤}
use Rattle.lin_term.specs.declared.Sort.{Sort}
use Rattle.cube_elim.specs.Determined.{WideAt}
use Rattle.game_tree.specs.View.{skeleton_of}
use Rattle.game_history.specs.History.{Wideness, cube, choice, Entry, added, held, spent, too_large, noted, won, found}
use Rattle.game_board.specs.declared.why.Wideness.{Wideness as WrittenWideness}
use Rattle.game_board.specs.declared.why.Wideness.TheVariants.{Cube, Choice}
use Rattle.game_board.specs.declared.entry.Entry.{Entry as Written}
use Rattle.game_board.specs.declared.entry.Entry.TheVariants.{Added, Held, Spent, TooLarge, Noted, Won, Found}

abbrev pub wideness_of : {D : Type 0} → WrittenWideness D → Wideness
wideness_of {D} (Cube w) = cube w.lits w.number
wideness_of {D} (Choice c) = choice c.point c.var c.number

-- the number past the cap
abbrev pub number_of : Wideness → ℤ
number_of (cube c z) = z
number_of (choice p x z) = z

-- a cube is wide; nothing is said of a choice
abbrev pub IsWide : Sort → Wideness → Type 0
IsWide s (cube c z) = WideAt s c z
IsWide s (choice p x z) = ⊤

abbrev pub entry_of : {D : Type 0} → Written D → Entry
entry_of {D} (Added side v C m) = added side v (skeleton_of C.tree) m
entry_of {D} (Held side v C) = held side v (skeleton_of C.tree)
entry_of {D} (Spent side v C) = spent side v (skeleton_of C.tree)
entry_of {D} (TooLarge side v C n) = too_large side v (skeleton_of C.tree) n
entry_of {D} (Noted side v why) = noted side v (wideness_of why)
entry_of {D} (Won side v) = won side v
entry_of {D} (Found side S) = found side (skeleton_of S.tree)

abbrev pub entries_of : {D : Type 0} → List (Written D) → List Entry
entries_of {D} es = map (λ e. entry_of e) es
