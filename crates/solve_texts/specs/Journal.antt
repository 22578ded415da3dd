-- The journal: what happened in the game of each goal.
use Rattle.std.specs.Prelude.{ℕ, ◌+◌, List, [], ◌∷◌, ◌++◌, drop, length, map, codes}
use Rattle.std.specs.List.{flat_map}
use Rattle.dom_core.specs.declared.Quant.{Quant}
use Rattle.dom_core.specs.declared.Side.{Side}
use Rattle.dom_core.specs.declared.Side.TheVariants.{Exists, Forall}
use Rattle.dom_core.specs.Game.{flip_all, Problem}
use Rattle.game_tree.specs.Skeleton.{Skeleton}
use Rattle.strat_words.specs.Spelled.{natural, signed}
use Rattle.strat_text.specs.Written.{literal, turns_word}
use Rattle.strat_text.specs.TreeText.{text_line, tree_text}
use Rattle.strat_check.specs.Section.{turns_of}
use Rattle.game_history.specs.History.{Wideness, cube, choice, Entry, added, held, spent, too_large, noted, won, found}
use Rattle.game_board.specs.Entries.{entries_of}
use Rattle.solve_texts.specs.declared.solved.Solved.{Solved}
use Rattle.solve_texts.specs.declared.solved.Solved.TheVariants as solved
use Rattle.solve_texts.specs.Texts.{side_word}

-- the prefix of the problem in which the side plays Exists
abbrev pub prefix_for : Side → List Quant → List Quant
prefix_for Exists qs = qs
prefix_for Forall qs = flip_all qs

-- the turns of a prefix, and a tree of its Exists
abbrev pub played_text : List Quant → Skeleton → List ℕ
played_text qs S = text_line (codes "turns " ++ turns_word (turns_of qs)) ++ tree_text S

abbrev pub note_text : Wideness → List ℕ
note_text (cube c z) =
    text_line (codes " cube" ++ natural (length c)) ++ (flat_map (λ l. text_line (drop 1 (literal l))) c ++ text_line (codes "number" ++ signed z))
note_text (choice p x z) =
    text_line (codes " choice" ++ natural x) ++ (text_line (codes "point" ++ (natural p.den ++ flat_map signed p.nums)) ++ text_line (codes "number" ++ signed z))

-- an entry in the game of a problem with this prefix
abbrev pub entry_text : List Quant → Entry → List ℕ
entry_text qs (added side v C m) = text_line (codes "added" ++ (side_word side ++ (natural v ++ natural m))) ++ played_text (prefix_for side qs) C
entry_text qs (held side v C) = text_line (codes "held" ++ (side_word side ++ natural v)) ++ played_text (prefix_for side qs) C
entry_text qs (spent side v C) = text_line (codes "spent" ++ (side_word side ++ natural v)) ++ played_text (prefix_for side qs) C
entry_text qs (too_large side v C n) = text_line (codes "large" ++ (side_word side ++ (natural v ++ natural n))) ++ played_text (prefix_for side qs) C
entry_text qs (noted side v y) = codes "noted" ++ (side_word side ++ (natural v ++ note_text y))
entry_text qs (won side v) = text_line (codes "won" ++ (side_word side ++ natural v))
entry_text qs (found side S) = text_line (codes "found" ++ side_word side) ++ played_text (prefix_for side qs) S

-- the game of the goal of this number, within a budget of rounds
abbrev pub game_text : List Quant → ℕ → ℕ → List Entry → List ℕ
game_text qs k rounds H = text_line (codes "goal" ++ natural k) ++ (text_line (codes "rounds" ++ natural rounds) ++ flat_map (entry_text qs) H)

abbrev pub goal_text : List Quant → ℕ → Solved → List ℕ
goal_text qs k (solved.Rat o) = game_text qs k o.rounds (entries_of o.journal)
goal_text qs k (solved.Int o) = game_text qs k o.rounds (entries_of o.journal)

-- each outcome with the prefix of its goal's problem, from goal k on
abbrev pub goal_texts : ℕ → List (List Quant) → List Solved → List ℕ
goal_texts k qss [] = []
goal_texts k [] (o ∷ os) = []
goal_texts k (qs ∷ qss) (o ∷ os) = goal_text qs k o ++ goal_texts (k + 1) qss os

abbrev pub journal_text : List (List Quant) → List Solved → List ℕ
journal_text qss os = text_line (codes "simsat-journal 1") ++ (goal_texts 0 qss os ++ text_line (codes "end"))

-- the journal of outcomes of these problems
abbrev pub journal_of_problems : List Problem → List Solved → List ℕ
journal_of_problems Ps os = journal_text (map (λ P. P.prefix) Ps) os
