-- The large problem that is made by itself, and what is printed of it.
use Rattle.std.specs.Prelude.{ℕ, ◌+◌, pos, negsuc, List, [], ◌∷◌, ◌++◌, replicate, codes}
use Rattle.std.specs.List.{range_with_len}
use Rattle.lin_term.specs.declared.Sort.TheVariants.{Rat}
use Rattle.lin_term.specs.declared.Lit.TheVariants.{Above}
use Rattle.dom_core.specs.declared.Quant.TheVariants.{Exists, Forall}
use Rattle.dom_core.specs.Game.{Matrix, lit, all, Matrices, none, more, Problem}
use Rattle.game_tree.specs.Skeleton.{nodes}
use Rattle.strat_words.specs.Spelled.{natural}
use Rattle.strat_text.specs.TreeText.{text_line}
use Rattle.game_history.specs.History.{replay}
use Rattle.game_board.specs.Entries.{entries_of}
use Rattle.team_work.specs.declared.Verdict.{Verdict}
use Rattle.team_work.specs.declared.Verdict.TheVariants as verdict
use Rattle.team_work.specs.declared.Outcome.{Outcome}

-- x_i < y_i, where y_i is n variables behind x_i
abbrev pub less_pair : ℕ → ℕ → Matrix
less_pair n i = lit (Above (record { terms = (i, negsuc 0) ∷ (i + n, pos 1) ∷ []; constant = pos 0 }))

abbrev pub less_pairs : ℕ → List ℕ → Matrices
less_pairs n [] = none
less_pairs n (i ∷ is) = more (less_pair n i) (less_pairs n is)

-- a conjunction of one is that one
abbrev pub conjunction : Matrices → Matrix
conjunction none = all none
conjunction (more m none) = m
conjunction (more m (more k ms)) = all (more m (more k ms))

-- forall x1 .. xn exists y1 .. yn: each x_i < y_i
abbrev pub generated : ℕ → Problem
generated n = record { prefix = replicate n Forall ++ replicate n Exists; matrix = conjunction (less_pairs n (range_with_len 0 n)) }

abbrev pub verdict_word : {D : Type 0} → Verdict D → List ℕ
verdict_word {D} (verdict.Sat w) = codes "sat"
verdict_word {D} (verdict.Unsat w) = codes "unsat"
verdict_word {D} (verdict.Unknown y) = codes "unknown"

-- the size, the verdict, the rounds, and the nodes of the newest version of Exists
abbrev pub generated_text : {D : Type 0} → ℕ → Outcome D → List ℕ
generated_text {D} n o =
    let st = replay Rat (generated n) (entries_of o.journal) in
    text_line (codes "generated" ++ natural n) ++ (text_line (verdict_word o.verdict) ++ (text_line (codes "rounds" ++ natural st.rounds) ++ text_line (codes "nodes" ++ natural (nodes st.of_exists.newest))))
