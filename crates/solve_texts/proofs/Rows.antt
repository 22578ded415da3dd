-- Whole files and lines, worked by hand from their formats.
use Rattle.std.specs.Prelude.{ℕ, ◌≡◌, ℤ, pos, negsuc, List, [], ◌∷◌, ◌++◌, codes}
use Rattle.std.specs.Fmt.{digits}
use Rattle.std.proofs.Common.{ap, refl}
use Rattle.lin_term.specs.declared.Sort.TheVariants.{Rat as rationals}
use Rattle.lin_term.specs.declared.Lit.TheVariants.{AtLeast, Above, Divides, NotDivides}
use Rattle.lin_term.specs.Form.{Form}
use Rattle.lin_term.specs.Move.{Move}
use Rattle.dom_core.specs.declared.Quant.{Quant}
use Rattle.dom_core.specs.declared.Quant.TheVariants as quant
use Rattle.dom_core.specs.declared.Side.TheVariants.{Exists, Forall}
use Rattle.dom_core.specs.declared.Matrix.{Matrix as WrittenMatrix}
use Rattle.dom_core.specs.Game.{lit, all, more, none}
use Rattle.dom_int.specs.declared.Int.{Int}
use Rattle.dom_rat.specs.declared.Rat.{Rat}
use Rattle.game_tree.specs.Skeleton.{Skeleton, nodes, end, theirs, mine, no_more, branch}
use Rattle.game_tree.specs.View.{skeleton_of}
use Rattle.game_tree.specs.Written.{WrittenSkeleton}
use Rattle.cube_rules.specs.declared.Step.{Step}
use Rattle.cube_rules.specs.declared.Step.TheVariants as step
use Rattle.proof_rules.specs.Won.{WonGame}
use Rattle.strat_words.specs.Spelled.{natural}
use Rattle.strat_text.specs.TreeText.{text_line, tree_of}
use Rattle.strat_text.proofs.TreeLaws.{text_is}
use Rattle.game_history.specs.History.{cube, choice, added, held, spent, too_large, noted, won, found, replay}
use Rattle.game_board.specs.declared.Entry.{Entry}
use Rattle.game_board.specs.declared.Entry.TheVariants as entry
use Rattle.game_board.specs.declared.Why.TheVariants as why
use Rattle.game_board.specs.declared.Wideness.TheVariants as wideness
use Rattle.team_work.specs.declared.Outcome.{Outcome}
use Rattle.team_work.specs.declared.Verdict.{Verdict}
use Rattle.team_work.specs.declared.Verdict.TheVariants as verdict
use Rattle.solve_texts.specs.declared.solved.Solved.{Solved}
use Rattle.solve_texts.specs.declared.solved.Solved.TheVariants as solved
use Rattle.solve_texts.specs.Texts.{lines, strategy_text}
use Rattle.solve_texts.specs.Journal.{entry_text, game_text, journal_text}
use Rattle.solve_texts.specs.Generated.{generated, generated_text}

abbrev form : List (ℕ × ℤ) → ℤ → Form
form ts c = record { terms = ts; constant = c }

-- for each x the move x + 1
abbrev next_move : Move
next_move = record { numer = form ((0, pos 1) ∷ []) (pos 1); div = 1 }

abbrev next_tree : Skeleton
next_tree = theirs (mine (branch next_move end no_more))

-- forall x exists y
abbrev each_some : List Quant
each_some = quant.Forall ∷ quant.Exists ∷ []

-- exists x forall y
abbrev some_each : List Quant
some_each = quant.Exists ∷ quant.Forall ∷ []

abbrev of_ints : Verdict Int → List (Entry Int) → ℕ → Solved
of_ints v H n = solved.Int (record { verdict = v; journal = H; rounds = n })

abbrev outcome_of : Verdict Rat → List (Entry Rat) → ℕ → Outcome Rat
outcome_of v H n = record { verdict = v; journal = H; rounds = n }

abbrev of_rats : Verdict Rat → List (Entry Rat) → ℕ → Solved
of_rats v H n = solved.Rat (outcome_of v H n)

-- ---- journals

-- Exists is given one round and wins by its version 1
won_at_once : (w : WonGame) (paths : WrittenSkeleton) → skeleton_of paths.tree ≡ next_tree →
    journal_text (each_some ∷ []) (of_rats (verdict.Sat w) (entry.Added Exists 0 paths 1 ∷ entry.Won Exists 1 ∷ []) 256 ∷ [])
    ≡ codes "simsat-journal 1\ngoal 0\nrounds 256\nadded exists 0 1\nturns to\nt\no 1\nm 1 1 1 0\nwon exists 1\nend\n"
unfolding digits
won_at_once w paths e =
    ap (λ (S : Skeleton). text_line (codes "simsat-journal 1") ++ ((game_text each_some 0 256 (added Exists 0 S 1 ∷ won Exists 1 ∷ []) ++ []) ++ text_line (codes "end"))) e

-- without a round
no_round : (paths : WrittenSkeleton) → skeleton_of paths.tree ≡ next_tree →
    journal_text (each_some ∷ []) (of_rats (verdict.Unknown (why.Rounds 0)) (entry.Spent Exists 0 paths ∷ []) 0 ∷ [])
    ≡ codes "simsat-journal 1\ngoal 0\nrounds 0\nspent exists 0\nturns to\nt\no 1\nm 1 1 1 0\nend\n"
unfolding digits
no_round paths e =
    ap (λ (S : Skeleton). text_line (codes "simsat-journal 1") ++ ((game_text each_some 0 0 (spent Exists 0 S ∷ []) ++ []) ++ text_line (codes "end"))) e

-- goals are numbered
two_goals : (v w : WonGame) → journal_text ([] ∷ each_some ∷ []) (of_ints (verdict.Sat v) (entry.Won Exists 0 ∷ []) 7 ∷ of_ints (verdict.Unsat w) (entry.Won Forall 12 ∷ []) 4096 ∷ [])
    ≡ codes "simsat-journal 1\ngoal 0\nrounds 7\nwon exists 0\ngoal 1\nrounds 4096\nwon forall 12\nend\n"
unfolding digits
two_goals v w = refl

no_goals : journal_text [] [] ≡ codes "simsat-journal 1\nend\n"
no_goals = refl

-- ---- entries

-- the variables of Forall are its own
held_by_forall : entry_text some_each (held Forall 3 next_tree) ≡ codes "held forall 3\nturns to\nt\no 1\nm 1 1 1 0\n"
unfolding digits
held_by_forall = refl

found_by_forall : entry_text some_each (found Forall next_tree) ≡ codes "found forall\nturns to\nt\no 1\nm 1 1 1 0\n"
unfolding digits
found_by_forall = refl

no_variable : entry_text [] (added Exists 0 end 1) ≡ codes "added exists 0 1\nturns -\n"
unfolding digits
no_variable = refl

too_many : entry_text each_some (too_large Exists 5 next_tree 1048577) ≡ codes "large exists 5 1048577\nturns to\nt\no 1\nm 1 1 1 0\n"
unfolding digits
too_many = refl

wide_cube : entry_text [] (noted Exists 2 (cube (AtLeast (form ((0, pos 1) ∷ []) (pos 0)) ∷ Above (form [] (negsuc 1)) ∷ Divides 3 (form ((1, pos 2) ∷ []) (pos 1)) ∷ NotDivides 2 (form ((0, negsuc 0) ∷ []) (pos 0)) ∷ []) (negsuc 4503599627370496)))
    ≡ codes "noted exists 2 cube 4\n>= 0 1 0\n> -2\n| 3 1 2 1\n!| 2 0 -1 0\nnumber -4503599627370497\n"
unfolding digits
wide_cube = refl

wide_choice : entry_text [] (noted Forall 0 (choice (record { den = 2; nums = pos 1 ∷ negsuc 2 ∷ [] }) 4 (pos 4503599627370497)))
    ≡ codes "noted forall 0 choice 4\npoint 2 1 -3\nnumber 4503599627370497\n"
unfolding digits
wide_choice = refl

-- ---- lines

printed : (v w : WonGame) → lines (of_ints (verdict.Sat v) [] 0 ∷ of_ints (verdict.Unsat w) [] 0 ∷ of_rats (verdict.Unknown (why.Rounds 256)) [] 256 ∷ of_rats (verdict.Unknown (why.Nodes 1048577)) [] 9 ∷ [])
    ≡ codes "sat\nunsat\nunknown\n; rounds 256\nunknown\n; nodes 1048577\n"
unfolding digits
printed v w = refl

printed_number : lines (of_rats (verdict.Unknown (why.Coefficient (record { side = Forall; version = 0; why = wideness.Choice (record { point = record { den = 1; nums = [] }; var = 0; number = pos 4503599627370497 }) }))) [] 256 ∷ [])
    ≡ codes "unknown\n; coefficient forall 0 4503599627370497\n"
unfolding digits
printed_number = refl

-- ---- strategy files

abbrev four_lines : List Step
four_lines = step.Path 0 ∷ step.Def 1 0 ∷ step.Sum (pos 1) 0 (pos 1) 1 (pos 1) ∷ step.False 2 ∷ []

claimed_and_not : (m : WrittenMatrix) →
    strategy_text (of_ints (verdict.Unknown (why.Rounds 0)) [] 0 ∷ of_ints (verdict.Sat (record { problem = record { prefix = each_some; matrix = m }; tree = tree_of next_tree; proof = four_lines })) [] 0 ∷ [])
    ≡ codes "simsat-strategy 2\ngoals 2\ngoal 0 unknown\ngoal 1 sat\nturns to\nt\no 1\nm 1 1 1 0\nproof 4\npath 0\ndef 1 0\nsum 1 0 1 1 1\nfalse 2\nend\n"
unfolding digits
claimed_and_not m =
    ap (λ (y : List ℕ). codes "simsat-strategy 2\ngoals 2\ngoal 0 unknown\ngoal 1 sat\nturns to\n" ++ (((y ++ codes "proof 4\npath 0\ndef 1 0\nsum 1 0 1 1 1\nfalse 2\n") ++ []) ++ codes "end\n")) (text_is next_tree)

not_true : (m : WrittenMatrix) →
    strategy_text (of_rats (verdict.Unsat (record { problem = record { prefix = []; matrix = m }; tree = tree_of end; proof = step.Path 0 ∷ step.False 0 ∷ [] })) [] 0 ∷ [])
    ≡ codes "simsat-strategy 2\ngoals 1\ngoal 0 unsat\nturns -\nproof 2\npath 0\nfalse 0\nend\n"
unfolding digits
not_true m =
    ap (λ (y : List ℕ). codes "simsat-strategy 2\ngoals 1\ngoal 0 unsat\nturns -\n" ++ (((y ++ codes "proof 2\npath 0\nfalse 0\n") ++ []) ++ codes "end\n")) (text_is end)

-- ---- the problem that is made by itself

one_pair : generated 1 ≡ record { prefix = each_some; matrix = lit (Above (form ((0, negsuc 0) ∷ (1, pos 1) ∷ []) (pos 0))) }
one_pair = refl

two_pairs : generated 2 ≡ record { prefix = quant.Forall ∷ quant.Forall ∷ quant.Exists ∷ quant.Exists ∷ []; matrix = all (more (lit (Above (form ((0, negsuc 0) ∷ (2, pos 1) ∷ []) (pos 0)))) (more (lit (Above (form ((1, negsuc 0) ∷ (3, pos 1) ∷ []) (pos 0)))) none)) }
two_pairs = refl

-- the zero move and the move x + 1 stand below the one variable of Forall
made_once : (w : WonGame) (paths : WrittenSkeleton) → skeleton_of paths.tree ≡ next_tree →
    generated_text 1 (outcome_of (verdict.Sat w) (entry.Added Exists 0 paths 1 ∷ entry.Won Exists 1 ∷ []) 256)
    ≡ codes "generated 1\nsat\nrounds 1\nnodes 3\n"
unfolding digits
made_once w paths e =
    ap (λ (S : Skeleton). codes "generated 1\nsat\nrounds 1\n" ++ text_line (codes "nodes" ++ natural (nodes (replay rationals (generated 1) (added Exists 0 S 1 ∷ won Exists 1 ∷ [])).of_exists.newest))) e
