-- The first line at which no tree of lines can go on.
use Rattle.std.specs.Prelude.{ℕ, suc, ◌≡◌, Option, Some, None, Result, Ok, Err, List, [], ◌∷◌, ◌++◌, ⊤}
use Rattle.lin_term.specs.declared.Sort.{Sort}
use Rattle.lin_term.specs.declared.Short.{Short}
use Rattle.lin_term.specs.declared.Short.TheVariants as short
use Rattle.dom_core.specs.Game.{Problem}
use Rattle.game_tree.specs.Skeleton.{Skeleton}
use Rattle.lose_system.specs.Losing.{system}
use Rattle.cube_rules.specs.declared.Step.{Step}
use Rattle.cube_rules.specs.declared.Rule.{Rule}
use Rattle.cube_rules.specs.declared.Rule.TheVariants.{Form}
use Rattle.cube_rules.specs.Context.{Context, open_context}
use Rattle.cube_rules.specs.Lines.{rule_of}
use Rattle.cube_rules.specs.Closing.{Rules}
use Rattle.proof_rules.specs.declared.bad_line.BadLine.{BadLine}
use Rattle.proof_rules.specs.Rules.{apply, Refutes}

abbrev pub bad_line : ℕ → Rule → BadLine
bad_line n r = record { line = n; rule = r }

abbrev pub or_bad : BadLine → (List Context → Option BadLine) → Option (List Context) → Option BadLine
or_bad b go None = Some b
or_bad b go (Some ks) = go ks

-- the contexts that wait are closed in turn; n is the number of the next line
abbrev pub first_bad_from : Rules → List Context → List Step → ℕ → Option BadLine
first_bad_from rules [] [] n = None
first_bad_from rules [] (l ∷ ls) n = Some (bad_line n Form)
first_bad_from rules (c ∷ cs) [] n = Some (bad_line n Form)
first_bad_from rules (c ∷ cs) (l ∷ ls) n =
    or_bad (bad_line n (rule_of l)) (λ ks. first_bad_from rules (ks ++ cs) ls (suc n)) (rules c l)

-- the first line that breaks its rule; missing lines break rule Form after the last, surplus ones at the first of them
abbrev pub first_bad : Sort → Problem → Skeleton → List Step → Option BadLine
first_bad s P S proof = first_bad_from (apply s (system s P S)) (open_context ∷ []) proof 0

-- Ok where the proof refutes, else its first bad line; want of memory is free
abbrev pub Judged : Sort → Problem → Skeleton → List Step → {A : Type 0} → Result A (Short BadLine) → Type 0
Judged s P S proof (Ok x) = Refutes s P S proof
Judged s P S proof (Err (short.Fault b)) = (¬ Refutes s P S proof) × (first_bad s P S proof ≡ Some b)
Judged s P S proof (Err short.Memory) = ⊤
