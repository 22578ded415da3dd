-- Lines taken one after the other: what is left to close after each.
use Rattle.std.specs.Prelude.{◌≡◌, Option, Some, None, option_map, option_and_then, Result, Ok, Err, List, [], ◌∷◌, ◌++◌, ⊤}
use Rattle.lin_term.specs.declared.Short.{Short}
use Rattle.lin_term.specs.declared.Short.TheVariants as short
use Rattle.cube_rules.specs.declared.Step.{Step}
use Rattle.cube_rules.specs.declared.Rule.{Rule}
use Rattle.cube_rules.specs.declared.Rule.TheVariants.{Form}
use Rattle.cube_rules.specs.Context.{Context}
use Rattle.cube_rules.specs.Lines.{rule_of}
use Rattle.cube_rules.specs.Closing.{Rules}

-- the contexts to close once the first of them took the line; none where the line breaks its rule, or nothing is open
abbrev pub after_line : Rules → List Context → Step → Option (List Context)
after_line rules [] l = None
after_line rules (c ∷ cs) l = option_map (λ ks. ks ++ cs) (rules c l)

-- the same after all these lines
abbrev pub after_lines : Rules → List Context → List Step → Option (List Context)
after_lines rules cs [] = Some cs
after_lines rules cs (l ∷ ls) = option_and_then (λ ks. after_lines rules ks ls) (after_line rules cs l)

-- the rule that a line breaks there: Form where nothing is open
abbrev pub rule_broken : List Context → Step → Rule
rule_broken [] l = Form
rule_broken (c ∷ cs) l = rule_of l

-- Ok where the line leads from the old contexts to the new ones, else the rule that it breaks; want of memory is free
abbrev pub IsTaken : Rules → List Context → Step → List Context → {A : Type 0} → Result A (Short Rule) → Type 0
IsTaken rules old l new (Ok x) = after_line rules old l ≡ Some new
IsTaken rules old l new (Err (short.Fault r)) = (after_line rules old l ≡ None) × (r ≡ rule_broken old l)
IsTaken rules old l new (Err short.Memory) = ⊤
