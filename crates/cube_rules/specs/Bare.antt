-- Proofs by the rules alone, without a system: lines that close the bare context of a cube.
use Rattle.std.specs.Prelude.{ℕ, ◌≡◌, Some, List}
use Rattle.lin_term.specs.declared.Sort.{Sort}
use Rattle.lin_term.specs.declared.Lit.{Lit}
use Rattle.cube_rules.specs.declared.step.Step.{Step}
use Rattle.cube_rules.specs.Context.{Context, cube_context}
use Rattle.cube_rules.specs.Facts.{guard}
use Rattle.cube_rules.specs.Limits.{is_within}
use Rattle.cube_rules.specs.Lines.{cube_step}
use Rattle.cube_rules.specs.Closing.{Rules, ClosesBy}

-- over n variables: no line takes a path or a definition
abbrev pub bare_rules : Sort → ℕ → Rules
bare_rules s n c l = guard (is_within l) (cube_step s n c l)

-- the lines close the bare context with just these literals
abbrev pub ClosesBare : Sort → ℕ → List Lit → List Step → Type 0
ClosesBare s n cube steps = ClosesBy (bare_rules s n) (cube_context cube) steps

-- rules under which each line may stand that may stand by these rules alone
abbrev pub AllowsBare : Sort → ℕ → Rules → Type 0
AllowsBare s n rules = (c : Context) (l : Step) (ks : List Context) → bare_rules s n c l ≡ Some ks → rules c l ≡ Some ks
