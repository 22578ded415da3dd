-- A proof over more variables.
use Rattle.std.specs.Prelude.{ℕ, ◌≤◌, ◌≡◌, List, [], ◌++◌}
use Rattle.std.proofs.Common.{◌∙◌, ap, sym, subst}
use Rattle.lin_term.specs.declared.Sort.TheVariants.{Int}
use Rattle.lin_term.specs.declared.Lit.{Lit}
use Rattle.cube_rules.specs.declared.Step.{Step}
use Rattle.cube_rules.specs.Context.{cube_context}
use Rattle.cube_rules.specs.Bare.{bare_rules, ClosesBare}
use Rattle.cube_rules.proofs.Lifting.{closes_too, bare_more}
use Rattle.cube_elim.specs.Searching.{AddsProof}

pub proof_wider : (n m : ℕ) (c : List Lit) (old new : List Step) → n ≤ m → old ≡ [] → AddsProof n c old new → ClosesBare Int m c new
proof_wider n m c old new h e a =
    subst (λ (ls : List Step). ClosesBare Int m c ls) (sym (a.added ∙ ap (λ (ls : List Step). ls ++ a.made) e))
    (record {
      tree = a.closes.tree;
      lines = a.closes.lines;
      closes = closes_too a.closes.tree (bare_rules Int n) (bare_rules Int m) (bare_more Int n m h) (cube_context c) a.closes.closes;
    })
