-- The rules of a system allow each line that needs none.
use Rattle.std.specs.Prelude.{ℕ, ◌≤◌, ◌≡◌, Bool, true, false, Option, Some, List}
use Rattle.std.proofs.Common.{◌∙◌, refl}
use Rattle.lin_term.specs.declared.Sort.{Sort}
use Rattle.lose_system.specs.Losing.{System}
use Rattle.cube_rules.specs.declared.Step.{Step}
use Rattle.cube_rules.specs.declared.Step.TheVariants.{Path, Def, Part, Cases, Sum, Split, Cube, Least, Learn, False}
use Rattle.cube_rules.specs.Context.{Context}
use Rattle.cube_rules.specs.Facts.{guard}
use Rattle.cube_rules.specs.Limits.{is_within}
use Rattle.cube_rules.specs.Lines.{cube_step}
use Rattle.cube_rules.specs.Bare.{bare_rules, AllowsBare}
use Rattle.cube_rules.proofs.Sound.{guard_some}
use Rattle.cube_rules.proofs.Lifting.{step_more}
use Rattle.proof_rules.specs.Rules.{rule_line, apply}

guarded : {A : Type 0} (b : Bool) (o : Option A) → b ≡ true → guard b o ≡ o
guarded true o e = refl
guarded false o e = absurd (cc)

without_system : (s : Sort) (sys : System) (c : Context) (l : Step) (ks : List Context) → cube_step s sys.count c l ≡ Some ks → rule_line s sys c l ≡ Some ks
without_system s sys c (Path k) ks e = absurd (cc)
without_system s sys c (Def v i) ks e = absurd (cc)
without_system s sys c (Part f i) ks e = e
without_system s sys c (Cases f n) ks e = e
without_system s sys c (Sum p f q h g) ks e = e
without_system s sys c (Split l) ks e = e
without_system s sys c (Cube fs) ks e = e
without_system s sys c (Least v n) ks e = e
without_system s sys c (Learn ls) ks e = e
without_system s sys c (False f) ks e = e

pub system_allows : (s : Sort) (sys : System) (n : ℕ) → n ≤ sys.count → AllowsBare s n (apply s sys)
system_allows s sys n h c l ks e =
    let g = guard_some (is_within l) (cube_step s n c l) ks e in
    guarded (is_within l) (rule_line s sys c l) g.0 ∙ without_system s sys c l ks (step_more s n sys.count c l ks h g.1)
