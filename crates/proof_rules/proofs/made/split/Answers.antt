use Rattle.std.specs.Prelude.{Some, ℕ}
use Rattle.std.proofs.Common.{ap₂, sym, ◌∙◌, refl}
use Rattle.lin_term.specs.declared.Sort.{Sort}
use Rattle.lin_term.specs.Literal.{neg}
use Rattle.game_tree.specs.Skeleton.{nodes}
use Rattle.game_tree.specs.View.{skeleton_of}
use Rattle.cube_rules.specs.Facts.{guard}
use Rattle.cube_rules.specs.Lines.{is_split}
use Rattle.proof_rules.specs.declared.fact.Next.TheVariants.{Split}
use Rattle.proof_rules.proofs.MadeLemmas.{split_made, pair}
use Rattle.proof_rules.proofs.made.split.Goals as goal

pub returns-in_ok-second-in-Some : goal.returns-in_ok-second-in-Some
returns-in_ok-second-in-Some g c = λ d.
    split_made g.D.Domain.SORT c.args.system.now d (nodes (skeleton_of c.args.system.now.tree)) c.args.lit.now c.in-Some.both.0 c.in-Some.both.1 (Split c.in_ok-first-in-Some.first c.in_ok-second-in-Some.second) c.in_ok-first-in-Some.first.value c.in_ok-second-in-Some.second.value
    (sym c.in-Some.is ∙ c.in_ok-both.ensures ∙ ap₂ (λ (s : Sort) (n : ℕ). guard (is_split s n c.args.lit.now) (Some (pair c.args.lit.now (neg s c.args.lit.now)))) c.SORT.ensures c.node_count.ensures)
    c.in_ok-first-in-Some.ensures c.in_ok-second-in-Some.ensures refl refl c.requires
