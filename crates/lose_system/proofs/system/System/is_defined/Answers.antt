use Rattle.std.specs.Prelude.{ℕ, []}
use Rattle.std.proofs.Common.{◌∙◌, sym, subst}
use Rattle.lin_term.specs.Linear.{Below}
use Rattle.lin_term.specs.Literal.{Holds, form_of}
use Rattle.game_tree.specs.View.{skeleton_of}
use Rattle.lose_system.specs.Losing.{definitions, definition_at}
use Rattle.lose_system.proofs.SolvedLemmas.{refuted, literal_below, upper_fails}
use Rattle.lose_system.proofs.system.System.is_defined.Goals as goal

pub literal_holds-requires : goal.literal_holds-requires
literal_holds-requires g c =
    subst (λ (n : ℕ). Below n (form_of c.in-Some.upper)) (sym c.requires)
    (literal_below (skeleton_of c.args.self.now.tree) g.D.Domain.SORT c.args.self.now.problem.prefix c.args.node 0 c.in-Some.upper c.matrix-kept.ensures.skeleton.follows (sym c.in-Some.is ∙ c.in_ok-upper.ensures))

pub literal_holds-requires-2 : goal.literal_holds-requires-2
literal_holds-requires-2 g c =
    subst (λ (n : ℕ). Below n (form_of c.in-Some-2.lower)) (sym c.requires)
    (literal_below (skeleton_of c.args.self.now.tree) g.D.Domain.SORT c.args.self.now.problem.prefix c.args.node 1 c.in-Some-2.lower c.matrix-kept.ensures.skeleton.follows (sym c.in-Some-2.is ∙ c.in_ok-lower.ensures))

pub returns-then-not-literal_holds : goal.returns-then-not-literal_holds
returns-then-not-literal_holds g c =
    upper_fails c.args.point.now (definition_at (definitions (skeleton_of c.args.self.now.tree) g.D.Domain.SORT [] 0) c.args.node) c.in-Some.upper (sym c.in-Some.is ∙ c.in_ok-upper.ensures)
    (refuted c.literal_holds.result (Holds c.in-Some.upper c.args.point.now) c.literal_holds.ensures c.if-not-literal_holds.true)
