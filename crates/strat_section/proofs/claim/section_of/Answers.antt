use Rattle.std.proofs.Common.{◌≡◌, ◌∙◌, ap, map, List, length, subst, ◌≤◌}
use Rattle.dom_core.specs.declared.Quant.{Quant}
use Rattle.dom_core.specs.Problem.{WrittenProblem}
use Rattle.game_tree.specs.Written.{WrittenSkeleton}
use Rattle.proof_rules.specs.Won.{IsWon}
use Rattle.strat_check.specs.Section.{is_mine, turns_of}
use Rattle.strat_section.proofs.Written.{turns_each, have_lines, is_written, is_borne_out, is_claim}
use Rattle.strat_section.proofs.claim.section_of.Given as given
use Rattle.strat_section.proofs.claim.section_of.Goals as goal

turns_are : (g : given.Over) (c : goal.After-matrix-kept g) → c.in_ok-turns.turns ≡ turns_of c.args.won.now.problem.prefix
turns_are g c =
    c.in_ok-turns.ensures ∙ ap (λ (qs : List Quant). map is_mine qs) c.prefix.ensures ∙ ap (λ (P : WrittenProblem). map is_mine P.prefix) c.problem-problem.ensures.value
    ∙ turns_each c.args.won.now.problem.prefix

tree_is : (g : given.Over) (c : goal.After-matrix-kept g) → c.in_ok-tree.tree ≡ c.args.won.now.tree
tree_is g c = c.in_ok-tree.ensures ∙ c.tree.ensures.value ∙ ap (λ (S : WrittenSkeleton). S.tree) c.skeleton.ensures.value

proof_is : (g : given.Over) (c : goal.After-matrix-kept g) → c.in_ok-proof.proof ≡ c.args.won.now.proof
proof_is g c = c.in_ok-proof.ensures ∙ c.proof.ensures.value

won_is : (g : given.Over) (c : goal.After-matrix-kept g) → IsWon g.D.Domain.SORT c.args.won.now
won_is g c = record { skeleton = c.skeleton.ensures.kept; refutes = c.proof.ensures.refutes; writable = c.proof.ensures.writable }

pub returns-clause-written : goal.returns-clause-written
returns-clause-written g c =
    is_written g.D.Domain.SORT c.args.won.now c.in_ok-turns.turns c.in_ok-tree.tree c.in_ok-proof.proof (turns_are g c) (tree_is g c) (proof_is g c)
    (won_is g c) (subst (λ (P : WrittenProblem). length P.prefix ≤ 1024) c.problem-problem.ensures.value c.matrix-kept.ensures.kept.0)

pub returns-clause-lines : goal.returns-clause-lines
returns-clause-lines g c = have_lines c.in_ok-proof.proof

pub returns-clause-accepted : goal.returns-clause-accepted
returns-clause-accepted g c =
    is_borne_out g.D.Domain.SORT c.args.side c.args.won.now c.in_ok-turns.turns c.in_ok-tree.tree c.in_ok-proof.proof (turns_are g c) (tree_is g c) (proof_is g c) (won_is g c)

pub returns-clause-value : goal.returns-clause-value
returns-clause-value g c = is_claim c.args.side c.args.won.now c.in_ok-turns.turns c.in_ok-tree.tree c.in_ok-proof.proof (turns_are g c) (tree_is g c) (proof_is g c)
