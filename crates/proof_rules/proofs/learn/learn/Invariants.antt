use Rattle.game_tree.specs.Skeleton.{nodes}
use Rattle.game_tree.specs.View.{skeleton_of}
use Rattle.proof_rules.proofs.LearnLemmas.{LearntSo}
use Rattle.proof_rules.proofs.learn.learn.Given as goal

abbrev pub invariant-loop-lit : goal.invariant-loop-lit
invariant-loop-lit g l =
    LearntSo g.D.Domain.SORT l.system (nodes (skeleton_of l.system.tree)) l.lits l.lit-index l.clause l.negations
