-- The tree that plays 0 follows its prefix.
use Rattle.std.specs.Prelude.{ℕ, suc, ◌≤◌, ◌≡◌, pos, List, [], ◌∷◌, length}
use Rattle.std.proofs.Common.{arith, ap, ◌∙◌, sym, subst, refl}
use Rattle.lin_term.specs.declared.Sort.{Sort}
use Rattle.lin_term.specs.declared.Sort.TheVariants.{Rat, Int}
use Rattle.lin_term.specs.Literal.{gcd}
use Rattle.lin_term.specs.Definition.{IsKeptMove}
use Rattle.dom_core.specs.declared.Quant.{Quant}
use Rattle.dom_core.specs.declared.Quant.TheVariants.{Exists, Forall}
use Rattle.game_tree.specs.declared.tree.Tree.{Tree}
use Rattle.game_tree.specs.View.{skeleton_of}
use Rattle.game_tree.specs.Written.{FollowsPrefix}
use Rattle.game_tree.specs.Skeleton.{Skeleton, IsMoveAt, Follows, nodes, constant_move, zero_tree}

zero_kept : (s : Sort) → IsKeptMove s (constant_move (pos 0))
unfolding gcd
zero_kept Rat = record { is_lowest = refl; within = refl }
zero_kept Int = record { is_lowest = refl; within = refl }

zero_move_at : (s : Sort) (k : ℕ) → IsMoveAt s k (constant_move (pos 0))
zero_move_at s k = record { written = ((tt, omega arith), omega arith, omega arith); earlier = tt; kept = zero_kept s }

pub zero_follows : (qs : List Quant) (s : Sort) (k : ℕ) → Follows (zero_tree qs) s qs k
zero_follows [] s k = tt
zero_follows (Exists ∷ qs) s k = (tt, (zero_move_at s k, tt, zero_follows qs s (suc k), tt))
zero_follows (Forall ∷ qs) s k = zero_follows qs s (suc k)

pub zero_nodes : (qs : List Quant) → nodes (zero_tree qs) ≡ length qs
zero_nodes [] = refl
zero_nodes (Exists ∷ qs) = let h = zero_nodes qs in omega arith
zero_nodes (Forall ∷ qs) = let h = zero_nodes qs in omega arith

-- what is written of it follows the prefix
pub zero_written : (s : Sort) (qs ps : List Quant) (t : Tree) → ps ≡ qs → skeleton_of t ≡ zero_tree qs → length qs ≤ 1024 → FollowsPrefix s (record { prefix = ps; tree = t })
zero_written s qs ps t e f h = record {
  short = subst (λ (xs : List Quant). length xs ≤ 1024) (sym e) h;
  follows = subst (λ (xs : List Quant). Follows (skeleton_of t) s xs 0) (sym e) (subst (λ (S : Skeleton). Follows S s qs 0) (sym f) (zero_follows qs s 0));
  countable = let n = ap nodes f ∙ zero_nodes qs in omega arith;
}
