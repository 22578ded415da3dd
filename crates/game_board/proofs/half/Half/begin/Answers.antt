use Rattle.std.proofs.Common.{ap, ◌∙◌, sym, refl, subst, arith}
use Rattle.std.specs.Prelude.{◌≤◌, None, suc, length, List}
use Rattle.dom_core.specs.declared.Quant.{Quant}
use Rattle.game_tree.specs.Skeleton.{Skeleton, nodes, zero_tree}
use Rattle.game_tree.proofs.Zeros.{zero_nodes}
use Rattle.game_board.proofs.HalfLemmas.{begun}
use Rattle.game_board.proofs.half.Half.begin.Goals as goal

pub zero-requires : goal.zero-requires
zero-requires g c =
    subst (λ (qs : List Quant). length qs ≤ 1024) (sym c.prefix.ensures) c.matrix-kept.ensures.kept.0

pub begin-requires : goal.begin-requires
begin-requires g c =
    let e = ap (λ (S : Skeleton). nodes S) c.in_ok-zero.ensures.zero ∙ zero_nodes c.prefix.result.now in let l = ap (λ (qs : List Quant). length qs) c.prefix.ensures in let m = c.matrix-kept.ensures.kept.0 in omega arith

pub returns-clause-half : goal.returns-clause-half
returns-clause-half g c =
    begun (record { problem = c.args.problem; grown = c.in_ok-grown.grown; reach = None; noted = c.in_ok-noted.noted }) (suc c.args.rounds)
    (c.in_ok-grown.ensures.prefix ∙ c.in_ok-zero.ensures.prefix ∙ c.prefix.ensures) c.in_ok-grown.ensures.one
    (c.in_ok-grown.ensures.first ∙ c.in_ok-zero.ensures.zero ∙ ap (λ (qs : List Quant). zero_tree qs) c.prefix.ensures) refl c.in_ok-noted.ensures
