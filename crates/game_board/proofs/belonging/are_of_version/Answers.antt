use Rattle.std.specs.Prelude.{◌↔◌, IsTrue, IfOk}
use Rattle.std.proofs.Common.{ap, ◌∙◌, subst}
use Rattle.game_tree.specs.Among.{EachIs}
use Rattle.game_tree.specs.Written.{WrittenSkeleton}
use Rattle.lose_system.specs.Written.{WrittenSystem, system_of}
use Rattle.game_history.specs.Legal.{IsOfSystem}
use Rattle.game_board.proofs.belonging.are_of_version.Goals as goal

pub returns : goal.returns
returns g c =
    let as_system = λ (S : WrittenSkeleton). let w : WrittenSystem = record { problem = c.args.problem.now; tree = S.tree } in w in
    subst (λ (w : WrittenSystem). IfOk c.are_of_system.result (λ b. IsTrue b ↔ EachIs (IsOfSystem (system_of g.D.Domain.SORT w)) c.args.lits.now))
    (c.in_ok-system.ensures ∙ ap as_system (c.lend.ensures ∙ c.in_ok-copy.ensures)) c.are_of_system.ensures
