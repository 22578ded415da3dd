use Rattle.std.specs.Prelude.{IfOk}
use Rattle.std.proofs.Common.{◌∙◌, sym, subst}
use Rattle.game_tree.specs.declared.key.MoveKey.{MoveKey}
use Rattle.game_tree.specs.Gather.{moves_of}
use Rattle.game_tree.specs.Known.{Knows}
use Rattle.game_tree.proofs.PathsIn.{placed_below}
use Rattle.game_tree.proofs.containing.place_in.Goals as goal

pub returns-in-Some-clause-value : goal.returns-in-Some-clause-value
returns-in-Some-clause-value c =
    let k : MoveKey = record { term = c.args.term } in
    let h = subst (λ r. IfOk r (λ map. Knows map (moves_of c.args.branches.now))) c.in-Ok.is c.requires in
    c.in-Some.ensures.value ∙ h k

pub returns-in-Some-clause-within : goal.returns-in-Some-clause-within
returns-in-Some-clause-within c =
    let k : MoveKey = record { term = c.args.term } in
    let h = subst (λ r. IfOk r (λ map. Knows map (moves_of c.args.branches.now))) c.in-Ok.is c.requires in
    placed_below c.args.term.now c.args.branches.now c.in-Some.place.now (c.in-Some.ensures.value ∙ h k)

pub returns-in-None-clause-value : goal.returns-in-None-clause-value
returns-in-None-clause-value c =
    let k : MoveKey = record { term = c.args.term } in
    let h = subst (λ r. IfOk r (λ map. Knows map (moves_of c.args.branches.now))) c.in-Ok.is c.requires in
    c.in-None.ensures.value ∙ h k
