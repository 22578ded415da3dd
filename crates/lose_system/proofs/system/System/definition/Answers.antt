use Rattle.std.proofs.Common.{◌∙◌, subst, ap₂}
use Rattle.std.specs.Prelude.{ℕ, List, ◌++◌}
use Rattle.lose_system.specs.declared.table.Node.{Node}
use Rattle.lose_system.specs.Table.{places_of, route}
use Rattle.lose_system.specs.Written.{WrittenSystem}
use Rattle.lose_system.specs.Kept.{IsTable}
use Rattle.lose_system.proofs.Tabled.{IfOk_with, no_node, no_move, some_move, is_definable}
use Rattle.lose_system.proofs.system.System.definition.Goals as goal

pub returns-in_default : goal.returns-in_default
returns-in_default g c =
    no_node g.D.Domain.SORT c.args.self.now c.self.inside.nodes c.self.inside.ends (subst (λ (w : WrittenSystem). IsTable g.D.Domain.SORT w c.self.inside.nodes c.self.inside.ends) c.self.view_is c.self.invariant) c.args.node c.args.which c.in_default.ensures.value

pub returns-in_default-term : goal.returns-in_default-term
returns-in_default-term g c =
    no_move g.D.Domain.SORT c.args.self.now c.self.inside.nodes c.self.inside.ends (subst (λ (w : WrittenSystem). IsTable g.D.Domain.SORT w c.self.inside.nodes c.self.inside.ends) c.self.view_is c.self.invariant) c.args.node c.args.which c.in-Some.place.now c.in-Some.ensures.value c.in_default-term.is

pub defining-requires : goal.defining-requires
defining-requires g c =
    is_definable g.D.Domain.SORT c.args.self.now c.self.inside.nodes c.self.inside.ends (subst (λ (w : WrittenSystem). IsTable g.D.Domain.SORT w c.self.inside.nodes c.self.inside.ends) c.self.view_is c.self.invariant) c.args.node c.in-Some.place.now c.in-Some-term.term c.as_slice-2.result.now c.in-Some.ensures.value c.in-Some-term.is
    (c.as_slice-2.ensures ∙ c.in_ok-add_route.ensures ∙ ap₂ (λ (xs : List ℕ) (ns : List Node). xs ++ route c.in-Some.place.now.depth (places_of ns) c.in-Some.place.now.above) c.new-names.ensures c.as_slice.ensures)

pub returns : goal.returns
returns g c =
    IfOk_with c.defining.result
    (λ o e. some_move g.D.Domain.SORT c.args.self.now c.self.inside.nodes c.self.inside.ends (subst (λ (w : WrittenSystem). IsTable g.D.Domain.SORT w c.self.inside.nodes c.self.inside.ends) c.self.view_is c.self.invariant) c.args.node c.args.which c.in-Some.place.now c.in-Some-term.term c.as_slice-2.result.now o c.in-Some.ensures.value c.in-Some-term.is
    (c.as_slice-2.ensures ∙ c.in_ok-add_route.ensures ∙ ap₂ (λ (xs : List ℕ) (ns : List Node). xs ++ route c.in-Some.place.now.depth (places_of ns) c.in-Some.place.now.above) c.new-names.ensures c.as_slice.ensures)
    e)
    c.defining.ensures
