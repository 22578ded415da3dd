use Rattle.std.proofs.Common.{◌∙◌, sym, subst, ap, ap₂}
use Rattle.std.specs.Prelude.{ℕ, List, ◌++◌, ◌≡◌, option_map, length, Some}
use Rattle.lose_system.specs.declared.table.Node.{Node}
use Rattle.lose_system.specs.Table.{route, places_of}
use Rattle.lose_system.specs.Written.{WrittenSystem}
use Rattle.lose_system.specs.Kept.{IsTable}
use Rattle.lose_system.proofs.Tabled.{path_is, kept_way, rises_way}
use Rattle.lose_system.proofs.system.System.path_nodes.Goals as goal

pub returns-in_default-clause-value : goal.returns-in_default-clause-value
returns-in_default-clause-value g c =
    sym (path_is g.D.Domain.SORT c.args.self.now c.self.inside.nodes c.self.inside.ends (subst (λ (w : WrittenSystem). IsTable g.D.Domain.SORT w c.self.inside.nodes c.self.inside.ends) c.self.view_is c.self.invariant) c.args.k
    ∙ ap (option_map (route (length c.args.self.now.problem.prefix) (places_of c.self.inside.nodes))) (sym c.in_default.ensures.value))

pub returns-clause-value : goal.returns-clause-value
returns-clause-value g c =
    let p : length c.prefix.result.now ≡ length c.args.self.now.problem.prefix =
    ap length c.prefix.ensures ∙ ap (λ (w : WrittenSystem). length w.problem.prefix) c.self.view_is in
    ap Some (c.in_ok-add_route.ensures
    ∙ ap₂ (λ (xs : List ℕ) (ns : List Node). xs ++ route (length c.prefix.result.now) (places_of ns) c.in-Some.end.now) c.new-names.ensures c.as_slice.ensures
    ∙ ap (λ (d : ℕ). route d (places_of c.self.inside.nodes) c.in-Some.end.now) p)
    ∙ sym (path_is g.D.Domain.SORT c.args.self.now c.self.inside.nodes c.self.inside.ends (subst (λ (w : WrittenSystem). IsTable g.D.Domain.SORT w c.self.inside.nodes c.self.inside.ends) c.self.view_is c.self.invariant) c.args.k
    ∙ ap (option_map (route (length c.args.self.now.problem.prefix) (places_of c.self.inside.nodes))) (sym c.in-Some.ensures.value))

pub returns-clause-kept : goal.returns-clause-kept
returns-clause-kept g c =
    kept_way g.D.Domain.SORT c.args.self.now c.self.inside.nodes c.self.inside.ends (subst (λ (w : WrittenSystem). IsTable g.D.Domain.SORT w c.self.inside.nodes c.self.inside.ends) c.self.view_is c.self.invariant) c.args.k (Some c.add_route.new.into)
    (let p : length c.prefix.result.now ≡ length c.args.self.now.problem.prefix =
    ap length c.prefix.ensures ∙ ap (λ (w : WrittenSystem). length w.problem.prefix) c.self.view_is in
    ap Some (c.in_ok-add_route.ensures
    ∙ ap₂ (λ (xs : List ℕ) (ns : List Node). xs ++ route (length c.prefix.result.now) (places_of ns) c.in-Some.end.now) c.new-names.ensures c.as_slice.ensures
    ∙ ap (λ (d : ℕ). route d (places_of c.self.inside.nodes) c.in-Some.end.now) p)
    ∙ sym (path_is g.D.Domain.SORT c.args.self.now c.self.inside.nodes c.self.inside.ends (subst (λ (w : WrittenSystem). IsTable g.D.Domain.SORT w c.self.inside.nodes c.self.inside.ends) c.self.view_is c.self.invariant) c.args.k
    ∙ ap (option_map (route (length c.args.self.now.problem.prefix) (places_of c.self.inside.nodes))) (sym c.in-Some.ensures.value)))

pub returns-clause-within : goal.returns-clause-within
returns-clause-within g c =
    rises_way g.D.Domain.SORT c.args.self.now c.self.inside.nodes c.self.inside.ends (subst (λ (w : WrittenSystem). IsTable g.D.Domain.SORT w c.self.inside.nodes c.self.inside.ends) c.self.view_is c.self.invariant) c.args.k c.add_route.new.into
    (let p : length c.prefix.result.now ≡ length c.args.self.now.problem.prefix =
    ap length c.prefix.ensures ∙ ap (λ (w : WrittenSystem). length w.problem.prefix) c.self.view_is in
    ap Some (c.in_ok-add_route.ensures
    ∙ ap₂ (λ (xs : List ℕ) (ns : List Node). xs ++ route (length c.prefix.result.now) (places_of ns) c.in-Some.end.now) c.new-names.ensures c.as_slice.ensures
    ∙ ap (λ (d : ℕ). route d (places_of c.self.inside.nodes) c.in-Some.end.now) p)
    ∙ sym (path_is g.D.Domain.SORT c.args.self.now c.self.inside.nodes c.self.inside.ends (subst (λ (w : WrittenSystem). IsTable g.D.Domain.SORT w c.self.inside.nodes c.self.inside.ends) c.self.view_is c.self.invariant) c.args.k
    ∙ ap (option_map (route (length c.args.self.now.problem.prefix) (places_of c.self.inside.nodes))) (sym c.in-Some.ensures.value)))
