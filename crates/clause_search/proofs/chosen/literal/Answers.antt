use Rattle.std.specs.Prelude.{ℕ, length, List}
use Rattle.std.proofs.Common.{ap, ◌∙◌, sym, subst}
use Rattle.lin_term.specs.declared.Sort.{Sort}
use Rattle.lin_term.specs.Linear.{Below}
use Rattle.lin_term.specs.Literal.{neg, form_of, rename_lit}
use Rattle.lin_term.specs.Rising.{IsRising}
use Rattle.game_tree.specs.Skeleton.{nodes}
use Rattle.game_tree.specs.View.{skeleton_of}
use Rattle.lose_system.specs.Rising.{IsWay}
use Rattle.lose_system.proofs.Tabled.{IfOk_with}
use Rattle.lose_system.proofs.SolvedLemmas.{negation_below}
use Rattle.proof_rules.proofs.FactLemmas.{made_known}
use Rattle.clause_search.proofs.Choosing.{if_some}
use Rattle.clause_search.proofs.chosen.literal.Goals as goal

pub returns-clause-known : goal.returns-clause-known
returns-clause-known g c =
    IfOk_with c.negated.result (λ l e. made_known g.D.Domain.SORT c.as_slice.result.now c.args.lit.now l (length c.args.system.now.problem.prefix)
    (e ∙ ap (λ (s : Sort). rename_lit c.as_slice.result.now (neg s c.args.lit.now)) c.SORT.ensures) c.requires.matrix c.requires.kept) c.negated.ensures

pub returns-clause-below : goal.returns-clause-below
returns-clause-below g c =
    let w = if_some (λ (names : List ℕ). IsRising names (nodes (skeleton_of c.args.system.now.tree))) c.in_ok-names.field-0 c.in-Some.names c.in-Some.is c.in_ok-names.ensures.within in
    let k = if_some (λ (names : List ℕ). IsWay (length c.args.system.now.problem.prefix) names) c.in_ok-names.field-0 c.in-Some.names c.in-Some.is c.in_ok-names.ensures.kept in
    IfOk_with c.negated.result (λ l e. negation_below g.D.Domain.SORT c.as_slice.result.now (nodes (skeleton_of c.args.system.now.tree)) c.args.lit.now l
    (subst (λ (ns : List ℕ). IsRising ns (nodes (skeleton_of c.args.system.now.tree))) (sym c.as_slice.ensures) w)
    (c.requires.matrix.0, c.requires.kept.0)
    (subst (λ (n : ℕ). Below n (form_of c.args.lit.now)) (sym (ap length c.as_slice.ensures ∙ k.long)) c.requires.matrix.1)
    (e ∙ ap (λ (s : Sort). rename_lit c.as_slice.result.now (neg s c.args.lit.now)) c.SORT.ensures)) c.negated.ensures
