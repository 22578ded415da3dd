use Rattle.std.specs.Prelude.{ℕ, Some}
use Rattle.std.proofs.Common.{ap, ap₂, sym, ◌∙◌, refl}
use Rattle.lin_term.specs.declared.Sort.{Sort}
use Rattle.lin_term.specs.Literal.{neg}
use Rattle.game_tree.specs.Skeleton.{nodes}
use Rattle.game_tree.specs.View.{skeleton_of}
use Rattle.cube_rules.specs.Facts.{guard}
use Rattle.cube_rules.specs.Lines.{is_split}
use Rattle.proof_rules.specs.declared.fact.Fact.TheVariants.{Known}
use Rattle.proof_rules.specs.declared.fact.Next.TheVariants.{Learn}
use Rattle.proof_rules.proofs.MadeLemmas.{pair}
use Rattle.proof_rules.proofs.LearnLemmas.{literal_within, learnt_none, learnt_more, learn_bare, learn_broken, learn_made}
use Rattle.proof_rules.proofs.learn.learn.Goals as goal

pub returns-then-bare : goal.returns-then-bare
returns-then-bare g c = λ facts.
    learn_bare g.D.Domain.SORT c.args.system.now (nodes (skeleton_of c.args.system.now.tree)) facts c.args.bare c.args.lits.now c.if-bare.true

pub loop-lit-init : goal.loop-lit-init
loop-lit-init g c =
    learnt_none g.D.Domain.SORT c.args.system.now (nodes (skeleton_of c.args.system.now.tree)) c.args.lits.now c.new-clause.result c.new-negations.result c.new-clause.ensures c.new-negations.ensures

pub split_in_two-requires : goal.split_in_two-requires
split_in_two-requires g c = record {
  kept = literal_within c.args.lits.now c.loop-lit.lit-index c.lit-item.result c.requires c.loop-lit-test.true c.lit-item.is;
}

pub returns-in_default : goal.returns-in_default
returns-in_default g c = λ facts.
    learn_broken g.D.Domain.SORT c.args.system.now (nodes (skeleton_of c.args.system.now.tree)) facts c.args.bare c.args.lits.now c.loop-lit.lit-index c.loop-lit.clause c.loop-lit.negations c.lit-item.result c.loop-lit.invariant c.loop-lit-test.true c.lit-item.is
    (sym c.in_default.is ∙ c.in_ok-both.ensures ∙ ap₂ (λ (s : Sort) (n : ℕ). guard (is_split s n c.lit-item.result) (Some (pair c.lit-item.result (neg s c.lit-item.result)))) c.SORT.ensures c.node_count-nodes.ensures)

pub loop-lit-preserved : goal.loop-lit-preserved
loop-lit-preserved g c =
    learnt_more g.D.Domain.SORT c.args.system.now (nodes (skeleton_of c.args.system.now.tree)) c.args.lits.now c.loop-lit.lit-index c.loop-lit.clause c.push.new.self c.loop-lit.negations c.push-in-loop-lit.new.self c.lit-item.result c.in-Some.both.0 c.in-Some.both.1 c.in_ok-shared.field-0.value c.in_ok-shared-2.field-0.value (Known c.in_ok-shared-2.field-0)
    c.loop-lit.invariant c.loop-lit-test.true c.lit-item.is
    (literal_within c.args.lits.now c.loop-lit.lit-index c.lit-item.result c.requires c.loop-lit-test.true c.lit-item.is)
    (sym c.in-Some.is ∙ c.in_ok-both.ensures ∙ ap₂ (λ (s : Sort) (n : ℕ). guard (is_split s n c.lit-item.result) (Some (pair c.lit-item.result (neg s c.lit-item.result)))) c.SORT.ensures c.node_count-nodes.ensures)
    c.in_ok-shared.ensures c.in_ok-shared-2.ensures c.in_ok-push.ensures c.in_ok-push-2.ensures.ok refl refl

pub returns : goal.returns
returns g c = λ facts.
    learn_made g.D.Domain.SORT c.args.system.now (nodes (skeleton_of c.args.system.now.tree)) facts c.args.bare c.args.lits.now c.loop-lit.lit-index c.loop-lit.clause c.loop-lit.negations c.in_ok-fact.fact (Learn c.loop-lit.negations c.in_ok-fact.fact)
    c.loop-lit.invariant c.loop-lit-test.false c.if-bare.false c.requires (c.in_ok-fact.ensures.value g.D.Domain.SORT c.args.system.now) (c.in_ok-fact.ensures.kept g.D.Domain.SORT c.args.system.now) refl refl
