use Rattle.std.specs.Prelude.{ℕ, List}
use Rattle.std.proofs.Common.{◌∙◌, sym, ap, subst}
use Rattle.lin_term.specs.declared.Lit.{Lit}
use Rattle.cube_rules.specs.declared.Step.TheVariants as step
use Rattle.cube_rules.specs.Limits.{is_within}
use Rattle.cube_rules.specs.Lines.{cube_line, learn_line}
use Rattle.lose_system.proofs.Tabled.{IfOk_with}
use Rattle.game_tree.specs.Skeleton.{nodes}
use Rattle.game_tree.specs.View.{skeleton_of}
use Rattle.proof_rules.specs.Held.{context_of, Leaves}
use Rattle.proof_rules.proofs.CheckLemmas.{under, sum_same, split_within}
use Rattle.proof_rules.proofs.rules.by_kind.Goals as goal

pub returns-in-Path : goal.returns-in-Path
returns-in-Path g c =
    under g.D.Domain.SORT c.args.system.now (context_of g.D.Domain.SORT c.args.system.now c.args.bare c.args.facts.now) c.args.step.now _ c.path.result c.in-Path.is c.requires.within (c.path.ensures c.args.facts.now)

pub returns-in-Def : goal.returns-in-Def
returns-in-Def g c =
    IfOk_with c.def.result (λ o e. under g.D.Domain.SORT c.args.system.now (context_of g.D.Domain.SORT c.args.system.now c.args.bare c.args.facts.now) c.args.step.now _ o c.in-Def.is c.requires.within (e c.args.facts.now)) c.def.ensures

pub returns-in-Part : goal.returns-in-Part
returns-in-Part g c =
    under g.D.Domain.SORT c.args.system.now (context_of g.D.Domain.SORT c.args.system.now c.args.bare c.args.facts.now) c.args.step.now _ c.part.result c.in-Part.is c.requires.within (c.part.ensures g.D.Domain.SORT c.args.system.now c.args.bare (nodes (skeleton_of c.args.system.now.tree)) c.requires.facts)

pub returns-in-Cases : goal.returns-in-Cases
returns-in-Cases g c =
    IfOk_with c.cases.result (λ o e. under g.D.Domain.SORT c.args.system.now (context_of g.D.Domain.SORT c.args.system.now c.args.bare c.args.facts.now) c.args.step.now _ o c.in-Cases.is c.requires.within (e g.D.Domain.SORT c.args.system.now c.args.bare (nodes (skeleton_of c.args.system.now.tree)) c.requires.facts)) c.cases.ensures

pub returns-in-Sum : goal.returns-in-Sum
returns-in-Sum g c =
    IfOk_with c.sum.result (λ o e. under g.D.Domain.SORT c.args.system.now (context_of g.D.Domain.SORT c.args.system.now c.args.bare c.args.facts.now) c.args.step.now _ o c.in-Sum.is c.requires.within (sum_same g.D.Domain.SORT c.args.system.now (context_of g.D.Domain.SORT c.args.system.now c.args.bare c.args.facts.now) (nodes (skeleton_of c.args.system.now.tree)) c.in-Sum.f c.in-Sum.h c.in-Sum.p c.in-Sum.q c.in-Sum.g o
    (sym (ap is_within c.in-Sum.is) ∙ c.requires.within) (e c.args.bare (nodes (skeleton_of c.args.system.now.tree))))) c.sum.ensures

pub returns-in-Split : goal.returns-in-Split
returns-in-Split g c =
    IfOk_with c.split.result (λ o e. under g.D.Domain.SORT c.args.system.now (context_of g.D.Domain.SORT c.args.system.now c.args.bare c.args.facts.now) c.args.step.now _ o c.in-Split.is c.requires.within (e (context_of g.D.Domain.SORT c.args.system.now c.args.bare c.args.facts.now))) c.split.ensures

pub returns-in-Cube : goal.returns-in-Cube
returns-in-Cube g c =
    IfOk_with c.cube.result (λ o e. under g.D.Domain.SORT c.args.system.now (context_of g.D.Domain.SORT c.args.system.now c.args.bare c.args.facts.now) c.args.step.now _ o c.in-Cube.is c.requires.within
    (subst (λ (ns : List ℕ). Leaves g.D.Domain.SORT c.args.system.now (context_of g.D.Domain.SORT c.args.system.now c.args.bare c.args.facts.now) (cube_line (context_of g.D.Domain.SORT c.args.system.now c.args.bare c.args.facts.now) ns) o) c.as_slice.ensures (e g.D.Domain.SORT c.args.system.now c.args.bare c.requires.facts))) c.cube.ensures

pub returns-in-Learn : goal.returns-in-Learn
returns-in-Learn g c =
    IfOk_with c.learn.result (λ o e. under g.D.Domain.SORT c.args.system.now (context_of g.D.Domain.SORT c.args.system.now c.args.bare c.args.facts.now) c.args.step.now _ o c.in-Learn.is c.requires.within
    (subst (λ (ls : List Lit). Leaves g.D.Domain.SORT c.args.system.now (context_of g.D.Domain.SORT c.args.system.now c.args.bare c.args.facts.now) (learn_line g.D.Domain.SORT (nodes (skeleton_of c.args.system.now.tree)) (context_of g.D.Domain.SORT c.args.system.now c.args.bare c.args.facts.now) ls) o) c.as_slice-in-Learn.ensures (e c.args.facts.now))) c.learn.ensures

pub returns-in-False : goal.returns-in-False
returns-in-False g c =
    IfOk_with c.falsity.result (λ o e. under g.D.Domain.SORT c.args.system.now (context_of g.D.Domain.SORT c.args.system.now c.args.bare c.args.facts.now) c.args.step.now _ o c.in-False.is c.requires.within (e c.args.bare (nodes (skeleton_of c.args.system.now.tree)))) c.falsity.ensures

pub split-requires : goal.split-requires
split-requires g c = split_within c.in-Split.lit (sym (ap is_within c.in-Split.is) ∙ c.requires.within)

pub learn-requires : goal.learn-requires
learn-requires g c =
    ap (λ (ls : List Lit). is_within (step.Learn ls)) c.as_slice-in-Learn.ensures ∙ sym (ap is_within c.in-Learn.is) ∙ c.requires.within
