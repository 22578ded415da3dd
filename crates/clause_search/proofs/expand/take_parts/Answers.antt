use Rattle.std.specs.Prelude.{ℕ, ◌+◌, ◌-◌, ◌≡◌, [], ◌∷◌, ◌++◌, length}
use Rattle.cube_rules.specs.declared.Step.TheVariants as line
use Rattle.clause_search.specs.declared.goal.Part.{Part}
use Rattle.std.proofs.Common.{arith, refl, subst}
use Rattle.clause_search.proofs.Parting.{Parts, parts_none, parts_more, parts_reach, parts_kept}
use Rattle.clause_search.proofs.expand.take_parts.Goals as goal

pub loop-done-init : goal.loop-done-init
loop-done-init g c =
    parts_none g.D.Domain.SORT c.args.system.now c.args.goal.now c.args.whole.now c.args.parts.now c.args.lines.now (length c.args.parts.now - 0) (omega arith) c.requires.kept.waiting

pub loop-done-preserved : goal.loop-done-preserved
loop-done-preserved g c =
    let t = c.loop-done-test.true in
    let i = length c.args.parts.now - 1 - c.loop-done.done in
    let q : length c.args.parts.now - c.loop-done.done ≡ i + 1 = omega arith in
    let r : i ≡ length c.args.parts.now - (c.loop-done.done + 1) = omega arith in
    let y : Part = record { number = c.loop-done.goal.count; path = c.args.whole.now.path; matrix = c.part_at.result } in
    let wrote = subst (λ (n : ℕ). c.add_child.new.lines ≡ c.loop-done.lines ++ line.Part c.args.whole.now.number n ∷ []) c.in_ok-index.ensures c.in_ok-add_child.ensures.lines in
    subst (λ (n : ℕ). Parts g.D.Domain.SORT c.args.system.now c.args.goal.now c.args.whole.now c.args.parts.now c.args.lines.now n c.add_child.new.goal c.add_child.new.lines) r
    (parts_more g.D.Domain.SORT c.args.system.now c.args.goal.now c.loop-done.goal c.add_child.new.goal c.args.whole.now y c.args.parts.now c.part_at.result.now c.args.lines.now c.loop-done.lines c.add_child.new.lines i c.requires.is c.requires.part (omega arith) c.part_at.ensures refl refl refl c.in_ok-add_child.ensures.goal wrote
    (subst (λ (n : ℕ). Parts g.D.Domain.SORT c.args.system.now c.args.goal.now c.args.whole.now c.args.parts.now c.args.lines.now n c.loop-done.goal c.loop-done.lines) q c.loop-done.invariant))

pub returns-clause-reaches : goal.returns-clause-reaches
returns-clause-reaches g c =
    let t = c.loop-done-test.false in
    let q : length c.args.parts.now - c.loop-done.done ≡ 0 = omega arith in
    parts_reach g.D.Domain.SORT c.args.system.now c.args.goal.now c.loop-done.goal c.args.whole.now c.args.parts.now c.args.lines.now c.loop-done.lines c.requires.is
    (subst (λ (n : ℕ). Parts g.D.Domain.SORT c.args.system.now c.args.goal.now c.args.whole.now c.args.parts.now c.args.lines.now n c.loop-done.goal c.loop-done.lines) q c.loop-done.invariant)

pub returns-clause-kept : goal.returns-clause-kept
returns-clause-kept g c =
    parts_kept g.D.Domain.SORT c.args.system.now c.args.goal.now c.loop-done.goal c.args.whole.now c.args.parts.now c.args.lines.now (length c.args.parts.now - c.loop-done.done) c.loop-done.lines c.requires.kept c.loop-done.invariant
