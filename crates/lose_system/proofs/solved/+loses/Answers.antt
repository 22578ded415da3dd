use Rattle.std.specs.Prelude.{◌≡◌, ◌↔◌, IsTrue, List, length}
use Rattle.std.proofs.Common.{arith, ap, ◌∙◌, sym, subst}
use Rattle.dom_core.specs.declared.Matrix.{Matrix as Written}
use Rattle.dom_core.specs.Game.{Matrix, HoldsIn, all}
use Rattle.dom_core.specs.View.{matrix_of, matrices_of}
use Rattle.dom_core.proofs.Negations.{part_smaller}
use Rattle.lose_system.proofs.LostLemmas.{lost, matrix_part, negations_part}
use Rattle.lose_system.proofs.SolvedLemmas.{seen_and, refuted, some_found, fail_more, none_found, one_wins, hold_more, all_found}
use Rattle.lose_system.proofs.Tabled.{IfOk_with}
use Rattle.lose_system.proofs.solved.+loses.Goals as goal

pub some_loses-loses-requires : goal.some_loses-loses-requires
some_loses-loses-requires t c =
    let h = part_smaller c.args.parts.now c.loop-part.part-index c.part-item.result c.loop-part-test.true c.part-item.is in (
      omega arith,
      (
        c.requires.rising,
        (
          c.requires.few,
          (
            matrix_part c.args.parts.now c.args.sort (length c.args.names.now) c.loop-part.part-index c.part-item.result c.loop-part-test.true c.part-item.is c.requires.below,
            negations_part c.args.parts.now c.args.sort c.loop-part.part-index c.part-item.result c.loop-part-test.true c.part-item.is c.requires.negations,
          ),
        ),
      ),
    )

pub all_lose-loses-requires : goal.all_lose-loses-requires
all_lose-loses-requires t c =
    let h = part_smaller c.args.parts.now c.loop-part.part-index c.part-item.result c.loop-part-test.true c.part-item.is in (
      omega arith,
      (
        c.requires.rising,
        (
          c.requires.few,
          (
            matrix_part c.args.parts.now c.args.sort (length c.args.names.now) c.loop-part.part-index c.part-item.result c.loop-part-test.true c.part-item.is c.requires.below,
            negations_part c.args.parts.now c.args.sort c.loop-part.part-index c.part-item.result c.loop-part-test.true c.part-item.is c.requires.negations,
          ),
        ),
      ),
    )

pub some_loses-returns-then-one : goal.some_loses-returns-then-one
some_loses-returns-then-one t c = some_found c.args.parts.now c.args.sort c.args.names.now c.args.point.now c.loop-part.part-index c.part-item.result c.loop-part-test.true c.part-item.is (c.in_ok-one.ensures.0 c.if-one.true)

pub some_loses-loop-part-preserved : goal.some_loses-loop-part-preserved
some_loses-loop-part-preserved t c = fail_more c.args.parts.now c.args.sort c.args.names.now c.args.point.now c.loop-part.part-index c.part-item.result c.loop-part-test.true c.part-item.is (refuted c.in_ok-one.one (HoldsIn (lost (matrix_of c.part-item.result) c.args.sort c.args.names.now) c.args.point.now) c.in_ok-one.ensures c.if-one.false) c.loop-part.invariant

pub some_loses-returns : goal.some_loses-returns
some_loses-returns t c = none_found c.args.parts.now c.args.sort c.args.names.now c.args.point.now c.loop-part.part-index c.loop-part-test.false c.loop-part.invariant

pub all_lose-returns-then-not-one : goal.all_lose-returns-then-not-one
all_lose-returns-then-not-one t c = one_wins c.args.parts.now c.args.sort c.args.names.now c.args.point.now c.loop-part.part-index c.part-item.result c.loop-part-test.true c.part-item.is (refuted c.in_ok-one.one (HoldsIn (lost (matrix_of c.part-item.result) c.args.sort c.args.names.now) c.args.point.now) c.in_ok-one.ensures c.if-not-one.true)

pub all_lose-loop-part-preserved : goal.all_lose-loop-part-preserved
all_lose-loop-part-preserved t c = hold_more c.args.parts.now c.args.sort c.args.names.now c.args.point.now c.loop-part.part-index c.part-item.result c.loop-part-test.true c.part-item.is (c.in_ok-one.ensures.0 c.if-not-one.false) c.loop-part.invariant

pub all_lose-returns : goal.all_lose-returns
all_lose-returns t c = all_found c.args.parts.now c.args.sort c.args.names.now c.args.point.now c.loop-part.part-index c.loop-part-test.false c.loop-part.invariant

pub loses-returns-in-And : goal.loses-returns-in-And
loses-returns-in-And t c =
    let e : matrix_of c.args.matrix.now ≡ all (matrices_of c.as_slice.result.now) = ap matrix_of c.in-And.is ∙ seen_and c.in-And.parts ∙ ap (λ (ts : List Written). all (matrices_of ts)) (sym c.as_slice.ensures) in
    IfOk_with c.some_loses.result (λ b h. subst (λ (m : Matrix). IsTrue b ↔ HoldsIn (lost m c.args.sort c.args.names.now) c.args.point.now) (sym e) h) c.some_loses.ensures
