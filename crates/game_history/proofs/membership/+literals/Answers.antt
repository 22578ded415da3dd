use Rattle.std.specs.Prelude.{◌≡◌, ◌↔◌, IsTrue, List}
use Rattle.std.proofs.Common.{arith, ap, ◌∙◌, sym, subst}
use Rattle.dom_core.specs.declared.Matrix.{Matrix as Written}
use Rattle.dom_core.specs.Game.{Matrix, all, some, lit}
use Rattle.dom_core.specs.View.{matrix_of, matrices_of}
use Rattle.dom_core.proofs.Negations.{part_smaller}
use Rattle.game_history.specs.Legal.{IsOfMatrix}
use Rattle.game_history.proofs.OfSystem.{refuted, seen_leaf, seen_and, seen_or, part_has, part_lacks, no_part}
use Rattle.game_history.proofs.membership.+literals.Goals as goal

pub some_has_literal-has_literal-requires : goal.some_has_literal-has_literal-requires
some_has_literal-has_literal-requires t c =
    let h = part_smaller c.args.parts.now c.loop-part.part-index c.part-item.result c.loop-part-test.true c.part-item.is in omega arith

pub some_has_literal-returns-then-has_literal : goal.some_has_literal-returns-then-has_literal
some_has_literal-returns-then-has_literal t c = part_has c.args.lit.now c.args.parts.now c.loop-part.part-index c.part-item.result c.loop-part-test.true c.part-item.is (c.has_literal.ensures.0 c.if-has_literal.true)

pub some_has_literal-loop-part-preserved : goal.some_has_literal-loop-part-preserved
some_has_literal-loop-part-preserved t c = part_lacks c.args.lit.now c.args.parts.now c.loop-part.part-index c.part-item.result c.loop-part-test.true c.part-item.is (refuted c.has_literal.result (IsOfMatrix c.args.lit.now (matrix_of c.part-item.result)) c.has_literal.ensures c.if-has_literal.false) c.loop-part.invariant

pub some_has_literal-returns : goal.some_has_literal-returns
some_has_literal-returns t c = no_part c.args.lit.now c.args.parts.now c.loop-part.part-index c.loop-part-test.false c.loop-part.invariant

pub has_literal-returns-in-Lit : goal.has_literal-returns-in-Lit
has_literal-returns-in-Lit t c =
    let e : matrix_of c.args.matrix.now ≡ lit c.in-Lit.own = ap matrix_of c.in-Lit.is ∙ seen_leaf c.in-Lit.own in
    subst (λ (m : Matrix). IsTrue c.is_same.result ↔ IsOfMatrix c.args.lit.now m) (sym e) c.is_same.ensures.equal

pub has_literal-returns-in-And : goal.has_literal-returns-in-And
has_literal-returns-in-And t c =
    let e : matrix_of c.args.matrix.now ≡ all (matrices_of c.as_slice.result.now) = ap matrix_of c.in-And.is ∙ seen_and c.in-And.parts ∙ ap (λ (ts : List Written). all (matrices_of ts)) (sym c.as_slice.ensures) in
    subst (λ (m : Matrix). IsTrue c.some_has_literal.result ↔ IsOfMatrix c.args.lit.now m) (sym e) c.some_has_literal.ensures

pub has_literal-returns-in-Or : goal.has_literal-returns-in-Or
has_literal-returns-in-Or t c =
    let e : matrix_of c.args.matrix.now ≡ some (matrices_of c.as_slice-in-Or.result.now) = ap matrix_of c.in-Or.is ∙ seen_or c.in-Or.parts ∙ ap (λ (ts : List Written). some (matrices_of ts)) (sym c.as_slice-in-Or.ensures) in
    subst (λ (m : Matrix). IsTrue c.some_has_literal-in-Or.result ↔ IsOfMatrix c.args.lit.now m) (sym e) c.some_has_literal-in-Or.ensures
