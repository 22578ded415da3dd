use Rattle.std.proofs.Common.{ℕ, List, ◌≡◌, ◌+◌, ◌∙◌, ap, ap₂, sym, subst, drop}
use Rattle.dom_core.specs.declared.Matrix.{Matrix as Tree}
use Rattle.dom_core.specs.Game.{Matrix, Matrices, more}
use Rattle.dom_core.specs.View.{matrix_of, matrices_of}
use Rattle.norm_form.specs.declared.LevelForm.{LevelForm as Built}
use Rattle.norm_form.specs.Normal.{Normals, part, no_part}
use Rattle.norm_form.specs.View.{shape_of, shapes_of}
use Rattle.prenex_form.specs.Pass.{taken, taken_parts, put, put_parts, HaveRoom, CanPutAll, AllTidy}
use Rattle.prenex_form.proofs.Renamed.{joined, joined_none, joined_more}
use Rattle.prenex_form.proofs.Shapes.{shapes_more, shapes_all}
use Rattle.prenex_form.proofs.place.+place.Goals as goal

pub place_all-loop-part-preserved : goal.place_all-loop-part-preserved
place_all-loop-part-preserved t c =
    let parts = c.args.parts.now in
    let i = c.loop-part.part-index in
    let item = c.part-item.result in
    let d = c.args.depth in
    let nx : List ℕ = c.loop-part.next in
    let nm : List ℕ = c.loop-part.names in
    let rest : Normals = shapes_of (drop (i + 1) parts) in
    let e : shapes_of (drop i parts) ≡ part (shape_of item) rest =
    shapes_more (λ (ns : Normals). ns) parts i item c.loop-part-test.true ∙ ap (λ (x : Built). part (shape_of x) rest) (sym c.part-item.is) in
    let g : c.place.new.next ≡ taken (shape_of item) d nx = c.in_ok-matrix.ensures.next in
    let s : c.place.new.names ≡ nm = c.in_ok-matrix.ensures.names in
    let m : matrix_of c.in_ok-matrix.matrix ≡ put (shape_of item) d nx nm = c.in_ok-matrix.ensures.matrix in
    let room = subst (λ (ns : Normals). HaveRoom ns d nx) e c.loop-part.invariant.room in
    let ready = subst (λ (ns : Normals). CanPutAll ns d nx nm) e c.loop-part.invariant.ready in record {
      left = ap (taken_parts rest d) g ∙ ap (λ (ns : Normals). taken_parts ns d nx) (sym e) ∙ c.loop-part.invariant.left;
      same = s ∙ c.loop-part.invariant.same;
      room = subst (λ (xs : List ℕ). HaveRoom rest d xs) (sym g) room.1;
      ready = subst (λ (ys : List ℕ). CanPutAll rest d c.place.new.next ys) (sym s) (subst (λ (xs : List ℕ). CanPutAll rest d xs nm) (sym g) ready.1);
      tidy = λ h. c.loop-part.invariant.tidy (subst (λ (ns : Normals). AllTidy ns) (sym e) (c.in_ok-matrix.ensures.tidy, h));
      matrix = ap (λ (ts : List Tree). joined (matrices_of ts) (put_parts rest d c.place.new.next c.place.new.names)) c.in_ok-push.ensures.ok
          ∙ joined_more c.loop-part.matrices c.in_ok-matrix.matrix (put_parts rest d c.place.new.next c.place.new.names)
          ∙ ap₂ (λ (x : Matrix) (ys : Matrices). joined (matrices_of c.loop-part.matrices) (more x ys)) m (ap₂ (put_parts rest d) g s)
          ∙ ap (λ (ns : Normals). joined (matrices_of c.loop-part.matrices) (put_parts ns d nx nm)) (sym e)
          ∙ c.loop-part.invariant.matrix;
    }

pub place_all-returns-clause-matrices : goal.place_all-returns-clause-matrices
place_all-returns-clause-matrices t c =
    let ms : Matrices = matrices_of c.loop-part.matrices in
    let e : shapes_of (drop c.loop-part.part-index c.args.parts.now) ≡ no_part = shapes_all (λ (ns : Normals). ns) c.args.parts.now c.loop-part.part-index c.loop-part-test.false in
    sym (joined_none ms)
    ∙ ap (λ (ns : Normals). joined ms (put_parts ns c.args.depth c.loop-part.next c.loop-part.names)) (sym e)
    ∙ c.loop-part.invariant.matrix
