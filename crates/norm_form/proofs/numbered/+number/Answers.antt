use Rattle.std.proofs.Common.{ℕ, List, ◌≡◌, ◌+◌, ◌∙◌, ap, ap₂, sym, subst, drop, arith}
use Rattle.norm_form.specs.declared.normal.LevelForm.{LevelForm as Built}
use Rattle.norm_form.specs.declared.numbered.Normal.{Normal as Written}
use Rattle.norm_form.specs.Normal.{Normals, part, no_part}
use Rattle.norm_form.specs.Numbered.{Numbered, Numbereds, n_more, binders, all_binders, numbered, numbered_parts, CanNumberAll}
use Rattle.norm_form.specs.Outcome.{normal_tree, normal_trees}
use Rattle.norm_form.specs.View.{shape_of, shapes_of}
use Rattle.norm_form.proofs.Preorder.{joined, joined_none, joined_more, shapes_more, shapes_all}
use Rattle.norm_form.proofs.numbered.+number.Goals as goal

pub numbered_all-loop-part-preserved : goal.numbered_all-loop-part-preserved
numbered_all-loop-part-preserved t c =
    let parts = c.args.parts.now in
    let i = c.loop-part.part-index in
    let item = c.part-item.result in
    let nx : ℕ = c.loop-part.next in
    let nm : List ℕ = c.loop-part.names in
    let rest : Normals = shapes_of (drop (i + 1) parts) in
    let e : shapes_of (drop i parts) ≡ part (shape_of item) rest =
    shapes_more (λ (ns : Normals). ns) parts i item c.loop-part-test.true ∙ ap (λ (x : Built). part (shape_of x) rest) (sym c.part-item.is) in
    let g : c.numbered.new.next ≡ nx + binders (shape_of item) = c.in_ok-part.ensures.next in
    let s : c.numbered.new.names ≡ nm = c.in_ok-part.ensures.names in
    let m : normal_tree c.in_ok-part.part ≡ numbered (shape_of item) nx nm = c.in_ok-part.ensures.value in
    let ready = subst (λ (ns : Normals). CanNumberAll ns nx nm) e c.loop-part.invariant.ready in
    let b : all_binders (shapes_of (drop i parts)) ≡ binders (shape_of item) + all_binders rest = ap all_binders e in
    let l = c.loop-part.invariant.left in record {
      left = omega arith;
      same = s ∙ c.loop-part.invariant.same;
      ready = subst (λ (ys : List ℕ). CanNumberAll rest c.numbered.new.next ys) (sym s) (subst (λ (x : ℕ). CanNumberAll rest x nm) (sym g) ready.1);
      made = ap (λ (ts : List Written). joined (normal_trees ts) (numbered_parts rest c.numbered.new.next c.numbered.new.names)) c.in_ok-push.ensures.ok
          ∙ joined_more c.loop-part.made c.in_ok-part.part (numbered_parts rest c.numbered.new.next c.numbered.new.names)
          ∙ ap₂ (λ (x : Numbered) (ys : Numbereds). joined (normal_trees c.loop-part.made) (n_more x ys)) m (ap₂ (numbered_parts rest) g s)
          ∙ ap (λ (ns : Normals). joined (normal_trees c.loop-part.made) (numbered_parts ns nx nm)) (sym e)
          ∙ c.loop-part.invariant.made;
    }

pub numbered_all-returns-clause-value : goal.numbered_all-returns-clause-value
numbered_all-returns-clause-value t c =
    let ms : Numbereds = normal_trees c.loop-part.made in
    let e : shapes_of (drop c.loop-part.part-index c.args.parts.now) ≡ no_part = shapes_all (λ (ns : Normals). ns) c.args.parts.now c.loop-part.part-index c.loop-part-test.false in
    sym (joined_none ms)
    ∙ ap (λ (ns : Normals). joined ms (numbered_parts ns c.loop-part.next c.loop-part.names)) (sym e)
    ∙ c.loop-part.invariant.made
