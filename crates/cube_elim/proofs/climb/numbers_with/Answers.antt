use Rattle.std.specs.Prelude.{List, ℤ, pos, Ok, Err, map}
use Rattle.std.proofs.Common.{◌∙◌, ◌*ℤ◌, ◌++◌, ◌∷◌, [], subst}
use Rattle.lin_term.proofs.Terms.{word_of}
use Rattle.cube_elim.specs.Climbing.{AddsNumber, AddsNumbers}
use Rattle.cube_elim.proofs.Climbs.{both_added, first_refused, last_refused}
use Rattle.cube_elim.proofs.climb.numbers_with.Goals as goal

pub returns-in-Err : goal.returns-in-Err
returns-in-Err c =
    let zs = map (λ (z : ℤ). z *ℤ pos c.args.factor) c.args.point.now.nums in
    let y = c.args.value.num *ℤ pos c.args.over in
    first_refused zs (zs ++ y ∷ []) y c.in-Err.fault c.new-out.result c.add_scaled.new.out
    (subst (λ (ns : List ℤ). AddsNumbers c.new-out.result c.add_scaled.new.out (map (λ (z : ℤ). z *ℤ pos c.args.factor) ns) (Err c.in-Err.fault)) c.nums.ensures.value c.in-Err.ensures)

pub returns-in-Ok-add_multiple : goal.returns-in-Ok-add_multiple
returns-in-Ok-add_multiple c =
    let zs = map (λ (z : ℤ). z *ℤ pos c.args.factor) c.args.point.now.nums in
    let y = c.args.value.num *ℤ pos c.args.over in
    let n = word_of c.num.result c.num.ensures.kept ∙ c.num.ensures.value in
    both_added c.new-out.result c.add_scaled.new.out c.add_multiple.new.nums zs y c.new-out.ensures
    (subst (λ (ns : List ℤ). AddsNumbers c.new-out.result c.add_scaled.new.out (map (λ (z : ℤ). z *ℤ pos c.args.factor) ns) (Ok c.in-Ok.field-0)) c.nums.ensures.value c.in-Ok.ensures)
    (subst (λ (z : ℤ). AddsNumber c.add_scaled.new.out c.add_multiple.new.nums (z *ℤ pos c.args.over) (Ok c.in-Ok-add_multiple.field-0)) n c.in-Ok-add_multiple.ensures)

pub returns-in-Err-add_multiple : goal.returns-in-Err-add_multiple
returns-in-Err-add_multiple c =
    let zs = map (λ (z : ℤ). z *ℤ pos c.args.factor) c.args.point.now.nums in
    let y = c.args.value.num *ℤ pos c.args.over in
    let n = word_of c.num.result c.num.ensures.kept ∙ c.num.ensures.value in
    let a = subst (λ (ns : List ℤ). AddsNumbers c.new-out.result c.add_scaled.new.out (map (λ (z : ℤ). z *ℤ pos c.args.factor) ns) (Ok c.in-Ok.field-0)) c.nums.ensures.value c.in-Ok.ensures in
    last_refused zs (zs ++ y ∷ []) y c.in-Err-add_multiple.fault c.add_scaled.new.out c.add_multiple.new.nums a.0
    (subst (λ (z : ℤ). AddsNumber c.add_scaled.new.out c.add_multiple.new.nums (z *ℤ pos c.args.over) (Err c.in-Err-add_multiple.fault)) n c.in-Err-add_multiple.ensures)
