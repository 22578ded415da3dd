use Rattle.std.proofs.Common.{ℕ, ℤ, List, ◌≡◌, ◌+◌, ◌∙◌, ap, ap₂, sym, subst, arith, pos, nat_abs, w64, to_z, of_z}
use Rattle.std.specs.Prelude.{◌-ℤ◌}
use Rattle.std.proofs.lemmas.List.{get_or_default}
use mir.Syntax.{w128}
use Rattle.lin_term.specs.Form.{Form}
use Rattle.lin_term.specs.declared.Lit.{Lit}
use Rattle.lin_term.specs.declared.Lit.TheVariants.{AtLeast}
use Rattle.lin_term.specs.Linear.{constant_form}
use Rattle.lin_term.specs.Literal.{form_of}
use Rattle.lin_term.specs.PutIn.{coef}
use Rattle.lin_term.specs.Wide.{Capped}
use Rattle.lin_term.proofs.Terms.{word_of, wide_of}
use Rattle.dom_core.specs.Elimination.{size_at, above_bound, cube_numbers}
use Rattle.dom_int.specs.Case.{term_case}
use Rattle.dom_int.specs.Place.{lit_at}
use Rattle.dom_int.proofs.Numerators.{opposite, formed, bound_is}
use Rattle.dom_int.proofs.case.lower_case.Goals as goal

pub returns-in-Ok : goal.returns-in-Ok
returns-in-Ok c =
    let x = c.args.var in
    let cube = c.args.cube.now in
    let l : Lit = lit_at cube c.args.place in
    let is : c.row-row.result.now ≡ form_of l = c.row-row.ensures ∙ ap form_of (c.index-cube-place.is ∙ get_or_default cube c.args.place c.index-cube-place.result (AtLeast (constant_form (pos 0))) c.requires.within) in
    let a : nat_abs (to_z w64 (of_z w64 c.coefficient_at-a.result)) ≡ size_at x l = ap nat_abs (word_of c.coefficient_at-a.result c.coefficient_at-a.ensures.size ∙ c.coefficient_at-a.ensures.value ∙ ap (λ (f : Form). coef f.terms x) is) in
    let z = wide_of c.less-constant.result (omega (arith, c.less-constant.ensures.size)) ∙ c.less-constant.ensures.value ∙ ap (λ (y : ℤ). pos c.args.k -ℤ y) (word_of c.constant_part.result c.constant_part.ensures.kept ∙ c.constant_part.ensures.value ∙ ap (λ (f : Form). f.constant) is) in
    let t = bound_is x l c.args.k c.as_slice.result.now (to_z w128 (of_z w128 c.less-constant.result)) (c.as_slice.ensures ∙ c.in-Ok.ensures.terms ∙ ap (λ (f : Form). opposite f.terms x) is) z in
    subst (λ (f : Form). Capped (cube_numbers (term_case x (size_at x l) f cube c.args.place)) (term_case x (size_at x l) f cube c.args.place) c.case_with.result) t
    (subst (λ (n : ℕ). Capped (cube_numbers (term_case x n (formed c.as_slice.result.now (to_z w128 (of_z w128 c.less-constant.result))) cube c.args.place)) (term_case x n (formed c.as_slice.result.now (to_z w128 (of_z w128 c.less-constant.result))) cube c.args.place) c.case_with.result) a c.case_with.ensures)
