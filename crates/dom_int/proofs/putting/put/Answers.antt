use Rattle.std.proofs.Common.{List, ◌≡◌, ◌∙◌, [], ◌∷◌, ◌++◌, ap, sym, subst}
use Rattle.std.specs.Prelude.{None}
use Rattle.lin_term.specs.declared.Lit.{Lit}
use Rattle.lin_term.specs.declared.Lit.TheVariants.{Divides}
use Rattle.lin_term.specs.declared.Sort.TheVariants.{Int}
use Rattle.lin_term.specs.Literal.{prim}
use Rattle.lin_term.specs.PutIn.{less_residue}
use Rattle.lin_term.specs.Wide.{first_past}
use Rattle.dom_core.specs.Elimination.{cube_numbers}
use Rattle.dom_core.specs.PutMove.{substituted_all}
use Rattle.dom_core.proofs.Selecting.{put_int, put_refused, even_refused, even_fits, all_fit}
use Rattle.dom_int.proofs.putting.put.Goals as goal

pub returns-in-Err : goal.returns-in-Err
returns-in-Err c =
    put_refused Int c.args.var c.args.term.now c.args.point.now c.args.lits.now c.new-out.result c.add_all_substituted.new.out c.remainder-taken.result c.in-Err.fault c.remainder-taken.ensures.value c.in-Err.ensures

pub distinct_cube-requires : goal.distinct_cube-requires
distinct_cube-requires c =
    let ls = substituted_all Int c.args.var c.args.term.now c.remainder-taken.result c.args.lits.now in
    let l : Lit = prim Int (Divides c.args.term.now.div (less_residue c.args.term.now c.remainder-taken.result)) in
    let e = c.in-Ok-add_evenness.ensures.1 ∙ ap (λ (us : List Lit). us ++ l ∷ []) (c.in-Ok.ensures.1 ∙ ap (λ (us : List Lit). us ++ ls) c.new-out.ensures) in
    subst (λ (us : List Lit). first_past (cube_numbers us) ≡ None) (sym e) (all_fit ls (l ∷ []) c.in-Ok.ensures.0 (even_fits c.args.term.now c.remainder-taken.result c.in-Ok-add_evenness.ensures.0))

pub returns-in-Err-add_evenness : goal.returns-in-Err-add_evenness
returns-in-Err-add_evenness c =
    even_refused c.args.var c.args.term.now c.args.point.now c.args.lits.now c.add_all_substituted.new.out c.add_evenness.new.out c.remainder-taken.result c.in-Err-add_evenness.fault c.remainder-taken.ensures.value c.in-Ok.ensures.0 c.in-Err-add_evenness.ensures

pub returns-in-Ok-add_evenness : goal.returns-in-Ok-add_evenness
returns-in-Ok-add_evenness c =
    put_int c.args.var c.args.term.now c.args.point.now c.args.lits.now c.add_all_substituted.new.out c.add_evenness.new.out c.remainder-taken.result c.distinct_cube.result c.remainder-taken.ensures.value
    (c.in-Ok.ensures.1 ∙ ap (λ (us : List Lit). us ++ substituted_all Int c.args.var c.args.term.now c.remainder-taken.result c.args.lits.now) c.new-out.ensures) c.in-Ok-add_evenness.ensures.1 c.distinct_cube.ensures
