use Rattle.std.specs.Prelude.{Err}
use Rattle.std.proofs.Common.{ℕ, List, ◌≡◌, ◌+◌, ◌∙◌, [], ◌∷◌, ◌++◌, ap, sym, subst, drop, filter}
use Rattle.lin_term.specs.declared.Lit.{Lit}
use Rattle.lin_term.specs.Wide.{first_past}
use Rattle.dom_core.specs.Elimination.{is_free, cube_numbers}
use Rattle.dom_core.proofs.AddingLemmas.{cube_added, cube_past}
use Rattle.dom_rat.specs.Sums.{sums_of, all_sums}
use Rattle.dom_rat.proofs.Summing.{sums_split, more_refused}
use Rattle.dom_rat.proofs.fourier_motzkin.add_sums.Goals as goal

pub loop-lit-preserved : goal.loop-lit-preserved
loop-lit-preserved c =
    let u = c.in-Ok.ensures in
    let i = c.loop-lit.invariant in
    let k = c.loop-lit.lit-index in
    let l : Lit = c.lit-item.result in
    let e = sums_split c.args.var c.args.lower.now c.args.cube.now k l c.loop-lit-test.true c.lit-item.is in
    record {
      same = cube_added c.loop-lit.out (c.args.out.now ++ sums_of c.args.var c.args.lower.now c.args.cube.now) (sums_of c.args.var c.args.lower.now (l ∷ [])) (sums_of c.args.var c.args.lower.now (drop (k + 1) c.args.cube.now)) c.add_if_upper.new.out (ap (λ (us : List Lit). c.loop-lit.out ++ us) (sym e) ∙ i.same) u.1;
      past = cube_past (sums_of c.args.var c.args.lower.now (l ∷ [])) (sums_of c.args.var c.args.lower.now (drop (k + 1) c.args.cube.now)) (sums_of c.args.var c.args.lower.now c.args.cube.now) u.0 (ap (λ (us : List Lit). first_past (cube_numbers us)) (sym e) ∙ i.past);
    }

pub returns-in-Err : goal.returns-in-Err
returns-in-Err c =
    let i = c.loop-lit.invariant in
    let k = c.loop-lit.lit-index in
    let l : Lit = c.lit-item.result in
    let e = sums_split c.args.var c.args.lower.now c.args.cube.now k l c.loop-lit-test.true c.lit-item.is in
    more_refused c.loop-lit.out c.add_if_upper.new.out c.args.out.now c.add_if_upper.new.out (sums_of c.args.var c.args.lower.now (l ∷ [])) (sums_of c.args.var c.args.lower.now (drop (k + 1) c.args.cube.now)) (sums_of c.args.var c.args.lower.now c.args.cube.now) c.in-Err.fault c.in-Err.ensures (ap (λ (us : List Lit). first_past (cube_numbers us)) (sym e) ∙ i.past)
