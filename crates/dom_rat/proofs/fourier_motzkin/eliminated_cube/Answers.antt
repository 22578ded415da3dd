use Rattle.std.proofs.Common.{List, filter}
use Rattle.lin_term.specs.declared.Lit.{Lit}
use Rattle.dom_core.specs.Elimination.{is_free, fourier_motzkin}
use Rattle.dom_rat.specs.Sums.{all_sums}
use Rattle.dom_rat.proofs.Summing.{first_refused, second_refused, both_parts}
use Rattle.dom_rat.proofs.fourier_motzkin.eliminated_cube.Goals as goal

pub returns-in-Err : goal.returns-in-Err
returns-in-Err c =
    let x = c.args.var in
    let cube = c.args.cube.now in
    first_refused {A = List Lit} c.new-lits.result c.add_free.new.out (filter (is_free x) cube) (all_sums x cube cube) (fourier_motzkin cube x) c.in-Err.fault c.in-Err.ensures

pub returns-in-Err-add_all_sums : goal.returns-in-Err-add_all_sums
returns-in-Err-add_all_sums c =
    let x = c.args.var in
    let cube = c.args.cube.now in
    second_refused {A = List Lit} c.add_free.new.out c.add_all_sums.new.out (filter (is_free x) cube) (all_sums x cube cube) (fourier_motzkin cube x) c.in-Err-add_all_sums.fault c.in-Ok.ensures.0 c.in-Err-add_all_sums.ensures

pub returns-in-Ok-add_all_sums : goal.returns-in-Ok-add_all_sums
returns-in-Ok-add_all_sums c =
    let x = c.args.var in
    let cube = c.args.cube.now in
    both_parts c.new-lits.result c.add_free.new.out c.add_all_sums.new.out c.from_lits.result (filter (is_free x) cube) (all_sums x cube cube) c.new-lits.ensures c.in-Ok.ensures c.in-Ok-add_all_sums.ensures c.from_lits.ensures
