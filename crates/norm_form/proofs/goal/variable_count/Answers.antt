use Rattle.std.specs.Prelude.{min, length}
use Rattle.std.proofs.Common.{◌≡◌, arith, ap}
use Rattle.lin_truth.specs.declared.VarSort.{VarSort}
use Rattle.lin_truth.specs.View.{tree_of}
use Rattle.norm_form.specs.Load.{load, limit}
use Rattle.norm_form.specs.Outcome.{binder_rate}
use Rattle.norm_form.proofs.Answering.{same_load}
use Rattle.norm_form.proofs.goal.variable_count.Goals as goal

pub returns : goal.returns
returns c =
    let g = c.args.goal.now in
    let l = same_load c.body.result.now g.body binder_rate c.consts.result.now g.consts c.body.ensures.value c.consts.ensures in
    let k : length c.consts-2.result.now ≡ length g.consts = ap (length {A = VarSort}) c.consts-2.ensures in
    let e : c.in_ok-bound.bound ≡ min limit (load (tree_of c.body.result.now) binder_rate c.consts.result.now) = c.in_ok-bound.ensures in
    omega arith
