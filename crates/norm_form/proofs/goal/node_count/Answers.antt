use Rattle.std.specs.Prelude.{min, IfOk}
use Rattle.std.proofs.Common.{ℕ, ◌≡◌, arith, subst}
use Rattle.lin_truth.specs.View.{tree_of}
use Rattle.norm_form.specs.Load.{load, limit}
use Rattle.norm_form.specs.Outcome.{nodes_of, node_rate}
use Rattle.norm_form.proofs.Answering.{same_load}
use Rattle.norm_form.proofs.goal.node_count.Goals as goal

pub returns : goal.returns
returns c =
    let g = c.args.goal.now in
    let l = same_load c.body.result.now g.body node_rate c.consts.result.now g.consts c.body.ensures.value c.consts.ensures in
    let e : load (tree_of c.body.result.now) node_rate c.consts.result.now ≡ nodes_of g = omega arith in
    subst (λ (m : ℕ). IfOk c.formula_count.result (λ (n : ℕ). n ≡ min limit m)) e c.formula_count.ensures
