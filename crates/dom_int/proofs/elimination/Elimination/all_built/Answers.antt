use Rattle.std.proofs.Common.{ℕ, ℤ, List, ◌≡◌, ◌<◌, ◌∙◌, ◌++◌, ap, sym, subst, arith, length, pos, map}
use Rattle.std.specs.List.{flat_map}
use Rattle.lin_term.specs.declared.Sort.TheVariants.{Int}
use Rattle.lin_term.specs.declared.Lit.{Lit}
use Rattle.dom_core.specs.Elimination.{cooper, delta, partial_deltas, count_sums, cube_numbers, elimination_numbers}
use Rattle.lin_term.proofs.Capping.{past-append}
use Rattle.dom_int.specs.Counts.{first_numbers}
use Rattle.dom_int.specs.Case.{case_at}
use Rattle.dom_core.proofs.AddingLemmas.{case_more, case_refused, case_added}
use Rattle.dom_int.proofs.elimination.Elimination.all_built.Goals as goal

pub loop-index-init : goal.loop-index-init
loop-index-init c =
    let t = c.args.self.now in
    let cs = cooper t.cube t.variable in
    record {
      same = ap (λ (us : List (List Lit)). us ++ cs) c.new-cubes.ensures;
      past = sym (past-append (first_numbers t.cube t.variable) (flat_map cube_numbers cs) c.count-count.ensures.fits);
    }

pub returns-in-Err : goal.returns-in-Err
returns-in-Err c =
    let t = c.args.self.now in
    let cs = cooper t.cube t.variable in
    let h = subst (λ (n : ℕ). c.loop-index.index < n) c.count-count.ensures.value c.loop-index-test.true in
    case_refused {A = List Lit} {B = List (List Lit)} cs c.loop-index.index (elimination_numbers Int t.cube t.variable) (case_at t.cube t.variable c.loop-index.index) cs c.in-Err.fault h c.in-Err.ensures c.loop-index.invariant.past

pub loop-index-preserved : goal.loop-index-preserved
loop-index-preserved c =
    let t = c.args.self.now in
    let cs = cooper t.cube t.variable in
    let i = c.loop-index.invariant in
    let h = subst (λ (n : ℕ). c.loop-index.index < n) c.count-count.ensures.value c.loop-index-test.true in
    record {
      same = case_added cs c.loop-index.cubes c.push.new.self c.in-Ok.case c.loop-index.index h i.same c.in_ok-push-in-Ok.ensures.ok c.in-Ok.ensures.1;
      past = case_more cs c.loop-index.index (elimination_numbers Int t.cube t.variable) h c.in-Ok.ensures.0 i.past;
    }
