use Rattle.std.proofs.Common.{ℕ, List, ◌≡◌, ◌<◌, ◌+◌, ◌∙◌, ap, arith, get_or, length}
use Rattle.prenex_form.specs.Pass.{bump}
use Rattle.prenex_form.proofs.Tallying.{bump_zero, get_zero, bump_set}
use Rattle.prenex_form.proofs.tally.bump.Goals as goal

pub loop-counts-preserved : goal.loop-counts-preserved
loop-counts-preserved c = record {
  same = ap (λ (xs : List ℕ). get_or xs c.args.at 0) c.in_ok-push.ensures.ok ∙ get_zero c.loop-counts.counts c.args.at ∙ c.loop-counts.invariant.same;
  bumped = ap (λ (xs : List ℕ). bump xs c.args.at) c.in_ok-push.ensures.ok ∙ bump_zero c.loop-counts.counts c.args.at (omega arith) ∙ c.loop-counts.invariant.bumped;
}

pub returns-clause-counts : goal.returns-clause-counts
returns-clause-counts c =
    let s : c.as_slice.result.now ≡ c.loop-counts.counts = c.as_slice.ensures in
    let l : c.args.at < length c.loop-counts.counts = omega (arith, c.len.ensures) in
    c.set.ensures
    ∙ bump_set c.loop-counts.counts c.args.at (get_or c.as_slice.result.now c.args.at 0 + 1) l (ap (λ (xs : List ℕ). get_or xs c.args.at 0 + 1) s)
    ∙ c.loop-counts.invariant.bumped
