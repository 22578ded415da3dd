use Rattle.std.proofs.Common.{drop}
use Rattle.std.specs.Prelude.{length}
use Rattle.lin_truth.specs.View.{tree_of, trees_of}
use Rattle.norm_form.specs.Cap.{capped_maker}
use Rattle.norm_form.specs.Cases.{AreBack, joined}
use Rattle.norm_form.specs.Norm.{glin}
use Rattle.norm_form.specs.Pairing.{other_part, paired_form, IsTested}
use Rattle.norm_form.proofs.Running.{GoesOn, BothStand}
use Rattle.norm_form.proofs.Walking.{SumStands, ProductStands, PartsStand}
use Rattle.norm_form.proofs.+walk.Given as goal

abbrev pub invariant-number::second_over-loop-case : goal.invariant-number::second_over-loop-case
invariant-number::second_over-loop-case l =
    AreBack (λ k. glin capped_maker (tree_of l.b) l.sort l.ctx l.known k) l.ys → GoesOn (λ k e x. glin capped_maker (tree_of l.b) l.sort l.ctx e (joined l.step x k)) l.fn.cases l.todo l.out

abbrev pub decreases-number::second_over-loop-case : goal.decreases-number::second_over-loop-case
decreases-number::second_over-loop-case l = length l.todo

abbrev pub invariant-number::chosen_over-loop-case : goal.invariant-number::chosen_over-loop-case
invariant-number::chosen_over-loop-case l =
    IsTested (tree_of l.term) l.sort l.ctx l.deep l.by → AreBack (λ k. glin capped_maker (other_part (tree_of l.term)) l.sort l.ctx l.known k) l.ys → GoesOn (λ k e x. glin capped_maker (other_part (tree_of l.term)) l.sort l.ctx e (paired_form (tree_of l.term) l.sort l.ctx x k)) l.fn.cases l.todo l.out

abbrev pub decreases-number::chosen_over-loop-case : goal.decreases-number::chosen_over-loop-case
decreases-number::chosen_over-loop-case l = length l.todo

abbrev pub invariant-number::paired_each-loop-case : goal.invariant-number::paired_each-loop-case
invariant-number::paired_each-loop-case l =
    IsTested (tree_of l.term) l.sort l.ctx l.deep l.by → BothStand (paired_form (tree_of l.term) l.sort l.ctx l.x) l.cases l.case-index l.out

abbrev pub invariant-number::sum-loop-term : goal.invariant-number::sum-loop-term
invariant-number::sum-loop-term l = SumStands l.sort l.ctx l.level (trees_of l.terms) (trees_of (drop l.term-index l.terms)) l.all

abbrev pub invariant-number::product-loop-term : goal.invariant-number::product-loop-term
invariant-number::product-loop-term l = ProductStands l.sort l.ctx l.level (trees_of l.terms) (trees_of (drop l.term-index l.terms)) l.all

abbrev pub invariant-formula::parts-loop-term : goal.invariant-formula::parts-loop-term
invariant-formula::parts-loop-term l = PartsStand l.sort l.truth l.ctx l.level (trees_of l.terms) (trees_of (drop l.term-index l.terms)) l.made
