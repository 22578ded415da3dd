use Rattle.std.specs.Prelude.{ℕ, ◌≡◌, List, Option, length}
use Rattle.lin_form.specs.Lin.{Lin}
use Rattle.norm_form.specs.Normal.{Normal}
use Rattle.norm_form.specs.Cases.{run, run_back}
use Rattle.norm_form.proofs.branches.flipped.Given as goal

abbrev pub invariant-loop-case : goal.invariant-loop-case
invariant-loop-case l = record {
  forth : (k : ℕ → Lin → Option Normal) (rs : List (Option Normal)) → run l.all k (run_back l.todo k rs) ≡ run_back l.fn.cases k rs;
  back : (k : ℕ → Lin → Option Normal) (rs : List (Option Normal)) → run l.todo k (run_back l.all k rs) ≡ run l.fn.cases k rs;
}

abbrev pub decreases-loop-case : goal.decreases-loop-case
decreases-loop-case l = length l.todo
