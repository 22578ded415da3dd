use Rattle.std.proofs.Common.{◌≡◌, ◌++◌, take, map}
use Rattle.std.specs.List.{concat}
use Rattle.strat_text.specs.Written as spelled
use Rattle.strat_text.proofs.writing.+put_tree.Given as goal

abbrev pub invariant-put_branches-loop-branch : goal.invariant-put_branches-loop-branch
invariant-put_branches-loop-branch l = l.out.items ≡ l.fn.out.items ++ concat (map spelled.branch (take l.branch-index l.branches))
