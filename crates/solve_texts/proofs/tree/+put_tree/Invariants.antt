use Rattle.std.proofs.Common.{◌≡◌, ◌++◌, take}
use Rattle.std.specs.List.{flat_map}
use Rattle.solve_texts.specs.Pieces.{branch_lines}
use Rattle.solve_texts.proofs.tree.+put_tree.Given as goal

abbrev pub invariant-put_branches-loop-branch : goal.invariant-put_branches-loop-branch
invariant-put_branches-loop-branch l = l.out.items ≡ l.fn.out.items ++ flat_map branch_lines (take l.branch-index l.branches)
