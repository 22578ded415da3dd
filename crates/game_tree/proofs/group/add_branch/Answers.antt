use Rattle.std.specs.Prelude.{List, ◌∷◌, [], ◌++◌, map, length, ◌≤◌}
use Rattle.std.proofs.Common.{arith, ap, ◌∙◌}
use Rattle.game_tree.specs.declared.tree.Tree.{Tree}
use Rattle.game_tree.specs.declared.group.Group.{Group}
use Rattle.game_tree.specs.Skeleton.{Skeleton}
use Rattle.game_tree.specs.View.{skeleton_of}
use Rattle.game_tree.specs.Gather.{Gathered, group_of}
use Rattle.game_tree.proofs.Turning.{added_behind}
use Rattle.game_tree.proofs.group.add_branch.Goals as goal

pub returns : goal.returns
returns c =
    let gs = c.args.groups.now.items in
    let h : Group = record { term = c.args.branch.term; first = c.args.branch.rest; more = c.new.result } in
    let with_more : List Skeleton → Gathered = λ Ss. (c.args.branch.term, skeleton_of c.args.branch.rest, Ss) in
    let past = c.if-home-len.false in
    let l : length gs ≤ c.args.home = omega (arith, past, c.len.ensures, c.args.groups.now.ok.0) in
    ap (λ (xs : List Group). map group_of xs) c.in_ok-push.ensures.items
    ∙ added_behind gs c.args.home c.args.branch.term (skeleton_of c.args.branch.rest) h l (ap (λ (ts : List Tree). with_more (map skeleton_of ts)) c.new.ensures.items)
