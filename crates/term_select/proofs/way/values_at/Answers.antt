use Rattle.std.specs.Prelude.{◌≡◌, ℤ, List, [], ◌∷◌, ◌++◌, get_or}
use Rattle.std.proofs.Common.{ap, ◌∙◌, subst}
use Rattle.lin_term.specs.Linear.{at}
use Rattle.lin_term.specs.Point.{AreWithin}
use Rattle.lin_term.proofs.Terms.{word_of}
use Rattle.term_select.proofs.Ways.{nums_more, value_kept, within_more}
use Rattle.term_select.proofs.way.values_at.Goals as goal

pub loop-node-preserved : goal.loop-node-preserved
loop-node-preserved c =
    let all = c.args.point.now.nums in
    let nodes = c.args.nodes.now in
    let i = c.loop-node.node-index in
    let z = c.number_at.result in
    let v : z ≡ at all (get_or nodes i 0) = c.number_at.ensures ∙ ap (λ (zs : List ℤ). at zs (get_or nodes i 0)) c.nums-all.ensures.value in
    let a : AreWithin all = subst AreWithin c.nums-all.ensures.value c.nums-all.ensures.kept in
    let e : c.push.new.self ≡ c.loop-node.nums ++ z ∷ [] = c.in_ok-push.ensures.ok ∙ ap (λ (y : ℤ). c.loop-node.nums ++ y ∷ []) (word_of z (value_kept all (get_or nodes i 0) z a v)) in
    record {
      nums = nums_more all nodes c.loop-node.nums c.push.new.self i 0 z c.loop-node-test.true c.loop-node.invariant.nums v e;
      within = within_more all c.loop-node.nums c.push.new.self (get_or nodes i 0) z a c.loop-node.invariant.within v e;
    }
