use Rattle.std.specs.Prelude.{List, length, set, nat_le, true, ◌<◌, ◌≤◌}
use Rattle.std.specs.List.{prefix_len, list_all}
use Rattle.std.proofs.Common.{arith, ap, ◌∙◌, sym, subst, ◌≡◌}
use Rattle.std.proofs.lemmas.List.{length-set, set-set, take_all}
use Rattle.grown_tree.specs.declared.marks.Mark.{Mark}
use Rattle.grown_tree.specs.declared.node.Node.{Node}
use Rattle.grown_tree.specs.Shown.{is_sound, all_shown}
use Rattle.grown_tree.proofs.Nodes.{all_at}
use Rattle.grown_tree.proofs.Cutting.{node_weight, all_weight, mine_weight, take_weight, weight_at, first_at, cut_sound_so, cut_same_so, one_cut_sound, one_cut_same, rest_kept}
use Rattle.grown_tree.proofs.cut.+cut.Goals as goal

pub cut-cut_all-below-requires : goal.cut-cut_all-below-requires
cut-cut_all-below-requires t c =
    let e = ap node_weight c.in-Mine.is ∙ mine_weight c.in-Mine.marks c.in-Mine.below in
    let f = ap all_weight c.truncate-in-Mine.ensures in
    let g = take_weight c.early-count.result c.in-Mine.below in
    (omega (arith, e, f, g), tt)

pub cut-returns-in-Mine-clause-sound : goal.cut-returns-in-Mine-clause-sound
cut-returns-in-Mine-clause-sound t c =
    λ n h.
    cut_sound_so n c.args.last c.early-count.result c.args.node c.in-Mine.marks c.truncate.new.self c.in-Mine.below c.truncate-in-Mine.new.self c.cut_all-below.result
    c.in-Mine.is (c.early-count.ensures ∙ ap (λ (xs : List Mark). prefix_len (λ m. nat_le m.since c.args.last) xs) c.as_slice.ensures) c.truncate.ensures c.truncate-in-Mine.ensures c.cut_all-below.ensures.count c.cut_all-below.ensures.sound h

pub cut-returns-in-Mine-clause-same : goal.cut-returns-in-Mine-clause-same
cut-returns-in-Mine-clause-same t c =
    λ n v qs h l.
    cut_same_so n c.args.last v c.early-count.result c.args.node c.in-Mine.marks c.truncate.new.self c.in-Mine.below c.truncate-in-Mine.new.self c.cut_all-below.result qs
    c.in-Mine.is (c.early-count.ensures ∙ ap (λ (xs : List Mark). prefix_len (λ m. nat_le m.since c.args.last) xs) c.as_slice.ensures) c.truncate.ensures c.truncate-in-Mine.ensures l (λ rs k. c.cut_all-below.ensures.same n v rs k l) h

pub cut_all-cut-node-requires : goal.cut_all-cut-node-requires
cut_all-cut-node-requires t c =
    let n = c.replace-node.result in
    let now = c.loop-i.below in
    let i = c.loop-i.i in
    let inv = c.loop-i.invariant in
    let k : i < length c.args.below = omega (arith, c.loop-i-test.true, c.len-i-end.ensures) in
    let l : i < length now = omega (arith, k, inv.0) in
    let e = first_at now c.args.below i n inv.0 inv.1 l c.replace-node.ensures.out in
    let w = weight_at c.args.below i n k e in
    (omega (arith, w), tt)

pub cut_all-loop-i-preserved : goal.cut_all-loop-i-preserved
cut_all-loop-i-preserved t c =
    let n = c.replace-node.result in
    let m = c.cut-node.result in
    let now = c.loop-i.below in
    let before = c.args.below in
    let i = c.loop-i.i in
    let inv = c.loop-i.invariant in
    let u : i < length before = omega (arith, c.loop-i-test.true, c.len-i-end.ensures) in
    let l : i < length now = omega (arith, u, inv.0) in
    let o = first_at now before i n inv.0 inv.1 l c.replace-node.ensures.out in
    let s : c.set.new.self ≡ set now i m = c.set.ensures ∙ ap (λ (xs : List Node). set xs i m) c.replace-node.ensures.rest ∙ set-set now i _ m in (
      ap (λ (xs : List Node). length xs) s ∙ length-set now i m ∙ inv.0,
      rest_kept now before c.set.new.self i m l s inv.1,
      λ k h. one_cut_sound k c.args.last now before c.set.new.self i n m l inv.0 s o c.cut-node.ensures.sound h (inv.2 k h),
      λ k v qs h w. one_cut_same k v now before c.set.new.self i n m qs l inv.0 s o (c.cut-node.ensures.same k v qs (ap (is_sound k) o ∙ all_at (is_sound k) before i n u h) w) (inv.3 k v qs h w),
    )

pub cut_all-returns-clause-sound : goal.cut_all-returns-clause-sound
cut_all-returns-clause-sound t c =
    let inv = c.loop-i.invariant in
    let l : length c.loop-i.below ≤ c.loop-i.i = omega (arith, c.loop-i-test.false, c.len-i-end.ensures, inv.0) in
    λ n h. subst (λ (xs : List Node). list_all (is_sound c.args.last) xs ≡ true) (take_all c.loop-i.i c.loop-i.below l) (inv.2 n h)

pub cut_all-returns-clause-same : goal.cut_all-returns-clause-same
cut_all-returns-clause-same t c =
    let inv = c.loop-i.invariant in
    let k : length c.args.below ≤ c.loop-i.i = omega (arith, c.loop-i-test.false, c.len-i-end.ensures) in
    let l : length c.loop-i.below ≤ c.loop-i.i = omega (arith, k, inv.0) in
    λ n v qs h w.
    ap (λ (xs : List Node). all_shown v xs qs) (sym (take_all c.loop-i.i c.loop-i.below l))
    ∙ inv.3 n v qs h w
    ∙ ap (λ (xs : List Node). all_shown v xs qs) (take_all c.loop-i.i c.args.below k)
