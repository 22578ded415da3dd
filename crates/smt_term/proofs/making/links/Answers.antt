use Rattle.std.proofs.Common.{◌<◌, ◌≤◌, ◌+◌, ◌-◌, List, ℕ, length, get_or, sym, subst, arith}
use Rattle.smt_term.proofs.MakingLemmas.{no_seen, same_at, AreIn-at, Extends-length, LinksOn, links_go, links_all}
use Rattle.smt_term.proofs.making.links.Goals as goal

pub added-requires : goal.added-requires
added-requires c =
    let n = length c.args.table.now in
    let grown = Extends-length c.args.table.now c.loop-i.table c.loop-i.invariant.extends in
    let lt : c.loop-i.i < length c.args.args.now = c.loop-i-test.true in
    let before : c.loop-i.i - 1 < length c.args.args.now = omega (arith, lt) in
    (omega (arith, AreIn-at n c.args.args.now (c.loop-i.i - 1) no_seen c.requires before, grown), omega (arith, AreIn-at n c.args.args.now c.loop-i.i no_seen c.requires lt, grown))

pub loop-i-preserved : goal.loop-i-preserved
loop-i-preserved c =
    let i = c.loop-i.i in
    let lt : i < length c.args.args.now = c.loop-i-test.true in
    let before : i - 1 < length c.args.args.now = omega (arith, lt) in
    let x = get_or c.args.args.now (i - 1) no_seen in
    let y = get_or c.args.args.now i no_seen in
    let on = links_go c.args.table.now c.loop-i.table c.added.new.table c.args.op c.args.args.now i c.loop-i.parts.items c.in-Ok.node x y
    c.loop-i.invariant c.requires lt (same_at c.args.args.now (i - 1) no_seen x before) (same_at c.args.args.now i no_seen y lt) c.in-Ok.ensures.0 c.in-Ok.ensures.1 c.in-Ok.ensures.2 in
    subst (λ (is : List ℕ). LinksOn c.args.table.now c.added.new.table c.args.op c.args.args.now (i + 1) is) (sym c.in_ok-push.ensures.items) on

pub returns : goal.returns
returns c =
    let over : length c.args.args.now ≤ c.loop-i.i = c.loop-i-test.false in
    (links_all c.args.table.now c.loop-i.table c.args.op c.args.args.now c.loop-i.i c.loop-i.parts.items c.loop-i.invariant over, c.loop-i.invariant.below, c.loop-i.invariant.extends)
