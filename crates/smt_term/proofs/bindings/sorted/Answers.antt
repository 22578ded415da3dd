use Rattle.std.proofs.Common.{◌+◌, List, [], drop, arith, ap, ◌∙◌}
use Rattle.smt_term.specs.View.{part, part_seen}
use Rattle.smt_term.specs.declared.bindings.Binding.{Binding}
use Rattle.smt_term.specs.Newest.{newest_first}
use Rattle.smt_term.proofs.PairLemmas.{sorted-no_pair, sorted-no_sort, sorted_on, sorted-more, sorted-done, alike-push}
use Rattle.smt_tree.specs.Seen.{all_seen}
use Rattle.symbol_table.specs.declared.Known.{Known}
use Rattle.smt_term.proofs.bindings.sorted.Goals as goal

pub returns-in-Err : goal.returns-in-Err
returns-in-Err c =
    sorted-no_pair c.args.logic c.loop-item.taken (newest_first [] c.loop-item.bindings.items) c.args.items.now c.loop-item.item-index c.item-item.result c.in-Err.fault
    c.loop-item-test.true c.item-item.is c.loop-item.invariant.same_names c.loop-item.invariant.left c.in-Err.ensures

pub returns-in-Err-sort_of : goal.returns-in-Err-sort_of
returns-in-Err-sort_of c =
    sorted-no_sort c.args.logic c.loop-item.taken (newest_first [] c.loop-item.bindings.items) c.args.items.now c.loop-item.item-index c.item-item.result c.in-Ok.pair.0.now
    (part c.in-Ok.pair.1.now) (part_seen c.part_of.result) c.in-Err-sort_of.fault
    c.loop-item-test.true c.item-item.is c.loop-item.invariant.same_names c.loop-item.invariant.left c.in-Ok.ensures.0 c.part_of.ensures c.in-Err-sort_of.ensures

pub loop-item-preserved : goal.loop-item-preserved
loop-item-preserved c =
    let b : Binding = record { name = c.in-Ok.pair.0; sort = c.in-Ok-sort_of.sort } in
    let bs = c.loop-item.bindings.items in
    let known : Known = record { sort = b.sort; node = 0; signature = 0 } in
    record {
      same_names = alike-push c.loop-item.taken c.push.new.self bs c.push-in-loop-item.new.self.items b known c.loop-item.invariant.same_names c.in-Ok-push.ensures.ok c.in_ok-push.ensures.items;
      left = ap (λ (xs : List Binding). sorted_on c.args.logic (newest_first [] xs) (all_seen (drop (c.loop-item.item-index + 1) c.args.items.now))) c.in_ok-push.ensures.items
          ∙ sorted-more c.args.logic c.loop-item.taken bs c.args.items.now c.loop-item.item-index c.item-item.result b (part c.in-Ok.pair.1.now) (part_seen c.part_of.result)
          c.loop-item-test.true c.item-item.is c.loop-item.invariant.same_names c.loop-item.invariant.left c.in-Ok.ensures.0 c.part_of.ensures c.in-Ok-sort_of.ensures;
    }

pub returns : goal.returns
returns c =
    sorted-done c.args.logic (newest_first [] c.loop-item.bindings.items) c.args.items.now c.loop-item.item-index (omega (arith, c.loop-item-test.false)) c.loop-item.invariant.left
