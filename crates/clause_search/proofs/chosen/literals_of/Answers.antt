use Rattle.clause_search.specs.Taken.{IsPart}
use Rattle.clause_search.proofs.Choosing.{chooses_start, part_chosen, first_none, first_more, first_all, at_place, all_at, in_place, there_too, not_more}
use Rattle.clause_search.proofs.chosen.literals_of.Goals as goal

pub loop-part-init : goal.loop-part-init
loop-part-init g c = record {
  chooses = chooses_start g.D.Domain.SORT c.args.system.now c.args.goal.now c.new.result c.new-2.result c.new-3.result c.new.ensures c.new-2.ensures c.new-3.ensures;
  first = first_none g.D.Domain.SORT c.args.system.now c.args.goal.now c.new.result;
}

pub add_part-requires : goal.add_part-requires
add_part-requires g c =
    all_at (IsPart g.D.Domain.SORT c.args.system.now) c.args.goal.now.lits c.loop-part.part-index c.part-item.result (in_place c.as_slice-part-items.result.now c.args.goal.now.lits c.loop-part.part-index c.as_slice-part-items.ensures c.loop-part-test.true) (there_too c.as_slice-part-items.result.now c.args.goal.now.lits c.loop-part.part-index c.part-item.result c.as_slice-part-items.ensures c.part-item.is) c.requires.lits

pub loop-part-preserved : goal.loop-part-preserved
loop-part-preserved g c =
    let p = at_place c.args.goal.now.lits c.loop-part.part-index c.part-item.result (in_place c.as_slice-part-items.result.now c.args.goal.now.lits c.loop-part.part-index c.as_slice-part-items.ensures c.loop-part-test.true) (there_too c.as_slice-part-items.result.now c.args.goal.now.lits c.loop-part.part-index c.part-item.result c.as_slice-part-items.ensures c.part-item.is) in
    record {
      chooses = part_chosen g.D.Domain.SORT c.args.system.now c.args.goal.now c.loop-part.part-index c.part-item.result c.loop-part.chosen c.add_part.new.chosen p c.loop-part.invariant.chooses c.in_ok-add_part.ensures;
      first = first_more g.D.Domain.SORT c.args.system.now c.args.goal.now c.loop-part.part-index c.part-item.result c.loop-part.chosen c.add_part.new.chosen p c.loop-part.invariant.first c.in_ok-add_part.ensures;
    }

pub returns-clause-chooses : goal.returns-clause-chooses
returns-clause-chooses g c = c.loop-part.invariant.chooses

pub returns-clause-all : goal.returns-clause-all
returns-clause-all g c =
    first_all g.D.Domain.SORT c.args.system.now c.args.goal.now c.loop-part.part-index c.loop-part.chosen.cube (not_more c.as_slice-part-items.result.now c.args.goal.now.lits c.loop-part.part-index c.as_slice-part-items.ensures c.loop-part-test.false) c.loop-part.invariant.first
