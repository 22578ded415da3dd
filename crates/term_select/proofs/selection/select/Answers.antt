use Rattle.std.specs.Prelude.{◌+◌, Ok, Err}
use Rattle.game_tree.specs.Skeleton.{nodes}
use Rattle.game_tree.specs.View.{skeleton_of}
use Rattle.term_select.proofs.Countering.{attack, can_begin, begun, prefix_is, attack_selected, attack_follows, answers_counter, answers_stop}
use Rattle.term_select.proofs.selection.select.Goals as goal

pub walk-requires : goal.walk-requires
walk-requires g c =
    let s = g.D.Domain.SORT in
    let P = c.args.problem.now in
    let Q = c.in_ok-own.own in
    let U = c.args.against in
    let p = c.args.point.now in
    let a = attack s P Q U p c.matrix.result.now c.matrix.ensures.kept c.matrix.ensures.value c.read_rows.ensures c.in_ok-own.ensures.value c.in_ok-own.ensures.inverse c.tree.ensures.kept c.requires.prefix c.requires.few c.requires.solves in
    can_begin s P Q U p c.matrix-2.result.now c.tree.result.now c.new-way.result a c.matrix-2.ensures.value c.tree.ensures.value c.new-way.ensures

pub made-requires-clause-own : goal.made-requires-clause-own
made-requires-clause-own g c =
    let s = g.D.Domain.SORT in
    let P = c.args.problem.now in
    let Q = c.in_ok-own.own in
    let U = c.args.against in
    let p = c.args.point.now in
    let a = attack s P Q U p c.matrix.result.now c.matrix.ensures.kept c.matrix.ensures.value c.read_rows.ensures c.in_ok-own.ensures.value c.in_ok-own.ensures.inverse c.tree.ensures.kept c.requires.prefix c.requires.few c.requires.solves in
    let h = begun s Q U p c.matrix-2.result.now c.tree.result.now c.new-way.result (0 + nodes (skeleton_of c.tree.result.now)) (Ok c.in-Ok.part) c.matrix-2.ensures.value c.tree.ensures.value c.new-way.ensures c.in-Ok.ensures.value in
    attack_follows s P Q U p (0 + nodes (skeleton_of c.tree.result.now)) c.in-Ok.part a h

pub made-requires-clause-other : goal.made-requires-clause-other
made-requires-clause-other g c =
    let s = g.D.Domain.SORT in
    let P = c.args.problem.now in
    let Q = c.in_ok-own.own in
    let U = c.args.against in
    let p = c.args.point.now in
    let a = attack s P Q U p c.matrix.result.now c.matrix.ensures.kept c.matrix.ensures.value c.read_rows.ensures c.in_ok-own.ensures.value c.in_ok-own.ensures.inverse c.tree.ensures.kept c.requires.prefix c.requires.few c.requires.solves in
    prefix_is s P Q U p a

pub made-requires-clause-selected : goal.made-requires-clause-selected
made-requires-clause-selected g c =
    let s = g.D.Domain.SORT in
    let P = c.args.problem.now in
    let Q = c.in_ok-own.own in
    let U = c.args.against in
    let p = c.args.point.now in
    let a = attack s P Q U p c.matrix.result.now c.matrix.ensures.kept c.matrix.ensures.value c.read_rows.ensures c.in_ok-own.ensures.value c.in_ok-own.ensures.inverse c.tree.ensures.kept c.requires.prefix c.requires.few c.requires.solves in
    let h = begun s Q U p c.matrix-2.result.now c.tree.result.now c.new-way.result (0 + nodes (skeleton_of c.tree.result.now)) (Ok c.in-Ok.part) c.matrix-2.ensures.value c.tree.ensures.value c.new-way.ensures c.in-Ok.ensures.value in
    attack_selected s P Q U p (0 + nodes (skeleton_of c.tree.result.now)) c.in-Ok.part a h

pub returns-in_ok-counter-in-Ok : goal.returns-in_ok-counter-in-Ok
returns-in_ok-counter-in-Ok g c =
    let s = g.D.Domain.SORT in
    let P = c.args.problem.now in
    let Q = c.in_ok-own.own in
    let U = c.args.against in
    let p = c.args.point.now in
    let a = attack s P Q U p c.matrix.result.now c.matrix.ensures.kept c.matrix.ensures.value c.read_rows.ensures c.in_ok-own.ensures.value c.in_ok-own.ensures.inverse c.tree.ensures.kept c.requires.prefix c.requires.few c.requires.solves in
    let h = begun s Q U p c.matrix-2.result.now c.tree.result.now c.new-way.result (0 + nodes (skeleton_of c.tree.result.now)) (Ok c.in-Ok.part) c.matrix-2.ensures.value c.tree.ensures.value c.new-way.ensures c.in-Ok.ensures.value in
    answers_counter s c.args.side P Q U p (0 + nodes (skeleton_of c.tree.result.now)) c.in-Ok.part c.in_ok-counter-in-Ok.counter a h c.in_ok-counter-in-Ok.ensures

pub returns-in-Err : goal.returns-in-Err
returns-in-Err g c =
    let s = g.D.Domain.SORT in
    let P = c.args.problem.now in
    let Q = c.in_ok-own.own in
    let U = c.args.against in
    let p = c.args.point.now in
    let a = attack s P Q U p c.matrix.result.now c.matrix.ensures.kept c.matrix.ensures.value c.read_rows.ensures c.in_ok-own.ensures.value c.in_ok-own.ensures.inverse c.tree.ensures.kept c.requires.prefix c.requires.few c.requires.solves in
    let h = begun s Q U p c.matrix-2.result.now c.tree.result.now c.new-way.result (0 + nodes (skeleton_of c.tree.result.now)) (Err c.in-Err.fault) c.matrix-2.ensures.value c.tree.ensures.value c.new-way.ensures c.in-Err.ensures.value in
    answers_stop s c.args.side P Q U p (0 + nodes (skeleton_of c.tree.result.now)) c.in-Err.fault c.stopped.result a h c.stopped.ensures
