use Rattle.std.proofs.Common.{◌+◌, [], map}
use Rattle.std.proofs.lemmas.List.{map_push}
use Rattle.std.proofs.lemmas.Result.{err_from_is_err_and}
use Rattle.lin_term.specs.Move.{Move}
use Rattle.game_tree.specs.declared.tree.Branch.{Branch}
use Rattle.strat_words.specs.View.{spot}
use Rattle.strat_text.specs.Tree as spec
use Rattle.strat_text.proofs.MoveLists.{branch_on, move_fails, rest_fails, branches_done}
use Rattle.strat_text.proofs.preorder.+preorder.Goals as goal

term_of : Branch → Move
term_of b = b.term

pub branches-returns-in_err-term : goal.branches-returns-in_err-term
branches-returns-in_err-term t c =
    let p = err_from_is_err_and c.from_residual.result c.from_residual.ensures.1 in
    rw (p.1, p.2) (move_fails (spec.tree c.args.turns.now (c.args.pos + 1)) c.args.pos c.in_err-term.field-0.0 c.loop.all c.args.count c.loop.counter (map (λ b. b.term) c.loop.all) (spot c.loop.place) (spec.branches (spec.tree c.args.turns.now (c.args.pos + 1)) c.args.pos c.args.count [] (spot c.args.at)) c.loop-test.true (c.in_err-term.ensures.gives (map (λ b. b.term) c.loop.all) c.loop.invariant.has) c.loop.invariant.so_far)

pub branches-returns-in_err-rest : goal.branches-returns-in_err-rest
branches-returns-in_err-rest t c =
    let p = err_from_is_err_and c.from_residual-in_err-rest.result c.from_residual-in_err-rest.ensures.1 in
    rw (p.1, p.2) (rest_fails (spec.tree c.args.turns.now (c.args.pos + 1)) c.args.pos c.in_err-rest.field-0.0 c.loop.all c.args.count c.loop.counter (map (λ b. b.term) c.loop.all) (spot c.loop.place) (c.in_ok-term.term, spot c.in_ok-term.after) (spec.branches (spec.tree c.args.turns.now (c.args.pos + 1)) c.args.pos c.args.count [] (spot c.args.at)) c.loop-test.true (c.in_ok-term.ensures.gives (map (λ b. b.term) c.loop.all) c.loop.invariant.has) c.in_err-rest.ensures c.loop.invariant.so_far)

pub branches-loop-preserved : goal.branches-loop-preserved
branches-loop-preserved t c =
    let e = c.in_ok-push.ensures.ok in
    let m = map_push (λ (b : Branch). b.term) c.loop.all (record { term = c.in_ok-term.term; rest = c.in_ok-rest.rest }) in
    record {
      so_far = rw (e, m) (branch_on (spec.tree c.args.turns.now (c.args.pos + 1)) c.args.pos c.loop.all c.args.count c.loop.counter (map (λ b. b.term) c.loop.all) (spot c.loop.place) (c.in_ok-term.term, spot c.in_ok-term.after) (c.in_ok-rest.rest, spot c.in_ok-rest.after) (spec.branches (spec.tree c.args.turns.now (c.args.pos + 1)) c.args.pos c.args.count [] (spot c.args.at)) c.loop-test.true (c.in_ok-term.ensures.gives (map (λ b. b.term) c.loop.all) c.loop.invariant.has) c.in_ok-rest.ensures c.loop.invariant.so_far);
      has = rw (e, m) (c.in_ok-term.ensures.then (map (λ b. b.term) c.loop.all) c.loop.invariant.has);
    }

pub branches-returns : goal.branches-returns
branches-returns t c = branches_done (spec.tree c.args.turns.now (c.args.pos + 1)) c.args.pos c.loop.all c.args.count c.loop.counter (map (λ b. b.term) c.loop.all) (spot c.loop.place) (spec.branches (spec.tree c.args.turns.now (c.args.pos + 1)) c.args.pos c.args.count [] (spot c.args.at)) c.loop-test.false c.loop.invariant.so_far
