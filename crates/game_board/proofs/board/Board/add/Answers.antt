use Rattle.std.specs.Prelude.{vec_capacity}
use Rattle.game_board.specs.Kept.{Tally}
use Rattle.game_board.proofs.Keeping.{opened}
use Rattle.std.proofs.Common.{ap, ◌∙◌, sym, subst, arith}
use Rattle.game_board.specs.Half.{half_of}
use Rattle.std.specs.Prelude.{◌<◌}
use Rattle.game_tree.specs.View.{skeleton_of}
use Rattle.game_history.specs.History.{of_side}
use Rattle.game_board.specs.Board.{state_of}
use Rattle.game_board.specs.declared.entry.Entry.TheVariants as entry
use Rattle.game_board.specs.Half.{Grows}
use Rattle.game_board.proofs.HalfStates.{side_is}
use Rattle.game_board.proofs.Keeping.{room_left}
use Rattle.game_board.proofs.Fitting.{counters_version}
use Rattle.game_board.proofs.Asked.{paths_prefix}
use Rattle.game_board.proofs.Closing.{added_closes}
use Rattle.std.specs.Prelude.{Err, IfOk, OnErr}
use Rattle.grown_tree.specs.declared.GrowFault.{GrowFault}
use Rattle.std.specs.Prelude.{◌≡◌}
use Rattle.dom_core.specs.declared.Side.{Side}
use Rattle.game_tree.specs.Written.{WrittenSkeleton}
use Rattle.game_board.specs.declared.halves.Halves.{Halves}
use Rattle.game_board.specs.Board.{WrittenBoard}
use Rattle.game_board.specs.Half.{IsTooLarge}
use Rattle.game_board.specs.Kept.{IsBoard, board_of}
use Rattle.game_board.specs.Replies.{IsFresh, IsNews, joint_nodes, Publishes}
use Rattle.game_board.proofs.HalfLemmas.{too_large_is}
use Rattle.game_board.proofs.board.Board.add.Goals as goal

pub grow-requires : goal.grow-requires
grow-requires g c =
    let i = c.self.inside in
    let t : Tally = record { added = i.added; spent = i.spent; large = i.large } in
    let s = g.D.Domain.SORT in
    let b = c.args.self.now in
    let room = vec_capacity i.history in
    let k = opened s b i.halves t room i.rounds i.history.items i.won c.self.view_is c.self.invariant in
    ap (λ a. (half_of a i.halves).grown.prefix) c.side-side.ensures ∙ paths_prefix s b i.halves t room c.args.counter k c.paths.ensures.kept c.requires.fresh.attacks.problem ∙ ap (λ S. S.prefix) (sym c.paths.ensures.value)

pub overflow_add-self : goal.overflow_add-self
overflow_add-self g c =
    let i = c.self.inside in
    let t : Tally = record { added = i.added; spent = i.spent; large = i.large } in
    let s = g.D.Domain.SORT in
    let b = c.args.self.now in
    let room = vec_capacity i.history in
    let k = opened s b i.halves t room i.rounds i.history.items i.won c.self.view_is c.self.invariant in
    let a = k.matches.added in let l = c.requires.left in let f = k.few in omega arith

pub push_reserved-requires : goal.push_reserved-requires
push_reserved-requires g c =
    let i = c.self.inside in
    let t : Tally = record { added = i.added; spent = i.spent; large = i.large } in
    let s = g.D.Domain.SORT in
    let b = c.args.self.now in
    let room = vec_capacity i.history in
    let k = opened s b i.halves t room i.rounds i.history.items i.won c.self.view_is c.self.invariant in
    let x = (subst (λ a. Grows (skeleton_of c.args.counter.paths.tree) c.args.version c.in-Ok.made (half_of a i.halves) (half_of a c.grow.new.self)) c.side-side.ensures (subst (λ S. Grows (skeleton_of S.tree) c.args.version c.in-Ok.made (half_of c.side-side.result i.halves) (half_of c.side-side.result c.grow.new.self)) c.paths.ensures.value c.in-Ok.ensures.grown)) in
    let e = room_left s b i.halves t room (entry.Added c.args.counter.side c.args.version c.args.counter.paths c.in-Ok.made) i.history.len i.history.items k c.requires.fresh.open_game
    (counters_version s b i.halves t room c.args.counter c.args.version k c.into_paths-paths.ensures.kept c.requires.fresh, c.requires.news, c.requires.left, x.within (of_side c.args.counter.side (state_of s b)) (side_is c.args.counter.side i.halves t (state_of s b) k.matches), x.number (of_side c.args.counter.side (state_of s b)) (side_is c.args.counter.side i.halves t (state_of s b) k.matches)) i.history.ok.0 (ap (λ o. o.history) c.self.view_is) in
    omega arith

pub invariant_of-self : goal.invariant_of-self
invariant_of-self g c =
    let i = c.self.inside in
    let t : Tally = record { added = i.added; spent = i.spent; large = i.large } in
    let s = g.D.Domain.SORT in
    let b = c.args.self.now in
    let room = vec_capacity i.history in
    let k = opened s b i.halves t room i.rounds i.history.items i.won c.self.view_is c.self.invariant in
    (added_closes s b i.halves c.grow.new.self t room (vec_capacity c.push_reserved.new.self) i.rounds i.history.items c.push_reserved.new.self.items i.won c.args.counter c.side-side.result c.into_paths-paths.result c.args.version c.in-Ok.made c.self.view_is c.self.invariant c.into_paths-paths.ensures.kept c.requires.fresh c.requires.news c.requires.left c.side-side.ensures c.into_paths-paths.ensures.value
    (subst (λ S. Grows (skeleton_of S.tree) c.args.version c.in-Ok.made (half_of c.side-side.result i.halves) (half_of c.side-side.result c.grow.new.self)) c.paths.ensures.value c.in-Ok.ensures.grown) c.in-Ok.ensures.rest c.push_reserved.ensures.items (let e = c.push_reserved.ensures.capacity in omega arith)).keeps

pub returns-in-Ok-clause-published : goal.returns-in-Ok-clause-published
returns-in-Ok-clause-published g c =
    let i = c.self.inside in
    let t : Tally = record { added = i.added; spent = i.spent; large = i.large } in
    let s = g.D.Domain.SORT in
    let b = c.args.self.now in
    let room = vec_capacity i.history in
    let k = opened s b i.halves t room i.rounds i.history.items i.won c.self.view_is c.self.invariant in
    let x = (subst (λ a. Grows (skeleton_of c.args.counter.paths.tree) c.args.version c.in-Ok.made (half_of a i.halves) (half_of a c.grow.new.self)) c.side-side.ensures (subst (λ S. Grows (skeleton_of S.tree) c.args.version c.in-Ok.made (half_of c.side-side.result i.halves) (half_of c.side-side.result c.grow.new.self)) c.paths.ensures.value c.in-Ok.ensures.grown)) in (
      c.requires.fresh,
      c.requires.news,
      c.requires.left,
      x.within (of_side c.args.counter.side (state_of s b)) (side_is c.args.counter.side i.halves t (state_of s b) k.matches),
      x.number (of_side c.args.counter.side (state_of s b)) (side_is c.args.counter.side i.halves t (state_of s b) k.matches),
      (added_closes s b i.halves c.grow.new.self t room (vec_capacity c.push_reserved.new.self) i.rounds i.history.items c.push_reserved.new.self.items i.won c.args.counter c.side-side.result c.into_paths-paths.result c.args.version c.in-Ok.made c.self.view_is c.self.invariant c.into_paths-paths.ensures.kept c.requires.fresh c.requires.news c.requires.left c.side-side.ensures c.into_paths-paths.ensures.value
          (subst (λ S. Grows (skeleton_of S.tree) c.args.version c.in-Ok.made (half_of c.side-side.result i.halves) (half_of c.side-side.result c.grow.new.self)) c.paths.ensures.value c.in-Ok.ensures.grown) c.in-Ok.ensures.rest c.push_reserved.ensures.items (let e = c.push_reserved.ensures.capacity in omega arith)).is,
    )

pub invariant_of-self-in-Err : goal.invariant_of-self-in-Err
invariant_of-self-in-Err g c =
    let i = c.self.inside in
    let t : Tally = record { added = i.added; spent = i.spent; large = i.large } in
    let s = g.D.Domain.SORT in
    let b = c.args.self.now in
    let room = vec_capacity i.history in
    let k = opened s b i.halves t room i.rounds i.history.items i.won c.self.view_is c.self.invariant in
    subst (λ (h : Halves g.row.D.Denot). IsBoard s (board_of h i.rounds i.history.items i.won) h t room) (sym c.in-Err.ensures.kept) c.self.invariant

pub refused-requires-clause-fresh : goal.refused-requires-clause-fresh
refused-requires-clause-fresh g c =
    let i = c.self.inside in
    let t : Tally = record { added = i.added; spent = i.spent; large = i.large } in
    let s = g.D.Domain.SORT in
    let b = c.args.self.now in
    let room = vec_capacity i.history in
    let k = opened s b i.halves t room i.rounds i.history.items i.won c.self.view_is c.self.invariant in
    let e : board_of c.grow.new.self i.rounds i.history.items i.won ≡ b = ap (λ (h : Halves g.row.D.Denot). board_of h i.rounds i.history.items i.won) c.in-Err.ensures.kept ∙ c.self.view_is in
    subst (λ (o : WrittenBoard g.row.D.Denot). IsFresh s o c.args.counter c.args.version) (sym e) c.requires.fresh

pub refused-requires-clause-news : goal.refused-requires-clause-news
refused-requires-clause-news g c =
    let i = c.self.inside in
    let t : Tally = record { added = i.added; spent = i.spent; large = i.large } in
    let s = g.D.Domain.SORT in
    let b = c.args.self.now in
    let room = vec_capacity i.history in
    let k = opened s b i.halves t room i.rounds i.history.items i.won c.self.view_is c.self.invariant in
    let e : board_of c.grow.new.self i.rounds i.history.items i.won ≡ b = ap (λ (h : Halves g.row.D.Denot). board_of h i.rounds i.history.items i.won) c.in-Err.ensures.kept ∙ c.self.view_is in
    subst (λ (o : WrittenBoard g.row.D.Denot). IsNews s o c.args.counter) (sym e) c.requires.news

pub refused-requires-clause-left : goal.refused-requires-clause-left
refused-requires-clause-left g c =
    let i = c.self.inside in
    let t : Tally = record { added = i.added; spent = i.spent; large = i.large } in
    let s = g.D.Domain.SORT in
    let b = c.args.self.now in
    let room = vec_capacity i.history in
    let k = opened s b i.halves t room i.rounds i.history.items i.won c.self.view_is c.self.invariant in
    let e : board_of c.grow.new.self i.rounds i.history.items i.won ≡ b = ap (λ (h : Halves g.row.D.Denot). board_of h i.rounds i.history.items i.won) c.in-Err.ensures.kept ∙ c.self.view_is in
    subst (λ (o : WrittenBoard g.row.D.Denot). (state_of s o).rounds < o.rounds) (sym e) c.requires.left

pub refused-requires-clause-large : goal.refused-requires-clause-large
refused-requires-clause-large g c =
    let i = c.self.inside in
    let t : Tally = record { added = i.added; spent = i.spent; large = i.large } in
    let s = g.D.Domain.SORT in
    let b = c.args.self.now in
    let room = vec_capacity i.history in
    let k = opened s b i.halves t room i.rounds i.history.items i.won c.self.view_is c.self.invariant in
    let e : board_of c.grow.new.self i.rounds i.history.items i.won ≡ b = ap (λ (h : Halves g.row.D.Denot). board_of h i.rounds i.history.items i.won) c.in-Err.ensures.kept ∙ c.self.view_is in
    λ n x.
    let l : IsTooLarge (skeleton_of c.args.counter.paths.tree) (half_of c.args.counter.side i.halves) n =
    subst (λ (a : Side). IsTooLarge (skeleton_of c.args.counter.paths.tree) (half_of a i.halves) n) c.side-side.ensures
    (subst (λ (S : WrittenSkeleton). IsTooLarge (skeleton_of S.tree) (half_of c.side-side.result i.halves) n) c.paths.ensures.value (c.grow.ensures.large n (subst (λ (f : GrowFault). c.grow.result ≡ Err f) x c.in-Err.is))) in
    let j = too_large_is (half_of c.args.counter.side i.halves) (of_side c.args.counter.side (state_of s b)) (skeleton_of c.args.counter.paths.tree) n (side_is c.args.counter.side i.halves t (state_of s b) k.matches) l in
    (subst (λ (o : WrittenBoard g.row.D.Denot). n ≡ joint_nodes s o c.args.counter) (sym e) j, l.1)

pub returns-in-Err-clause-published : goal.returns-in-Err-clause-published
returns-in-Err-clause-published g c =
    let i = c.self.inside in
    let t : Tally = record { added = i.added; spent = i.spent; large = i.large } in
    let s = g.D.Domain.SORT in
    let b = c.args.self.now in
    let room = vec_capacity i.history in
    let k = opened s b i.halves t room i.rounds i.history.items i.won c.self.view_is c.self.invariant in
    let e : board_of c.grow.new.self i.rounds i.history.items i.won ≡ b = ap (λ (h : Halves g.row.D.Denot). board_of h i.rounds i.history.items i.won) c.in-Err.ensures.kept ∙ c.self.view_is in
    subst (λ (o : WrittenBoard g.row.D.Denot). IfOk c.refused.result (λ r. Publishes s o c.args.counter c.args.version r c.refused.new.self)) e c.refused.ensures.published

pub returns-in-Err-clause-kept : goal.returns-in-Err-clause-kept
returns-in-Err-clause-kept g c =
    let i = c.self.inside in
    let t : Tally = record { added = i.added; spent = i.spent; large = i.large } in
    let s = g.D.Domain.SORT in
    let b = c.args.self.now in
    let room = vec_capacity i.history in
    let k = opened s b i.halves t room i.rounds i.history.items i.won c.self.view_is c.self.invariant in
    let e : board_of c.grow.new.self i.rounds i.history.items i.won ≡ b = ap (λ (h : Halves g.row.D.Denot). board_of h i.rounds i.history.items i.won) c.in-Err.ensures.kept ∙ c.self.view_is in
    subst (λ (o : WrittenBoard g.row.D.Denot). OnErr c.refused.result (c.refused.new.self ≡ o)) e c.refused.ensures.kept
