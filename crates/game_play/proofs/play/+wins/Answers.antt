use Rattle.std.specs.Prelude.{ℕ, suc, ◌≡◌, ◌+◌, ◌-◌, ◌∷◌, List, Ok, Err, get_or, take, drop, length}
use Rattle.std.proofs.Common.{arith, ap, ◌∙◌, sym, subst, refl}
use Rattle.lin_term.specs.Linear.{Value}
use Rattle.dom_core.specs.declared.Quant.{Quant}
use Rattle.dom_core.specs.declared.Quant.TheVariants.{Exists}
use Rattle.dom_core.specs.Game.{flip_all}
use Rattle.dom_core.specs.View.{matrix_of}
use Rattle.game_tree.specs.Skeleton.{IsMoveAt, Follows}
use Rattle.game_tree.specs.View.{skeleton_of}
use Rattle.game_play.specs.Course.{IsOver}
use Rattle.game_play.specs.Play.{play, with_move}
use Rattle.game_play.proofs.Turns.{at_end, split_first, longer, move_past, move_played, some_short, some_won, some_more, some_done, every_short, every_lost, every_more, every_done, own_course, other_course, values_same, branch_follows, own_moves, own_rest, other_moves, other_rest}
use Rattle.game_play.proofs.play.+wins.Goals as goal

pub each_wins-loop-branch-init : goal.each_wins-loop-branch-init
each_wins-loop-branch-init t c = record { values = refl; course = (refl, refl) }

pub some_wins-loop-branch-init : goal.some_wins-loop-branch-init
some_wins-loop-branch-init t c = record { values = refl; course = (refl, refl) }

pub each_wins-wins_with-requires : goal.each_wins-wins_with-requires
each_wins-wins_with-requires t c =
    let s = c.args.sort in
    let qs = c.args.rest.now in
    let n : length c.args.values.now ≡ length c.loop-branch.values = ap (λ (xs : List Value). length xs) (sym c.loop-branch.invariant.values) in
    let b = branch_follows c.args.branches.now s (flip_all qs) (length c.args.values.now) c.loop-branch.branch-index c.branch-item.result c.loop-branch-test.true c.branch-item.is c.requires.other in (
      omega arith,
      (
        subst (λ (k : ℕ). IsOver (matrix_of c.args.matrix.now) (k + (1 + length qs))) n c.requires.matrix,
        (
          subst (λ (k : ℕ). IsMoveAt s k c.branch-item.result.term) n b.0,
          (
            subst (λ (k : ℕ). Follows (skeleton_of c.args.own.now) s qs (suc k)) n c.requires.own,
            subst (λ (k : ℕ). Follows (skeleton_of c.branch-item.result.rest) s (flip_all qs) (suc k)) n b.1,
          ),
        ),
      ),
    )

pub some_wins-wins_with-requires : goal.some_wins-wins_with-requires
some_wins-wins_with-requires t c =
    let s = c.args.sort in
    let qs = c.args.rest.now in
    let n : length c.args.values.now ≡ length c.loop-branch.values = ap (λ (xs : List Value). length xs) (sym c.loop-branch.invariant.values) in
    let b = branch_follows c.args.branches.now s qs (length c.args.values.now) c.loop-branch.branch-index c.branch-item.result c.loop-branch-test.true c.branch-item.is c.requires.own in (
      omega arith,
      (
        subst (λ (k : ℕ). IsOver (matrix_of c.args.matrix.now) (k + (1 + length qs))) n c.requires.matrix,
        (
          subst (λ (k : ℕ). IsMoveAt s k c.branch-item.result.term) n b.0,
          (
            subst (λ (k : ℕ). Follows (skeleton_of c.branch-item.result.rest) s qs (suc k)) n b.1,
            subst (λ (k : ℕ). Follows (skeleton_of c.args.other.now) s (flip_all qs) (suc k)) n c.requires.other,
          ),
        ),
      ),
    )

pub each_wins-returns-in-Err-clause-value : goal.each_wins-returns-in-Err-clause-value
each_wins-returns-in-Err-clause-value t c =
    let F = other_course c.args.rest.now c.args.sort (matrix_of c.args.matrix.now) (skeleton_of c.args.own.now) c.args.values.now in
    every_short c.args.branches.now F c.loop-branch.branch-index c.branch-item.result c.in-Err.fault c.loop-branch-test.true c.branch-item.is c.loop-branch.invariant.course
    (values_same c.args.rest.now c.args.sort (matrix_of c.args.matrix.now) c.branch-item.result.term (skeleton_of c.args.own.now) (skeleton_of c.branch-item.result.rest) c.args.values.now c.loop-branch.values (Err c.in-Err.fault) c.loop-branch.invariant.values c.in-Err.ensures.value)

pub some_wins-returns-in-Err-clause-value : goal.some_wins-returns-in-Err-clause-value
some_wins-returns-in-Err-clause-value t c =
    let F = own_course c.args.rest.now c.args.sort (matrix_of c.args.matrix.now) (skeleton_of c.args.other.now) c.args.values.now in
    some_short c.args.branches.now F c.loop-branch.branch-index c.branch-item.result c.in-Err.fault c.loop-branch-test.true c.branch-item.is c.loop-branch.invariant.course
    (values_same c.args.rest.now c.args.sort (matrix_of c.args.matrix.now) c.branch-item.result.term (skeleton_of c.branch-item.result.rest) (skeleton_of c.args.other.now) c.args.values.now c.loop-branch.values (Err c.in-Err.fault) c.loop-branch.invariant.values c.in-Err.ensures.value)

pub each_wins-returns-then-not-one-clause-value : goal.each_wins-returns-then-not-one-clause-value
each_wins-returns-then-not-one-clause-value t c =
    let F = other_course c.args.rest.now c.args.sort (matrix_of c.args.matrix.now) (skeleton_of c.args.own.now) c.args.values.now in
    every_lost c.args.branches.now F c.loop-branch.branch-index c.branch-item.result c.in-Ok.one c.loop-branch-test.true c.branch-item.is c.loop-branch.invariant.course c.if-not-one.true
    (values_same c.args.rest.now c.args.sort (matrix_of c.args.matrix.now) c.branch-item.result.term (skeleton_of c.args.own.now) (skeleton_of c.branch-item.result.rest) c.args.values.now c.loop-branch.values (Ok c.in-Ok.one) c.loop-branch.invariant.values c.in-Ok.ensures.value)

pub each_wins-returns-then-not-one-clause-back : goal.each_wins-returns-then-not-one-clause-back
each_wins-returns-then-not-one-clause-back t c = c.in-Ok.ensures.back ∙ c.loop-branch.invariant.values

pub each_wins-loop-branch-preserved : goal.each_wins-loop-branch-preserved
each_wins-loop-branch-preserved t c =
    let F = other_course c.args.rest.now c.args.sort (matrix_of c.args.matrix.now) (skeleton_of c.args.own.now) c.args.values.now in
    record {
      values = c.in-Ok.ensures.back ∙ c.loop-branch.invariant.values;
      course = every_more c.args.branches.now F c.loop-branch.branch-index c.branch-item.result c.in-Ok.one c.loop-branch-test.true c.branch-item.is c.loop-branch.invariant.course c.if-not-one.false
          (values_same c.args.rest.now c.args.sort (matrix_of c.args.matrix.now) c.branch-item.result.term (skeleton_of c.args.own.now) (skeleton_of c.branch-item.result.rest) c.args.values.now c.loop-branch.values (Ok c.in-Ok.one) c.loop-branch.invariant.values c.in-Ok.ensures.value);
    }

pub each_wins-returns-clause-value : goal.each_wins-returns-clause-value
each_wins-returns-clause-value t c =
    let F = other_course c.args.rest.now c.args.sort (matrix_of c.args.matrix.now) (skeleton_of c.args.own.now) c.args.values.now in
    every_done c.args.branches.now F c.loop-branch.branch-index c.loop-branch-test.false c.loop-branch.invariant.course

pub each_wins-returns-clause-back : goal.each_wins-returns-clause-back
each_wins-returns-clause-back t c = c.loop-branch.invariant.values

pub some_wins-returns-then-one-clause-value : goal.some_wins-returns-then-one-clause-value
some_wins-returns-then-one-clause-value t c =
    let F = own_course c.args.rest.now c.args.sort (matrix_of c.args.matrix.now) (skeleton_of c.args.other.now) c.args.values.now in
    some_won c.args.branches.now F c.loop-branch.branch-index c.branch-item.result c.in-Ok.one c.loop-branch-test.true c.branch-item.is c.loop-branch.invariant.course c.if-one.true
    (values_same c.args.rest.now c.args.sort (matrix_of c.args.matrix.now) c.branch-item.result.term (skeleton_of c.branch-item.result.rest) (skeleton_of c.args.other.now) c.args.values.now c.loop-branch.values (Ok c.in-Ok.one) c.loop-branch.invariant.values c.in-Ok.ensures.value)

pub some_wins-returns-then-one-clause-back : goal.some_wins-returns-then-one-clause-back
some_wins-returns-then-one-clause-back t c = c.in-Ok.ensures.back ∙ c.loop-branch.invariant.values

pub some_wins-loop-branch-preserved : goal.some_wins-loop-branch-preserved
some_wins-loop-branch-preserved t c =
    let F = own_course c.args.rest.now c.args.sort (matrix_of c.args.matrix.now) (skeleton_of c.args.other.now) c.args.values.now in
    record {
      values = c.in-Ok.ensures.back ∙ c.loop-branch.invariant.values;
      course = some_more c.args.branches.now F c.loop-branch.branch-index c.branch-item.result c.in-Ok.one c.loop-branch-test.true c.branch-item.is c.loop-branch.invariant.course c.if-one.false
          (values_same c.args.rest.now c.args.sort (matrix_of c.args.matrix.now) c.branch-item.result.term (skeleton_of c.branch-item.result.rest) (skeleton_of c.args.other.now) c.args.values.now c.loop-branch.values (Ok c.in-Ok.one) c.loop-branch.invariant.values c.in-Ok.ensures.value);
    }

pub some_wins-returns-clause-value : goal.some_wins-returns-clause-value
some_wins-returns-clause-value t c =
    let F = own_course c.args.rest.now c.args.sort (matrix_of c.args.matrix.now) (skeleton_of c.args.other.now) c.args.values.now in
    some_done c.args.branches.now F c.loop-branch.branch-index c.loop-branch-test.false c.loop-branch.invariant.course

pub some_wins-returns-clause-back : goal.some_wins-returns-clause-back
some_wins-returns-clause-back t c = c.loop-branch.invariant.values

pub turn-some_wins-requires : goal.turn-some_wins-requires
turn-some_wins-requires t c =
    let k : ℕ = length c.args.values.now in (
      omega arith,
      (
        c.requires.matrix,
        (
          own_moves c.args.quant c.args.own.now c.in-Mine.branches c.as_slice.result.now c.args.sort c.args.rest.now k c.in-Exists.is c.in-Mine.is c.as_slice.ensures c.requires.own,
          other_rest c.args.quant c.args.other.now c.in-Theirs.below c.get.result.now c.args.sort c.args.rest.now k c.in-Exists.is c.in-Theirs.is c.get.ensures c.requires.other,
        ),
      ),
    )

pub turn-each_wins-requires : goal.turn-each_wins-requires
turn-each_wins-requires t c =
    let k : ℕ = length c.args.values.now in (
      omega arith,
      (
        c.requires.matrix,
        (
          own_rest c.args.quant c.args.own.now c.in-Theirs-own.below c.get-in-Mine-other.result.now c.args.sort c.args.rest.now k c.in-Forall.is c.in-Theirs-own.is c.get-in-Mine-other.ensures c.requires.own,
          other_moves c.args.quant c.args.other.now c.in-Mine-other.branches c.as_slice-in-Mine-other.result.now c.args.sort c.args.rest.now k c.in-Forall.is c.in-Mine-other.is c.as_slice-in-Mine-other.ensures c.requires.other,
        ),
      ),
    )

pub wins-turn-requires : goal.wins-turn-requires
wins-turn-requires t c =
    let qs = c.args.prefix.now in
    let rest : List Quant = take (length qs - 1) (drop 1 qs) in
    let k : ℕ = length c.args.values.now in
    let e : qs ≡ get_or qs 0 Exists ∷ rest = split_first qs Exists c.in-len1-up.len_at_least in
    let n : length qs ≡ suc (length rest) = ap (λ (xs : List Quant). length xs) e in (
      omega arith,
      (
        subst (λ (j : ℕ). IsOver (matrix_of c.args.matrix.now) j) (let i : k + length qs ≡ k + (1 + length rest) = omega (arith, n) in i) c.requires.matrix,
        (
          subst (λ (xs : List Quant). Follows (skeleton_of c.args.own.now) c.args.sort xs k) e c.requires.own,
          subst (λ (xs : List Quant). Follows (skeleton_of c.args.other.now) c.args.sort (flip_all xs) k) e c.requires.other,
        ),
      ),
    )

pub wins-returns-in-empty-clause-value : goal.wins-returns-in-empty-clause-value
wins-returns-in-empty-clause-value t c =
    at_end c.args.prefix.now c.args.sort (matrix_of c.args.matrix.now) (skeleton_of c.args.own.now) (skeleton_of c.args.other.now) c.args.values.now c.as_slice.result.now c.holds.result c.without_memory.result
    c.in-empty.len_below c.as_slice.ensures c.holds.ensures c.without_memory.ensures

pub wins_with-returns-in-Err-clause-value : goal.wins_with-returns-in-Err-clause-value
wins_with-returns-in-Err-clause-value t c =
    let vs = c.args.values.now in
    move_past c.args.sort c.args.term.now vs c.as_slice.result.now (play c.args.rest.now c.args.sort (matrix_of c.args.matrix.now) (skeleton_of c.args.own.now) (skeleton_of c.args.other.now) (with_move c.args.sort c.args.term.now vs))
    c.in-Err.wide.number c.as_slice.ensures c.in-Err.ensures

pub wins_with-wins-requires : goal.wins_with-wins-requires
wins_with-wins-requires t c =
    let vs = c.args.values.now in
    let ws = c.push.new.self in
    let r : ℕ = length c.args.rest.now in
    let n : length ws ≡ suc (length vs) = longer vs ws c.in-Ok.value c.in_ok-push.ensures.ok in (
      omega arith,
      (
        subst (λ (j : ℕ). IsOver (matrix_of c.args.matrix.now) j) (let i : length vs + (1 + r) ≡ length ws + r = omega (arith, n) in i) c.requires.matrix,
        (
          subst (λ (j : ℕ). Follows (skeleton_of c.args.own.now) c.args.sort c.args.rest.now j) (sym n) c.requires.own,
          subst (λ (j : ℕ). Follows (skeleton_of c.args.other.now) c.args.sort (flip_all c.args.rest.now) j) (sym n) c.requires.other,
        ),
      ),
    )

pub wins_with-returns-in-Err-wins-clause-value : goal.wins_with-returns-in-Err-wins-clause-value
wins_with-returns-in-Err-wins-clause-value t c =
    move_played c.args.rest.now c.args.sort (matrix_of c.args.matrix.now) c.args.term.now (skeleton_of c.args.own.now) (skeleton_of c.args.other.now) c.args.values.now c.as_slice.result.now c.push.new.self c.in-Ok.value (Err c.in-Err-wins.fault)
    c.as_slice.ensures c.in-Ok.ensures c.in_ok-push.ensures.ok c.in-Err-wins.ensures.value

pub wins_with-returns-clause-value : goal.wins_with-returns-clause-value
wins_with-returns-clause-value t c =
    move_played c.args.rest.now c.args.sort (matrix_of c.args.matrix.now) c.args.term.now (skeleton_of c.args.own.now) (skeleton_of c.args.other.now) c.args.values.now c.as_slice.result.now c.push.new.self c.in-Ok.value (Ok c.in-Ok-wins.won)
    c.as_slice.ensures c.in-Ok.ensures c.in_ok-push.ensures.ok c.in-Ok-wins.ensures.value
