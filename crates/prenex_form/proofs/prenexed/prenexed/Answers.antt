use Rattle.std.proofs.Common.{ℕ, List, ◌≡◌, ◌≤◌, [], ◌∙◌, ap, ap₂, sym, subst, arith}
use Rattle.dom_core.specs.declared.Quant.TheVariants.{Exists}
use Rattle.norm_form.specs.Normal.{Normal}
use Rattle.norm_form.specs.Load.{weigh}
use Rattle.norm_form.specs.View.{shape_of}
use Rattle.prenex_form.specs.Prenex.{prenex, quants}
use Rattle.prenex_form.specs.Pass.{taken, put, starts, sum_of, HasRoom, CanPut}
use Rattle.norm_form.specs.Outcome.{binder_rate}
use Rattle.prenex_form.proofs.Blocks.{counted_blocks}
use Rattle.prenex_form.proofs.Counted.{blocks_are}
use Rattle.prenex_form.proofs.Handing.{whole_put}
use Rattle.prenex_form.proofs.Readying.{counting_room, starting_room, starting_put}
use Rattle.prenex_form.proofs.prenexed.prenexed.Goals as goal

-- as many variables as are counted
few : (n : Normal) → weigh n binder_rate ≤ 1024 → sum_of (prenex n 0).blocks ≤ 1024
few n h = let b = blocks_are n 0 in omega arith

pub count-requires : goal.count-requires
count-requires c =
    let n = shape_of c.args.form.now in
    subst (λ (xs : List ℕ). HasRoom n 0 xs) (sym c.new-sizes.ensures) (counting_room n c.requires.few)

pub starts_of-requires : goal.starts_of-requires
starts_of-requires c =
    let n = shape_of c.args.form.now in
    let e : c.as_slice-2.result.now ≡ (prenex n 0).blocks = c.as_slice-2.ensures ∙ c.in_ok-count.ensures ∙ ap (taken n 0) c.new-sizes.ensures ∙ counted_blocks n 0 in
    subst (λ (xs : List ℕ). sum_of xs ≤ 1024) (sym e) (few n c.requires.few)

pub place-requires-clause-room : goal.place-requires-clause-room
place-requires-clause-room c =
    let n = shape_of c.args.form.now in
    let e : c.as_slice-2.result.now ≡ (prenex n 0).blocks = c.as_slice-2.ensures ∙ c.in_ok-count.ensures ∙ ap (taken n 0) c.new-sizes.ensures ∙ counted_blocks n 0 in
    let s : c.in_ok-next.next ≡ starts 0 (prenex n 0).blocks = c.in_ok-next.ensures ∙ ap (starts 0) e in
    subst (λ (xs : List ℕ). HasRoom n 0 xs) (sym s) (starting_room n (prenex n 0).blocks c.requires.few (few n c.requires.few))

pub place-requires-clause-ready : goal.place-requires-clause-ready
place-requires-clause-ready c =
    let n = shape_of c.args.form.now in
    let e : c.as_slice-2.result.now ≡ (prenex n 0).blocks = c.as_slice-2.ensures ∙ c.in_ok-count.ensures ∙ ap (taken n 0) c.new-sizes.ensures ∙ counted_blocks n 0 in
    let s : c.in_ok-next.next ≡ starts 0 (prenex n 0).blocks = c.in_ok-next.ensures ∙ ap (starts 0) e in
    let p = starting_put n c.requires.closed.0 c.requires.closed.1 (few n c.requires.few) in
    subst (λ (ys : List ℕ). CanPut n 0 c.in_ok-next.next ys) (sym c.new-names.ensures) (subst (λ (xs : List ℕ). CanPut n 0 xs []) (sym s) p)

pub returns-clause-prefix : goal.returns-clause-prefix
returns-clause-prefix c =
    let n = shape_of c.args.form.now in
    let e : c.as_slice.result.now ≡ (prenex n 0).blocks = c.as_slice.ensures ∙ c.in_ok-count.ensures ∙ ap (taken n 0) c.new-sizes.ensures ∙ counted_blocks n 0 in
    c.in_ok-prefix.ensures ∙ ap (quants Exists) e

pub returns-clause-matrix : goal.returns-clause-matrix
returns-clause-matrix c =
    let n = shape_of c.args.form.now in
    let e : c.as_slice-2.result.now ≡ (prenex n 0).blocks = c.as_slice-2.ensures ∙ c.in_ok-count.ensures ∙ ap (taken n 0) c.new-sizes.ensures ∙ counted_blocks n 0 in
    let s : c.in_ok-next.next ≡ starts 0 (prenex n 0).blocks = c.in_ok-next.ensures ∙ ap (starts 0) e in
    c.in_ok-matrix.ensures.matrix ∙ ap₂ (put n 0) s c.new-names.ensures ∙ whole_put n c.requires.closed.0 c.requires.closed.1
