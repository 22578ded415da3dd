use Rattle.std.specs.Prelude.{Some, cond}
use Rattle.std.specs.BTreeMap.{get, is_at}
use Rattle.std.proofs.Common.{ap, ◌∙◌, sym}
use Rattle.game_tree.specs.declared.key.MoveKey.{MoveKey}
use Rattle.game_tree.specs.Known.{key_cmp}
use Rattle.game_tree.proofs.Placing.{knows_old, knows_new}
use Rattle.game_tree.proofs.places.place_or.Goals as goal

pub returns-in-Some : goal.returns-in-Some
returns-in-Some c =
    λ ms h e. let k : MoveKey = record { term = c.args.term } in knows_old c.args.known.now ms k c.in-Some.place.now h (sym c.in-Some.ensures.value)

pub returns : goal.returns
returns c =
    λ ms h e.
    let k : MoveKey = record { term = c.args.term } in
    let w = knows_new c.args.known.now c.insert.new.self ms k h (sym c.in-None.ensures.value)
    (λ q. c.in_ok-insert.ensures.updates.0 q ∙ ap (λ n. cond (is_at (key_cmp k) q) (Some n) (get key_cmp c.args.known.now q)) e) in
    (e ∙ w.0, w.1)
