use Rattle.std.proofs.Common.{ℕ, List, ◌≡◌, ◌+◌, ◌++◌, [], ◌∙◌, ap, sym, append_assoc, drop, get_or}
use Rattle.std.proofs.lemmas.List.{at_drop_more}
use Rattle.dom_core.specs.Game.{flip}
use Rattle.dom_core.specs.declared.Quant.{Quant}
use Rattle.prenex_form.specs.Prenex.{quants, repeat}
use Rattle.prenex_form.proofs.Lengths.{repeat_append}
use Rattle.prenex_form.proofs.prefix.prefix_of.Goals as goal

pub loop-size-preserved : goal.loop-size-preserved
loop-size-preserved c =
    let sizes : List ℕ = c.args.sizes.now in
    let i = c.loop-size.size-index in
    let q = c.loop-size.quant in
    let b = get_or sizes i 0 in
    let rest : List Quant = quants (flip q) (drop (i + 1) sizes) in
    let f : quants c.flipped-quant.result (drop (i + 1) sizes) ≡ rest = ap (λ (r : Quant). quants r (drop (i + 1) sizes)) c.flipped-quant.ensures in
    let m : quants q (drop i sizes) ≡ repeat b q rest = at_drop_more (quants q) sizes i 0 c.loop-size-test.true in
    ap (λ (qs : List Quant). qs ++ quants c.flipped-quant.result (drop (i + 1) sizes)) c.in_ok-push_block.ensures
    ∙ append_assoc c.loop-size.prefix (repeat b q []) (quants c.flipped-quant.result (drop (i + 1) sizes))
    ∙ ap (λ (qs : List Quant). c.loop-size.prefix ++ qs) (ap (λ (qs : List Quant). repeat b q [] ++ qs) f ∙ repeat_append b q rest ∙ sym m)
    ∙ c.loop-size.invariant
