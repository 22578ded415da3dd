use Rattle.std.specs.Prelude.{ℕ, ℤ, ◌≡◌, ◌≤◌, ◌^◌, ◌-ℤ◌, pos, neg_ℤ, nat_abs}
use Rattle.std.proofs.Common.{arith, subst, sym, ap, ◌∙◌, w64, to_z, of_z}
use Rattle.std.proofs.lemmas.Int.{ints}
use Rattle.lin_term.specs.Form.{cap}
use Rattle.lin_term.specs.Linear.{Form, rename}
use Rattle.lin_term.proofs.Terms.{word_of}
use Rattle.lin_term.proofs.Defining.{kept_upper}
use Rattle.lin_term.proofs.KeptMoves.{of_word}
use Rattle.lin_term.proofs.AtNames.{few_rise, rising_at, row_below, up_below, upper_made, lower_made}
use Rattle.lin_term.specs.Rising.{IsRisingAt}
use Rattle.lin_term.proofs.definition.definition_literals.Goals as goal

minus_is : (z y : ℤ) (n : ℕ) → y ≡ pos 0 -ℤ to_z w64 (of_z w64 z) → nat_abs y ≤ cap → z ≡ pos n → nat_abs z ≤ cap → to_z w64 (of_z w64 y) ≡ neg_ℤ (pos n)
minus_is z y n e h i l =
    word_of y h ∙ e ∙ ap (λ (x : ℤ). pos 0 -ℤ x) (word_of z l ∙ i) ∙ (let q : pos 0 -ℤ pos n ≡ neg_ℤ (pos n) = omega (arith, ints) in q)

pub renamed_row-requires-clause-rising : goal.renamed_row-requires-clause-rising
renamed_row-requires-clause-rising c =
    subst (λ (f : Form). IsRisingAt c.args.names.now f.terms (2 ^ 20)) (sym c.row.ensures)
    (rising_at c.args.names.now c.args.term.now.numer.terms (2 ^ 20) (few_rise c.args.sort c.args.term.now c.args.names.now c.args.node c.requires) c.requires.named)

pub with_last-requires-clause-below : goal.with_last-requires-clause-below
with_last-requires-clause-below c =
    up_below c.args.sort c.args.term.now c.args.names.now c.args.node c.in_ok-row.row c.in_ok-upper.upper c.requires (c.in_ok-row.ensures ∙ ap (rename c.args.names.now) c.row.ensures) c.in_ok-upper.ensures

pub with_last-requires-clause-constant_kept : goal.with_last-requires-clause-constant_kept
with_last-requires-clause-constant_kept c =
    let d = c.definition_constant-above.ensures in
    subst (λ (z : ℤ). nat_abs z ≤ cap) (sym (of_word c.definition_constant-above.result d.size ∙ d.value)) (kept_upper c.args.sort c.args.term.now d.of_move c.requires.kept)

pub with_last-requires-2-clause-below : goal.with_last-requires-2-clause-below
with_last-requires-2-clause-below c =
    row_below c.args.sort c.args.term.now c.args.names.now c.args.node c.in_ok-row.row c.requires (c.in_ok-row.ensures ∙ ap (rename c.args.names.now) c.row.ensures)

pub returns-clause-upper : goal.returns-clause-upper
returns-clause-upper c =
    let d = c.definition_constant-above.ensures in
    upper_made c.args.sort c.args.term.now c.args.names.now c.args.node c.in_ok-row.row c.in_ok-upper.upper c.in_ok-upper-2.upper (to_z w64 (of_z w64 c.div-div.result)) (to_z w64 (of_z w64 c.definition_constant-above.result)) c.requires d.of_move (c.in_ok-row.ensures ∙ ap (rename c.args.names.now) c.row.ensures) c.in_ok-upper.ensures (word_of c.div-div.result c.div-div.ensures.greatest ∙ c.div-div.ensures.value) (of_word c.definition_constant-above.result d.size ∙ d.value) c.in_ok-upper-2.ensures

pub returns-clause-lower : goal.returns-clause-lower
returns-clause-lower c =
    let d = c.definition_constant-above.ensures in
    lower_made c.args.sort c.args.term.now c.args.names.now c.args.node c.in_ok-row.row c.in_ok-lower.lower _ (to_z w64 (of_z w64 c.constant_part-constant.result)) c.requires d.of_move (c.in_ok-row.ensures ∙ ap (rename c.args.names.now) c.row.ensures) (minus_is c.div-div.result c.minus.result c.args.term.now.div c.minus.ensures.value c.minus.ensures.size c.div-div.ensures.value c.div-div.ensures.greatest) (word_of c.constant_part-constant.result c.constant_part-constant.ensures.kept ∙ c.constant_part-constant.ensures.value) c.in_ok-lower.ensures
