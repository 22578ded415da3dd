use Rattle.std.specs.Prelude.{ℕ, ℤ, pos, nat_abs, ◌≤◌, List, length, get_or}
use Rattle.std.proofs.Common.{◌∙◌, sym, subst, w64, to_z, of_z}
use Rattle.lin_term.specs.Form.{Form, IsRow, cap}
use Rattle.lin_term.specs.Linear.{BelowTerms}
use Rattle.lin_term.proofs.AtNames.{renamed_more, renamed_all, below_index, renamed_row_at, same_coef}
use Rattle.lin_term.proofs.Terms.{word_of, term_kept}
use Rattle.lin_term.proofs.renaming.renamed_row.Goals as goal

pub loop-var-init : goal.loop-var-init
loop-var-init c = record { items = c.coefs-var-items.ensures.terms; so_far = c.in_ok-coefs.ensures.items }

pub bounds-names-var : goal.bounds-names-var
bounds-names-var c =
    below_index (length c.args.names.now) c.coefs-var-items.result.now c.loop-var.var-index (subst (λ (ts : List (ℕ × ℤ)). BelowTerms (length c.args.names.now) ts) (sym c.coefs-var-items.ensures.terms) c.requires.below) c.loop-var-test.true

pub loop-var-preserved : goal.loop-var-preserved
loop-var-preserved c =
    let z = word_of (get_or c.coefs-var-items.result.now c.loop-var.var-index (0, pos 0)).1 (term_kept 0 c.coefs-var-items.result.now c.loop-var.var-index (0, pos 0) c.loop-var-test.true c.coefs-var-items.ensures.kept) in
    record { items = c.loop-var.invariant.items; so_far = c.in-Ok.ensures.ok ∙ same_coef c.loop-var.coefs.items _ _ _ z ∙ renamed_more c.args.names.now c.coefs-var-items.result.now c.loop-var.coefs.items c.loop-var.var-index c.loop-var-test.true c.loop-var.invariant.so_far }

pub from_parts-requires : goal.from_parts-requires
from_parts-requires c =
    let z = word_of c.constant_part.result c.constant_part.ensures.kept in
    subst (λ (f : Form). IsRow f)
    (sym (renamed_all c.args.names.now c.args.row.now c.loop-var.coefs.items (to_z w64 (of_z w64 c.constant_part.result)) c.coefs-var-items.result.now c.loop-var.var-index c.loop-var-test.false c.coefs-var-items.ensures.terms c.loop-var.invariant.so_far (z ∙ c.constant_part.ensures.value)))
    (renamed_row_at c.args.names.now c.args.row.now c.requires.rising (subst (λ (ts : List (ℕ × ℤ)). IsRow (record { terms = ts; constant = c.args.row.now.constant })) c.coefs-var-items.ensures.terms (c.coefs-var-items.ensures.kept, subst (λ (y : ℤ). nat_abs y ≤ cap) c.constant_part.ensures.value c.constant_part.ensures.kept)))

pub returns : goal.returns
returns c =
    let z = word_of c.constant_part.result c.constant_part.ensures.kept in
    c.from_parts.ensures ∙ renamed_all c.args.names.now c.args.row.now c.loop-var.coefs.items (to_z w64 (of_z w64 c.constant_part.result)) c.coefs-var-items.result.now c.loop-var.var-index c.loop-var-test.false c.coefs-var-items.ensures.terms c.loop-var.invariant.so_far (z ∙ c.constant_part.ensures.value)
