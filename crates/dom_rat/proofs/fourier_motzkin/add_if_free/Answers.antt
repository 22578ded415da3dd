use Rattle.std.specs.Prelude.{Ok}
use Rattle.std.proofs.Common.{ℕ, ℤ, List, ◌≡◌, ◌≤◌, ◌∙◌, [], ◌∷◌, ◌++◌, pos, nat_abs, ap, sym, subst, w64, to_z, of_z}
use Rattle.lin_term.specs.Form.{Form, IsRow, AreTerms, cap}
use Rattle.lin_term.specs.declared.Lit.{Lit}
use Rattle.lin_term.specs.Literal.{form_of}
use Rattle.lin_term.specs.PutIn.{coef}
use Rattle.lin_term.proofs.Terms.{word_of}
use Rattle.dom_core.specs.Adding.{AddsCube}
use Rattle.dom_rat.proofs.Summing.{free_one, added_one, rat_fits}
use Rattle.dom_rat.proofs.fourier_motzkin.add_if_free.Goals as goal

pub returns-in-Ok-push : goal.returns-in-Ok-push
returns-in-Ok-push c =
    let l : Lit = c.args.lit.now in
    let x = c.args.var in
    let terms = subst (λ (us : List (ℕ × ℤ)). AreTerms 0 us) c.coefs-terms.ensures.terms c.coefs-terms.ensures.kept in
    let constant = subst (λ (z : ℤ). nat_abs z ≤ cap) c.constant_part-constant.ensures.value c.constant_part-constant.ensures.kept in
    let row = subst (λ (f : Form). IsRow f) c.row-row.ensures (terms, constant) in
    let z = sym c.is_without.ensures ∙ c.if-not-is_without.false in
    let new = c.in-Ok-push.ensures.ok ∙ ap (λ (m : Lit). c.args.out.now ++ m ∷ []) c.in-Ok.ensures in
    subst (λ (ls : List Lit). AddsCube c.args.out.now c.push.new.self ls (Ok tt)) (sym (free_one x l z)) (added_one c.args.out.now c.push.new.self l (rat_fits l row c.requires) new)
