use Rattle.std.proofs.Common.{ℕ, ℤ, List, ◌≡◌, ◌≢◌, ◌∙◌, pos, nat_abs, ap, sym, subst, w64, SFits, to_z-of_z, to_z, of_z}
use mir.Syntax.{w128}
use Rattle.lin_term.specs.Form.{Form, AreTerms}
use Rattle.lin_term.specs.Literal.{Lit, form_of, prim}
use Rattle.lin_term.specs.PutIn.{coef, put_raw}
use Rattle.lin_term.specs.Wide.{Capped, lit_numbers}
use Rattle.lin_term.proofs.Terms.{word_of}
use Rattle.lin_term.proofs.PuttingLemmas.{absent, present, put_absent, put_present}
use Rattle.lin_term.proofs.putting.put_in.Goals as goal

pub returns-then-c-eq0 : goal.returns-then-c-eq0
returns-then-c-eq0 c =
    let l : Lit = c.args.lit.now in
    let a = subst (λ (us : List (ℕ × ℤ)). AreTerms 0 us) (c.coefs-terms.ensures.terms ∙ ap (λ (f : Form). f.terms) c.row-row.ensures) c.coefs-terms.ensures.kept in
    let z : coef (form_of l).terms c.args.var ≡ pos 0 = ap (λ (f : Form). coef f.terms c.args.var) (sym c.row-row.ensures) ∙ sym c.coefficient_at-c.ensures.value ∙ sym (word_of c.coefficient_at-c.result c.coefficient_at-c.ensures.size) ∙ ap (to_z w64) c.if-c-eq0.true in
    let e = put_absent c.args.sort c.args.var (nat_abs c.args.a) (record { terms = c.args.terms.now; constant = c.args.constant }) l (absent 0 (form_of l).terms c.args.var a z) in
    subst (λ (m : Lit). Capped (lit_numbers m) m c.copied.result) (sym e) c.copied.ensures

pub returns : goal.returns
returns c =
    let fa : SFits w64 c.args.a = c.ranges.a in
    let fk : SFits w128 c.args.constant = c.ranges.constant in
    let l : Lit = c.args.lit.now in
    let t : Form = record { terms = c.args.terms.now; constant = c.args.constant } in
    let z : coef (form_of l).terms c.args.var ≢ pos 0 = λ e. c.if-c-eq0.false (ap (of_z w64) (c.coefficient_at-c.ensures.value ∙ ap (λ (f : Form). coef f.terms c.args.var) c.row-row.ensures ∙ e)) in
    let e = put_present c.args.sort c.args.var (nat_abs c.args.a) t l (present (form_of l).terms c.args.var z) in
    let s : prim c.args.sort (put_raw c.args.var (nat_abs (to_z w64 (of_z w64 c.args.a))) (record { terms = c.args.terms.now; constant = to_z w128 (of_z w128 c.args.constant) }) l) ≡ prim c.args.sort (put_raw c.args.var (nat_abs c.args.a) t l) = simp to_z-of_z in
    subst (λ (m : Lit). Capped (lit_numbers m) m c.put_there.result) (s ∙ sym e) c.put_there.ensures
