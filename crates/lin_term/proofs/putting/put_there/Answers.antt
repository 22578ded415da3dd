use Rattle.std.proofs.Common.{ℕ, ◌≡◌, ◌*◌, ◌∙◌, nat_abs, ap, sym, subst, w64, SFits, to_z-of_z, to_z, of_z}
use mir.Syntax.{w128}
use Rattle.lin_term.specs.Form.{Form}
use Rattle.lin_term.specs.Literal.{Lit, form_of, IsOf, prim}
use Rattle.lin_term.specs.Primable.{IsPrimable}
use Rattle.lin_term.specs.PutIn.{coef, put_raw, put_form}
use Rattle.lin_term.specs.PutWith.{put_with}
use Rattle.lin_term.specs.Settle.{settled, CappedResidues}
use Rattle.lin_term.specs.Wide.{Capped, form_numbers, lit_numbers}
use Rattle.lin_term.proofs.PuttingLemmas.{with_coef, prim_least, prim_strict, prim_divides, prim_not_divides, primable_divides, primable_not}
use Rattle.lin_term.proofs.putting.put_there.Goals as goal

pub returns-in-AtLeast : goal.returns-in-AtLeast
returns-in-AtLeast c =
    let fc : SFits w64 c.args.c = c.ranges.c in
    let fa : SFits w64 c.args.a = c.ranges.a in
    let fk : SFits w128 c.args.constant = c.ranges.constant in
    let n : ℕ = nat_abs c.args.a in
    let row : Form = c.in-AtLeast.row in
    let t : Form = record { terms = c.args.terms.now; constant = c.args.constant } in
    let e = with_coef row c.args.var c.args.c c.args.a t (c.requires.c_is ∙ ap (λ (l : Lit). coef (form_of l).terms c.args.var) c.in-AtLeast.is) c.requires.a_least in
    let s : put_with row c.args.var (to_z w64 (of_z w64 c.args.c)) (to_z w64 (of_z w64 c.args.a)) (record { terms = c.args.terms.now; constant = to_z w128 (of_z w128 c.args.constant) }) ≡ put_with row c.args.var c.args.c c.args.a t = simp to_z-of_z in
    let r = subst (λ (f : Form). Capped (form_numbers (settled c.args.sort f)) (settled c.args.sort f) c.put_row.result) (s ∙ e) c.put_row.ensures in
    let q = c.at_least.ensures (settled c.args.sort (put_form row c.args.var n t)) r in
    subst (λ (l : Lit). Capped (lit_numbers (prim c.args.sort (put_raw c.args.var n t l))) (prim c.args.sort (put_raw c.args.var n t l)) c.at_least.result) (sym c.in-AtLeast.is)
    (subst (λ (l : Lit). Capped (lit_numbers l) l c.at_least.result) (sym (prim_least c.args.sort (put_form row c.args.var n t))) q)

pub returns-in-Above : goal.returns-in-Above
returns-in-Above c =
    let fc : SFits w64 c.args.c = c.ranges.c in
    let fa : SFits w64 c.args.a = c.ranges.a in
    let fk : SFits w128 c.args.constant = c.ranges.constant in
    let n : ℕ = nat_abs c.args.a in
    let row : Form = c.in-Above.row in
    let t : Form = record { terms = c.args.terms.now; constant = c.args.constant } in
    let e = with_coef row c.args.var c.args.c c.args.a t (c.requires.c_is ∙ ap (λ (l : Lit). coef (form_of l).terms c.args.var) c.in-Above.is) c.requires.a_least in
    let s : put_with row c.args.var (to_z w64 (of_z w64 c.args.c)) (to_z w64 (of_z w64 c.args.a)) (record { terms = c.args.terms.now; constant = to_z w128 (of_z w128 c.args.constant) }) ≡ put_with row c.args.var c.args.c c.args.a t = simp to_z-of_z in
    let r = subst (λ (f : Form). Capped (form_numbers (settled c.args.sort f)) (settled c.args.sort f) c.put_row-in-Above.result) (s ∙ e) c.put_row-in-Above.ensures in
    let q = c.above.ensures (settled c.args.sort (put_form row c.args.var n t)) r in
    subst (λ (l : Lit). Capped (lit_numbers (prim c.args.sort (put_raw c.args.var n t l))) (prim c.args.sort (put_raw c.args.var n t l)) c.above.result) (sym c.in-Above.is)
    (subst (λ (l : Lit). Capped (lit_numbers l) l c.above.result) (sym (prim_strict c.args.sort (put_form row c.args.var n t) row (subst (λ (l : Lit). IsOf c.args.sort l) c.in-Above.is c.requires.primitive.0))) q)

pub put_residues-requires-clause-d_least : goal.put_residues-requires-clause-d_least
put_residues-requires-clause-d_least c = (primable_divides c.args.sort c.in-Divides.d c.in-Divides.row (subst (λ (l : Lit). IsPrimable c.args.sort l) c.in-Divides.is c.requires.primable)).0

pub put_residues-requires-clause-d_kept : goal.put_residues-requires-clause-d_kept
put_residues-requires-clause-d_kept c = (primable_divides c.args.sort c.in-Divides.d c.in-Divides.row (subst (λ (l : Lit). IsPrimable c.args.sort l) c.in-Divides.is c.requires.primable)).1

pub returns-in-Divides : goal.returns-in-Divides
returns-in-Divides c =
    let fc : SFits w64 c.args.c = c.ranges.c in
    let fa : SFits w64 c.args.a = c.ranges.a in
    let fk : SFits w128 c.args.constant = c.ranges.constant in
    let n : ℕ = nat_abs c.args.a in
    let d : ℕ = c.in-Divides.d in
    let row : Form = c.in-Divides.row in
    let t : Form = record { terms = c.args.terms.now; constant = c.args.constant } in
    let e = with_coef row c.args.var c.args.c c.args.a t (c.requires.c_is ∙ ap (λ (l : Lit). coef (form_of l).terms c.args.var) c.in-Divides.is) c.requires.a_least in
    let m : nat_abs (to_z w64 (of_z w64 c.args.a)) * d ≡ n * d = simp to_z-of_z in
    let s : put_with row c.args.var (to_z w64 (of_z w64 c.args.c)) (to_z w64 (of_z w64 c.args.a)) (record { terms = c.args.terms.now; constant = to_z w128 (of_z w128 c.args.constant) }) ≡ put_with row c.args.var c.args.c c.args.a t = simp to_z-of_z in
    let r : CappedResidues (n * d) (put_form row c.args.var n t) c.put_residues.result = subst (λ (f : Form). CappedResidues (n * d) f c.put_residues.result) (s ∙ e) (subst (λ (k : ℕ). CappedResidues k (put_with row c.args.var (to_z w64 (of_z w64 c.args.c)) (to_z w64 (of_z w64 c.args.a)) (record { terms = c.args.terms.now; constant = to_z w128 (of_z w128 c.args.constant) })) c.put_residues.result) m c.put_residues.ensures) in
    subst (λ (l : Lit). Capped (lit_numbers (prim c.args.sort (put_raw c.args.var n t l))) (prim c.args.sort (put_raw c.args.var n t l)) c.divides.result) (sym c.in-Divides.is)
    (subst (λ (l : Lit). Capped (lit_numbers l) l c.divides.result) (sym (prim_divides c.args.sort (n * d) d (put_form row c.args.var n t) row (subst (λ (l : Lit). IsOf c.args.sort l) c.in-Divides.is c.requires.primitive.0))) (c.divides.ensures (n * d) (put_form row c.args.var n t) r))

pub put_residues-requires-in-NotDivides-clause-d_least : goal.put_residues-requires-in-NotDivides-clause-d_least
put_residues-requires-in-NotDivides-clause-d_least c = (primable_not c.args.sort c.in-NotDivides.d c.in-NotDivides.row (subst (λ (l : Lit). IsPrimable c.args.sort l) c.in-NotDivides.is c.requires.primable)).0

pub put_residues-requires-in-NotDivides-clause-d_kept : goal.put_residues-requires-in-NotDivides-clause-d_kept
put_residues-requires-in-NotDivides-clause-d_kept c = (primable_not c.args.sort c.in-NotDivides.d c.in-NotDivides.row (subst (λ (l : Lit). IsPrimable c.args.sort l) c.in-NotDivides.is c.requires.primable)).1

pub returns-in-NotDivides : goal.returns-in-NotDivides
returns-in-NotDivides c =
    let fc : SFits w64 c.args.c = c.ranges.c in
    let fa : SFits w64 c.args.a = c.ranges.a in
    let fk : SFits w128 c.args.constant = c.ranges.constant in
    let n : ℕ = nat_abs c.args.a in
    let d : ℕ = c.in-NotDivides.d in
    let row : Form = c.in-NotDivides.row in
    let t : Form = record { terms = c.args.terms.now; constant = c.args.constant } in
    let e = with_coef row c.args.var c.args.c c.args.a t (c.requires.c_is ∙ ap (λ (l : Lit). coef (form_of l).terms c.args.var) c.in-NotDivides.is) c.requires.a_least in
    let m : nat_abs (to_z w64 (of_z w64 c.args.a)) * d ≡ n * d = simp to_z-of_z in
    let s : put_with row c.args.var (to_z w64 (of_z w64 c.args.c)) (to_z w64 (of_z w64 c.args.a)) (record { terms = c.args.terms.now; constant = to_z w128 (of_z w128 c.args.constant) }) ≡ put_with row c.args.var c.args.c c.args.a t = simp to_z-of_z in
    let r : CappedResidues (n * d) (put_form row c.args.var n t) c.put_residues-in-NotDivides.result = subst (λ (f : Form). CappedResidues (n * d) f c.put_residues-in-NotDivides.result) (s ∙ e) (subst (λ (k : ℕ). CappedResidues k (put_with row c.args.var (to_z w64 (of_z w64 c.args.c)) (to_z w64 (of_z w64 c.args.a)) (record { terms = c.args.terms.now; constant = to_z w128 (of_z w128 c.args.constant) })) c.put_residues-in-NotDivides.result) m c.put_residues-in-NotDivides.ensures) in
    subst (λ (l : Lit). Capped (lit_numbers (prim c.args.sort (put_raw c.args.var n t l))) (prim c.args.sort (put_raw c.args.var n t l)) c.not_divides.result) (sym c.in-NotDivides.is)
    (subst (λ (l : Lit). Capped (lit_numbers l) l c.not_divides.result) (sym (prim_not_divides c.args.sort (n * d) d (put_form row c.args.var n t) row (subst (λ (l : Lit). IsOf c.args.sort l) c.in-NotDivides.is c.requires.primitive.0))) (c.not_divides.ensures (n * d) (put_form row c.args.var n t) r))
