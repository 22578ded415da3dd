use Rattle.std.specs.Prelude.{ℕ, ℤ, ◌≡◌, ◌≤◌, ◌≤ℤ◌, ◌^◌, pos, nat_abs, true, false, Err, List}
use Rattle.std.proofs.Common.{arith, ap, ap₂, ◌∙◌, sym, subst, w64, SFits, to_z, of_z, to_z-of_z}
use mir.Syntax.{w128}
use Rattle.std.proofs.lemmas.Int.{ints}
use Rattle.lin_term.specs.Form.{Form, AreTerms, cap}
use Rattle.lin_term.specs.Linear.{floor_div}
use Rattle.lin_term.specs.Literal.{quotient, quotient_terms}
use Rattle.lin_term.specs.Move.{Move, move_divisor, lowest}
use Rattle.lin_term.specs.Definition.{move_numbers}
use Rattle.lin_term.specs.Blend.{sum_terms}
use Rattle.lin_term.specs.Items.{CappedTerms}
use Rattle.lin_term.specs.Settle.{sum_form}
use Rattle.lin_term.specs.Wide.{Capped, CappedWide, form_numbers, fits}
use Rattle.lin_term.proofs.Capping.{within_from}
use Rattle.lin_term.proofs.Lowering.{move_with}
use Rattle.lin_term.proofs.Residues.{with_constant}
use Rattle.lin_term.proofs.Terms.{two_words}
use Rattle.lin_term.proofs.WideMoves.{wide_are, wide_div, wide_div_some, wide_div_past, wide_form_past, wide_terms_past, wide_made, wide_lowest_is}
use Rattle.lin_term.proofs.wide_move.wide_lowest.Goals as goal

pub returns-then-not-is_within : goal.returns-then-not-is_within
returns-then-not-is_within c =
    let fp : SFits w64 c.args.p = c.ranges.p in
    let fq : SFits w64 c.args.q = c.ranges.q in
    let fc : SFits w128 c.args.constant = c.ranges.constant in
    let fd : SFits w128 c.args.div = c.ranges.div in
    let fg = two_words c.wide_divisor-g.result c.wide_divisor-g.type_inv in
    let fn = two_words c.floor_quotient-number.result c.floor_quotient-number.type_inv in
    let f : Form = sum_form c.args.p c.args.left.now c.args.q c.args.right.now (2 ^ 20) c.args.constant in
    let m : Move = move_with f (nat_abs c.args.div) in
    let N : ℤ = to_z w128 (of_z w128 c.floor_quotient-number.result) in
    let g : c.wide_divisor-g.result ≡ pos (move_divisor c.args.sort m) = simp to_z-of_z at c.wide_divisor-g.ensures.value in
    let q : c.floor_quotient-number.result ≡ floor_div c.args.div (nat_abs c.wide_divisor-g.result) = simp (to_z-of_z, fg) at c.floor_quotient-number.ensures in
    let n : N ≡ pos (lowest c.args.sort m).div = fn ∙ wide_div c.args.sort f c.args.div c.wide_divisor-g.result c.floor_quotient-number.result c.requires.least g q in
    let b : fits N ≡ false = sym c.is_within.ensures ∙ c.if-not-is_within.true in
    wide_div_past c.args.sort m N n b

pub returns-in-Err : goal.returns-in-Err
returns-in-Err c =
    let fp : SFits w64 c.args.p = c.ranges.p in
    let fq : SFits w64 c.args.q = c.ranges.q in
    let fc : SFits w128 c.args.constant = c.ranges.constant in
    let fd : SFits w128 c.args.div = c.ranges.div in
    let fg = two_words c.wide_divisor-g.result c.wide_divisor-g.type_inv in
    let fn = two_words c.floor_quotient-number.result c.floor_quotient-number.type_inv in
    let f : Form = sum_form c.args.p c.args.left.now c.args.q c.args.right.now (2 ^ 20) c.args.constant in
    let m : Move = move_with f (nat_abs c.args.div) in
    let N : ℤ = to_z w128 (of_z w128 c.floor_quotient-number.result) in
    let g : c.wide_divisor-g.result ≡ pos (move_divisor c.args.sort m) = simp to_z-of_z at c.wide_divisor-g.ensures.value in
    let q : c.floor_quotient-number.result ≡ floor_div c.args.div (nat_abs c.wide_divisor-g.result) = simp (to_z-of_z, fg) at c.floor_quotient-number.ensures in
    let n : N ≡ pos (lowest c.args.sort m).div = fn ∙ wide_div c.args.sort f c.args.div c.wide_divisor-g.result c.floor_quotient-number.result c.requires.least g q in
    let b : fits N ≡ true = sym c.is_within.ensures ∙ c.if-not-is_within.false in
    let all : quotient_terms (sum_terms (to_z w64 (of_z w64 c.args.p)) c.args.left.now (to_z w64 (of_z w64 c.args.q)) c.args.right.now (2 ^ 20)) (nat_abs (to_z w128 (of_z w128 c.wide_divisor-g.result))) ≡ quotient_terms f.terms (nat_abs c.wide_divisor-g.result) = simp (to_z-of_z, fg) in
    wide_terms_past c.args.sort m N c.in-Err.fault n b
    (subst (λ (ts : List (ℕ × ℤ)). CappedTerms ts (Err c.in-Err.fault)) (all ∙ ap (λ (y : ℤ). quotient_terms f.terms (nat_abs y)) g) c.in-Err.ensures)

pub row_with-requires : goal.row_with-requires
row_with-requires c =
    let fp : SFits w64 c.args.p = c.ranges.p in
    let fq : SFits w64 c.args.q = c.ranges.q in
    let fc : SFits w128 c.args.constant = c.ranges.constant in
    let fd : SFits w128 c.args.div = c.ranges.div in
    let fg = two_words c.wide_divisor-g.result c.wide_divisor-g.type_inv in
    let fn = two_words c.floor_quotient-number.result c.floor_quotient-number.type_inv in
    let f : Form = sum_form c.args.p c.args.left.now c.args.q c.args.right.now (2 ^ 20) c.args.constant in
    let m : Move = move_with f (nat_abs c.args.div) in
    let N : ℤ = to_z w128 (of_z w128 c.floor_quotient-number.result) in
    let g : c.wide_divisor-g.result ≡ pos (move_divisor c.args.sort m) = simp to_z-of_z at c.wide_divisor-g.ensures.value in
    let q : c.floor_quotient-number.result ≡ floor_div c.args.div (nat_abs c.wide_divisor-g.result) = simp (to_z-of_z, fg) at c.floor_quotient-number.ensures in
    let n : N ≡ pos (lowest c.args.sort m).div = fn ∙ wide_div c.args.sort f c.args.div c.wide_divisor-g.result c.floor_quotient-number.result c.requires.least g q in
    let none = simp (to_z-of_z, fg) at c.in-Ok.ensures.0 in
    let items : c.in-Ok.coefs.items ≡ quotient_terms f.terms (nat_abs c.wide_divisor-g.result) = simp (to_z-of_z, fg) at c.in-Ok.ensures.1 in
    subst (λ (ts : List (ℕ × ℤ)). AreTerms 0 ts) (sym items)
    (wide_are c.args.sort c.args.p c.args.left.now c.args.q c.args.right.now (2 ^ 20) c.args.constant (nat_abs c.args.div) (nat_abs c.wide_divisor-g.result) c.requires.left_kept c.requires.right_kept (ap nat_abs g) none)

pub returns-in-Err-row_with : goal.returns-in-Err-row_with
returns-in-Err-row_with c =
    let fp : SFits w64 c.args.p = c.ranges.p in
    let fq : SFits w64 c.args.q = c.ranges.q in
    let fc : SFits w128 c.args.constant = c.ranges.constant in
    let fd : SFits w128 c.args.div = c.ranges.div in
    let fg = two_words c.wide_divisor-g.result c.wide_divisor-g.type_inv in
    let fn = two_words c.floor_quotient-number.result c.floor_quotient-number.type_inv in
    let f : Form = sum_form c.args.p c.args.left.now c.args.q c.args.right.now (2 ^ 20) c.args.constant in
    let m : Move = move_with f (nat_abs c.args.div) in
    let N : ℤ = to_z w128 (of_z w128 c.floor_quotient-number.result) in
    let g : c.wide_divisor-g.result ≡ pos (move_divisor c.args.sort m) = simp to_z-of_z at c.wide_divisor-g.ensures.value in
    let q : c.floor_quotient-number.result ≡ floor_div c.args.div (nat_abs c.wide_divisor-g.result) = simp (to_z-of_z, fg) at c.floor_quotient-number.ensures in
    let n : N ≡ pos (lowest c.args.sort m).div = fn ∙ wide_div c.args.sort f c.args.div c.wide_divisor-g.result c.floor_quotient-number.result c.requires.least g q in
    let b : fits N ≡ true = sym c.is_within.ensures ∙ c.if-not-is_within.false in
    let fz = two_words c.floor_quotient.result c.floor_quotient.type_inv in
    let C : ℤ = to_z w128 (of_z w128 c.floor_quotient.result) in
    let items : c.in-Ok.coefs.items ≡ quotient_terms f.terms (nat_abs c.wide_divisor-g.result) = simp (to_z-of_z, fg) at c.in-Ok.ensures.1 in
    let z0 : c.floor_quotient.result ≡ floor_div c.args.constant (nat_abs c.wide_divisor-g.result) = simp (to_z-of_z, fg) at c.floor_quotient.ensures in
    let z : C ≡ floor_div f.constant (nat_abs c.wide_divisor-g.result) = fz ∙ z0 in
    wide_form_past c.args.sort m N c.in-Err-row_with.fault n b
    (subst (λ (h : Form). Capped {A = Form} (form_numbers h) h (Err c.in-Err-row_with.fault)) (ap₂ with_constant items z ∙ ap (λ (y : ℤ). quotient f (nat_abs y)) g) c.in-Err-row_with.ensures)

pub from_parts-requires-clause-least : goal.from_parts-requires-clause-least
from_parts-requires-clause-least c =
    let fp : SFits w64 c.args.p = c.ranges.p in
    let fq : SFits w64 c.args.q = c.ranges.q in
    let fc : SFits w128 c.args.constant = c.ranges.constant in
    let fd : SFits w128 c.args.div = c.ranges.div in
    let fg = two_words c.wide_divisor-g.result c.wide_divisor-g.type_inv in
    let fn = two_words c.floor_quotient-number.result c.floor_quotient-number.type_inv in
    let f : Form = sum_form c.args.p c.args.left.now c.args.q c.args.right.now (2 ^ 20) c.args.constant in
    let m : Move = move_with f (nat_abs c.args.div) in
    let N : ℤ = to_z w128 (of_z w128 c.floor_quotient-number.result) in
    let g : c.wide_divisor-g.result ≡ pos (move_divisor c.args.sort m) = simp to_z-of_z at c.wide_divisor-g.ensures.value in
    let q : c.floor_quotient-number.result ≡ floor_div c.args.div (nat_abs c.wide_divisor-g.result) = simp (to_z-of_z, fg) at c.floor_quotient-number.ensures in
    let n : N ≡ pos (lowest c.args.sort m).div = fn ∙ wide_div c.args.sort f c.args.div c.wide_divisor-g.result c.floor_quotient-number.result c.requires.least g q in
    let b : fits N ≡ true = sym c.is_within.ensures ∙ c.if-not-is_within.false in
    let k : nat_abs c.floor_quotient-number.result ≤ cap = subst (λ (y : ℤ). nat_abs y ≤ cap) fn (within_from N b) in
    let h1 : SFits w128 c.floor_quotient-number.result = omega (arith, ints, k) in
    let h2 : SFits w64 c.floor_quotient-number.result = omega (arith, ints, k) in
    let e : to_z w64 (of_z w64 (to_z w128 (of_z w128 c.floor_quotient-number.result))) ≡ c.floor_quotient-number.result = simp to_z-of_z in
    let o : 1 ≤ nat_abs c.args.div = omega (arith, ints, c.requires.least) in
    let s = wide_div_some c.args.sort m o in
    subst (λ (y : ℤ). pos 1 ≤ℤ y) (sym (e ∙ sym fn ∙ n)) (let l : pos 1 ≤ℤ pos (lowest c.args.sort m).div = omega (arith, ints, s) in l)

pub with_definition-requires : goal.with_definition-requires
with_definition-requires c =
    let fp : SFits w64 c.args.p = c.ranges.p in
    let fq : SFits w64 c.args.q = c.ranges.q in
    let fc : SFits w128 c.args.constant = c.ranges.constant in
    let fd : SFits w128 c.args.div = c.ranges.div in
    let fg = two_words c.wide_divisor-g.result c.wide_divisor-g.type_inv in
    let fn = two_words c.floor_quotient-number.result c.floor_quotient-number.type_inv in
    let f : Form = sum_form c.args.p c.args.left.now c.args.q c.args.right.now (2 ^ 20) c.args.constant in
    let m : Move = move_with f (nat_abs c.args.div) in
    let N : ℤ = to_z w128 (of_z w128 c.floor_quotient-number.result) in
    let g : c.wide_divisor-g.result ≡ pos (move_divisor c.args.sort m) = simp to_z-of_z at c.wide_divisor-g.ensures.value in
    let q : c.floor_quotient-number.result ≡ floor_div c.args.div (nat_abs c.wide_divisor-g.result) = simp (to_z-of_z, fg) at c.floor_quotient-number.ensures in
    let n : N ≡ pos (lowest c.args.sort m).div = fn ∙ wide_div c.args.sort f c.args.div c.wide_divisor-g.result c.floor_quotient-number.result c.requires.least g q in
    let b : fits N ≡ true = sym c.is_within.ensures ∙ c.if-not-is_within.false in
    let fz = two_words c.floor_quotient.result c.floor_quotient.type_inv in
    let C : ℤ = to_z w128 (of_z w128 c.floor_quotient.result) in
    let items : c.in-Ok.coefs.items ≡ quotient_terms f.terms (nat_abs c.wide_divisor-g.result) = simp (to_z-of_z, fg) at c.in-Ok.ensures.1 in
    let z0 : c.floor_quotient.result ≡ floor_div c.args.constant (nat_abs c.wide_divisor-g.result) = simp (to_z-of_z, fg) at c.floor_quotient.ensures in
    let z : C ≡ floor_div f.constant (nat_abs c.wide_divisor-g.result) = fz ∙ z0 in
    let k : nat_abs c.floor_quotient-number.result ≤ cap = subst (λ (y : ℤ). nat_abs y ≤ cap) fn (within_from N b) in
    let h1 : SFits w128 c.floor_quotient-number.result = omega (arith, ints, k) in
    let h2 : SFits w64 c.floor_quotient-number.result = omega (arith, ints, k) in
    let e : to_z w64 (of_z w64 (to_z w128 (of_z w128 c.floor_quotient-number.result))) ≡ c.floor_quotient-number.result = simp to_z-of_z in
    let same : c.from_parts.result ≡ lowest c.args.sort m = c.from_parts.ensures ∙ wide_made c.args.sort m c.in-Ok-row_with.row c.in-Ok.coefs.items C N (nat_abs c.wide_divisor-g.result) (nat_abs (to_z w64 (of_z w64 (to_z w128 (of_z w128 c.floor_quotient-number.result))))) (ap nat_abs g) items z c.in-Ok-row_with.ensures.1 n (ap nat_abs (e ∙ sym fn)) in
    wide_lowest_is c.args.sort c.from_parts.result m same

pub returns : goal.returns
returns c =
    let fp : SFits w64 c.args.p = c.ranges.p in
    let fq : SFits w64 c.args.q = c.ranges.q in
    let fc : SFits w128 c.args.constant = c.ranges.constant in
    let fd : SFits w128 c.args.div = c.ranges.div in
    let fg = two_words c.wide_divisor-g.result c.wide_divisor-g.type_inv in
    let fn = two_words c.floor_quotient-number.result c.floor_quotient-number.type_inv in
    let f : Form = sum_form c.args.p c.args.left.now c.args.q c.args.right.now (2 ^ 20) c.args.constant in
    let m : Move = move_with f (nat_abs c.args.div) in
    let N : ℤ = to_z w128 (of_z w128 c.floor_quotient-number.result) in
    let g : c.wide_divisor-g.result ≡ pos (move_divisor c.args.sort m) = simp to_z-of_z at c.wide_divisor-g.ensures.value in
    let q : c.floor_quotient-number.result ≡ floor_div c.args.div (nat_abs c.wide_divisor-g.result) = simp (to_z-of_z, fg) at c.floor_quotient-number.ensures in
    let n : N ≡ pos (lowest c.args.sort m).div = fn ∙ wide_div c.args.sort f c.args.div c.wide_divisor-g.result c.floor_quotient-number.result c.requires.least g q in
    let b : fits N ≡ true = sym c.is_within.ensures ∙ c.if-not-is_within.false in
    let fz = two_words c.floor_quotient.result c.floor_quotient.type_inv in
    let C : ℤ = to_z w128 (of_z w128 c.floor_quotient.result) in
    let items : c.in-Ok.coefs.items ≡ quotient_terms f.terms (nat_abs c.wide_divisor-g.result) = simp (to_z-of_z, fg) at c.in-Ok.ensures.1 in
    let z0 : c.floor_quotient.result ≡ floor_div c.args.constant (nat_abs c.wide_divisor-g.result) = simp (to_z-of_z, fg) at c.floor_quotient.ensures in
    let z : C ≡ floor_div f.constant (nat_abs c.wide_divisor-g.result) = fz ∙ z0 in
    let k : nat_abs c.floor_quotient-number.result ≤ cap = subst (λ (y : ℤ). nat_abs y ≤ cap) fn (within_from N b) in
    let h1 : SFits w128 c.floor_quotient-number.result = omega (arith, ints, k) in
    let h2 : SFits w64 c.floor_quotient-number.result = omega (arith, ints, k) in
    let e : to_z w64 (of_z w64 (to_z w128 (of_z w128 c.floor_quotient-number.result))) ≡ c.floor_quotient-number.result = simp to_z-of_z in
    let same : c.from_parts.result ≡ lowest c.args.sort m = c.from_parts.ensures ∙ wide_made c.args.sort m c.in-Ok-row_with.row c.in-Ok.coefs.items C N (nat_abs c.wide_divisor-g.result) (nat_abs (to_z w64 (of_z w64 (to_z w128 (of_z w128 c.floor_quotient-number.result))))) (ap nat_abs g) items z c.in-Ok-row_with.ensures.1 n (ap nat_abs (e ∙ sym fn)) in
    c.without_memory.ensures (move_numbers c.args.sort (lowest c.args.sort m)) (lowest c.args.sort m)
    (subst (λ (x : Move). CappedWide (move_numbers c.args.sort x) x c.with_definition.result) same c.with_definition.ensures)
