use Rattle.std.specs.Prelude.{Some, None}
use Rattle.std.proofs.Common.{ℕ, ℤ, List, ◌≡◌, ◌∙◌, ◌++◌, ap, sym, subst, refl, arith, pos, map}
use Rattle.lin_term.specs.declared.Lit.{Lit}
use Rattle.lin_term.specs.Wide.{first_past}
use Rattle.lin_term.proofs.Capping.{past-append, past-append_some}
use Rattle.dom_core.specs.Elimination.{delta, partial_deltas, count_sums, last_of}
use Rattle.dom_int.specs.Counts.{first_numbers}
use Rattle.dom_int.proofs.elimination.Elimination.prepare.Goals as goal

fits : (cube : List Lit) (x n : ℕ) → n ≡ delta cube x → first_past (map pos (partial_deltas 1 cube x)) ≡ None → first_past (map pos (count_sums x n 0 cube)) ≡ None → first_past (first_numbers cube x) ≡ None
fits cube x n e p q =
    past-append (map pos (partial_deltas 1 cube x)) (map pos (count_sums x (delta cube x) 0 cube)) p ∙ ap (λ (m : ℕ). first_past (map pos (count_sums x m 0 cube))) (sym e) ∙ q

pub invariant_of-result : goal.invariant_of-result
invariant_of-result c =
    let cube : List Lit = c.args.cube in
    let x = c.args.var in
    let n = c.in-Ok.n in
    let p = c.in-Ok.ensures in
    let q = c.in-Ok-sum_of_counts.ensures in
    let e = p.value.1 ∙ ap (λ (us : List Lit). delta us x) c.lits.ensures.value in
    record {
      primitive = c.requires;
      period = e;
      period_kept = p.size;
      lower = q.value.1 ∙ ap (λ (us : List Lit). last_of 0 (count_sums x n 0 us)) c.lits-2.ensures.value;
      lower_kept = q.size;
      fits = fits cube x n e (subst (λ (us : List Lit). first_past (map pos (partial_deltas 1 us x)) ≡ None) c.lits.ensures.value p.value.0) (subst (λ (us : List Lit). first_past (map pos (count_sums x n 0 us)) ≡ None) c.lits-2.ensures.value q.value.0);
    }

pub returns : goal.returns
returns c =
    let cube : List Lit = c.args.cube in
    let x = c.args.var in
    let n = c.in-Ok.n in
    let p = c.in-Ok.ensures in
    let q = c.in-Ok-sum_of_counts.ensures in
    let e = p.value.1 ∙ ap (λ (us : List Lit). delta us x) c.lits.ensures.value in
    (fits cube x n e (subst (λ (us : List Lit). first_past (map pos (partial_deltas 1 us x)) ≡ None) c.lits.ensures.value p.value.0) (subst (λ (us : List Lit). first_past (map pos (count_sums x n 0 us)) ≡ None) c.lits-2.ensures.value q.value.0), refl)

pub returns-in-Err : goal.returns-in-Err
returns-in-Err c =
    let cube : List Lit = c.args.cube in
    let x = c.args.var in
    past-append_some (map pos (partial_deltas 1 cube x)) (map pos (count_sums x (delta cube x) 0 cube)) c.in-Err.wide.number (subst (λ (us : List Lit). first_past (map pos (partial_deltas 1 us x)) ≡ Some c.in-Err.wide.number) c.lits.ensures.value c.in-Err.ensures.value)

pub returns-in-Err-sum_of_counts : goal.returns-in-Err-sum_of_counts
returns-in-Err-sum_of_counts c =
    let cube : List Lit = c.args.cube in
    let x = c.args.var in
    let n = c.in-Ok.n in
    let p = c.in-Ok.ensures in
    let e = p.value.1 ∙ ap (λ (us : List Lit). delta us x) c.lits.ensures.value in
    let w = c.in-Err-sum_of_counts.wide.number in
    past-append (map pos (partial_deltas 1 cube x)) (map pos (count_sums x (delta cube x) 0 cube)) (subst (λ (us : List Lit). first_past (map pos (partial_deltas 1 us x)) ≡ None) c.lits.ensures.value p.value.0)
    ∙ ap (λ (m : ℕ). first_past (map pos (count_sums x m 0 cube))) (sym e)
    ∙ subst (λ (us : List Lit). first_past (map pos (count_sums x n 0 us)) ≡ Some w) c.lits-2.ensures.value c.in-Err-sum_of_counts.ensures.value
