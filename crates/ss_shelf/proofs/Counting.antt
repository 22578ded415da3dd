-- What one more entry does to the counts.
use Rattle.std.proofs.Common.{◌≡◌, ◌≢◌, ℕ, ◌+◌, true, List, [], ◌∷◌, ◌++◌, refl, ap, sym, ◌∙◌, subst, arith, string_bytes, Err, Result}
use Rattle.ss_shelf.specs.declared.outside.ShelfFault.{ShelfFault}
use Rattle.std.proofs.lemmas.Slice.Eq.{bytes_eq-Decides}
use Rattle.ss_shelf.specs.declared.outside.CallKind.{CallKind}
use Rattle.ss_shelf.specs.declared.outside.CallKind.TheVariants.{Fetch, Store}
use Rattle.ss_shelf.specs.declared.outside.ShelfFault.TheVariants.{Failed}
use Rattle.ss_shelf.specs.declared.failures.FailedCall.{FailedCall}
use Rattle.ss_shelf.specs.Calls.{one, count_of, same_kind}
use Rattle.ss_shelf.specs.Outside.{Counts, Counted, plus_counts}

pub count_of-append : (calls : List FailedCall) → (call : FailedCall) → (k : CallKind) → (n : List ℕ) →
    count_of (calls ++ call ∷ []) k n ≡ count_of calls k n + one call k n
count_of-append [] call k n = omega arith
count_of-append (c ∷ calls) call k n = let e = count_of-append calls call k n in omega (arith, e)

same_kind_refl : (k : CallKind) → same_kind k k ≡ true
same_kind_refl Fetch = refl
same_kind_refl Store = refl

same_kind_eq : (a b : CallKind) → same_kind a b ≡ true → a ≡ b
same_kind_eq Fetch Fetch h = refl
same_kind_eq Fetch Store h = cc
same_kind_eq Store Fetch h = cc
same_kind_eq Store Store h = refl

one_self : (call : FailedCall) → (k : CallKind) → (n : List ℕ) → call.kind ≡ k → string_bytes call.name ≡ n → one call k n ≡ 1
one_self call k n hk hn = grind (arith, same_kind_refl k, bytes_eq-Decides (string_bytes call.name) n, hk, hn)

one_other : (call : FailedCall) → (k : CallKind) → (n : List ℕ) → (k ≡ call.kind → n ≢ string_bytes call.name) → one call k n ≡ 0
one_other call k n h = grind (arith, same_kind_eq call.kind k, bytes_eq-Decides (string_bytes call.name) n, h)

pub counted_more : (calls now : List FailedCall) → (call : FailedCall) → (kind : CallKind) → (name : List ℕ) →
    now ≡ calls ++ call ∷ [] → call.kind ≡ kind → string_bytes call.name ≡ name →
    Counted kind name (count_of calls) (count_of now) (Err Failed)
counted_more calls now call kind name hnow hk hn = subst (λ (l : List FailedCall). Counted kind name (count_of calls) (count_of l) (Err Failed)) (sym hnow) (record {
  rose = λ h. let e = count_of-append calls call kind name in let o = one_self call kind name hk hn in omega (arith, e, o);
  kept = λ h. absurd (h refl);
  others = λ k n h. let e = count_of-append calls call k n in let o = one_other call k n (λ same other. h (same ∙ hk) (other ∙ hn)) in omega (arith, e, o);
})

pub plus_left : (kind : CallKind) → (name : List ℕ) → (before now own : Counts) → (result : Result (Unit {0}) ShelfFault) →
    Counted kind name before now result → Counted kind name (plus_counts before own) (plus_counts now own) result
plus_left kind name before now own result h = record {
  rose = λ failed. let e = h.rose failed in omega (arith, e);
  kept = λ not_failed. ap (λ (c : Counts). plus_counts c own) (h.kept not_failed);
  others = λ k n other. ap (λ m. m + own k n) (h.others k n other);
}

pub plus_right : (kind : CallKind) → (name : List ℕ) → (inner before now : Counts) → (result : Result (Unit {0}) ShelfFault) →
    Counted kind name before now result → Counted kind name (plus_counts inner before) (plus_counts inner now) result
plus_right kind name inner before now result h = record {
  rose = λ failed. let e = h.rose failed in omega (arith, e);
  kept = λ not_failed. ap (λ (c : Counts). plus_counts inner c) (h.kept not_failed);
  others = λ k n other. ap (λ m. inner k n + m) (h.others k n other);
}
