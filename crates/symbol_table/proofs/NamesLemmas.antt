-- Rows and look-ups.
use Rattle.std.proofs.Common.{◌≡◌, ℕ, suc, ◌+◌, ◌-◌, ◌<◌, ◌≤◌, Bool, true, false, cond, List, [], ◌∷◌, ◌++◌, length, map, reverse, get_or, drop, Some, None, refl, sym, ap, subst, ◌∙◌, arith}
use Rattle.std.specs.Borrow.{Bor}
use Rattle.std.specs.Str.{bytes_eq}
use Rattle.std.proofs.lemmas.Slice.Eq.{bytes_eq-Decides}
use Rattle.std.specs.Map.{lookup}
use Rattle.std.proofs.lemmas.List.{reverse-append, length-reverse, get_or_append_left}
use Rattle.std.proofs.Math.Seq.{get_or-append_seam}
use Rattle.symbol_table.specs.declared.names.Known.{Known}
use Rattle.symbol_table.specs.declared.names.Row.{Row}
use Rattle.symbol_table.specs.Names.{looked_up, name_of, newest_row, HidesRight, or_zero, IsIndex}

pub newest_row-le : (rs : List Row) (name : List ℕ) → newest_row rs name ≤ length rs
newest_row-le [] name = omega arith
newest_row-le (r ∷ rs) name = by (bytes_eq r.name.now name) (newest_row-le rs name)
  where
    by : (b : Bool) → newest_row rs name ≤ length rs → cond b (length rs + 1) (newest_row rs name) ≤ suc (length rs)
    by true le = omega arith
    by false le = omega (arith, le)

-- no row
pub found_none : (rs : List Row) (name : List ℕ) → newest_row rs name ≡ 0 → looked_up (map name_of rs) name ≡ None
found_none [] name is = refl
found_none (r ∷ rs) name is = by (bytes_eq r.name.now name) (found_none rs name) is
  where
    by : (b : Bool) → (newest_row rs name ≡ 0 → looked_up (map name_of rs) name ≡ None)
        → cond b (length rs + 1) (newest_row rs name) ≡ 0 → cond b (Some r.known) (looked_up (map name_of rs) name) ≡ None
    by true rest is = absurd (omega (arith, is))
    by false rest is = rest is

at_last : (xs : List Row) (r d : Row) (i : ℕ) → i ≡ length xs → get_or (xs ++ r ∷ []) i d ≡ r
at_last xs r d i is = ap (λ k. get_or (xs ++ r ∷ []) k d) is ∙ get_or-append_seam xs r [] d

-- a row, by its place from the oldest on
pub found_some : (rs : List Row) (name : List ℕ) (i : ℕ) (d : Row) → newest_row rs name ≡ i + 1
    → looked_up (map name_of rs) name ≡ Some (get_or (reverse rs) i d).known
found_some [] name i d is = absurd (omega (arith, is))
found_some (r ∷ rs) name i d is =
    by (bytes_eq r.name.now name) (found_some rs name i d) is ∙ ap (λ (xs : List Row). Some (get_or xs i d).known) (sym (reverse-append (r ∷ []) rs))
  where
    by : (b : Bool) → (newest_row rs name ≡ i + 1 → looked_up (map name_of rs) name ≡ Some (get_or (reverse rs) i d).known)
        → cond b (length rs + 1) (newest_row rs name) ≡ i + 1
        → cond b (Some r.known) (looked_up (map name_of rs) name) ≡ Some (get_or (reverse rs ++ r ∷ []) i d).known
    by true rest is =
        let at : i ≡ length (reverse rs) = omega (arith, is, length-reverse rs) in
        ap (λ (x : Row). Some x.known) (sym (at_last (reverse rs) r d i at))
    by false rest is =
        let lt : i < length (reverse rs) = omega (arith, is, newest_row-le rs name, length-reverse rs) in
        rest is ∙ ap (λ (x : Row). Some x.known) (sym (get_or_append_left (reverse rs) (r ∷ []) d i lt))

-- one more row at the end is the newest
pub reverse-push : (rows : List Row) (r : Row) → reverse (rows ++ r ∷ []) ≡ r ∷ reverse rows
reverse-push rows r = reverse-append rows (r ∷ [])

-- the newest row leaves, and the one that it hid comes back
pub popped : (rows : List Row) (row : Row) (old new : List (Bor (List ℕ) × ℕ)) → IsIndex (rows ++ row ∷ []) old
    → ((q : Bor (List ℕ)) → lookup (λ k. bytes_eq q.now k.now) new ≡ cond (bytes_eq row.name.now q.now) (Some row.hidden) (lookup (λ k. bytes_eq q.now k.now) old))
    → IsIndex rows new
popped rows row old new was updates =
    let rs = reverse rows in
    let hides : HidesRight (row ∷ rs) = subst HidesRight (reverse-push rows row) was.hides in
    let finds : (q : Bor (List ℕ)) → or_zero (lookup (λ k. bytes_eq q.now k.now) old) ≡ newest_row (row ∷ rs) q.now =
    λ q. was.finds q ∙ ap (λ (xs : List Row). newest_row xs q.now) (reverse-push rows row) in
    record {
      finds = λ q. ap or_zero (updates q) ∙ by q (bytes_eq row.name.now q.now) refl (finds q) hides.0;
      hides = hides.1;
    }
  where
    by : (q : Bor (List ℕ)) (b : Bool) → bytes_eq row.name.now q.now ≡ b
        → or_zero (lookup (λ k. bytes_eq q.now k.now) old) ≡ cond b (length (reverse rows) + 1) (newest_row (reverse rows) q.now)
        → row.hidden ≡ newest_row (reverse rows) row.name.now
        → or_zero (cond b (Some row.hidden) (lookup (λ k. bytes_eq q.now k.now) old)) ≡ newest_row (reverse rows) q.now
    by q true e found hidden = hidden ∙ ap (newest_row (reverse rows)) ((bytes_eq-Decides row.name.now q.now).0 e)
    by q false e found hidden = found

-- the newest row's name is in the table
pub never_absent : (rows : List Row) (row : Row) (old : List (Bor (List ℕ) × ℕ)) → IsIndex (rows ++ row ∷ []) old
    → lookup (λ k. bytes_eq row.name.now k.now) old ≡ None → ⊥
never_absent rows row old was absent =
    let here : bytes_eq row.name.now row.name.now ≡ true = (bytes_eq-Decides row.name.now row.name.now).1 refl in
    let found : 0 ≡ cond (bytes_eq row.name.now row.name.now) (length (reverse rows) + 1) (newest_row (reverse rows) row.name.now) =
    sym (ap or_zero absent) ∙ was.finds row.name ∙ ap (λ (xs : List Row). newest_row xs row.name.now) (reverse-push rows row) in
    let one : 0 ≡ length (reverse rows) + 1 = found ∙ ap (λ b. cond b (length (reverse rows) + 1) (newest_row (reverse rows) row.name.now)) here in
    omega (arith, one)

pub one_less : (ns : List (List ℕ × Known)) (len : ℕ) → len < length ns → drop (length (drop 1 ns) - len) (drop 1 ns) ≡ drop (length ns - len) ns
one_less [] len lt = absurd (omega arith)
one_less (n ∷ ns) len lt =
    let e : suc (length ns) - len ≡ suc (length ns - len) = omega arith in
    ap (λ k. drop k (n ∷ ns)) (sym e)
