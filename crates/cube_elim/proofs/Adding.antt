-- The sums of an elimination over the rationals, as they are added to a store.
use Rattle.std.specs.Prelude.{ℕ, ◌+◌, ◌-◌, ◌<◌, ◌≤◌, ◌≡◌, ℤ, Bool, true, false, cond, Some, None, Result, Ok, Err, List, [], ◌∷◌, ◌++◌, length, get_or, drop, map, filter}
use Rattle.std.specs.List.{AllByRecursion, flat_map, range_with_len}
use Rattle.std.proofs.Common.{arith, ap, ap₂, ◌∙◌, sym, subst, refl, length-append}
use Rattle.std.proofs.lemmas.List.{drop_all}
use Rattle.lin_term.specs.declared.Lit.{Lit}
use Rattle.lin_term.specs.declared.Lit.TheVariants.{AtLeast, Above, Divides, NotDivides}
use Rattle.lin_term.specs.declared.Short.{Short}
use Rattle.lin_term.specs.declared.Short.TheVariants as short
use Rattle.lin_term.specs.declared.Wide.{Wide}
use Rattle.lin_term.specs.declared.Sort.TheVariants.{Rat}
use Rattle.lin_term.specs.Form.{IsRow}
use Rattle.lin_term.specs.Literal.{IsOf, form_of}
use Rattle.lin_term.specs.Wide.{first_past, lit_numbers}
use Rattle.lin_term.proofs.Capping.{past-append, past-append_some, row_fits}
use Rattle.dom_core.specs.Adding.{AddsLit, AddsCube}
use Rattle.dom_core.specs.Cube.{IsCube}
use Rattle.dom_core.specs.Elimination.{is_free, is_lower, is_upper, resolvent, fourier_motzkin, elimination_numbers, cube_numbers}
use Rattle.dom_core.specs.Reduced.{AreRows}
use Rattle.dom_core.proofs.AddingLemmas.{append_assoc, append_none, split_at, added, past_more, past_here, numbers-append}
use Rattle.cube_elim.specs.declared.store.Store.{Store}
use Rattle.cube_elim.specs.declared.parts.Parts.{Parts}
use Rattle.cube_elim.specs.Stored.{lit_of, lits_of, AreIn, IsKept, IsLonger}
use Rattle.cube_elim.specs.Parted.{IsParted}
use Rattle.cube_elim.specs.Summed.{row_of, rows_of, TakesOut}
use Rattle.cube_elim.specs.declared.sums.Without.{Without}
use Rattle.cube_elim.proofs.Storing.{lit_longer, lits_longer, longer_by, longer_none, longer_length, in_longer, in_append, row_in, added_lits, lits_append, in_at}

-- what passes a test passes it
each_passes : (t : Lit → Bool) (c : List Lit) → AllByRecursion (λ l. t l ≡ true) (filter t c)
each_passes t [] = tt
each_passes t (l ∷ c) = by (t l) refl (each_passes t c)
  where
    by : (b : Bool) → t l ≡ b → AllByRecursion (λ k. t k ≡ true) (filter t c) → AllByRecursion (λ k. t k ≡ true) (cond b (l ∷ filter t c) (filter t c))
    by true e h = (e, h)
    by false e h = h

-- ---- one row

-- the sums of the literal with the first k of the places were added
pub record RowAt (x : ℕ) (old now : List Lit) (l : ℕ) (ids : List ℕ) (k : ℕ) : Type 0 where
  pub longer : IsLonger old now
  pub same : now ++ row_of x (lit_of old l) (lits_of old (drop k ids)) ≡ old ++ row_of x (lit_of old l) (lits_of old ids)
  pub past : first_past (cube_numbers (row_of x (lit_of old l) (lits_of old (drop k ids)))) ≡ first_past (cube_numbers (row_of x (lit_of old l) (lits_of old ids)))

pub row_start : (x : ℕ) (old : List Lit) (l : ℕ) (ids : List ℕ) → RowAt x old old l ids 0
row_start x old l ids = record { longer = longer_none old; same = refl; past = refl }

row_split : (x : ℕ) (old : List Lit) (m : Lit) (ids : List ℕ) (k u : ℕ) → k < length ids → u ≡ get_or ids k u → row_of x m (lits_of old (drop k ids)) ≡ resolvent x m (lit_of old u) ∷ row_of x m (lits_of old (drop (k + 1) ids))
row_split x old m ids k u h e = ap (λ (us : List ℕ). row_of x m (lits_of old us)) (split_at ids k u h e)

resolvent_longer : (x : ℕ) (old now : List Lit) (l u : ℕ) → IsLonger old now → l < length old → u < length old → resolvent x (lit_of now l) (lit_of now u) ≡ resolvent x (lit_of old l) (lit_of old u)
resolvent_longer x old now l u o h k = ap₂ (resolvent x) (lit_longer old now l o h) (lit_longer old now u o k)

pub row_more : (x : ℕ) (old now new : List Lit) (l u : ℕ) (ids : List ℕ) (k : ℕ) → l < length old → AreIn (length old) ids → k < length ids → u ≡ get_or ids k u → (first_past (lit_numbers (resolvent x (lit_of now l) (lit_of now u))) ≡ None) × (new ≡ now ++ resolvent x (lit_of now l) (lit_of now u) ∷ []) → RowAt x old now l ids k → RowAt x old new l ids (k + 1)
row_more x old now new l u ids k hl hu h e a r =
    let m = lit_of old l in
    let i : u < length old = subst (λ (j : ℕ). j < length old) (sym e) (in_at (length old) ids k u h hu) in
    let q = resolvent_longer x old now l u r.longer hl i in
    let s = row_split x old m ids k u h e in
    let rest = row_of x m (lits_of old (drop (k + 1) ids)) in
    let w = resolvent x m (lit_of old u) in
    let f : new ≡ now ++ w ∷ [] = a.1 ∙ ap (λ (y : Lit). now ++ y ∷ []) q in
    let n : first_past (lit_numbers w) ≡ None = ap (λ (y : Lit). first_past (lit_numbers y)) (sym q) ∙ a.0 in
    record {
      longer = longer_by old now new (w ∷ []) r.longer f;
      same = added now (old ++ row_of x m (lits_of old ids)) rest new w (ap (λ (us : List Lit). now ++ us) (sym s) ∙ r.same) f;
      past = past_more (lit_numbers w) (cube_numbers rest) (cube_numbers (row_of x m (lits_of old ids))) n (ap (λ (us : List Lit). first_past (cube_numbers us)) (sym s) ∙ r.past);
    }

pub row_done : (x : ℕ) (old now : List Lit) (l : ℕ) (ids : List ℕ) (k : ℕ) → length ids ≤ k → RowAt x old now l ids k → AddsCube old now (row_of x (lit_of old l) (lits_of old ids)) (Ok tt)
row_done x old now l ids k h r =
    let z : row_of x (lit_of old l) (lits_of old (drop k ids)) ≡ [] = ap (λ (us : List ℕ). row_of x (lit_of old l) (lits_of old us)) (drop_all k ids h) in
    (sym r.past ∙ ap (λ (us : List Lit). first_past (cube_numbers us)) z, sym (append_none now) ∙ ap (λ (us : List Lit). now ++ us) (sym z) ∙ r.same)

pub row_refused : (x : ℕ) (old now new end : List Lit) (l u : ℕ) (ids : List ℕ) (k : ℕ) (e : Short Wide) → l < length old → AreIn (length old) ids → k < length ids → u ≡ get_or ids k u → AddsLit now new (resolvent x (lit_of now l) (lit_of now u)) (Err e) → RowAt x old now l ids k → AddsCube old end (row_of x (lit_of old l) (lits_of old ids)) (Err e)
row_refused x old now new end l u ids k (short.Fault w) hl hu h e a r =
    let m = lit_of old l in
    let i : u < length old = subst (λ (j : ℕ). j < length old) (sym e) (in_at (length old) ids k u h hu) in
    let q = resolvent_longer x old now l u r.longer hl i in
    let s = row_split x old m ids k u h e in
    past_here (lit_numbers (resolvent x m (lit_of old u))) (cube_numbers (row_of x m (lits_of old (drop (k + 1) ids)))) (cube_numbers (row_of x m (lits_of old ids))) w.number
    (ap (λ (y : Lit). first_past (lit_numbers y)) (sym q) ∙ a) (ap (λ (us : List Lit). first_past (cube_numbers us)) (sym s) ∙ r.past)
row_refused x old now new end l u ids k short.Memory hl hu h e a r = tt

-- ---- all rows

pub record RowsAt (x : ℕ) (old now : List Lit) (ls us : List ℕ) (k : ℕ) : Type 0 where
  pub longer : IsLonger old now
  pub same : now ++ rows_of x (lits_of old (drop k ls)) (lits_of old us) ≡ old ++ rows_of x (lits_of old ls) (lits_of old us)
  pub past : first_past (cube_numbers (rows_of x (lits_of old (drop k ls)) (lits_of old us))) ≡ first_past (cube_numbers (rows_of x (lits_of old ls) (lits_of old us)))

pub rows_start : (x : ℕ) (old : List Lit) (ls us : List ℕ) → RowsAt x old old ls us 0
rows_start x old ls us = record { longer = longer_none old; same = refl; past = refl }

rows_split : (x : ℕ) (old : List Lit) (us : List Lit) (ids : List ℕ) (k l : ℕ) → k < length ids → l ≡ get_or ids k l → rows_of x (lits_of old (drop k ids)) us ≡ row_of x (lit_of old l) us ++ rows_of x (lits_of old (drop (k + 1) ids)) us
rows_split x old us ids k l h e = ap (λ (ls : List ℕ). rows_of x (lits_of old ls) us) (split_at ids k l h e)

row_longer : (x : ℕ) (old now : List Lit) (l : ℕ) (us : List ℕ) → IsLonger old now → l < length old → AreIn (length old) us → row_of x (lit_of now l) (lits_of now us) ≡ row_of x (lit_of old l) (lits_of old us)
row_longer x old now l us o h k = ap₂ (λ (m : Lit) (ms : List Lit). row_of x m ms) (lit_longer old now l o h) (lits_longer old now us o k)

pub rows_more : (x : ℕ) (old now new : List Lit) (l : ℕ) (ls us : List ℕ) (k : ℕ) → AreIn (length old) ls → AreIn (length old) us → k < length ls → l ≡ get_or ls k l → (first_past (cube_numbers (row_of x (lit_of now l) (lits_of now us))) ≡ None) × (new ≡ now ++ row_of x (lit_of now l) (lits_of now us)) → RowsAt x old now ls us k → RowsAt x old new ls us (k + 1)
rows_more x old now new l ls us k hl hu h e a r =
    let i : l < length old = subst (λ (j : ℕ). j < length old) (sym e) (in_at (length old) ls k l h hl) in
    let q = row_longer x old now l us r.longer i hu in
    let s = rows_split x old (lits_of old us) ls k l h e in
    let rest = rows_of x (lits_of old (drop (k + 1) ls)) (lits_of old us) in
    let w = row_of x (lit_of old l) (lits_of old us) in
    let all = rows_of x (lits_of old ls) (lits_of old us) in
    let f : new ≡ now ++ w = a.1 ∙ ap (λ (ys : List Lit). now ++ ys) q in
    let n : first_past (cube_numbers w) ≡ None = ap (λ (ys : List Lit). first_past (cube_numbers ys)) (sym q) ∙ a.0 in
    record {
      longer = longer_by old now new w r.longer f;
      same = ap (λ (ys : List Lit). ys ++ rest) f ∙ append_assoc now w rest ∙ ap (λ (ys : List Lit). now ++ ys) (sym s) ∙ r.same;
      past = past_more (cube_numbers w) (cube_numbers rest) (cube_numbers all) n (ap first_past (sym (numbers-append w rest)) ∙ ap (λ (ys : List Lit). first_past (cube_numbers ys)) (sym s) ∙ r.past);
    }

pub rows_done : (x : ℕ) (old now : List Lit) (ls us : List ℕ) (k : ℕ) → length ls ≤ k → RowsAt x old now ls us k → AddsCube old now (rows_of x (lits_of old ls) (lits_of old us)) (Ok tt)
rows_done x old now ls us k h r =
    let z : rows_of x (lits_of old (drop k ls)) (lits_of old us) ≡ [] = ap (λ (ms : List ℕ). rows_of x (lits_of old ms) (lits_of old us)) (drop_all k ls h) in
    (sym r.past ∙ ap (λ (ys : List Lit). first_past (cube_numbers ys)) z, sym (append_none now) ∙ ap (λ (ys : List Lit). now ++ ys) (sym z) ∙ r.same)

pub rows_refused : (x : ℕ) (old now new end : List Lit) (l : ℕ) (ls us : List ℕ) (k : ℕ) (e : Short Wide) → AreIn (length old) ls → AreIn (length old) us → k < length ls → l ≡ get_or ls k l → AddsCube now new (row_of x (lit_of now l) (lits_of now us)) (Err e) → RowsAt x old now ls us k → AddsCube old end (rows_of x (lits_of old ls) (lits_of old us)) (Err e)
rows_refused x old now new end l ls us k (short.Fault w) hl hu h e a r =
    let i : l < length old = subst (λ (j : ℕ). j < length old) (sym e) (in_at (length old) ls k l h hl) in
    let q = row_longer x old now l us r.longer i hu in
    let s = rows_split x old (lits_of old us) ls k l h e in
    let rest = rows_of x (lits_of old (drop (k + 1) ls)) (lits_of old us) in
    let m = row_of x (lit_of old l) (lits_of old us) in
    past_here (cube_numbers m) (cube_numbers rest) (cube_numbers (rows_of x (lits_of old ls) (lits_of old us))) w.number
    (ap (λ (ys : List Lit). first_past (cube_numbers ys)) (sym q) ∙ a) (ap first_past (sym (numbers-append m rest)) ∙ ap (λ (ys : List Lit). first_past (cube_numbers ys)) (sym s) ∙ r.past)
rows_refused x old now new end l ls us k short.Memory hl hu h e a r = tt

-- ---- the whole elimination

rat_fits : (l : Lit) → IsRow (form_of l) → IsOf Rat l → first_past (lit_numbers l) ≡ None
rat_fits (AtLeast f) r p = row_fits f r
rat_fits (Above f) r p = row_fits f r
rat_fits (Divides d f) r p = absurd p
rat_fits (NotDivides d f) r p = absurd p

-- the literals of a cube that is left fit
free_fits : (t : Lit → Bool) (c : List Lit) → AreRows c → IsCube Rat c → first_past (cube_numbers (filter t c)) ≡ None
free_fits t [] r o = refl
free_fits t (l ∷ c) r o = by (t l) (free_fits t c r.1 o.1)
  where
    by : (b : Bool) → first_past (cube_numbers (filter t c)) ≡ None → first_past (cube_numbers (cond b (l ∷ filter t c) (filter t c))) ≡ None
    by true h = past-append (lit_numbers l) (cube_numbers (filter t c)) (rat_fits l r.0 o.0) ∙ h
    by false h = h

-- the numbers of an elimination are those of its sums
pub sums_decide : (x : ℕ) (lits : List Lit) (ids : List ℕ) (p : Parts) → AreRows (lits_of lits ids) → IsCube Rat (lits_of lits ids) → IsParted x lits ids p → first_past (elimination_numbers Rat (lits_of lits ids) x) ≡ first_past (cube_numbers (rows_of x (lits_of lits p.lower) (lits_of lits p.upper)))
sums_decide x lits ids p r o h =
    let c = lits_of lits ids in
    let s = rows_of x (filter (is_lower x) c) (filter (is_upper x) c) in
    ap first_past (numbers-append (filter (is_free x) c) s)
    ∙ past-append (cube_numbers (filter (is_free x) c)) (cube_numbers s) (free_fits (is_free x) c r o)
    ∙ ap₂ (λ (ls us : List Lit). first_past (cube_numbers (rows_of x ls us))) (sym h.lower) (sym h.upper)

pub taken_out : (x : ℕ) (old new : List Lit) (ids : List ℕ) (p : Parts) (next : List ℕ) (m : ℕ) → AreRows (lits_of old ids) → IsCube Rat (lits_of old ids) → IsParted x old ids p → (first_past (cube_numbers (rows_of x (lits_of old p.lower) (lits_of old p.upper))) ≡ None) × (new ≡ old ++ rows_of x (lits_of old p.lower) (lits_of old p.upper)) → m ≡ length new → next ≡ p.free ++ range_with_len (length old) (m - length old) → TakesOut x old new ids (Ok (record { parts = p; next = next }))
taken_out x old new ids p next m r o h a l e =
    let more = rows_of x (lits_of old p.lower) (lits_of old p.upper) in
    let g : IsLonger old new = record { more = more; longer = a.1 } in
    let k : length new ≡ length old + length more = ap length a.1 ∙ length-append old more in
    let d : m - length old ≡ length more = omega arith in
    let f : next ≡ p.free ++ range_with_len (length old) (length more) = e ∙ ap (λ (j : ℕ). p.free ++ range_with_len (length old) j) d in
    record {
      parted = h;
      next = ap (lits_of new) f ∙ lits_append new p.free (range_with_len (length old) (length more))
          ∙ ap₂ (λ (us vs : List Lit). us ++ vs) (lits_longer old new p.free g h.free_in ∙ h.free)
          (ap (λ (ls : List Lit). lits_of ls (range_with_len (length old) (length more))) a.1 ∙ added_lits old more
          ∙ ap₂ (λ (ls us : List Lit). rows_of x ls us) h.lower h.upper);
      next_in = subst (AreIn (length new)) (sym f) (in_append (length new) p.free (range_with_len (length old) (length more)) (in_longer old new p.free g h.free_in) (row_in (length old) (length more) (length new) (omega arith)));
      longer = g;
      fits = sums_decide x old ids p r o h ∙ a.0;
    }

pub sums_refused : (x : ℕ) (old new end : List Lit) (ids : List ℕ) (p : Parts) (e : Short Wide) → AreRows (lits_of old ids) → IsCube Rat (lits_of old ids) → IsParted x old ids p → AddsCube old new (rows_of x (lits_of old p.lower) (lits_of old p.upper)) (Err e) → TakesOut x old end ids (Err e)
sums_refused x old new end ids p (short.Fault w) r o h a = sums_decide x old ids p r o h ∙ a
sums_refused x old new end ids p short.Memory r o h a = tt

pub parted_lower : (x : ℕ) (lits : List Lit) (ids : List ℕ) (p : Parts) → IsParted x lits ids p → AllByRecursion (λ l. is_lower x l ≡ true) (lits_of lits p.lower)
parted_lower x lits ids p h = subst (λ (ls : List Lit). AllByRecursion (λ l. is_lower x l ≡ true) ls) (sym h.lower) (each_passes (is_lower x) (lits_of lits ids))

pub parted_upper : (x : ℕ) (lits : List Lit) (ids : List ℕ) (p : Parts) → IsParted x lits ids p → AllByRecursion (λ l. is_upper x l ≡ true) (lits_of lits p.upper)
parted_upper x lits ids p h = subst (λ (ls : List Lit). AllByRecursion (λ l. is_upper x l ≡ true) ls) (sym h.upper) (each_passes (is_upper x) (lits_of lits ids))
