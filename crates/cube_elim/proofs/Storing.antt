-- Literals by their places in a list that grows.
use Rattle.std.specs.Prelude.{ℕ, zero, suc, ◌+◌, ◌-◌, ◌<◌, ◌≤◌, ◌≡◌, Bool, true, false, cond, None, List, [], ◌∷◌, ◌++◌, length, get_or, drop, map, filter}
use Rattle.std.specs.List.{AllByRecursion, range_with_len}
use Rattle.std.proofs.Common.{arith, ap, ap₂, ◌∙◌, sym, subst, refl, inl, inr, length-append}
use Rattle.std.proofs.lemmas.Bool.{cases_lt}
use Rattle.std.proofs.lemmas.List.{get_or_append_left, get_or_push, get_or_default, get_or-append-add}
use Rattle.lin_term.specs.declared.Lit.{Lit}
use Rattle.dom_core.specs.Elimination.{is_lower, is_upper, resolvent}
use Rattle.dom_core.proofs.AddingLemmas.{append_assoc, append_none, split_at}
use Rattle.cube_elim.specs.declared.store.Pair.{Pair}
use Rattle.cube_elim.specs.declared.store.Store.{Store}
use Rattle.cube_elim.specs.Stored.{no_literal, no_pair, lit_of, lits_of, when, AreIn, IsPairSum, IsStore, IsKept, IsLonger}

-- a literal that is read
pub read_lit : (lits : List Lit) (i : ℕ) (l : Lit) → i < length lits → l ≡ get_or lits i l → lit_of lits i ≡ l
read_lit lits i l h e = get_or_default lits i no_literal l h ∙ sym e

pub lit_stays : (old more : List Lit) (i : ℕ) → i < length old → lit_of (old ++ more) i ≡ lit_of old i
lit_stays old more i h = get_or_append_left old more no_literal i h

pub lits_stay : (old more : List Lit) (ids : List ℕ) → AreIn (length old) ids → lits_of (old ++ more) ids ≡ lits_of old ids
lits_stay old more [] h = refl
lits_stay old more (i ∷ ids) h = ap₂ (λ (l : Lit) (ls : List Lit). l ∷ ls) (lit_stays old more i h.0) (lits_stay old more ids h.1)

pub in_more : (n m : ℕ) (ids : List ℕ) → n ≤ m → AreIn n ids → AreIn m ids
in_more n m [] o h = tt
in_more n m (i ∷ ids) o h = (let k = h.0 in omega arith, in_more n m ids o h.1)

pub in_at : (n : ℕ) (ids : List ℕ) (k d : ℕ) → k < length ids → AreIn n ids → get_or ids k d < n
in_at n [] k d o h = absurd (omega arith)
in_at n (i ∷ ids) zero d o h = h.0
in_at n (i ∷ ids) (suc k) d o h = in_at n ids k d (omega arith) h.1

pub in_push : (n : ℕ) (ids : List ℕ) (i : ℕ) → AreIn n ids → i < n → AreIn n (ids ++ i ∷ [])
in_push n [] i h k = (k, tt)
in_push n (j ∷ ids) i h k = (h.0, in_push n ids i h.1 k)

pub in_append : (n : ℕ) (ids more : List ℕ) → AreIn n ids → AreIn n more → AreIn n (ids ++ more)
in_append n [] more h k = k
in_append n (j ∷ ids) more h k = (h.0, in_append n ids more h.1 k)

pub lits_append : (lits : List Lit) (ids more : List ℕ) → lits_of lits (ids ++ more) ≡ lits_of lits ids ++ lits_of lits more
lits_append lits [] more = refl
lits_append lits (i ∷ ids) more = ap (λ (ls : List Lit). lit_of lits i ∷ ls) (lits_append lits ids more)

-- ---- one more sum

sum_stays : (old more : List Lit) (k : ℕ) (p : Pair) → k < length old → IsPairSum old k p → IsPairSum (old ++ more) k p
sum_stays old more k p h s =
    let a = sym (lit_stays old more p.lower (let b = s.lower_before in omega arith)) in
    let b = sym (lit_stays old more p.upper (let b = s.upper_before in omega arith)) in
    record {
      lower_before = s.lower_before;
      upper_before = s.upper_before;
      lower = ap (is_lower p.var) (sym a) ∙ s.lower;
      upper = ap (is_upper p.var) (sym b) ∙ s.upper;
      made = lit_stays old more k h ∙ s.made ∙ ap₂ (resolvent p.var) a b;
    }

sum_comes : (old : List Lit) (r : Lit) (p : Pair) → p.lower < length old → p.upper < length old → is_lower p.var (lit_of old p.lower) ≡ true → is_upper p.var (lit_of old p.upper) ≡ true → r ≡ resolvent p.var (lit_of old p.lower) (lit_of old p.upper) → IsPairSum (old ++ r ∷ []) (length old) p
sum_comes old r p h k l u e =
    let a = sym (lit_stays old (r ∷ []) p.lower h) in
    let b = sym (lit_stays old (r ∷ []) p.upper k) in
    record {
      lower_before = h;
      upper_before = k;
      lower = ap (is_lower p.var) (sym a) ∙ l;
      upper = ap (is_upper p.var) (sym b) ∙ u;
      made = get_or_push old r no_literal (length old) refl ∙ e ∙ ap₂ (resolvent p.var) a b;
    }

pub store_more : (g : ℕ) (s : Store) (new : List Lit) (pairs : List Pair) (p : Pair) → p.lower < length s.lits → p.upper < length s.lits → is_lower p.var (lit_of s.lits p.lower) ≡ true → is_upper p.var (lit_of s.lits p.upper) ≡ true → new ≡ s.lits ++ resolvent p.var (lit_of s.lits p.lower) (lit_of s.lits p.upper) ∷ [] → pairs ≡ s.pairs ++ p ∷ [] → IsStore g s → IsStore g (record { lits = new; pairs = pairs })
store_more g s new pairs p h k l u e f st =
    let r : Lit = resolvent p.var (lit_of s.lits p.lower) (lit_of s.lits p.upper) in
    let ln : length new ≡ length s.lits + 1 = ap length e ∙ length-append s.lits (r ∷ []) in
    let lp : length pairs ≡ length s.pairs + 1 = ap length f ∙ length-append s.pairs (p ∷ []) in
    let c = st.count in
    record { count = omega arith; sums = λ i o. by i (omega arith) }
  where
    by : (i : ℕ) → i < length s.pairs + 1 → IsPairSum new (g + i) (get_or pairs i no_pair)
    by i o =
        let r : Lit = resolvent p.var (lit_of s.lits p.lower) (lit_of s.lits p.upper) in
        let c = st.count in
        elim (cases_lt i (length s.pairs)) [
          | inl a ↦
              subst (λ (ls : List Lit). IsPairSum ls (g + i) (get_or pairs i no_pair)) (sym e)
              (subst (λ (q : Pair). IsPairSum (s.lits ++ r ∷ []) (g + i) q) (sym (ap (λ (ps : List Pair). get_or ps i no_pair) f ∙ get_or_append_left s.pairs (p ∷ []) no_pair i a))
              (sum_stays s.lits (r ∷ []) (g + i) (get_or s.pairs i no_pair) (omega arith) (st.sums i a)))
          | inr a ↦
              let q : i ≡ length s.pairs = omega arith in
              let w : g + i ≡ length s.lits = omega arith in
              subst (λ (ls : List Lit). IsPairSum ls (g + i) (get_or pairs i no_pair)) (sym e)
              (subst (λ (q : Pair). IsPairSum (s.lits ++ r ∷ []) (g + i) q) (sym (ap (λ (ps : List Pair). get_or ps i no_pair) f ∙ get_or_push s.pairs p no_pair i (sym q)))
              (subst (λ (j : ℕ). IsPairSum (s.lits ++ r ∷ []) j p) (sym w) (sum_comes s.lits r p h k l u refl)))
        ]

-- ---- places that are parted

-- a place is put with the others where its literal passes
pub parted_more : (p : Lit → Bool) (lits : List Lit) (ids : List ℕ) (k i : ℕ) (l : Lit) (out new : List ℕ) (all : List Lit) → k < length ids → i ≡ get_or ids k i → lit_of lits i ≡ l → new ≡ out ++ when (p l) i → lits_of lits out ++ filter p (lits_of lits (drop k ids)) ≡ all → lits_of lits new ++ filter p (lits_of lits (drop (k + 1) ids)) ≡ all
parted_more p lits ids k i l out new all h e q n a =
    ap (λ (us : List ℕ). lits_of lits us ++ filter p (lits_of lits (drop (k + 1) ids))) n
    ∙ by (p l) refl
    ∙ ap (λ (us : List ℕ). lits_of lits out ++ filter p (lits_of lits us)) (sym (split_at ids k i h e))
    ∙ a
  where
    rest : List Lit
    rest = filter p (lits_of lits (drop (k + 1) ids))

    by : (b : Bool) → p l ≡ b → lits_of lits (out ++ when b i) ++ filter p (lits_of lits (drop (k + 1) ids)) ≡ lits_of lits out ++ filter p (lit_of lits i ∷ lits_of lits (drop (k + 1) ids))
    by true f =
        ap (λ (us : List Lit). us ++ rest) (lits_append lits out (i ∷ []))
        ∙ append_assoc (lits_of lits out) (lit_of lits i ∷ []) rest
        ∙ ap (λ (b : Bool). lits_of lits out ++ cond b (lit_of lits i ∷ rest) rest) (sym (ap p q ∙ f))
    by false f =
        ap (λ (us : List ℕ). lits_of lits us ++ rest) (append_none out)
        ∙ ap (λ (b : Bool). lits_of lits out ++ cond b (lit_of lits i ∷ rest) rest) (sym (ap p q ∙ f))

pub in_where : (n : ℕ) (b : Bool) (i : ℕ) (out new : List ℕ) → i < n → new ≡ out ++ when b i → AreIn n out → AreIn n new
in_where n true i out new h e k = subst (AreIn n) (sym e) (in_push n out i k h)
in_where n false i out new h e k = subst (AreIn n) (sym (e ∙ append_none out)) k

-- ---- places in a row

pub row_in : (a n m : ℕ) → a + n ≤ m → AreIn m (range_with_len a n)
row_in a zero m h = tt
row_in a (suc n) m h = (omega arith, row_in (a + 1) n m (omega arith))

row_reads : (old more : List Lit) (a n : ℕ) (before rest : List Lit) → more ≡ before ++ rest → a ≡ length old + length before → n ≡ length rest → lits_of (old ++ more) (range_with_len a n) ≡ rest
row_reads old more a zero before [] e h k = refl
row_reads old more a zero before (l ∷ rest) e h k = absurd (omega arith)
row_reads old more a (suc n) before [] e h k = absurd (omega arith)
row_reads old more a (suc n) before (l ∷ rest) e h k =
    ap₂ (λ (m : Lit) (ms : List Lit). m ∷ ms)
    (ap (λ (j : ℕ). lit_of (old ++ more) j) h ∙ get_or-append-add old more (length before) no_literal
    ∙ ap (λ (ls : List Lit). get_or ls (length before) no_literal) e
    ∙ ap (λ (j : ℕ). get_or (before ++ l ∷ rest) j no_literal) (let z : length before ≡ length before + 0 = omega arith in z)
    ∙ get_or-append-add before (l ∷ rest) 0 no_literal)
    (row_reads old more (a + 1) n (before ++ l ∷ []) rest (e ∙ sym (append_assoc before (l ∷ []) rest))
    (let z = length-append before (l ∷ []) in omega arith) (omega arith))

-- the literals that were added
pub added_lits : (old more : List Lit) → lits_of (old ++ more) (range_with_len (length old) (length more)) ≡ more
added_lits old more = row_reads old more (length old) (length more) [] more refl (omega arith) refl

pub read_of : (lits seen : List Lit) (i : ℕ) (l : Lit) → seen ≡ lits → i < length lits → l ≡ get_or seen i l → lit_of lits i ≡ l
read_of lits seen i l q h e = read_lit lits i l h (e ∙ ap (λ (ls : List Lit). get_or ls i l) q)

pub kept_none : (s : Store) → IsKept s s
kept_none s g h = h

pub kept_both : (s t u : Store) → IsKept s t → IsKept t u → IsKept s u
kept_both s t u h k g o = k g (h g o)

pub longer_none : (lits : List Lit) → IsLonger lits lits
longer_none lits = record { more = []; longer = sym (append_none lits) }

pub longer_by : (old now new more : List Lit) → IsLonger old now → new ≡ now ++ more → IsLonger old new
longer_by old now new more l e =
    record { more = l.more ++ more; longer = e ∙ ap (λ (ls : List Lit). ls ++ more) l.longer ∙ append_assoc old l.more more }

pub longer_length : (old new : List Lit) → IsLonger old new → length old ≤ length new
longer_length old new l = let e = ap length l.longer in let f = length-append old l.more in omega arith

pub lit_longer : (old new : List Lit) (i : ℕ) → IsLonger old new → i < length old → lit_of new i ≡ lit_of old i
lit_longer old new i l h = ap (λ (ls : List Lit). lit_of ls i) l.longer ∙ lit_stays old l.more i h

pub lits_longer : (old new : List Lit) (ids : List ℕ) → IsLonger old new → AreIn (length old) ids → lits_of new ids ≡ lits_of old ids
lits_longer old new ids l h = ap (λ (ls : List Lit). lits_of ls ids) l.longer ∙ lits_stay old l.more ids h

pub in_longer : (old new : List Lit) (ids : List ℕ) → IsLonger old new → AreIn (length old) ids → AreIn (length new) ids
in_longer old new ids l h = in_more (length old) (length new) ids (longer_length old new l) h

-- what each literal at the places has
pub each_at : (F : Lit → Type 0) (lits : List Lit) (ids : List ℕ) (k i : ℕ) (l : Lit) → k < length ids → i ≡ get_or ids k i → AreIn (length lits) ids → l ≡ get_or lits i l → AllByRecursion F (lits_of lits ids) → F l
each_at F lits [] k i l h q n e a = absurd (omega arith)
each_at F lits (j ∷ ids) zero i l h q n e a = subst F (read_lit lits j l n.0 (e ∙ ap (λ (m : ℕ). get_or lits m l) q)) a.0
each_at F lits (j ∷ ids) (suc k) i l h q n e a = each_at F lits ids k i l (omega arith) q n.1 e a.1

-- what the literal at a place has, also where the list is longer
all_of : (F : Lit → Type 0) (lits : List Lit) (ids : List ℕ) (k : ℕ) → k < length ids → AllByRecursion F (lits_of lits ids) → F (lit_of lits (get_or ids k 0))
all_of F lits [] k h a = absurd (omega arith)
all_of F lits (i ∷ ids) zero h a = a.0
all_of F lits (i ∷ ids) (suc k) h a = all_of F lits ids k (omega arith) a.1

pub longer_at : (F : Lit → Type 0) (old now : List Lit) (ids : List ℕ) (k : ℕ) → IsLonger old now → AreIn (length old) ids → k < length ids → AllByRecursion F (lits_of old ids) → F (lit_of now (get_or ids k 0))
longer_at F old now ids k l n h a = subst F (sym (lit_longer old now (get_or ids k 0) l (in_at (length old) ids k 0 h n))) (all_of F old ids k h a)

range_push : (a n : ℕ) → range_with_len a (suc n) ≡ range_with_len a n ++ (a + n) ∷ []
range_push a zero = ap (λ (i : ℕ). i ∷ []) (let e : a ≡ a + 0 = omega arith in e)
range_push a (suc n) =
    ap (λ (is : List ℕ). a ∷ is) (range_push (a + 1) n)
    ∙ ap (λ (i : ℕ). a ∷ (range_with_len (a + 1) n ++ i ∷ [])) (let e : (a + 1) + n ≡ a + suc n = omega arith in e)

-- one more place in the row
pub row_push : (free ids new : List ℕ) (a p : ℕ) → a ≤ p → ids ≡ free ++ range_with_len a (p - a) → new ≡ ids ++ p ∷ [] → new ≡ free ++ range_with_len a ((p + 1) - a)
row_push free ids new a p h e f =
    f ∙ ap (λ (is : List ℕ). is ++ p ∷ []) e ∙ append_assoc free (range_with_len a (p - a)) (p ∷ [])
    ∙ ap (λ (is : List ℕ). free ++ is)
    (ap (λ (i : ℕ). range_with_len a (p - a) ++ i ∷ []) (let u : p ≡ a + (p - a) = omega arith in u) ∙ sym (range_push a (p - a))
    ∙ ap (range_with_len a) (let u : suc (p - a) ≡ (p + 1) - a = omega arith in u))

-- the first of the literals that are left
pub rest_reads : (lits : List Lit) (ids : List ℕ) (k i : ℕ) (l : Lit) → k < length ids → i ≡ get_or ids k i → i < length lits → l ≡ get_or lits i l → lits_of lits (drop k ids) ≡ l ∷ lits_of lits (drop (k + 1) ids)
rest_reads lits ids k i l h e n q =
    ap (lits_of lits) (split_at ids k i h e) ∙ ap (λ (m : Lit). m ∷ lits_of lits (drop (k + 1) ids)) (read_lit lits i l n q)

-- the same at the place that is read
pub rest_of : (lits : List Lit) (ids : List ℕ) (k : ℕ) (l : Lit) → k < length ids → AreIn (length lits) ids → l ≡ get_or lits (get_or ids k 0) l → lits_of lits (drop k ids) ≡ l ∷ lits_of lits (drop (k + 1) ids)
rest_of lits ids k l h n q = rest_reads lits ids k (get_or ids k 0) l h (get_or_default ids k 0 (get_or ids k 0) h) (in_at (length lits) ids k 0 h n) q

pub read_each : (F : Lit → Type 0) (lits : List Lit) (ids : List ℕ) (k : ℕ) (l : Lit) → k < length ids → AreIn (length lits) ids → l ≡ get_or lits (get_or ids k 0) l → AllByRecursion F (lits_of lits ids) → F l
read_each F lits ids k l h n q a = each_at F lits ids k (get_or ids k 0) l h (get_or_default ids k 0 (get_or ids k 0) h) n q a

pub row_next : (ids new : List ℕ) (i : ℕ) → ids ≡ range_with_len 0 i → new ≡ ids ++ i ∷ [] → new ≡ range_with_len 0 (i + 1)
row_next ids new i e f =
    f ∙ ap (λ (is : List ℕ). is ++ i ∷ []) e
    ∙ ap (λ (j : ℕ). range_with_len 0 i ++ j ∷ []) (let u : i ≡ 0 + i = omega arith in u) ∙ sym (range_push 0 i)
    ∙ ap (range_with_len 0) (let u : suc i ≡ i + 1 = omega arith in u)

pub longer_both : (old mid new : List Lit) → IsLonger old mid → IsLonger mid new → IsLonger old new
longer_both old mid new a b = longer_by old mid new b.more a b.longer
