use Rattle.std.specs.Prelude.{List, suc, Err, Ok}
use Rattle.std.specs.List.{AllByRecursion}
use Rattle.std.proofs.Common.{ℕ, ◌≡◌, ◌≤◌, ◌+◌, ◌-◌, ◌∙◌, false, ap, sym, subst, arith, length, filter}
use Rattle.lin_term.specs.declared.Sort.TheVariants.{Rat}
use Rattle.lin_term.specs.declared.Lit.{Lit}
use Rattle.lin_term.specs.Linear.{Point}
use Rattle.lin_term.specs.Truth.{truth_of}
use Rattle.dom_core.specs.Cube.{IsPrimitiveCube, IsCube}
use Rattle.dom_core.specs.Elimination.{fourier_motzkin}
use Rattle.dom_core.specs.Reduced.{AreBelow, AreRows, IsReduced}
use Rattle.dom_core.proofs.AddingLemmas.{cube_of}
use Rattle.cube_rules.specs.Lines.{is_false}
use Rattle.cube_elim.specs.Determined.{height, WideBelow}
use Rattle.cube_elim.specs.Reaching.{Keeps, Reaches}
use Rattle.cube_elim.specs.Searching.{IsDetermined}
use Rattle.cube_elim.specs.Stored.{lits_of, AreIn, IsKept, IsLonger}
use Rattle.cube_elim.specs.Summed.{IsWithout}
use Rattle.cube_elim.specs.declared.descent.Reached.{Reached}
use Rattle.cube_elim.specs.declared.store.Store.{Store}
use Rattle.cube_elim.specs.declared.sums.Without.{Without}
use Rattle.cube_elim.proofs.RatWhole.{next_reduced, next_below, leaf_reached, past_reached, wide_reached, point_reached, risen_reached, leaf_keeps, point_keeps, past_keeps, keeps_both, IsClimbable, climbable, point_count, height_below, below_own}
use Rattle.cube_elim.proofs.Storing.{longer_none, longer_both, kept_none}
use Rattle.cube_elim.proofs.descent.+search.Goals as goal

height_is : (store seen : List Lit) (ids : List ℕ) (h : ℕ) → seen ≡ store → h ≡ height (lits_of seen ids) → h ≡ height (lits_of store ids)
height_is store seen ids h e q = q ∙ ap (λ (ls : List Lit). height (lits_of ls ids)) e

-- the cube of the next level
record IsNext (x : ℕ) (old new : List Lit) (ids next : List ℕ) : Type 0 where
  is : lits_of new next ≡ fourier_motzkin (lits_of old ids) x
  inside : AreIn (length new) next
  primitive : IsPrimitiveCube Rat (lits_of new next)
  below : AreBelow x (lits_of new next)
  rows : AreRows (lits_of new next)

next_is : (x : ℕ) (old new : List Lit) (ids next : List ℕ) (w : Without) → next ≡ w.next → IsWithout x old new ids w → IsPrimitiveCube Rat (lits_of old ids) → AreRows (lits_of old ids) → AreBelow (suc x) (lits_of old ids) → IsNext x old new ids next
next_is x old new ids next w e h p r b =
    let q = ap (lits_of new) e ∙ h.next in
    let d = next_reduced x (lits_of old ids) p r b h.fits in
    record {
      is = q;
      inside = subst (AreIn (length new)) (sym e) h.next_in;
      primitive = subst (IsPrimitiveCube Rat) (sym q) d.primitive;
      below = subst (AreBelow x) (sym q) (next_below x (lits_of old ids) d);
      rows = subst AreRows (sym q) d.rows;
    }

pub returns-in-Some-clause-kept : goal.returns-in-Some-clause-kept
returns-in-Some-clause-kept t c = (longer_none c.args.store.now.lits, kept_none c.args.store.now)

pub returns-then-height-eq0-clause-ends : goal.returns-then-height-eq0-clause-ends
returns-then-height-eq0-clause-ends t c =
    let s = c.args.store.now.lits in
    let ids = c.args.ids.now in
    let q = height_is s c.as_slice-2.result.now ids c.height_at-height.result c.as_slice-2.ensures c.height_at-height.ensures in
    let f = subst (λ (ls : List Lit). AllByRecursion (λ l. is_false (truth_of l) ≡ false) (lits_of ls ids)) c.as_slice.ensures c.in-None.ensures.none in
    leaf_reached c.args.n c.height_at-height.result (lits_of s ids) c.origin_point.result s c.point_with_more-then-height-eq0.result c.if-height-eq0.true q c.origin_point.ensures f (cube_of Rat (lits_of s ids) c.requires.primitive) c.point_with_more-then-height-eq0.ensures.kept c.point_with_more-then-height-eq0.ensures.value

pub returns-then-height-eq0-clause-kept : goal.returns-then-height-eq0-clause-kept
returns-then-height-eq0-clause-kept t c =
    leaf_keeps c.args.store.now c.origin_point.result c.args.n c.point_with_more-then-height-eq0.result c.point_with_more-then-height-eq0.ensures.value

pub take_out-requires-clause-rational : goal.take_out-requires-clause-rational
take_out-requires-clause-rational t c = cube_of Rat (lits_of c.args.store.now.lits c.args.ids.now) c.requires.primitive

pub returns-in-Err-clause-ends : goal.returns-in-Err-clause-ends
returns-in-Err-clause-ends t c =
    let s = c.args.store.now.lits in
    let ids = c.args.ids.now in
    let h = c.height_at-height.result in
    let z = c.if-height-eq0.false in
    let q = height_is s c.as_slice-2.result.now ids h c.as_slice-2.ensures c.height_at-height.ensures in
    past_reached c.args.n h (h - 1) s c.take_out.new.store.lits c.take_out.new.store.lits ids c.in-Err.fault c.past_cap.result q (omega arith) c.requires.below c.in-Err.ensures.without c.past_cap.ensures

pub returns-in-Err-clause-kept : goal.returns-in-Err-clause-kept
returns-in-Err-clause-kept t c = past_keeps c.args.store.now c.take_out.new.store c.in-Err.fault c.past_cap.result c.past_cap.ensures

pub search-requires : goal.search-requires
search-requires t c =
    let s = c.args.store.now.lits in
    let ids = c.args.ids.now in
    let h = c.height_at-height.result in
    let x = h - 1 in
    let z = c.if-height-eq0.false in
    let d = c.decreases in
    let q = height_is s c.as_slice-2.result.now ids h c.as_slice-2.ensures c.height_at-height.ensures in
    let l = height_below c.args.n h (lits_of s ids) q c.requires.below in
    let b = subst (λ (m : ℕ). AreBelow m (lits_of s ids)) (let e : h ≡ suc x = omega arith in e) (below_own h (lits_of s ids) q) in
    let k = next_is x s c.take_out.new.store.lits ids c.as_slice-3.result.now c.in-Ok.without c.as_slice-3.ensures c.in-Ok.ensures.without c.requires.primitive c.requires.rows b in
    (omega arith, (k.inside, (k.primitive, (k.below, k.rows))))

pub climb-requires-clause-lower_in : goal.climb-requires-clause-lower_in
climb-requires-clause-lower_in t c =
    let s = c.args.store.now.lits in
    let ids = c.args.ids.now in
    let h = c.height_at-height.result in
    let x = h - 1 in
    let z = c.if-height-eq0.false in
    let q = height_is s c.as_slice-2.result.now ids h c.as_slice-2.ensures c.height_at-height.ensures in
    let b = subst (λ (m : ℕ). AreBelow m (lits_of s ids)) (let e : h ≡ suc x = omega arith in e) (below_own h (lits_of s ids) q) in
    let k = next_is x s c.take_out.new.store.lits ids c.as_slice-3.result.now c.in-Ok.without c.as_slice-3.ensures c.in-Ok.ensures.without c.requires.primitive c.requires.rows b in
    let g = subst (λ (r : Reached). Keeps c.take_out.new.store c.search.new.store r) c.in-Point.is c.in-Ok-search.ensures.kept in
    let l = subst (λ (ls : List Lit). IsLonger s ls) (sym c.as_slice-in-Point.ensures) (longer_both s c.take_out.new.store.lits c.search.new.store.lits c.in-Ok.ensures.without.longer g.0) in
    let m = climbable x h s c.as_slice-in-Point.result.now ids c.in-Ok.without.parts c.in-Ok.ensures.without.parted l (below_own h (lits_of s ids) q) in
    m.lower_in

pub climb-requires-clause-upper_in : goal.climb-requires-clause-upper_in
climb-requires-clause-upper_in t c =
    let s = c.args.store.now.lits in
    let ids = c.args.ids.now in
    let h = c.height_at-height.result in
    let x = h - 1 in
    let z = c.if-height-eq0.false in
    let q = height_is s c.as_slice-2.result.now ids h c.as_slice-2.ensures c.height_at-height.ensures in
    let b = subst (λ (m : ℕ). AreBelow m (lits_of s ids)) (let e : h ≡ suc x = omega arith in e) (below_own h (lits_of s ids) q) in
    let k = next_is x s c.take_out.new.store.lits ids c.as_slice-3.result.now c.in-Ok.without c.as_slice-3.ensures c.in-Ok.ensures.without c.requires.primitive c.requires.rows b in
    let g = subst (λ (r : Reached). Keeps c.take_out.new.store c.search.new.store r) c.in-Point.is c.in-Ok-search.ensures.kept in
    let l = subst (λ (ls : List Lit). IsLonger s ls) (sym c.as_slice-in-Point.ensures) (longer_both s c.take_out.new.store.lits c.search.new.store.lits c.in-Ok.ensures.without.longer g.0) in
    let m = climbable x h s c.as_slice-in-Point.result.now ids c.in-Ok.without.parts c.in-Ok.ensures.without.parted l (below_own h (lits_of s ids) q) in
    m.upper_in

pub climb-requires-clause-lower : goal.climb-requires-clause-lower
climb-requires-clause-lower t c =
    let s = c.args.store.now.lits in
    let ids = c.args.ids.now in
    let h = c.height_at-height.result in
    let x = h - 1 in
    let z = c.if-height-eq0.false in
    let q = height_is s c.as_slice-2.result.now ids h c.as_slice-2.ensures c.height_at-height.ensures in
    let b = subst (λ (m : ℕ). AreBelow m (lits_of s ids)) (let e : h ≡ suc x = omega arith in e) (below_own h (lits_of s ids) q) in
    let k = next_is x s c.take_out.new.store.lits ids c.as_slice-3.result.now c.in-Ok.without c.as_slice-3.ensures c.in-Ok.ensures.without c.requires.primitive c.requires.rows b in
    let g = subst (λ (r : Reached). Keeps c.take_out.new.store c.search.new.store r) c.in-Point.is c.in-Ok-search.ensures.kept in
    let l = subst (λ (ls : List Lit). IsLonger s ls) (sym c.as_slice-in-Point.ensures) (longer_both s c.take_out.new.store.lits c.search.new.store.lits c.in-Ok.ensures.without.longer g.0) in
    let m = climbable x h s c.as_slice-in-Point.result.now ids c.in-Ok.without.parts c.in-Ok.ensures.without.parted l (below_own h (lits_of s ids) q) in
    m.lower

pub climb-requires-clause-upper : goal.climb-requires-clause-upper
climb-requires-clause-upper t c =
    let s = c.args.store.now.lits in
    let ids = c.args.ids.now in
    let h = c.height_at-height.result in
    let x = h - 1 in
    let z = c.if-height-eq0.false in
    let q = height_is s c.as_slice-2.result.now ids h c.as_slice-2.ensures c.height_at-height.ensures in
    let b = subst (λ (m : ℕ). AreBelow m (lits_of s ids)) (let e : h ≡ suc x = omega arith in e) (below_own h (lits_of s ids) q) in
    let k = next_is x s c.take_out.new.store.lits ids c.as_slice-3.result.now c.in-Ok.without c.as_slice-3.ensures c.in-Ok.ensures.without c.requires.primitive c.requires.rows b in
    let g = subst (λ (r : Reached). Keeps c.take_out.new.store c.search.new.store r) c.in-Point.is c.in-Ok-search.ensures.kept in
    let l = subst (λ (ls : List Lit). IsLonger s ls) (sym c.as_slice-in-Point.ensures) (longer_both s c.take_out.new.store.lits c.search.new.store.lits c.in-Ok.ensures.without.longer g.0) in
    let m = climbable x h s c.as_slice-in-Point.result.now ids c.in-Ok.without.parts c.in-Ok.ensures.without.parted l (below_own h (lits_of s ids) q) in
    m.upper

pub climb-requires-clause-lower_below : goal.climb-requires-clause-lower_below
climb-requires-clause-lower_below t c =
    let s = c.args.store.now.lits in
    let ids = c.args.ids.now in
    let h = c.height_at-height.result in
    let x = h - 1 in
    let z = c.if-height-eq0.false in
    let q = height_is s c.as_slice-2.result.now ids h c.as_slice-2.ensures c.height_at-height.ensures in
    let b = subst (λ (m : ℕ). AreBelow m (lits_of s ids)) (let e : h ≡ suc x = omega arith in e) (below_own h (lits_of s ids) q) in
    let k = next_is x s c.take_out.new.store.lits ids c.as_slice-3.result.now c.in-Ok.without c.as_slice-3.ensures c.in-Ok.ensures.without c.requires.primitive c.requires.rows b in
    let g = subst (λ (r : Reached). Keeps c.take_out.new.store c.search.new.store r) c.in-Point.is c.in-Ok-search.ensures.kept in
    let l = subst (λ (ls : List Lit). IsLonger s ls) (sym c.as_slice-in-Point.ensures) (longer_both s c.take_out.new.store.lits c.search.new.store.lits c.in-Ok.ensures.without.longer g.0) in
    let m = climbable x h s c.as_slice-in-Point.result.now ids c.in-Ok.without.parts c.in-Ok.ensures.without.parted l (below_own h (lits_of s ids) q) in
    let d = subst (λ (r : Reached). Reaches x (lits_of c.take_out.new.store.lits c.as_slice-3.result.now) c.search.new.store.lits r) c.in-Point.is c.in-Ok-search.ensures.ends in
    let n = point_count x (lits_of c.take_out.new.store.lits c.as_slice-3.result.now) c.in-Point.point (cube_of Rat (lits_of c.take_out.new.store.lits c.as_slice-3.result.now) k.primitive) d in
    subst (λ (j : ℕ). AreBelow j (lits_of c.as_slice-in-Point.result.now c.in-Ok.without.parts.lower)) (let e : h ≡ length c.in-Point.point.nums + 1 = omega arith in e) m.lower_below

pub climb-requires-clause-upper_below : goal.climb-requires-clause-upper_below
climb-requires-clause-upper_below t c =
    let s = c.args.store.now.lits in
    let ids = c.args.ids.now in
    let h = c.height_at-height.result in
    let x = h - 1 in
    let z = c.if-height-eq0.false in
    let q = height_is s c.as_slice-2.result.now ids h c.as_slice-2.ensures c.height_at-height.ensures in
    let b = subst (λ (m : ℕ). AreBelow m (lits_of s ids)) (let e : h ≡ suc x = omega arith in e) (below_own h (lits_of s ids) q) in
    let k = next_is x s c.take_out.new.store.lits ids c.as_slice-3.result.now c.in-Ok.without c.as_slice-3.ensures c.in-Ok.ensures.without c.requires.primitive c.requires.rows b in
    let g = subst (λ (r : Reached). Keeps c.take_out.new.store c.search.new.store r) c.in-Point.is c.in-Ok-search.ensures.kept in
    let l = subst (λ (ls : List Lit). IsLonger s ls) (sym c.as_slice-in-Point.ensures) (longer_both s c.take_out.new.store.lits c.search.new.store.lits c.in-Ok.ensures.without.longer g.0) in
    let m = climbable x h s c.as_slice-in-Point.result.now ids c.in-Ok.without.parts c.in-Ok.ensures.without.parted l (below_own h (lits_of s ids) q) in
    let d = subst (λ (r : Reached). Reaches x (lits_of c.take_out.new.store.lits c.as_slice-3.result.now) c.search.new.store.lits r) c.in-Point.is c.in-Ok-search.ensures.ends in
    let n = point_count x (lits_of c.take_out.new.store.lits c.as_slice-3.result.now) c.in-Point.point (cube_of Rat (lits_of c.take_out.new.store.lits c.as_slice-3.result.now) k.primitive) d in
    subst (λ (j : ℕ). AreBelow j (lits_of c.as_slice-in-Point.result.now c.in-Ok.without.parts.upper)) (let e : h ≡ length c.in-Point.point.nums + 1 = omega arith in e) m.upper_below

pub overflow_sub-n : goal.overflow_sub-n
overflow_sub-n t c =
    let s = c.args.store.now.lits in
    let ids = c.args.ids.now in
    let h = c.height_at-height.result in
    let q = height_is s c.as_slice-2.result.now ids h c.as_slice-2.ensures c.height_at-height.ensures in
    height_below c.args.n h (lits_of s ids) q c.requires.below

pub returns-in-Ok-climb-clause-ends : goal.returns-in-Ok-climb-clause-ends
returns-in-Ok-climb-clause-ends t c =
    let s = c.args.store.now.lits in
    let ids = c.args.ids.now in
    let h = c.height_at-height.result in
    let x = h - 1 in
    let z = c.if-height-eq0.false in
    let q = height_is s c.as_slice-2.result.now ids h c.as_slice-2.ensures c.height_at-height.ensures in
    let b = subst (λ (m : ℕ). AreBelow m (lits_of s ids)) (let e : h ≡ suc x = omega arith in e) (below_own h (lits_of s ids) q) in
    let k = next_is x s c.take_out.new.store.lits ids c.as_slice-3.result.now c.in-Ok.without c.as_slice-3.ensures c.in-Ok.ensures.without c.requires.primitive c.requires.rows b in
    let g = subst (λ (r : Reached). Keeps c.take_out.new.store c.search.new.store r) c.in-Point.is c.in-Ok-search.ensures.kept in
    let l = subst (λ (ls : List Lit). IsLonger s ls) (sym c.as_slice-in-Point.ensures) (longer_both s c.take_out.new.store.lits c.search.new.store.lits c.in-Ok.ensures.without.longer g.0) in
    let m = climbable x h s c.as_slice-in-Point.result.now ids c.in-Ok.without.parts c.in-Ok.ensures.without.parted l (below_own h (lits_of s ids) q) in
    let d = subst (λ (r : Reached). Reaches x (lits_of c.take_out.new.store.lits c.as_slice-3.result.now) c.search.new.store.lits r) c.in-Point.is c.in-Ok-search.ensures.ends in
    let i = subst (λ (ls : List Lit). IsDetermined Rat x ls c.in-Point.point) k.is d in
    point_reached c.args.n h x (lits_of s ids) (lits_of c.as_slice-in-Point.result.now c.in-Ok.without.parts.lower) (lits_of c.as_slice-in-Point.result.now c.in-Ok.without.parts.upper) c.search.new.store.lits c.in-Point.point c.in-Ok-climb.higher c.point_with_more-in-Ok-climb.result
    q (omega arith) c.requires.below (cube_of Rat (lits_of s ids) c.requires.primitive) m.lower_is m.upper_is i c.in-Ok-climb.ensures c.point_with_more-in-Ok-climb.ensures.kept c.point_with_more-in-Ok-climb.ensures.value

pub returns-in-Ok-climb-clause-kept : goal.returns-in-Ok-climb-clause-kept
returns-in-Ok-climb-clause-kept t c =
    let g = subst (λ (r : Reached). Keeps c.take_out.new.store c.search.new.store r) c.in-Point.is c.in-Ok-search.ensures.kept in
    point_keeps c.args.store.now c.search.new.store c.in-Ok-climb.higher (c.args.n - c.height_at-height.result) c.point_with_more-in-Ok-climb.result
    (keeps_both c.args.store.now c.take_out.new.store c.search.new.store (c.in-Ok.ensures.without.longer, c.in-Ok.ensures.kept) g) c.point_with_more-in-Ok-climb.ensures.value

pub returns-in-Point-clause-ends : goal.returns-in-Point-clause-ends
returns-in-Point-clause-ends t c =
    let s = c.args.store.now.lits in
    let ids = c.args.ids.now in
    let h = c.height_at-height.result in
    let x = h - 1 in
    let z = c.if-height-eq0.false in
    let q = height_is s c.as_slice-2.result.now ids h c.as_slice-2.ensures c.height_at-height.ensures in
    let b = subst (λ (m : ℕ). AreBelow m (lits_of s ids)) (let e : h ≡ suc x = omega arith in e) (below_own h (lits_of s ids) q) in
    let k = next_is x s c.take_out.new.store.lits ids c.as_slice-3.result.now c.in-Ok.without c.as_slice-3.ensures c.in-Ok.ensures.without c.requires.primitive c.requires.rows b in
    let g = subst (λ (r : Reached). Keeps c.take_out.new.store c.search.new.store r) c.in-Point.is c.in-Ok-search.ensures.kept in
    let l = subst (λ (ls : List Lit). IsLonger s ls) (sym c.as_slice-in-Point.ensures) (longer_both s c.take_out.new.store.lits c.search.new.store.lits c.in-Ok.ensures.without.longer g.0) in
    let m = climbable x h s c.as_slice-in-Point.result.now ids c.in-Ok.without.parts c.in-Ok.ensures.without.parted l (below_own h (lits_of s ids) q) in
    let d = subst (λ (r : Reached). Reaches x (lits_of c.take_out.new.store.lits c.as_slice-3.result.now) c.search.new.store.lits r) c.in-Point.is c.in-Ok-search.ensures.ends in
    let i = subst (λ (ls : List Lit). IsDetermined Rat x ls c.in-Point.point) k.is d in
    risen_reached c.args.n h x (lits_of s ids) (lits_of c.as_slice-in-Point.result.now c.in-Ok.without.parts.lower) (lits_of c.as_slice-in-Point.result.now c.in-Ok.without.parts.upper) c.search.new.store.lits c.in-Point.point c.in-Err-climb.fault c.past_cap-in-Err-climb.result
    q (omega arith) c.requires.below (cube_of Rat (lits_of s ids) c.requires.primitive) m.lower_is m.upper_is i c.in-Err-climb.ensures c.past_cap-in-Err-climb.ensures

pub returns-in-Point-clause-kept : goal.returns-in-Point-clause-kept
returns-in-Point-clause-kept t c = past_keeps c.args.store.now c.search.new.store c.in-Err-climb.fault c.past_cap-in-Err-climb.result c.past_cap-in-Err-climb.ensures

pub returns-in-False-clause-ends : goal.returns-in-False-clause-ends
returns-in-False-clause-ends t c =
    let x = c.height_at-height.result - 1 in
    subst (λ (r : Reached). Reaches x (lits_of c.take_out.new.store.lits c.as_slice-3.result.now) c.search.new.store.lits r) c.in-False.is c.in-Ok-search.ensures.ends

pub returns-in-False-clause-kept : goal.returns-in-False-clause-kept
returns-in-False-clause-kept t c =
    keeps_both c.args.store.now c.take_out.new.store c.search.new.store (c.in-Ok.ensures.without.longer, c.in-Ok.ensures.kept)
    (subst (λ (r : Reached). Keeps c.take_out.new.store c.search.new.store r) c.in-False.is c.in-Ok-search.ensures.kept)

pub returns-clause-ends : goal.returns-clause-ends
returns-clause-ends t c =
    let s = c.args.store.now.lits in
    let ids = c.args.ids.now in
    let h = c.height_at-height.result in
    let x = h - 1 in
    let z = c.if-height-eq0.false in
    let q = height_is s c.as_slice-2.result.now ids h c.as_slice-2.ensures c.height_at-height.ensures in
    let b = subst (λ (m : ℕ). AreBelow m (lits_of s ids)) (let e : h ≡ suc x = omega arith in e) (below_own h (lits_of s ids) q) in
    let k = next_is x s c.take_out.new.store.lits ids c.as_slice-3.result.now c.in-Ok.without c.as_slice-3.ensures c.in-Ok.ensures.without c.requires.primitive c.requires.rows b in
    let w = subst (λ (r : Reached). Reaches x (lits_of c.take_out.new.store.lits c.as_slice-3.result.now) c.search.new.store.lits r) c.in-Wide.is c.in-Ok-search.ensures.ends in
    wide_reached c.args.n h x (lits_of s ids) c.in-Wide.wide.number q (omega arith) c.requires.below (subst (λ (ls : List Lit). WideBelow x Rat ls c.in-Wide.wide.number) k.is w)
