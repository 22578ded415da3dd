-- Literals at points: each is decided, and the negation is the contrary.
use Rattle.std.specs.Prelude.{ℕ, ◌*◌, ◌%◌, ◌≤◌, ◌≡◌, ◌⊎◌, ℤ, pos, negsuc, ◌*ℤ◌, ◌<ℤ◌, nat_abs, List, length}
use Rattle.std.proofs.Common.{arith, ◌∙◌, sym, subst, refl, inl, inr}
use Rattle.std.proofs.lemmas.Int.{ints, by_lt_z}
use Rattle.std.proofs.lemmas.Bool.{cases_eq}
use Rattle.lin_term.specs.Linear.{Sort, Rat, Int, Point, IsPoint, dot, times, constant_form, Below, rename}
use Rattle.lin_term.specs.Literal.{Lit, AtLeast, Above, Divides, NotDivides, Holds, opposite, IsOf, form_of, rename_lit}
use Rattle.lin_term.proofs.Ring.{nonneg_across, pos_across}
use Rattle.lin_term.proofs.Dots.{Agree, dot-rename, dot-plus, dot-times, dot-constant_form}

pub decide_literal : (l : Lit) (p : Point) → Holds l p ⊎ (¬ Holds l p)
decide_literal (AtLeast f) p =
    by_lt_z (dot f p) (pos 0) (λ h. inr (λ k. omega (arith, ints))) (λ h. inl h)
decide_literal (Above f) p =
    by_lt_z (pos 0) (dot f p) (λ h. inl h) (λ h. inr (λ k. omega (arith, ints)))
decide_literal (Divides d f) p = cases_eq (nat_abs (dot f p) % (d * p.den)) 0
decide_literal (NotDivides d f) p =
    elim (cases_eq (nat_abs (dot f p) % (d * p.den)) 0) [ inl e ↦ inr (λ k. k e) | inr n ↦ inl n ]

pub stable_literal : (l : Lit) (p : Point) → ¬ (¬ Holds l p) → Holds l p
stable_literal l p n = elim (decide_literal l p) [ inl h ↦ h | inr h ↦ absurd (n h) ]

pub one_den : (s : Sort) (p : Point) → IsPoint s p → 1 ≤ p.den
one_den Rat p h = h
one_den Int p h = omega arith

pub opposite_apart : (s : Sort) (l : Lit) (p : Point) → IsOf s l → IsPoint s p → Holds (opposite s l) p → Holds l p → ⊥
opposite_apart Rat (AtLeast f) p o q n h = let d = dot-times (negsuc 0) f p in omega (arith, ints)
opposite_apart Rat (Above f) p o q n h = let d = dot-times (negsuc 0) f p in omega (arith, ints)
opposite_apart Rat (Divides d f) p o q n h = n h
opposite_apart Rat (NotDivides d f) p o q n h = h n
opposite_apart Int (AtLeast f) p o q n h =
    let d = dot-times (negsuc 0) f p in
    let e = dot-plus (times (negsuc 0) f) (constant_form (negsuc 0)) p in
    let c = dot-constant_form (negsuc 0) p in
    omega (arith, ints)
opposite_apart Int (Above f) p o q n h = let d = dot-times (negsuc 0) f p in omega (arith, ints)
opposite_apart Int (Divides d f) p o q n h = n h
opposite_apart Int (NotDivides d f) p o q n h = h n

pub opposite_from : (s : Sort) (l : Lit) (p : Point) → IsOf s l → IsPoint s p → ¬ Holds l p → Holds (opposite s l) p
opposite_from Rat (AtLeast f) p o q n =
    let d = dot-times (negsuc 0) f p in by_lt_z (dot f p) (pos 0) (λ h. omega (arith, ints)) (λ h. absurd (n h))
opposite_from Rat (Above f) p o q n =
    let d = dot-times (negsuc 0) f p in by_lt_z (pos 0) (dot f p) (λ h. absurd (n h)) (λ h. omega (arith, ints))
opposite_from Rat (Divides d f) p o q n = n
opposite_from Rat (NotDivides d f) p o q n = stable_literal (Divides d f) p n
opposite_from Int (AtLeast f) p o q n =
    let d = dot-times (negsuc 0) f p in
    let e = dot-plus (times (negsuc 0) f) (constant_form (negsuc 0)) p in
    let c = dot-constant_form (negsuc 0) p in
    by_lt_z (dot f p) (pos 0) (λ h. omega (arith, ints)) (λ h. absurd (n h))
opposite_from Int (Above f) p o q n =
    let d = dot-times (negsuc 0) f p in by_lt_z (pos 0) (dot f p) (λ h. absurd (n h)) (λ h. omega (arith, ints))
opposite_from Int (Divides d f) p o q n = n
opposite_from Int (NotDivides d f) p o q n = stable_literal (Divides d f) p n

-- ---- a literal read at other variables

den_pos : (n : ℕ) → 1 ≤ n → pos 0 <ℤ pos n
den_pos n h = omega (arith, ints)

same_int : (a b : ℤ) (d e : ℕ) → d ≡ 1 → e ≡ 1 → a *ℤ pos d ≡ b *ℤ pos e → a ≡ b
same_int a b d e p q h =
    let h' : a *ℤ pos 1 ≡ b *ℤ pos 1 = subst (λ (n : ℕ). a *ℤ pos 1 ≡ b *ℤ pos n) q (subst (λ (n : ℕ). a *ℤ pos n ≡ b *ℤ pos e) p h) in
    omega (arith, ints)

same_divides : (s : Sort) (d : ℕ) (a b : ℤ) (m n : ℕ) → s ≡ s → m ≡ 1 → n ≡ 1 → a *ℤ pos n ≡ b *ℤ pos m → nat_abs a % (d * m) ≡ 0 → nat_abs b % (d * n) ≡ 0
same_divides s d a b m n t p q h r =
    let e : a ≡ b = same_int a b n m q p h in
    subst (λ (x : ℤ). nat_abs x % (d * n) ≡ 0) e (subst (λ (k : ℕ). nat_abs a % (d * k) ≡ 0) (p ∙ sym q) r)

pub to_names : (s : Sort) (names : List ℕ) (e p : Point) → IsPoint s e → IsPoint s p → Agree names e p → (l : Lit) → IsOf s l → Below (length names) (form_of l) → Holds l e → Holds (rename_lit names l) p
to_names s names e p ie ip a (AtLeast f) o b h =
    nonneg_across (dot f e) (dot (rename names f) p) (pos p.den) (pos e.den) (den_pos p.den (one_den s p ip)) (den_pos e.den (one_den s e ie)) (dot-rename names e p a f b) h
to_names s names e p ie ip a (Above f) o b h =
    pos_across (dot f e) (dot (rename names f) p) (pos p.den) (pos e.den) (den_pos p.den (one_den s p ip)) (den_pos e.den (one_den s e ie)) (dot-rename names e p a f b) h
to_names Rat names e p ie ip a (Divides d f) o b h = absurd o
to_names Rat names e p ie ip a (NotDivides d f) o b h = absurd o
to_names Int names e p ie ip a (Divides d f) o b h =
    same_divides Int d (dot f e) (dot (rename names f) p) e.den p.den refl ie ip (dot-rename names e p a f b) h
to_names Int names e p ie ip a (NotDivides d f) o b h =
    λ k. h (same_divides Int d (dot (rename names f) p) (dot f e) p.den e.den refl ip ie (sym (dot-rename names e p a f b)) k)

pub from_names : (s : Sort) (names : List ℕ) (e p : Point) → IsPoint s e → IsPoint s p → Agree names e p → (l : Lit) → IsOf s l → Below (length names) (form_of l) → Holds (rename_lit names l) p → Holds l e
from_names s names e p ie ip a (AtLeast f) o b h =
    nonneg_across (dot (rename names f) p) (dot f e) (pos e.den) (pos p.den) (den_pos e.den (one_den s e ie)) (den_pos p.den (one_den s p ip)) (sym (dot-rename names e p a f b)) h
from_names s names e p ie ip a (Above f) o b h =
    pos_across (dot (rename names f) p) (dot f e) (pos e.den) (pos p.den) (den_pos e.den (one_den s e ie)) (den_pos p.den (one_den s p ip)) (sym (dot-rename names e p a f b)) h
from_names Rat names e p ie ip a (Divides d f) o b h = absurd o
from_names Rat names e p ie ip a (NotDivides d f) o b h = absurd o
from_names Int names e p ie ip a (Divides d f) o b h =
    same_divides Int d (dot (rename names f) p) (dot f e) p.den e.den refl ip ie (sym (dot-rename names e p a f b)) h
from_names Int names e p ie ip a (NotDivides d f) o b h =
    λ k. h (same_divides Int d (dot f e) (dot (rename names f) p) e.den p.den refl ie ip (dot-rename names e p a f b) k)
