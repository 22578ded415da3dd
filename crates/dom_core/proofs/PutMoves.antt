-- A cube with a move put in holds exactly where the cube holds with the move played.
use Rattle.std.specs.Prelude.{ℕ, ◌≤◌, ◌≡◌, Bool, true, false, ◌||◌, if◌then◌else◌, List, [], ◌∷◌, ◌++◌, map, length}
use Rattle.std.specs.List.{list_any, AllByRecursion}
use Rattle.std.proofs.Common.{sym, subst, refl}
use Rattle.lin_term.specs.declared.Sort.{Sort}
use Rattle.lin_term.specs.declared.Sort.TheVariants.{Rat, Int}
use Rattle.lin_term.specs.declared.Lit.{Lit}
use Rattle.lin_term.specs.declared.Lit.TheVariants.{Divides}
use Rattle.lin_term.specs.Linear.{Point, IsPoint, dot, floor_div}
use Rattle.lin_term.specs.Literal.{Holds, residue}
use Rattle.lin_term.specs.Move.{Move, move_value}
use Rattle.lin_term.specs.PutIn.{less_residue, substituted}
use Rattle.lin_term.specs.Same.{same_literal}
use Rattle.lin_term.proofs.Comparing.{literal_decides}
use Rattle.lin_term.proofs.PrimitiveLemmas.{prim_to, prim_from}
use Rattle.dom_core.specs.Cube.{CubeHolds, assign}
use Rattle.dom_core.specs.Pick.{played}
use Rattle.dom_core.specs.PutMove.{with_new, remainder, evenness, put_in}
use Rattle.dom_core.proofs.Assigning.{assign_last}
use Rattle.dom_core.proofs.Cases.{cube_join, cube_split}
use Rattle.dom_core.proofs.Putting.{put_all_to, put_all_from, quotient_rat, quotient_int, residue_is, even_quotient, own_quotient, own_even}
use Rattle.dom_core.proofs.Reducing.{all_append}

-- ---- lists without repeats

pub new_each : (P : Lit → Type 0) (c ls : List Lit) → AllByRecursion P c → AllByRecursion P ls → AllByRecursion P (with_new c ls)
new_each P c [] h k = h
new_each P c (l ∷ ls) h k = new_each P (if list_any (same_literal l) c then c else c ++ l ∷ []) ls (by (list_any (same_literal l) c)) k.1
  where
    by : (b : Bool) → AllByRecursion P (if b then c else c ++ l ∷ [])
    by true = h
    by false = all_append P c (l ∷ []) h (k.0, tt)

pub new_holds : (c ls : List Lit) (p : Point) → CubeHolds c p → CubeHolds ls p → CubeHolds (with_new c ls) p
new_holds c ls p h k = new_each (λ l. Holds l p) c ls h k

or_right : (b c : Bool) → b ≡ false → (b || c) ≡ true → c ≡ true
or_right true c u v = absurd (cc)
or_right false c u v = v

-- what holds of the list with the new ones holds of both
pub new_back : (P : Lit → Type 0) (c ls : List Lit) → AllByRecursion P (with_new c ls) → AllByRecursion P c × AllByRecursion P ls
new_back P c [] h = (h, tt)
new_back P c (l ∷ ls) h =
    let k = new_back P (if list_any (same_literal l) c then c else c ++ l ∷ []) ls h in
    by (list_any (same_literal l) c) refl k.0 k.1
  where
    pushed : (c : List Lit) → AllByRecursion P (c ++ l ∷ []) → AllByRecursion P c × P l
    pushed [] h = (tt, h.0)
    pushed (m ∷ ms) h = let k = pushed ms h.1 in ((h.0, k.0), k.1)

    found : (c : List Lit) → list_any (same_literal l) c ≡ true → AllByRecursion P c → P l
    found [] e h = absurd (cc)
    found (m ∷ ms) e h = here (same_literal l m) refl (λ u. found ms u h.1)
      where
        here : (b : Bool) → same_literal l m ≡ b → (list_any (same_literal l) ms ≡ true → P l) → P l
        here true u k = subst P (sym ((literal_decides l m).0 u)) h.0
        here false u k = k (or_right (same_literal l m) (list_any (same_literal l) ms) u e)

    by : (b : Bool) → list_any (same_literal l) c ≡ b → AllByRecursion P (if b then c else c ++ l ∷ []) → AllByRecursion P ls → AllByRecursion P c × (P l × AllByRecursion P ls)
    by true e h k = (h, (found c e h, k))
    by false e h k = let a = pushed c h in (a.0, (a.1, k))

-- ---- the two laws

as_played : (s : Sort) (m : Move) (p : Point) (x : ℕ) (c : List Lit) → length p.nums ≡ x → CubeHolds c (assign p x (move_value s m p)) → CubeHolds c (played s m p)
as_played s m p x c l h = subst (λ (q : Point). CubeHolds c q) (assign_last p x (move_value s m p) l) h

as_assigned : (s : Sort) (m : Move) (p : Point) (x : ℕ) (c : List Lit) → length p.nums ≡ x → CubeHolds c (played s m p) → CubeHolds c (assign p x (move_value s m p))
as_assigned s m p x c l h = subst (λ (q : Point). CubeHolds c q) (sym (assign_last p x (move_value s m p) l)) h

parts_from : (s : Sort) (x : ℕ) (m : Move) (e : Point) (c : List Lit) (p : Point) → IsPoint s p → 1 ≤ m.div → CubeHolds (map (λ l. substituted s l x m (remainder s m e)) c) p → CubeHolds (evenness s m (remainder s m e)) p → CubeHolds c (assign p x (move_value s m p))
parts_from Rat x m e c p i o h k = put_all_from c Rat x m.div (less_residue m 0) p (move_value Rat m p) i (quotient_rat m p i o) h
parts_from Int x m e c p i o h k =
    let r = residue (dot m.numer e) m.div in
    let d = prim_from Int (Divides m.div (less_residue m r)) p i k.0 in
    put_all_from c Int x m.div (less_residue m r) p (move_value Int m p) i (quotient_int m.div (less_residue m r) p (floor_div (dot m.numer p) m.div) i o (even_quotient m r p i o (residue_is (dot m.numer e) m.div o).1 d)) h

-- wherever the cube with the move put in holds, the cube holds with the move played; the residue may come from another point
pub puts : (s : Sort) (x : ℕ) (m : Move) (e : Point) (c : List Lit) (p : Point) → IsPoint s p → length p.nums ≡ x → 1 ≤ m.div → CubeHolds (put_in s x m e c) p → CubeHolds c (played s m p)
puts s x m e c p i n o h =
    let ls = map (λ l. substituted s l x m (remainder s m e)) c in
    let es = evenness s m (remainder s m e) in
    let k = new_back (λ l. Holds l p) [] (ls ++ es) h in
    let t = cube_split ls es p k.1 in
    as_played s m p x c n (parts_from s x m e c p i o t.0 t.1)

parts_to : (s : Sort) (x : ℕ) (m : Move) (c : List Lit) (p : Point) → IsPoint s p → 1 ≤ m.div → CubeHolds c (assign p x (move_value s m p)) → CubeHolds (map (λ l. substituted s l x m (remainder s m p)) c) p × CubeHolds (evenness s m (remainder s m p)) p
parts_to Rat x m c p i o h = (put_all_to c Rat x m.div (less_residue m 0) p (move_value Rat m p) i (quotient_rat m p i o) h, tt)
parts_to Int x m c p i o h =
    let r = residue (dot m.numer p) m.div in (
      put_all_to c Int x m.div (less_residue m r) p (move_value Int m p) i (quotient_int m.div (less_residue m r) p (floor_div (dot m.numer p) m.div) i o (own_quotient m p i o)) h,
      (prim_to Int (Divides m.div (less_residue m r)) p i (own_even m p i o), tt),
    )

-- and back, at the point of the residue
pub puts_back : (s : Sort) (x : ℕ) (m : Move) (c : List Lit) (p : Point) → IsPoint s p → length p.nums ≡ x → 1 ≤ m.div → CubeHolds c (played s m p) → CubeHolds (put_in s x m p c) p
puts_back s x m c p i n o h =
    let ls = map (λ l. substituted s l x m (remainder s m p)) c in
    let es = evenness s m (remainder s m p) in
    let t = parts_to s x m c p i o (as_assigned s m p x c n h) in
    new_holds [] (ls ++ es) p tt (cube_join ls es p t.0 t.1)
