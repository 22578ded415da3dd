-- Points with more values.
use Rattle.std.specs.Prelude.{ℕ, zero, suc, ◌+◌, ◌≤◌, ◌≡◌, ℤ, pos, ◌+ℤ◌, ◌*ℤ◌, nat_abs, List, [], ◌∷◌, ◌++◌, length}
use Rattle.std.proofs.Common.{arith, ap, ap₂, ◌∙◌, sym, refl, length-append}
use Rattle.lin_term.specs.Form.{Form, cap}
use Rattle.lin_term.specs.declared.Sort.TheVariants.{Int}
use Rattle.lin_term.specs.declared.Lit.{Lit}
use Rattle.lin_term.specs.Linear.{Point, at, dot, dot_terms}
use Rattle.lin_term.specs.Literal.{form_of}
use Rattle.lin_term.specs.Point.{AreWithin}
use Rattle.dom_core.specs.Cube.{CubeHolds}
use Rattle.dom_core.proofs.AddingLemmas.{append_assoc}
use Rattle.dom_core.proofs.Putting.{same_holds}
use Rattle.cube_elim.specs.Values.{zeros, with_zeros}
use Rattle.cube_elim.specs.Deciding.{IsSolution}

pub within_push : (zs : List ℤ) (z : ℤ) → AreWithin zs → nat_abs z ≤ cap → AreWithin (zs ++ z ∷ [])
within_push [] z w h = (h, tt)
within_push (y ∷ zs) z w h = (w.0, within_push zs z w.1 h)

pub zeros_push : (k : ℕ) → zeros k ++ pos 0 ∷ [] ≡ zeros (suc k)
zeros_push zero = refl
zeros_push (suc k) = ap (λ (zs : List ℤ). pos 0 ∷ zs) (zeros_push k)

pub more_zeros : (zs out new : List ℤ) (k : ℕ) → out ≡ zs ++ zeros k → new ≡ out ++ pos 0 ∷ [] → new ≡ zs ++ zeros (k + 1)
more_zeros zs out new k e f =
    f ∙ ap (λ (us : List ℤ). us ++ pos 0 ∷ []) e ∙ append_assoc zs (zeros k) (pos 0 ∷ []) ∙ ap (λ (us : List ℤ). zs ++ us) (zeros_push k ∙ ap zeros (let e : suc k ≡ k + 1 = omega arith in e))

at_zeros : (k i : ℕ) → at (zeros k) i ≡ pos 0
at_zeros zero i = refl
at_zeros (suc k) zero = refl
at_zeros (suc k) (suc i) = at_zeros k i

at_padded : (zs : List ℤ) (k i : ℕ) → at (zs ++ zeros k) i ≡ at zs i
at_padded [] k i = at_zeros k i
at_padded (z ∷ zs) k zero = refl
at_padded (z ∷ zs) k (suc i) = at_padded zs k i

terms_padded : (ts : List (ℕ × ℤ)) (zs : List ℤ) (k : ℕ) → dot_terms ts (zs ++ zeros k) ≡ dot_terms ts zs
terms_padded [] zs k = refl
terms_padded (t ∷ ts) zs k =
    ap₂ (λ (y z : ℤ). t.1 *ℤ y +ℤ z) (at_padded zs k t.0) (terms_padded ts zs k)

dot_padded : (f : Form) (p : Point) (k : ℕ) → dot f p ≡ dot f (with_zeros p k)
dot_padded f p k = ap (λ (z : ℤ). z +ℤ f.constant *ℤ pos p.den) (sym (terms_padded f.terms p.nums k))

padded_cube : (c : List Lit) (p : Point) (k : ℕ) → p.den ≡ 1 → CubeHolds c p → CubeHolds c (with_zeros p k)
padded_cube [] p k i h = tt
padded_cube (l ∷ c) p k i h = (same_holds l p (with_zeros p k) i i (dot_padded (form_of l) p k) h.0, padded_cube c p k i h.1)

pub length-zeros : (k : ℕ) → length (zeros k) ≡ k
length-zeros zero = refl
length-zeros (suc k) = let h = length-zeros k in omega arith

pub padded_solves : (n m k : ℕ) (c : List Lit) (p : Point) → n + k ≡ m → IsSolution Int n c p → IsSolution Int m c (with_zeros p k)
padded_solves n m k c p e s =
    record {
      count = (let a = length-append p.nums (zeros k) in let b = length-zeros k in let d = s.count in omega arith);
      point = s.point;
      holds = padded_cube c p k s.point s.holds;
    }
