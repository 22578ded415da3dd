-- The value of a row at a point, term by term, and its size.
use Rattle.std.specs.Prelude.{ℕ, zero, suc, ◌+◌, ◌<◌, ◌≤◌, ◌≡◌, ◌^◌, ℤ, pos, ◌+ℤ◌, ◌*ℤ◌, nat_abs, List, [], ◌∷◌, ◌++◌, take, get_or, length}
use Rattle.std.proofs.Common.{arith, ap, ap₂, ◌∙◌}
use Rattle.std.proofs.lemmas.Int.{ints}
use Rattle.std.proofs.lemmas.List.{take_more, take_all}
use Rattle.lin_term.specs.Form.{Form, AreTerms, cap}
use Rattle.lin_term.specs.Linear.{Point, at, dot_terms, dot}
use Rattle.lin_term.specs.Point.{AreWithin}

pub at_within : (zs : List ℤ) (i : ℕ) → AreWithin zs → nat_abs (get_or zs i (pos 0)) ≤ cap
at_within [] i a = omega arith
at_within (z ∷ zs) zero a = a.0
at_within (z ∷ zs) (suc i) a = at_within zs i a.1

dot_append : (ts us : List (ℕ × ℤ)) (nums : List ℤ) → dot_terms (ts ++ us) nums ≡ dot_terms ts nums +ℤ dot_terms us nums
dot_append [] us nums = omega (arith, ints)
dot_append (t ∷ ts) us nums = let h = dot_append ts us nums in omega (arith, ints)

-- one more term is added
pub dot_more : (ts : List (ℕ × ℤ)) (nums : List ℤ) (i : ℕ) (sum c z : ℤ) → i < length ts → sum ≡ dot_terms (take i ts) nums +ℤ c → z ≡ (get_or ts i (0, pos 0)).1 *ℤ at nums (get_or ts i (0, pos 0)).0 → sum +ℤ z ≡ dot_terms (take (i + 1) ts) nums +ℤ c
dot_more ts nums i sum c z l e h =
    let t : ℕ × ℤ = get_or ts i (0, pos 0) in
    let a = dot_append (take i ts) (t ∷ []) nums in
    let b : dot_terms (take (i + 1) ts) nums ≡ dot_terms (take i ts ++ t ∷ []) nums = ap (λ (us : List (ℕ × ℤ)). dot_terms us nums) (take_more ts i (0, pos 0) l) in
    omega (arith, ints)

pub dot_all : (f : Form) (p : Point) (ts : List (ℕ × ℤ)) (nums : List ℤ) (i : ℕ) (sum c : ℤ) → length ts ≤ i → ts ≡ f.terms → nums ≡ p.nums → c ≡ f.constant *ℤ pos p.den → sum ≡ dot_terms (take i ts) nums +ℤ c → sum ≡ dot f p
dot_all f p ts nums i sum c l e h k s =
    s ∙ ap₂ (λ (x y : ℤ). x +ℤ y) (ap₂ (λ (us : List (ℕ × ℤ)) (ns : List ℤ). dot_terms us ns) (take_all i ts l ∙ e) h) k

-- there are at most 2^20 terms
few_from : (n : ℕ) (ts : List (ℕ × ℤ)) → n ≤ 2 ^ 20 → AreTerms n ts → n + length ts ≤ 2 ^ 20
few_from n [] l a = omega (arith, l)
few_from n (t ∷ ts) l a = let h = few_from (t.0 + 1) ts (let k = a.1 in omega arith) a.4 in let g = a.0 in omega arith

pub few_terms : (ts : List (ℕ × ℤ)) → AreTerms 0 ts → length ts ≤ 2 ^ 20
few_terms ts a = let h = few_from 0 ts (omega arith) a in omega arith
