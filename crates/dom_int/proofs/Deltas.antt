-- The period of a cube, literal by literal.
use Prim.Native.Nat.{◌∣◌}
use Rattle.std.specs.Prelude.{ℕ, zero, suc, ◌+◌, ◌<◌, ◌≤◌, ◌≡◌, ℤ, pos, nat_abs, Some, None, List, [], ◌∷◌, length, get_or, drop, map}
use Rattle.std.proofs.Common.{arith, ap, ◌∙◌, sym, subst, refl}
use Rattle.std.proofs.Math.Nat.{eq-zero_of_zero-dvd}
use Rattle.lin_term.specs.declared.Sort.{Sort}
use Rattle.lin_term.specs.declared.Lit.{Lit}
use Rattle.lin_term.specs.declared.Lit.TheVariants.{AtLeast, Above, Divides, NotDivides}
use Rattle.lin_term.specs.Form.{cap}
use Rattle.lin_term.specs.Literal.{gcd}
use Rattle.lin_term.specs.PutIn.{coef}
use Rattle.lin_term.specs.Primable.{IsPrimable}
use Rattle.lin_term.specs.Wide.{first_past}
use Rattle.lin_term.proofs.PrimitiveLemmas.{gcd_is}
use Rattle.lin_term.proofs.Capping.{past-within, past-past}
use Rattle.dom_core.specs.Cube.{IsPrimitiveCube}
use Rattle.dom_core.specs.Elimination.{next_delta, partial_deltas, last_of}
use Rattle.lin_term.specs.declared.Sort.TheVariants.{Int}
use Rattle.dom_core.proofs.Periods.{next_facts}
use Rattle.dom_int.specs.Counts.{delta_after}

-- one literal more, within the cap
pub past_more : (x n : ℕ) (l : Lit) (c : List Lit) → delta_after x n l ≤ cap → first_past (map pos (partial_deltas n (l ∷ c) x)) ≡ first_past (map pos (partial_deltas (delta_after x n l) c x))
past_more x n (AtLeast f) c h = refl
past_more x n (Above f) c h = refl
past_more x n (Divides d f) c h =
    past-within (pos (next_delta n d (coef f.terms x))) (map pos (partial_deltas (next_delta n d (coef f.terms x)) c x)) h
past_more x n (NotDivides d f) c h =
    past-within (pos (next_delta n d (coef f.terms x))) (map pos (partial_deltas (next_delta n d (coef f.terms x)) c x)) h

pub last_more : (x n : ℕ) (l : Lit) (c : List Lit) → last_of n (partial_deltas n (l ∷ c) x) ≡ last_of (delta_after x n l) (partial_deltas (delta_after x n l) c x)
last_more x n (AtLeast f) c = refl
last_more x n (Above f) c = refl
last_more x n (Divides d f) c = refl
last_more x n (NotDivides d f) c = refl

-- past the cap
pub past_here : (x n : ℕ) (l : Lit) (c : List Lit) → n ≤ cap → cap < delta_after x n l → first_past (map pos (partial_deltas n (l ∷ c) x)) ≡ Some (pos (delta_after x n l))
past_here x n (AtLeast f) c o h = absurd (omega arith)
past_here x n (Above f) c o h = absurd (omega arith)
past_here x n (Divides d f) c o h =
    past-past (pos (next_delta n d (coef f.terms x))) (map pos (partial_deltas (next_delta n d (coef f.terms x)) c x)) h
past_here x n (NotDivides d f) c o h =
    past-past (pos (next_delta n d (coef f.terms x))) (map pos (partial_deltas (next_delta n d (coef f.terms x)) c x)) h

pub after_pos : (x n : ℕ) (l : Lit) → 1 ≤ n → IsPrimable Int l → 1 ≤ delta_after x n l
after_pos x n (AtLeast f) o k = o
after_pos x n (Above f) o k = o
after_pos x n (Divides d f) o k = (next_facts n d (nat_abs (coef f.terms x)) o k.0).2
after_pos x n (NotDivides d f) o k = (next_facts n d (nat_abs (coef f.terms x)) o k.0).2
