-- Numbers within the cap, one after the other.
use Rattle.std.specs.Prelude.{◌≡◌, ℤ, nat_abs, true, List, [], ◌∷◌, ◌++◌}
use Rattle.std.proofs.lemmas.Bool.{leb-true}
use Rattle.lin_term.specs.Form.{cap}
use Rattle.lin_term.specs.Wide.{fits}
use Rattle.lin_term.specs.Point.{AreWithin}

pub within_more : (zs : List ℤ) (z : ℤ) → AreWithin zs → fits z ≡ true → AreWithin (zs ++ z ∷ [])
within_more [] z h e = (leb-true (nat_abs z) cap e, tt)
within_more (y ∷ zs) z h e = (h.0, within_more zs z h.1 e)
