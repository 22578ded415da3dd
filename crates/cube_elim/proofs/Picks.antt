-- A choice whose test is known.
use Rattle.std.specs.Prelude.{◌≡◌, ℤ, Bool, true, false, cond}
use Rattle.std.proofs.Common.{ap, sym}

pub pick_true : (b : Bool) (x y : ℤ) → b ≡ true → x ≡ cond b x y
pick_true b x y e = sym (ap (λ (s : Bool). cond s x y) e)

pub pick_false : (b : Bool) (x y : ℤ) → b ≡ false → y ≡ cond b x y
pick_false b x y e = sym (ap (λ (s : Bool). cond s x y) e)
