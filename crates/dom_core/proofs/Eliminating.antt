-- In both sorts: a cube has a solution exactly where one of its eliminated cubes has one.
use Rattle.std.specs.Prelude.{ℕ, List}
use Rattle.std.proofs.Common.{subst, inl, inr}
use Rattle.lin_term.specs.declared.Sort.{Sort}
use Rattle.lin_term.specs.declared.Sort.TheVariants.{Rat, Int}
use Rattle.lin_term.specs.declared.Lit.{Lit}
use Rattle.lin_term.specs.Linear.{Point, Value, IsValue, IsPoint}
use Rattle.dom_core.specs.Cube.{assign, CubeHolds, SomeHolds, IsCube, HasSolution}
use Rattle.dom_core.specs.Elimination.{eliminated}
use Rattle.dom_core.proofs.Cooper.{cooper_to, cooper_from}
use Rattle.dom_core.proofs.FourierMotzkin.{fourier_motzkin_to, fourier_motzkin_from}

abbrev value_with : Value → ℕ → Value
value_with v d = record { num = v.num; den = d }

pub eliminated_covers : (s : Sort) (c : List Lit) (x : ℕ) (p : Point) (v : Value) → IsPoint s p → IsValue s v → IsCube s c → CubeHolds c (assign p x v) → SomeHolds (eliminated s c x) p
eliminated_covers Rat c x p v i w o h = inl (fourier_motzkin_to c x p v i o w h)
eliminated_covers Int c x p v i w o h =
    cooper_to c x p v.num i o (subst (λ (d : ℕ). CubeHolds c (assign p x (value_with v d))) w h)

pub eliminated_solves : (s : Sort) (c : List Lit) (x : ℕ) (p : Point) → IsPoint s p → IsCube s c → SomeHolds (eliminated s c x) p → HasSolution s c x p
eliminated_solves Rat c x p i o (inl h) = fourier_motzkin_from c x p i o h
eliminated_solves Rat c x p i o (inr h) = absurd h
eliminated_solves Int c x p i o h = cooper_from c x p i o h
