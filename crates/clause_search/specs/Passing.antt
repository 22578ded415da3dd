-- Whether there is a way through a matrix once it is negated: a conjunction needs one part that has, a disjunction all.
use Rattle.std.specs.Prelude.{◌⊎◌, ⊤}
use Rattle.dom_core.specs.Game.{Matrix, lit, all, some, Matrices, none, more}

abbrev mutual
  pub HasWay : Matrix → Type 0
  HasWay (lit l) = ⊤
  HasWay (all ms) = SomeHave ms
  HasWay (some ms) = AllHave ms

  pub SomeHave : Matrices → Type 0
  SomeHave none = ⊥
  SomeHave (more m ms) = HasWay m ⊎ SomeHave ms

  pub AllHave : Matrices → Type 0
  AllHave none = ⊤
  AllHave (more m ms) = HasWay m × AllHave ms
