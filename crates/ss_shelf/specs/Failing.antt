-- Which calls of a failing shelf or sink fail: those whose numbers are given.
use Rattle.std.specs.Prelude.{◌≡◌, ◌+◌, ◌-◌, ◌^◌, ◌==◌, min, Bool}
use Rattle.std.specs.List.{list_any}
use Rattle.ss_shelf.specs.declared.turns.Turns.{Turns}

-- the number of the call that comes now is among those that are given
abbrev pub is_due : Turns → Bool
is_due turns = list_any (λ n. n == turns.calls) turns.numbers.items

-- one more call came; the count stays at its greatest value
pub record OneMore (old new : Turns) : Type 0 where
  pub numbers : new.numbers.items ≡ old.numbers.items
  pub calls : new.calls ≡ min (old.calls + 1) (2 ^ 64 - 1)
