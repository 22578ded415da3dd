-- Counts of numbers, up to the limit.
use Rattle.std.specs.Prelude.{◌≡◌, min}
use Rattle.norm_form.specs.declared.count.Share.{Share}
use Rattle.norm_form.specs.Load.{Load, limit}

-- both counts, up to the limit
abbrev pub IsCut : Share → Load → Type 0
IsCut s l = (s.own ≡ min limit l.own) × (s.leaves ≡ min limit l.leaves)
