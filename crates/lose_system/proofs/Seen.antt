-- What the code's values say about the table and its literals.
use Rattle.std.specs.Prelude.{ℕ, zero, suc, ◌≡◌, option_map, slice_get, List, [], ◌∷◌}
use Rattle.std.proofs.Common.{refl}
use Rattle.lin_term.specs.declared.Sort.{Sort}
use Rattle.lin_term.specs.declared.Lit.{Lit}
use Rattle.lin_term.specs.Linear.{Below}
use Rattle.lin_term.specs.Literal.{IsPrimitive, neg, form_of}
use Rattle.dom_core.specs.Game.{lit}
use Rattle.dom_core.proofs.Renaming.{neg_is_matrix}
use Rattle.lose_system.specs.declared.table.Node.{Node}
use Rattle.lose_system.specs.Table.{place_of, places_of}

pub place_at : (ns : List Node) (v : ℕ) → slice_get (places_of ns) v ≡ option_map place_of (slice_get ns v)
place_at [] v = refl
place_at (n ∷ ns) zero = refl
place_at (n ∷ ns) (suc v) = place_at ns v

pub neg_below : (s : Sort) (n : ℕ) (l : Lit) → IsPrimitive s l → Below n (form_of l) → Below n (form_of (neg s l))
neg_below s n l p b = (neg_is_matrix (lit l) s n (p.0, b)).1
