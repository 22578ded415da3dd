-- The places of a cube's literals, parted by how they bound a variable over the rationals.
use Rattle.std.specs.Prelude.{ℕ, ◌≡◌, true, false, List, length, filter}
use Rattle.std.specs.List.{AllByRecursion}
use Rattle.lin_term.specs.declared.Lit.{Lit}
use Rattle.dom_core.specs.Elimination.{is_free, is_lower, is_upper}
use Rattle.cube_elim.specs.declared.parts.Parts.{Parts}
use Rattle.cube_elim.specs.declared.parts.Side.{Side}
use Rattle.cube_elim.specs.declared.parts.Side.TheVariants.{Free, Lower, Upper}
use Rattle.cube_elim.specs.Stored.{lits_of, AreIn}

-- the one way in which a literal bounds the variable
abbrev pub IsSide : ℕ → Lit → Side → Type 0
IsSide x l Free = (is_free x l ≡ true) × (is_lower x l ≡ false) × (is_upper x l ≡ false)
IsSide x l Lower = (is_free x l ≡ false) × (is_lower x l ≡ true) × (is_upper x l ≡ false)
IsSide x l Upper = (is_free x l ≡ false) × (is_lower x l ≡ false) × (is_upper x l ≡ true)

-- the literals without the variable, those that bound it from below, and those that bound it from above
pub record IsParted (x : ℕ) (lits : List Lit) (ids : List ℕ) (p : Parts) : Type 0 where
  pub free : lits_of lits p.free ≡ filter (is_free x) (lits_of lits ids)
  pub lower : lits_of lits p.lower ≡ filter (is_lower x) (lits_of lits ids)
  pub upper : lits_of lits p.upper ≡ filter (is_upper x) (lits_of lits ids)
  pub free_in : AreIn (length lits) p.free
  pub lower_in : AreIn (length lits) p.lower
  pub upper_in : AreIn (length lits) p.upper
