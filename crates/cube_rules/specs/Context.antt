-- The facts that a line may cite.
use Rattle.std.specs.Prelude.{Bool, true, false, List, [], ◌∷◌, ◌++◌, map}
use Rattle.lin_term.specs.declared.Lit.{Lit}
use Rattle.dom_core.specs.Game.{Matrix, lit}

-- a list of facts, numbered from 0; a bare one takes no path and no definition
pub record Context : Type 0 where
  pub bare : Bool
  pub facts : List Matrix

-- where a proof begins
abbrev pub open_context : Context
open_context = record { bare = false; facts = [] }

abbrev pub with_fact : Context → Matrix → Context
with_fact c m = record c { facts = c.facts ++ m ∷ [] }

-- bare, with just these literals
abbrev pub cube_context : List Lit → Context
cube_context c = record { bare = true; facts = map lit c }
