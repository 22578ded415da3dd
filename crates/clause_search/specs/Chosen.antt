-- The literals of a goal that are handed to the elimination.
use Rattle.std.specs.Prelude.{ℕ, suc, ◌<◌, ◌≤◌, ◌≡◌, ◌⊎◌, Some, IfSome, slice_get, List, [], ◌∷◌, ◌++◌, length}
use Rattle.std.specs.List.{AllByRecursion}
use Rattle.lin_term.specs.declared.Sort.{Sort}
use Rattle.lin_term.specs.declared.Lit.{Lit}
use Rattle.lin_term.specs.Linear.{Below}
use Rattle.lin_term.specs.Literal.{form_of}
use Rattle.dom_core.specs.Cube.{IsPrimitiveCube}
use Rattle.dom_core.specs.Reduced.{AreBelow}
use Rattle.dom_core.specs.Game.{Matrix, lit}
use Rattle.lose_system.specs.Losing.{System, definition_at}
use Rattle.lose_system.specs.Written.{WrittenSystem, system_of, definition_literal}
use Rattle.cube_rules.specs.declared.Step.TheVariants.{Def}
use Rattle.cube_rules.specs.Facts.{literals_at}
use Rattle.proof_rules.specs.Held.{IsKnown}
use Rattle.cube_elim.specs.Among.{IsAmong, times_among}
use Rattle.clause_search.specs.declared.goal.Part.{Part}
use Rattle.clause_search.specs.declared.goal.Goal.{Goal}
use Rattle.clause_search.specs.declared.chosen.Chosen.{Chosen}
use Rattle.clause_search.specs.Branches.{definition_literals}
use Rattle.clause_search.specs.Taken.{Leads, facts_alone, rules_of, matrix_at, taken_by, Stands}

-- none twice
abbrev pub OnceEach : List Lit → Type 0
OnceEach c = (l : Lit) → times_among l c ≤ 1

-- behind a context with facts F: the lines make more facts, and the literals have these numbers
pub record Chose (s : Sort) (w : WrittenSystem) (F : List Matrix) (c : Chosen) : Type 0 where
  pub more : List Matrix
  pub leads : Leads (rules_of s w) (facts_alone F ∷ []) c.defs (facts_alone (F ++ more) ∷ [])
  pub count : length (F ++ more) ≡ c.count
  pub at : literals_at (facts_alone (F ++ more)) c.numbers ≡ Some c.cube

-- literals that are taken and definitions, none twice
pub record Chooses (s : Sort) (w : WrittenSystem) (g : Goal) (c : Chosen) : Type 0 where
  pub chose : (F : List Matrix) → length F ≡ g.count → AllByRecursion (Stands s w F) g.lits → Chose s w F c
  pub long : length c.numbers ≡ length c.cube
  pub from : (l : Lit) → IsAmong l c.cube → IsAmong l (definition_literals (system_of s w).defs) ⊎ IsAmong l (taken_by s w g)
  pub once : OnceEach c.cube
  pub primitive : IsPrimitiveCube s c.cube
  pub below : AreBelow (system_of s w).count c.cube

-- those of the first n parts are there
abbrev pub HasFirst : Sort → WrittenSystem → Goal → ℕ → List Lit → Type 0
HasFirst s w g n cube = (i : ℕ) (x : Part) (l : Lit) → i < n → slice_get g.lits i ≡ Some x → matrix_at s w x ≡ lit l → IsAmong l cube

-- the definition of a node is there, where it is a move
abbrev pub HasNode : System → ℕ → List Lit → Type 0
HasNode sys v cube = IfSome (definition_at sys.defs v) (λ d. IsAmong d.upper cube × IsAmong d.lower cube)

abbrev pub HasNodes : System → ℕ → List Lit → Type 0
HasNodes sys n cube = (v : ℕ) → v < n → HasNode sys v cube

-- ---- one more

abbrev pub with_literal : Chosen → Lit → ℕ → Chosen
with_literal c l n = record { cube = c.cube ++ l ∷ []; numbers = c.numbers ++ n ∷ []; defs = c.defs; count = c.count }

abbrev pub with_definition : Chosen → ℕ → ℕ → Lit → Chosen
with_definition c v i l = record { cube = c.cube ++ l ∷ []; numbers = c.numbers ++ c.count ∷ []; defs = c.defs ++ Def v i ∷ []; count = suc c.count }

-- it was there, or is the last one now
abbrev pub AddsLiteral : Lit → ℕ → Chosen → Chosen → Type 0
AddsLiteral l n old new = ((new ≡ old) × IsAmong l old.cube) ⊎ ((¬ IsAmong l old.cube) × (new ≡ with_literal old l n))

-- the literal of a part was not there
pub record NewPart (s : Sort) (w : WrittenSystem) (x : Part) (old new : Chosen) : Type 0 where
  pub literal : Lit
  pub is : matrix_at s w x ≡ lit literal
  pub missing : ¬ IsAmong literal old.cube
  pub known : IsKnown s literal
  pub below : Below (system_of s w).count (form_of literal)
  pub made : new ≡ with_literal old literal x.number

abbrev pub AddsPart : Sort → WrittenSystem → Part → Chosen → Chosen → Type 0
AddsPart s w x old new = ((new ≡ old) × ((l : Lit) → matrix_at s w x ≡ lit l → IsAmong l old.cube)) ⊎ NewPart s w x old new

-- the literal of a definition was not there
pub record NewDefinition (s : Sort) (w : WrittenSystem) (v i : ℕ) (old new : Chosen) : Type 0 where
  pub literal : Lit
  pub is : definition_literal s w v i ≡ Some literal
  pub missing : ¬ IsAmong literal old.cube
  pub below : Below (system_of s w).count (form_of literal)
  pub made : new ≡ with_definition old v i literal

abbrev pub AddsDefinition : Sort → WrittenSystem → ℕ → ℕ → Chosen → Chosen → Type 0
AddsDefinition s w v i old new = ((new ≡ old) × ((l : Lit) → definition_literal s w v i ≡ Some l → IsAmong l old.cube)) ⊎ NewDefinition s w v i old new
