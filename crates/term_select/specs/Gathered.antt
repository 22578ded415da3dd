-- The literals by which a matrix is true, repeated ones too.
use Rattle.std.specs.Prelude.{◌≡◌, negsuc, Bool, true, false, if◌then◌else◌, List, [], ◌∷◌, ◌++◌}
use Rattle.lin_term.specs.Linear.{Point, constant_form}
use Rattle.lin_term.specs.declared.Lit.{Lit}
use Rattle.lin_term.specs.declared.Lit.TheVariants.{AtLeast}
use Rattle.dom_core.specs.Game.{Matrix, lit, all, some, Matrices, none, more}
use Rattle.term_select.specs.Guided.{true_at}

-- of an And all children in order, of an Or the first that is true
abbrev mutual
  pub literals : Matrix → Point → List Lit
  literals (lit l) p = l ∷ []
  literals (all ms) p = all_literals ms p
  literals (some ms) p = some_literals ms p

  pub all_literals : Matrices → Point → List Lit
  all_literals none p = []
  all_literals (more m ms) p = literals m p ++ all_literals ms p

  pub some_literals : Matrices → Point → List Lit
  some_literals none p = AtLeast (constant_form (negsuc 0)) ∷ []
  some_literals (more m ms) p = if true_at m p then literals m p else some_literals ms p

-- the old ones come first
pub record StartsWith (old new : List Lit) : Type 0 where
  pub rest : List Lit
  pub is : new ≡ old ++ rest

-- where the answer is true the literals were added, and else the old ones still come first
abbrev pub Gathers : Bool → List Lit → List Lit → List Lit → Type 0
Gathers true old new ls = new ≡ old ++ ls
Gathers false old new ls = StartsWith old new
