-- The expressions of a stream of tokens, up to the first fault.
use Rattle.std.specs.Prelude.{ℕ, nat_le, if◌then◌else◌, List, [], ◌∷◌, length, Result, Ok, Err}
use Rattle.ss_names.specs.declared.fault.FaultKind.{FaultKind}
use Rattle.ss_names.specs.declared.fault.FaultKind.TheVariants as kind
use Rattle.ss_names.specs.declared.fault.ScriptFault.{ScriptFault}
use Rattle.ss_names.specs.declared.fault.ScriptFault.TheVariants.{Bad}
use Rattle.smt_lex.specs.declared.token.TokenKind.{TokenKind}
use Rattle.smt_lex.specs.declared.token.TokenKind.TheVariants as token
use Rattle.smt_lex.specs.Place.{Place, place}
use Rattle.smt_lex.specs.Lexeme.{Lexeme, Found}
use Rattle.smt_tree.specs.Sexp.{Sexps, none, leaf, list, ◌and◌}

-- an open list: the place of its `(`, and its items so far
pub record Level : Type 0 where
  pub at : Place
  pub items : Sexps

-- an expression, or the fault in its place
abbrev pub Read : Type 0
Read = Result Sexps ScriptFault

abbrev pub refused : FaultKind → Place → List Read
refused k p = Err (Bad k p.line p.column) ∷ []

-- the outermost of the open lists, the innermost of which is first
abbrev pub outermost : Level → List Level → Place
outermost level [] = level.at
outermost level (outer ∷ more) = outermost outer more

abbrev pub max_open : ℕ
max_open = 1024

abbrev pub with_item : Level → Sexps → Level
with_item level x = record { at = level.at; items = level.items and x }

abbrev pub place_of : Lexeme → Place
place_of t = place t.line t.column

abbrev pub opened : Lexeme → Level
opened t = record { at = place_of t; items = none }

abbrev pub closed : Level → Sexps
closed level = list level.at level.items none

-- A token behind these open lists, and how the reading goes on.
abbrev pub taken : TokenKind → Lexeme → List Level → (List Level → List Read) → List Read
taken token.Left t levels goes_on = if nat_le max_open (length levels) then refused kind.Depth (place_of t) else goes_on (opened t ∷ levels)
taken token.Right t [] goes_on = refused kind.Unclosed (place_of t)
taken token.Right t (level ∷ []) goes_on = Ok (closed level) ∷ goes_on []
taken token.Right t (level ∷ outer ∷ more) goes_on = goes_on (with_item outer (closed level) ∷ more)
taken _ t [] goes_on = refused kind.Unclosed (place_of t)
taken _ t (level ∷ outer) goes_on = goes_on (with_item level (leaf t none) ∷ outer)

-- the expressions, where these lists are open, the innermost first
abbrev pub expressions_from : List Level → List Found → List Read
expressions_from [] [] = []
expressions_from (level ∷ outer) [] = refused kind.Unclosed (outermost level outer)
expressions_from levels (Err f ∷ rest) = Err f ∷ []
expressions_from levels (Ok t ∷ rest) = taken t.kind t levels (λ next. expressions_from next rest)

unfoldable pub inside : List Level → List Found → List Read
inside = expressions_from

unfoldable pub expressions : List Found → List Read
expressions = expressions_from []
