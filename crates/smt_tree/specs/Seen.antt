-- Expressions of the program, as the definitions see them.
use Rattle.std.specs.Prelude.{◌≡◌, ◌<◌, ℕ, length, List, [], ◌∷◌, map, Option, Result, Ok, Err, MatchOption, OnErr}
use Rattle.std.specs.Iterator.{Count, at_most}
use Rattle.ss_names.specs.declared.fault.ScriptFault.{ScriptFault}
use Rattle.ss_names.specs.declared.fault.ScriptFault.TheVariants.{Bad, Memory}
use Rattle.smt_lex.specs.Place.{place}
use Rattle.smt_lex.specs.Lexeme.{lexeme, Found}
use Rattle.smt_tree.specs.declared.expr.Expr.{Expr, Expr-F, fold-Expr}
use Rattle.smt_tree.specs.declared.expr.Expr.TheOpen.{Leaf, List as ListF}
use Rattle.smt_tree.specs.Sexp.{Sexps, none, leaf, list, ◌and◌}
use Rattle.smt_tree.specs.Expressions.{Read, Level, expressions}
use Rattle.smt_tree.specs.declared.reading.Open.{Open}

abbrev pub joined : List Sexps → Sexps
joined [] = none
joined (x ∷ xs) = x and joined xs

-- one layer, with what each item is seen as in its place
abbrev pub layer : Expr-F Sexps → Sexps
layer (Leaf t) = leaf (lexeme t) none
layer (ListF line column items) = list (place line column) (joined items) none

-- an expression, alone
abbrev pub seen : Expr → Sexps
seen = fold-Expr Sexps layer

abbrev pub all_seen : List Expr → Sexps
all_seen es = joined (map seen es)

-- What a reading gave, where these expressions came, and what it leaves. After want of memory nothing is said.
abbrev pub Gives : List Read → Result Expr ScriptFault → List Found → Type 0
Gives left (Ok e) rest = left ≡ Ok (seen e) ∷ expressions rest
Gives left (Err (Bad k line column)) rest = left ≡ Err (Bad k line column) ∷ []
Gives left (Err Memory) rest = 0 < length left

abbrev pub level : ℕ → ℕ → Level
level line column = record { at = place line column; items = none }

abbrev pub level_of : Open → Level
level_of o = record { at = place o.line o.column; items = all_seen o.items }

-- what a call of `next` gave, and the tokens that it left: none behind a fault or want of memory
abbrev pub Steps : List Found → Option (Result Expr ScriptFault) → List Found → Type 0
Steps from gave rest = MatchOption gave ((expressions from ≡ []) × (expressions rest ≡ [])) (λ r. Gives (expressions from) r rest × OnErr r (rest ≡ []))

abbrev pub expressions_left : List Found → Count
expressions_left from = at_most (length (expressions from))
