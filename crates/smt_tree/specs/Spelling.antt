-- The tokens that spell expressions. A `)` stands for itself wherever it is.
use Rattle.std.specs.Prelude.{◌≡◌, List, [], ◌∷◌, ◌++◌, map, Bool, true, false, Ok, Err}
use Rattle.ss_names.specs.declared.fault.ScriptFault.{ScriptFault}
use Rattle.smt_lex.specs.declared.token.TokenKind.{TokenKind}
use Rattle.smt_lex.specs.declared.token.TokenKind.TheVariants as token
use Rattle.smt_lex.specs.Place.{Place}
use Rattle.smt_lex.specs.Lexeme.{Lexeme, Found}
use Rattle.smt_tree.specs.Sexp.{Sexps, none, leaf, list, ◌and◌}
use Rattle.smt_tree.specs.Expressions.{Read, place_of, expressions}

pub data Mark : Type 0 where
  left : Place → Mark
  right : Mark
  other : Lexeme → Mark
  fault : ScriptFault → Mark

abbrev pub mark_of : TokenKind → Lexeme → Mark
mark_of token.Left t = left (place_of t)
mark_of token.Right t = right
mark_of _ t = other t

abbrev pub mark : Found → Mark
mark (Ok t) = mark_of t.kind t
mark (Err f) = fault f

abbrev pub spell : Sexps → List Mark
spell none = []
spell (leaf t rest) = other t ∷ spell rest
spell (list p inner rest) = left p ∷ spell inner ++ right ∷ spell rest

-- the expressions that were read before a fault
abbrev pub whole : List Read → Sexps
whole [] = none
whole (Ok x ∷ xs) = x and whole xs
whole (Err f ∷ xs) = none

-- no fault is among what was read
abbrev pub are_whole : List Read → Bool
are_whole [] = true
are_whole (Ok x ∷ xs) = are_whole xs
are_whole (Err f ∷ xs) = false

-- The tokens are those of the expressions, and then those that are not read. Without a fault all are read.
abbrev pub IsSpelled : List Found → Type 0
IsSpelled ts =
    (rest : List Mark) × (map mark ts ≡ spell (whole (expressions ts)) ++ rest)
    × (are_whole (expressions ts) ≡ true → rest ≡ [])
