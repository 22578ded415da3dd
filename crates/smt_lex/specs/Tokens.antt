-- The tokens of a text from left to right, up to the first fault.
use Rattle.std.specs.Prelude.{ℕ, zero, suc, ◌-◌, List, [], ◌∷◌, take, drop, Ok, Err}
use Rattle.ss_names.specs.declared.fault.FaultKind.TheVariants as kind
use Rattle.ss_names.specs.declared.fault.ScriptFault.TheVariants.{Bad}
use Rattle.smt_lex.specs.declared.piece.Piece.{Piece}
use Rattle.smt_lex.specs.declared.piece.Piece.TheVariants as piece
use Rattle.smt_lex.specs.Piece.{piece_at}
use Rattle.smt_lex.specs.Place.{Place, place, behind, start}
use Rattle.smt_lex.specs.Lexeme.{Found}

-- what a piece at this place gives, and then what follows it
abbrev pub joined : Piece → Place → List ℕ → (ℕ → List Found) → List Found
joined piece.Blank p z rest = rest 1
joined (piece.Comment len) p z rest = rest len
joined (piece.Word k len) p z rest = Ok (record { kind = k; line = p.line; column = p.column; text = take len z }) ∷ rest len
joined (piece.Enclosed k len) p z rest = Ok (record { kind = k; line = p.line; column = p.column; text = take (len - 2) (drop 1 z) }) ∷ rest len
joined piece.Bad p z rest = Err (Bad kind.Token p.line p.column) ∷ []

-- the number counts the bytes that are left of a piece
abbrev pub tokens_from : ℕ → Place → List ℕ → List Found
tokens_from left p [] = []
tokens_from (suc left) p (b ∷ z) = tokens_from left (behind p b) z
tokens_from zero p (b ∷ z) = joined (piece_at (b ∷ z)) p (b ∷ z) (λ len. tokens_from (len - 1) (behind p b) z)

-- the tokens of a text that begins at this place
unfoldable pub tokens_at : Place → List ℕ → List Found
tokens_at p z = tokens_from 0 p z

abbrev pub tokens : List ℕ → List Found
tokens z = tokens_at start z

-- the same, with the place in two numbers
abbrev pub left_at : ℕ → ℕ → List ℕ → List Found
left_at line column z = tokens_at (place line column) z
