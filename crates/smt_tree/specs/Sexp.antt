-- Expressions, one after the other: each is a token, or a list with the place of its `(`.
use Rattle.smt_lex.specs.Place.{Place}
use Rattle.smt_lex.specs.Lexeme.{Lexeme}

pub data Sexps : Type 0 where
  none : Sexps
  leaf : Lexeme → Sexps → Sexps
  list : Place → Sexps → Sexps → Sexps

infixr 30 ◌and◌
abbrev pub ◌and◌ : Sexps → Sexps → Sexps
none and ys = ys
(leaf t xs) and ys = leaf t (xs and ys)
(list p inner xs) and ys = list p inner (xs and ys)
