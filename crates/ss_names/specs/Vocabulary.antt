-- The words that a script and a proof are written in, in the order of their rows, and their codes.
use Rattle.std.specs.Prelude.{ℕ, List, [], ◌∷◌, codes}

-- SMT-LIB 2.6, section 3.6: the words that bind names in a term
abbrev pub binder_words : List (List ℕ)
binder_words = codes "let" ∷ codes "forall" ∷ codes "exists" ∷ []

abbrev pub binder_codes : List ℕ
binder_codes = 0 ∷ 1 ∷ 2 ∷ []

-- SMT-LIB 2.6, the theories Core, Reals and Ints
abbrev pub operator_words : List (List ℕ)
operator_words =
    codes "true" ∷ codes "false" ∷ codes "not" ∷ codes "and" ∷ codes "or" ∷ codes "xor" ∷ codes "=>"
    ∷ codes "=" ∷ codes "distinct" ∷ codes "ite" ∷ codes "<" ∷ codes "<=" ∷ codes ">" ∷ codes ">="
    ∷ codes "+" ∷ codes "-" ∷ codes "*" ∷ codes "/" ∷ codes "div" ∷ codes "mod" ∷ codes "abs" ∷ []

-- 0 in every logic, 1 with Real alone, 2 with Int alone
abbrev pub operator_codes : List ℕ
operator_codes = 0 ∷ 0 ∷ 0 ∷ 0 ∷ 0 ∷ 0 ∷ 0 ∷ 0 ∷ 0 ∷ 0 ∷ 0 ∷ 0 ∷ 0 ∷ 0 ∷ 0 ∷ 0 ∷ 0 ∷ 1 ∷ 2 ∷ 2 ∷ 2 ∷ []

-- SMT-LIB 2.6, section 3.9: the commands that are read
abbrev pub command_words : List (List ℕ)
command_words =
    codes "set-info" ∷ codes "set-option" ∷ codes "set-logic" ∷ codes "declare-const" ∷ codes "declare-fun"
    ∷ codes "define-fun" ∷ codes "assert" ∷ codes "check-sat" ∷ codes "exit" ∷ []

-- 0 anywhere, 1 sets the logic, 2 behind that one
abbrev pub command_codes : List ℕ
command_codes = 0 ∷ 0 ∷ 1 ∷ 2 ∷ 2 ∷ 2 ∷ 2 ∷ 2 ∷ 0 ∷ []

-- SMT-LIB 2.6, section 3.1: the words of the language, and then the names of commands
abbrev pub reserved_words : List (List ℕ)
reserved_words =
    codes "_" ∷ codes "!" ∷ codes "as" ∷ codes "let" ∷ codes "exists" ∷ codes "forall" ∷ codes "match" ∷ codes "par"
    ∷ codes "BINARY" ∷ codes "DECIMAL" ∷ codes "HEXADECIMAL" ∷ codes "NUMERAL" ∷ codes "STRING"
    ∷ codes "set-info" ∷ codes "set-option" ∷ codes "set-logic" ∷ codes "declare-const" ∷ codes "declare-fun"
    ∷ codes "define-fun" ∷ codes "assert" ∷ codes "check-sat" ∷ codes "exit" ∷ codes "push" ∷ codes "pop" ∷ []

-- 0 for a word of the language, 1 for the name of a command
abbrev pub reserved_codes : List ℕ
reserved_codes = 0 ∷ 0 ∷ 0 ∷ 0 ∷ 0 ∷ 0 ∷ 0 ∷ 0 ∷ 0 ∷ 0 ∷ 0 ∷ 0 ∷ 0 ∷ 1 ∷ 1 ∷ 1 ∷ 1 ∷ 1 ∷ 1 ∷ 1 ∷ 1 ∷ 1 ∷ 1 ∷ 1 ∷ []

-- the logics that are read
abbrev pub logic_words : List (List ℕ)
logic_words = codes "LRA" ∷ codes "QF_LRA" ∷ codes "LIA" ∷ codes "QF_LIA" ∷ []

-- 0 with reals, 1 with integers
abbrev pub logic_codes : List ℕ
logic_codes = 0 ∷ 0 ∷ 1 ∷ 1 ∷ []

-- the rules of proof lines
abbrev pub rule_words : List (List ℕ)
rule_words =
    codes "path" ∷ codes "def" ∷ codes "part" ∷ codes "cases" ∷ codes "sum" ∷ codes "split" ∷ codes "cube"
    ∷ codes "least" ∷ codes "false" ∷ []

-- 1 where the line closes its context
abbrev pub rule_codes : List ℕ
rule_codes = 0 ∷ 0 ∷ 0 ∷ 1 ∷ 0 ∷ 1 ∷ 0 ∷ 1 ∷ 1 ∷ []
