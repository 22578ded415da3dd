-- The numbers and the printed names of the kinds of faults.
use Rattle.std.specs.Prelude.{ℕ, List, [], ◌∷◌, codes}
use Rattle.ss_names.specs.declared.fault.FaultKind.{FaultKind}
use Rattle.ss_names.specs.declared.fault.FaultKind.TheVariants.{Token, Unclosed, Command, Logic, Symbol, Sort, Arity, Linear, Divisor, Number, Size, Variables, Order, Setting, Depth}

-- all kinds, in the order of their numbers
abbrev pub kinds : List FaultKind
kinds =
    Token ∷ Unclosed ∷ Command ∷ Logic ∷ Symbol ∷ Sort ∷ Arity ∷ Linear ∷ Divisor ∷ Number ∷ Size ∷ Variables ∷ Order
    ∷ Setting ∷ Depth ∷ []

abbrev pub kind_number : FaultKind → ℕ
kind_number Token = 1
kind_number Unclosed = 2
kind_number Command = 3
kind_number Logic = 4
kind_number Symbol = 5
kind_number Sort = 6
kind_number Arity = 7
kind_number Linear = 8
kind_number Divisor = 9
kind_number Number = 10
kind_number Size = 11
kind_number Variables = 12
kind_number Order = 13
kind_number Setting = 14
kind_number Depth = 15

abbrev pub kind_name : FaultKind → List ℕ
kind_name Token = codes "Token"
kind_name Unclosed = codes "Unclosed"
kind_name Command = codes "Command"
kind_name Logic = codes "Logic"
kind_name Symbol = codes "Symbol"
kind_name Sort = codes "Sort"
kind_name Arity = codes "Arity"
kind_name Linear = codes "Linear"
kind_name Divisor = codes "Divisor"
kind_name Number = codes "Number"
kind_name Size = codes "Size"
kind_name Variables = codes "Variables"
kind_name Order = codes "Order"
kind_name Setting = codes "Setting"
kind_name Depth = codes "Depth"
