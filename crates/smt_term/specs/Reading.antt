-- A reading gives what was read, or the first fault. The order of the steps is the order in which faults are met.
use Rattle.std.specs.Prelude.{Bool, true, false, Result, Ok, Err}
use Rattle.ss_names.specs.declared.FaultKind.{FaultKind}
use Rattle.ss_names.specs.declared.ScriptFault.{ScriptFault}
use Rattle.ss_names.specs.declared.ScriptFault.TheVariants.{Bad}
use Rattle.smt_lex.specs.Place.{Place, place}
use Rattle.smt_lex.specs.Lexeme.{Lexeme}
use Rattle.smt_tree.specs.Sexp.{Sexps}

abbrev pub Read : Type 0 → Type 0
Read A = Result A ScriptFault

infixl 10 ◌>>=◌
-- one step, and then the next with what it gave
abbrev pub ◌>>=◌ : {A B : Type 0} → Read A → (A → Read B) → Read B
(Ok x) >>= f = f x
(Err e) >>= f = Err e

abbrev pub refuse : {A : Type 0} → FaultKind → Place → Read A
refuse k p = Err (Bad k p.line p.column)

-- a fault of this kind at this place unless the test holds
abbrev pub unless : {A : Type 0} → Bool → FaultKind → Place → Read A → Read A
unless true k p next = next
unless false k p next = refuse k p

abbrev pub place_of : Lexeme → Place
place_of t = place t.line t.column

-- one expression: a token, or what stands in parentheses behind its `(`
pub data Part : Type 0 where
  token : Lexeme → Part
  group : Place → Sexps → Part

abbrev pub part_place : Part → Place
part_place (token t) = place_of t
part_place (group p inner) = p
