-- A script: its tokens, their expressions, these as commands, and the goals that they ask.
use Rattle.std.specs.Prelude.{ℕ, ◌+◌, ◌&&◌, nat_le, if◌then◌else◌, List, [], ◌∷◌, length, Result, Ok, Err}
use Rattle.ss_names.specs.declared.FaultKind.TheVariants as kind
use Rattle.ss_names.specs.declared.ScriptFault.{ScriptFault}
use Rattle.smt_lex.specs.Place.{place}
use Rattle.smt_lex.specs.Tokens.{tokens}
use Rattle.smt_tree.specs.Sexp.{Sexps}
use Rattle.smt_tree.specs.Expressions.{expressions}
use Rattle.lin_term.specs.declared.Sort.{Sort}
use Rattle.lin_truth.specs.Size.{node_count, depth, binding_count}
use Rattle.term_table.specs.Worth.{most_nodes}
use Rattle.smt_term.specs.Reading.{Read, ◌>>=◌, unless}
use Rattle.smt_goal.specs.Command.{State, Asked, start, sort_or_rat, command}

-- the commands one after the other: the first with a fault decides, and `exit` ends the script
abbrev pub commands_from : State → List (Result Sexps ScriptFault) → Read State
commands_from st [] = Ok st
commands_from st (Err f ∷ rest) = Err f
commands_from st (Ok e ∷ rest) = command st e >>= λ next. if next.ended then Ok next else commands_from next rest

abbrev pub most_depth : ℕ
most_depth = 1024

abbrev pub most_variables : ℕ
most_variables = 1024

-- the declared constants, and the bindings of all binders
abbrev pub variable_count : Asked → ℕ
variable_count g = length g.consts + binding_count g.body

-- kind 11, then kind 12 of a goal
abbrev pub sized : {A : Type 0} → Asked → Read A → Read A
sized g next =
    unless (nat_le (node_count g.body) most_nodes && nat_le (depth g.body) most_depth) kind.Size (place g.line g.column)
    (unless (nat_le (variable_count g) most_variables) kind.Variables (place g.line g.column) next)

-- goal by goal
abbrev pub all_sized : {A : Type 0} → List Asked → Read A → Read A
all_sized [] next = next
all_sized (g ∷ gs) next = sized g (all_sized gs next)

-- what a script asks: the sort of its logic, and one goal for each check-sat, in order
pub record Questions : Type 0 where
  pub sort : Sort
  pub goals : List Asked

abbrev pub questions : State → Questions
questions st = record { sort = sort_or_rat st.logic; goals = st.goals }

unfoldable pub obeyed_all : State → List (Result Sexps ScriptFault) → Read State
obeyed_all = commands_from

-- The meaning of a script: what it asks, or its first fault. Sizes are looked at after all reading.
unfoldable pub read : List ℕ → Read Questions
read bytes = obeyed_all start (expressions (tokens bytes)) >>= λ st. all_sized st.goals (Ok (questions st))
