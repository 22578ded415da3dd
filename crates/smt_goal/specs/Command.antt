-- The commands of a script (SMT-LIB 2.6, section 3.9). Kind 3 comes before kind 13, and that before the rest of a command; a command's own
-- kind 7 comes before the faults of its parts, which are read from left to right.
use Rattle.std.specs.Prelude.{ℕ, ◌==◌, Bool, true, false, not, ◌&&◌, if◌then◌else◌, List, [], ◌∷◌, ◌++◌, length, slice_get, position, is_some, Option, Some, None, Ok, codes}
use Rattle.std.specs.Str.{bytes_eq}
use Rattle.ss_names.specs.declared.FaultKind.TheVariants as kind
use Rattle.ss_names.specs.Vocabulary.{command_words, logic_words}
use Rattle.smt_lex.specs.declared.TokenKind.{TokenKind}
use Rattle.smt_lex.specs.declared.TokenKind.TheVariants as lex
use Rattle.smt_lex.specs.Place.{Place}
use Rattle.smt_lex.specs.Lexeme.{Lexeme}
use Rattle.smt_tree.specs.Sexp.{Sexps, none, leaf, list}
use Rattle.lin_term.specs.declared.Sort.{Sort}
use Rattle.lin_term.specs.declared.Sort.TheVariants.{Rat, Int}
use Rattle.lin_truth.specs.declared.VarSort.{VarSort}
use Rattle.lin_truth.specs.declared.VarSort.TheVariants as sort
use Rattle.lin_truth.specs.Term.{Term, and_of}
use Rattle.term_table.specs.Placed.{Typed, top}
use Rattle.smt_term.specs.Reading.{Read, ◌>>=◌, refuse, unless, place_of, Part, token, group, part_place}
use Rattle.smt_term.specs.Scope.{Names, Scope, plain, constant_at, with_parameters, sorts_in_order}
use Rattle.smt_term.specs.Word.{is_symbol, new_name, sort_of}
use Rattle.lin_truth.specs.View.{terms_of}
use Rattle.smt_term.specs.Apply.{same_sort, trees}
use Rattle.smt_term.specs.Terms.{term, parts, sorted, is_empty}
use Rattle.smt_goal.specs.declared.command.Command.{Command}
use Rattle.smt_goal.specs.declared.command.Command.TheVariants.{SetInfo, SetOption, SetLogic, DeclareConst, DeclareFun, DefineFun, Assert, CheckSat, Exit}

-- ---- what a script has said so far

-- a goal: the place of its check-sat, the constants declared then, and the conjunction of the assertions
pub record Asked : Type 0 where
  pub sort : Sort
  pub line : ℕ
  pub column : ℕ
  pub consts : List VarSort
  pub body : Term

pub record State : Type 0 where
  pub logic : Option Sort
  pub names : Names
  pub consts : List VarSort
  pub asserted : List Typed
  pub goals : List Asked
  pub ended : Bool

abbrev pub start : State
start = record { logic = None; names = []; consts = []; asserted = []; goals = []; ended = false }

-- Rat where no logic was set
abbrev pub sort_or_rat : Option Sort → Sort
sort_or_rat None = Rat
sort_or_rat (Some s) = s

-- where a term of a command is read
abbrev pub scope_of : State → Scope
scope_of st = record { logic = sort_or_rat st.logic; names = st.names; around = 0 }

-- ---- heads and order

-- in the order of the table of words
abbrev pub commands : List Command
commands = SetInfo ∷ SetOption ∷ SetLogic ∷ DeclareConst ∷ DeclareFun ∷ DefineFun ∷ Assert ∷ CheckSat ∷ Exit ∷ []

abbrev pub command_at : Option ℕ → Option Command
command_at None = None
command_at (Some row) = slice_get commands row

abbrev pub command_spelled : List ℕ → Option Command
command_spelled name = command_at (position (λ known. bytes_eq known name) command_words)

abbrev pub named_by_kind : TokenKind → List ℕ → Option Command
named_by_kind lex.Symbol name = command_spelled name
named_by_kind k name = None

-- a quoted symbol names no command
abbrev pub command_named : Lexeme → Option Command
command_named t = named_by_kind t.kind t.text

-- it needs a logic that is set
abbrev pub needs_logic : Command → Bool
needs_logic SetInfo = false
needs_logic SetOption = false
needs_logic SetLogic = false
needs_logic Exit = false
needs_logic c = true

-- it may stand behind a check-sat
abbrev pub may_follow : Command → Bool
may_follow SetInfo = true
may_follow SetOption = true
may_follow Exit = true
may_follow c = false

abbrev pub sets_logic : Command → Bool
sets_logic SetLogic = true
sets_logic c = false

-- kind 13: nothing but infos, options and `exit` behind a check-sat, one logic, and before it nothing that needs one
abbrev pub fits_order : Bool → Bool → Command → Bool
fits_order has_goal has_logic c =
    if has_goal && not (may_follow c) then false else (if has_logic then not (sets_logic c) else not (needs_logic c))

abbrev pub is_in_order : State → Command → Bool
is_in_order st c = fits_order (not (length st.goals == 0)) (is_some st.logic) c

-- ---- the commands

abbrev pub is_keyword_kind : TokenKind → Bool
is_keyword_kind lex.Keyword = true
is_keyword_kind k = false

abbrev pub is_keyword : Part → Bool
is_keyword (group p inner) = false
is_keyword (token t) = is_keyword_kind t.kind

abbrev pub part_text : Part → List ℕ
part_text (group p inner) = []
part_text (token t) = t.text

-- `(set-info k)`, `(set-info k v)`: the value is not looked at
abbrev pub set_info : State → Place → List Part → Read State
set_info st p (k ∷ []) = unless (is_keyword k) kind.Sort (part_place k) (Ok st)
set_info st p (k ∷ v ∷ []) = unless (is_keyword k) kind.Sort (part_place k) (Ok st)
set_info st p other = refuse kind.Arity p

abbrev pub is_symbol_part : List ℕ → Part → Bool
is_symbol_part word (group p inner) = false
is_symbol_part word (token t) = is_symbol t && bytes_eq t.text word

abbrev pub is_text_of_kind : TokenKind → List ℕ → List ℕ → Bool
is_text_of_kind lex.Text text word = bytes_eq text word
is_text_of_kind k text word = false

abbrev pub is_string_part : List ℕ → Part → Bool
is_string_part word (group p inner) = false
is_string_part word (token t) = is_text_of_kind t.kind t.text word

-- the values that options may have
abbrev pub is_offered : List ℕ → Part → Bool
is_offered option v =
    if bytes_eq option (codes ":print-success") then is_symbol_part (codes "false") v
    else (if bytes_eq option (codes ":global-declarations") then is_symbol_part (codes "false") v
    else (if bytes_eq option (codes ":regular-output-channel") then is_string_part (codes "stdout") v
    else true))

-- `(set-option k v)`
abbrev pub set_option : State → Place → List Part → Read State
set_option st p (k ∷ v ∷ []) = unless (is_keyword k) kind.Sort (part_place k) (unless (is_offered (part_text k) v) kind.Setting p (Ok st))
set_option st p other = refuse kind.Arity p

-- LRA, QF_LRA, LIA and QF_LIA
abbrev pub logics : List Sort
logics = Rat ∷ Rat ∷ Int ∷ Int ∷ []

abbrev pub logic_at : Option ℕ → Option Sort
logic_at None = None
logic_at (Some row) = slice_get logics row

abbrev pub logic_spelled : List ℕ → Option Sort
logic_spelled name = logic_at (position (λ known. bytes_eq known name) logic_words)

abbrev pub logic_named : Part → Option Sort
logic_named (group p inner) = None
logic_named (token t) = if is_symbol t then logic_spelled t.text else None

abbrev pub with_logic : State → Place → Option Sort → Read State
with_logic st p None = refuse kind.Logic p
with_logic st p (Some s) = Ok (record st { logic = Some s })

-- `(set-logic L)`
abbrev pub set_logic : State → Place → List Part → Read State
set_logic st p (l ∷ []) = with_logic st (part_place l) (logic_named l)
set_logic st p other = refuse kind.Arity p

-- one more declared constant
abbrev pub with_constant : State → List ℕ → VarSort → State
with_constant st name s =
    record st { names = (name, plain (constant_at s (length st.consts))) ∷ st.names; consts = st.consts ++ s ∷ [] }

-- `(declare-const s S)`
abbrev pub declare_const : State → Place → List Part → Read State
declare_const st p (x ∷ s ∷ []) =
    new_name (sort_or_rat st.logic) st.names x >>= λ name. sort_of (sort_or_rat st.logic) s >>= λ v. Ok (with_constant st name v)
declare_const st p other = refuse kind.Arity p

abbrev pub has_no_items : Part → Bool
has_no_items (token t) = true
has_no_items (group p inner) = is_empty inner

abbrev pub is_group : Part → Bool
is_group (token t) = false
is_group (group p inner) = true

-- `(declare-fun s () S)`
abbrev pub declare_fun : State → Place → List Part → Read State
declare_fun st p (x ∷ params ∷ s ∷ []) =
    unless (has_no_items params) kind.Arity p
    (new_name (sort_or_rat st.logic) st.names x >>= λ name.
    unless (is_group params) kind.Sort (part_place params)
    (sort_of (sort_or_rat st.logic) s >>= λ v. Ok (with_constant st name v)))
declare_fun st p other = refuse kind.Arity p

abbrev pub params_of : Sort → Part → Read (List (List ℕ × VarSort))
params_of logic (token t) = refuse kind.Sort (place_of t)
params_of logic (group p inner) = sorted logic inner

-- one more definition
abbrev pub with_definition : State → List ℕ → List VarSort → Typed → State
with_definition st name params body = record st { names = (name, record { params = params; meaning = body }) ∷ st.names }

-- `(define-fun s ((p S) ..) S t)`: the body is read where it is defined, and cannot name itself
abbrev pub define_fun : State → Place → List Part → Read State
define_fun st p (x ∷ params ∷ s ∷ body ∷ []) =
    new_name (sort_or_rat st.logic) st.names x >>= λ name.
    params_of (sort_or_rat st.logic) params >>= λ vs.
    sort_of (sort_or_rat st.logic) s >>= λ v.
    term (with_parameters (scope_of st) vs) body >>= λ t.
    unless (same_sort t.sort v) kind.Sort (part_place body) (Ok (with_definition st name (sorts_in_order vs) t))
define_fun st p other = refuse kind.Arity p

-- `(assert t)`
abbrev pub assert_of : State → Place → List Part → Read State
assert_of st p (f ∷ []) =
    term (scope_of st) f >>= λ t. unless (same_sort t.sort sort.Bool) kind.Sort (part_place f) (Ok (record st { asserted = st.asserted ++ t ∷ [] }))
assert_of st p other = refuse kind.Arity p

-- the root: one `and` of the live assertions, also where there is one or none
abbrev pub root : ℕ → List Typed → Term
root consts ts = and_of (terms_of (trees ts top consts))

-- the goal of a check-sat
abbrev pub asked : State → Place → Asked
asked st p =
    record { sort = sort_or_rat st.logic; line = p.line; column = p.column; consts = st.consts; body = root (length st.consts) st.asserted }

-- `(check-sat)`
abbrev pub check_sat : State → Place → List Part → Read State
check_sat st p [] = Ok (record st { goals = st.goals ++ asked st p ∷ [] })
check_sat st p other = refuse kind.Arity p

-- `(exit)`
abbrev pub exit_of : State → Place → List Part → Read State
exit_of st p [] = Ok (record st { ended = true })
exit_of st p other = refuse kind.Arity p

unfoldable pub obeyed : Command → State → Place → List Part → Read State
obeyed SetInfo = set_info
obeyed SetOption = set_option
obeyed SetLogic = set_logic
obeyed DeclareConst = declare_const
obeyed DeclareFun = declare_fun
obeyed DefineFun = define_fun
obeyed Assert = assert_of
obeyed CheckSat = check_sat
obeyed Exit = exit_of

abbrev pub in_order : State → Place → Option Command → List Part → Read State
in_order st p None ps = refuse kind.Command p
in_order st p (Some c) ps = unless (is_in_order st c) kind.Order p (obeyed c st p ps)

abbrev pub headed : State → Place → List Part → Read State
headed st p (token t ∷ ps) = in_order st p (command_named t) ps
headed st p other = refuse kind.Command p

-- an expression as a command
unfoldable pub command : State → Sexps → Read State
command st (list p inner rest) = headed st p (parts inner)
command st (leaf t rest) = refuse kind.Unclosed (place_of t)
command st none = Ok st
