-- The numbers of all goals of a script have one sort: a logic is set once, and before the first goal.
use Rattle.std.proofs.Common.{◌≡◌, ℕ, ◌==◌, Bool, true, false, not, ◌&&◌, if◌then◌else◌, nat_le, List, [], ◌∷◌, ◌++◌, map, length, Result, Ok, Err, Option, Some, None, is_some, refl, ap, sym, ◌∙◌, subst, arith, eqb-true}
use Rattle.std.proofs.lemmas.List.{nil_from_length}
use Rattle.ss_names.specs.declared.FaultKind.{FaultKind}
use Rattle.ss_names.specs.declared.FaultKind.TheVariants as kind
use Rattle.ss_names.specs.declared.ScriptFault.{ScriptFault}
use Rattle.smt_lex.specs.Place.{Place, place}
use Rattle.smt_lex.specs.Lexeme.{Lexeme}
use Rattle.smt_lex.specs.Tokens.{tokens}
use Rattle.smt_tree.specs.Sexp.{Sexps, none, leaf, list}
use Rattle.smt_tree.specs.Expressions.{expressions}
use Rattle.lin_term.specs.declared.Sort.{Sort}
use Rattle.lin_truth.specs.declared.VarSort.{VarSort}
use Rattle.lin_truth.specs.declared.VarSort.TheVariants as sort
use Rattle.lin_truth.specs.Goal.{Goal}
use Rattle.lin_truth.specs.Size.{node_count, depth}
use Rattle.term_table.specs.Placed.{Typed}
use Rattle.term_table.specs.Worth.{most_nodes}
use Rattle.smt_term.specs.Word.{new_name, sort_of}
use Rattle.smt_term.specs.Scope.{with_parameters, sorts_in_order}
use Rattle.smt_term.specs.Reading.{Read, ◌>>=◌, refuse, unless, Part, token, group, part_place}
use Rattle.smt_term.specs.Apply.{same_sort}
use Rattle.smt_term.specs.Terms.{term, parts}
use Rattle.smt_goal.specs.declared.command.Command.{Command}
use Rattle.smt_goal.specs.declared.command.Command.TheVariants.{SetInfo, SetOption, SetLogic, DeclareConst, DeclareFun, DefineFun, Assert, CheckSat, Exit}
use Rattle.smt_goal.specs.Command.{State, Asked, start, sort_or_rat, obeyed, command, headed, in_order, command_named, is_in_order, fits_order, set_info, set_option, set_logic, with_logic, declare_const, declare_fun, define_fun, assert_of, check_sat, exit_of, asked, is_keyword, is_offered, part_text, has_no_items, is_group, params_of, scope_of, with_constant, with_definition}
use Rattle.smt_goal.specs.Script.{Questions, read, questions, obeyed_all, commands_from, all_sized, most_depth, most_variables, variable_count}
use Rattle.smt_goal.specs.Answer.{asked_by}
use Rattle.script_games.specs.Carried.{questions_in, AreOfSort}

-- each is of this sort
abbrev EachOf : Sort → List Asked → Type 0
EachOf s [] = Unit {0}
EachOf s (g ∷ gs) = (g.sort ≡ s) × EachOf s gs

abbrev OneSort : State → Type 0
OneSort st = EachOf (sort_or_rat st.logic) st.goals

abbrev Then : {A : Type 0} → Read A → (A → Type 0) → Type 0
Then {A} (Ok x) P = P x
Then {A} (Err f) P = Unit {0}

then_bind : {A B : Type 0} (r : Read A) (f : A → Read B) (P : B → Type 0) → ((x : A) → Then (f x) P) → Then (r >>= f) P
then_bind (Ok x) f P h = h x
then_bind (Err e) f P h = tt

then_unless : {A : Type 0} (b : Bool) (k : FaultKind) (p : Place) (r : Read A) (P : A → Type 0) → Then r P → Then (unless b k p r) P
then_unless true k p r P h = h
then_unless false k p r P h = tt

-- ---- the commands

info_one : (st : State) (p : Place) (ps : List Part) → OneSort st → Then (set_info st p ps) OneSort
info_one st p [] h = tt
info_one st p (k ∷ []) h = then_unless {A = State} (is_keyword k) kind.Sort (part_place k) (Ok st) OneSort h
info_one st p (k ∷ v ∷ []) h = then_unless {A = State} (is_keyword k) kind.Sort (part_place k) (Ok st) OneSort h
info_one st p (k ∷ v ∷ w ∷ ps) h = tt

option_one : (st : State) (p : Place) (ps : List Part) → OneSort st → Then (set_option st p ps) OneSort
option_one st p [] h = tt
option_one st p (k ∷ []) h = tt
option_one st p (k ∷ v ∷ []) h =
    then_unless {A = State} (is_keyword k) kind.Sort (part_place k) (unless (is_offered (part_text k) v) kind.Setting p (Ok st)) OneSort
    (then_unless {A = State} (is_offered (part_text k) v) kind.Setting p (Ok st) OneSort h)
option_one st p (k ∷ v ∷ w ∷ ps) h = tt

with_logic_one : (st : State) (p : Place) (l : Option Sort) → st.goals ≡ [] → Then (with_logic st p l) OneSort
with_logic_one st p None e = tt
with_logic_one st p (Some s) e = subst (EachOf s) (sym e) tt

logic_one : (st : State) (p : Place) (ps : List Part) → st.goals ≡ [] → Then (set_logic st p ps) OneSort
logic_one st p [] e = tt
logic_one st p (l ∷ []) e = with_logic_one st _ _ e
logic_one st p (l ∷ k ∷ ps) e = tt

const_one : (st : State) (p : Place) (ps : List Part) → OneSort st → Then (declare_const st p ps) OneSort
const_one st p [] h = tt
const_one st p (x ∷ []) h = tt
const_one st p (x ∷ s ∷ []) h =
    then_bind {A = List ℕ} {B = State} (new_name (sort_or_rat st.logic) st.names x) (λ name. sort_of (sort_or_rat st.logic) s >>= λ v. Ok (with_constant st name v)) OneSort
    (λ name. then_bind {A = VarSort} {B = State} (sort_of (sort_or_rat st.logic) s) (λ v. Ok (with_constant st name v)) OneSort (λ v. h))
const_one st p (x ∷ s ∷ t ∷ ps) h = tt

fun_one : (st : State) (p : Place) (ps : List Part) → OneSort st → Then (declare_fun st p ps) OneSort
fun_one st p [] h = tt
fun_one st p (x ∷ []) h = tt
fun_one st p (x ∷ s ∷ []) h = tt
fun_one st p (x ∷ params ∷ s ∷ []) h =
    then_unless {A = State} (has_no_items params) kind.Arity p
    (new_name (sort_or_rat st.logic) st.names x >>= λ name. unless (is_group params) kind.Sort (part_place params) (sort_of (sort_or_rat st.logic) s >>= λ v. Ok (with_constant st name v))) OneSort
    (then_bind {A = List ℕ} {B = State} (new_name (sort_or_rat st.logic) st.names x)
    (λ name. unless (is_group params) kind.Sort (part_place params) (sort_of (sort_or_rat st.logic) s >>= λ v. Ok (with_constant st name v))) OneSort
    (λ name. then_unless {A = State} (is_group params) kind.Sort (part_place params) (sort_of (sort_or_rat st.logic) s >>= λ v. Ok (with_constant st name v)) OneSort
    (then_bind {A = VarSort} {B = State} (sort_of (sort_or_rat st.logic) s) (λ v. Ok (with_constant st name v)) OneSort (λ v. h))))
fun_one st p (x ∷ params ∷ s ∷ t ∷ ps) h = tt

abbrev defined : State → Part → List ℕ → List (List ℕ × VarSort) → VarSort → Read State
defined st body name vs v =
    term (with_parameters (scope_of st) vs) body >>= λ t. unless (same_sort t.sort v) kind.Sort (part_place body) (Ok (with_definition st name (sorts_in_order vs) t))

define_one : (st : State) (p : Place) (ps : List Part) → OneSort st → Then (define_fun st p ps) OneSort
define_one st p [] h = tt
define_one st p (x ∷ []) h = tt
define_one st p (x ∷ s ∷ []) h = tt
define_one st p (x ∷ params ∷ s ∷ []) h = tt
define_one st p (x ∷ params ∷ s ∷ body ∷ []) h =
    let l = sort_or_rat st.logic in
    then_bind {A = List ℕ} {B = State} (new_name l st.names x) (λ name. params_of l params >>= λ vs. sort_of l s >>= λ v. defined st body name vs v) OneSort
    (λ name. then_bind {A = List (List ℕ × VarSort)} {B = State} (params_of l params) (λ vs. sort_of l s >>= λ v. defined st body name vs v) OneSort
    (λ vs. then_bind {A = VarSort} {B = State} (sort_of l s) (λ v. defined st body name vs v) OneSort
    (λ v. then_bind {A = Typed} {B = State} (term (with_parameters (scope_of st) vs) body)
    (λ t. unless (same_sort t.sort v) kind.Sort (part_place body) (Ok (with_definition st name (sorts_in_order vs) t))) OneSort
    (λ t. then_unless {A = State} (same_sort t.sort v) kind.Sort (part_place body) (Ok (with_definition st name (sorts_in_order vs) t)) OneSort h))))
define_one st p (x ∷ params ∷ s ∷ body ∷ t ∷ ps) h = tt

assert_one : (st : State) (p : Place) (ps : List Part) → OneSort st → Then (assert_of st p ps) OneSort
assert_one st p [] h = tt
assert_one st p (f ∷ []) h =
    then_bind {A = Typed} {B = State} (term (scope_of st) f)
    (λ t. unless (same_sort t.sort sort.Bool) kind.Sort (part_place f) (Ok (record st { asserted = st.asserted ++ t ∷ [] }))) OneSort
    (λ t. then_unless {A = State} (same_sort t.sort sort.Bool) kind.Sort (part_place f) (Ok (record st { asserted = st.asserted ++ t ∷ [] })) OneSort h)
assert_one st p (f ∷ g ∷ ps) h = tt

each_more : (s : Sort) (gs : List Asked) (g : Asked) → EachOf s gs → g.sort ≡ s → EachOf s (gs ++ g ∷ [])
each_more s [] g h e = (e, tt)
each_more s (f ∷ gs) g h e = (h.0, each_more s gs g h.1 e)

sat_one : (st : State) (p : Place) (ps : List Part) → OneSort st → Then (check_sat st p ps) OneSort
sat_one st p [] h = each_more (sort_or_rat st.logic) st.goals (asked st p) h refl
sat_one st p (x ∷ ps) h = tt

exit_one : (st : State) (p : Place) (ps : List Part) → OneSort st → Then (exit_of st p ps) OneSort
exit_one st p [] h = h
exit_one st p (x ∷ ps) h = tt

-- a logic is set before the first goal
fits_none : (b has_logic : Bool) → fits_order (not b) has_logic SetLogic ≡ true → b ≡ true
fits_none true has_logic h = refl
fits_none false has_logic h = absurd (cc)

none_yet : (gs : List Asked) (has_logic : Bool) → fits_order (not (length gs == 0)) has_logic SetLogic ≡ true → gs ≡ []
none_yet gs has_logic h = let e = fits_none (length gs == 0) has_logic h in nil_from_length gs (omega (arith, eqb-true))

obeyed_one : (c : Command) (st : State) (p : Place) (ps : List Part) → is_in_order st c ≡ true → OneSort st → Then (obeyed c st p ps) OneSort
unfolding obeyed
obeyed_one SetInfo st p ps o h = info_one st p ps h
obeyed_one SetOption st p ps o h = option_one st p ps h
obeyed_one SetLogic st p ps o h = logic_one st p ps (none_yet st.goals (is_some st.logic) o)
obeyed_one DeclareConst st p ps o h = const_one st p ps h
obeyed_one DeclareFun st p ps o h = fun_one st p ps h
obeyed_one DefineFun st p ps o h = define_one st p ps h
obeyed_one Assert st p ps o h = assert_one st p ps h
obeyed_one CheckSat st p ps o h = sat_one st p ps h
obeyed_one Exit st p ps o h = exit_one st p ps h

unless_known : {A : Type 0} (b : Bool) (k : FaultKind) (p : Place) (r : Read A) (P : A → Type 0) → (b ≡ true → Then r P) → Then (unless b k p r) P
unless_known true k p r P h = h refl
unless_known false k p r P h = tt

in_order_one : (st : State) (p : Place) (c : Option Command) (ps : List Part) → OneSort st → Then (in_order st p c ps) OneSort
in_order_one st p None ps h = tt
in_order_one st p (Some c) ps h = unless_known {A = State} (is_in_order st c) kind.Order p (obeyed c st p ps) OneSort (λ o. obeyed_one c st p ps o h)

headed_one : (st : State) (p : Place) (ps : List Part) → OneSort st → Then (headed st p ps) OneSort
headed_one st p [] h = tt
headed_one st p (token t ∷ ps) h = in_order_one st p (command_named t) ps h
headed_one st p (group q inner ∷ ps) h = tt

command_one : (st : State) (e : Sexps) → OneSort st → Then (command st e) OneSort
unfolding command
command_one st none h = h
command_one st (leaf t rest) h = tt
command_one st (list p inner rest) h = headed_one st p (parts inner) h

-- ---- a script

then_bind_of : {A B : Type 0} (r : Read A) (f : A → Read B) (Q : A → Type 0) (P : B → Type 0) → Then r Q → ((x : A) → Q x → Then (f x) P) → Then (r >>= f) P
then_bind_of (Ok x) f Q P q h = h x q
then_bind_of (Err e) f Q P q h = tt

if_one : (b : Bool) (x y : Read State) → Then x OneSort → Then y OneSort → Then (if b then x else y) OneSort
if_one true x y h k = h
if_one false x y h k = k

commands_one : (es : List (Result Sexps ScriptFault)) (st : State) → OneSort st → Then (commands_from st es) OneSort
commands_one [] st h = h
commands_one (Err f ∷ rest) st h = tt
commands_one (Ok e ∷ rest) st h =
    then_bind_of {A = State} {B = State} (command st e) (λ next. if next.ended then Ok next else commands_from next rest) OneSort OneSort (command_one st e h)
    (λ next k. if_one next.ended (Ok next) (commands_from next rest) k (commands_one rest next k))

abbrev OfOneSort : Questions → Type 0
OfOneSort q = EachOf q.sort q.goals

sized_one : {A : Type 0} (gs : List Asked) (r : Read A) (P : A → Type 0) → Then r P → Then (all_sized gs r) P
sized_one {A} [] r P h = h
sized_one {A} (g ∷ gs) r P h =
    then_unless {A = A} (nat_le (node_count g.body) most_nodes && nat_le (depth g.body) most_depth) kind.Size (place g.line g.column)
    (unless (nat_le (variable_count g) most_variables) kind.Variables (place g.line g.column) (all_sized gs r)) P
    (then_unless {A = A} (nat_le (variable_count g) most_variables) kind.Variables (place g.line g.column) (all_sized gs r) P (sized_one gs r P h))

read_one : (bytes : List ℕ) → Then (read bytes) OfOneSort
unfolding read obeyed_all
read_one bytes =
    then_bind_of {A = State} {B = Questions} (commands_from start (expressions (tokens bytes))) (λ st. all_sized st.goals (Ok (questions st))) OneSort OfOneSort
    (commands_one (expressions (tokens bytes)) start tt) (λ st h. sized_one {A = Questions} st.goals (Ok (questions st)) OfOneSort h)

then_at : {A : Type 0} (r : Read A) (P : A → Type 0) (x : A) → Then r P → r ≡ Ok x → P x
then_at {A} r P x h e = subst (λ (o : Read A). Then o P) e h

are_of : (s : Sort) (gs : List Goal) → EachOf s (map asked_by gs) → AreOfSort s gs
are_of s [] h = tt
are_of s (g ∷ gs) h = (h.0, are_of s gs h.1)

-- the goals of a script have the sort of its logic
pub one_sort : (bytes : List ℕ) (s : Sort) (gs : List Goal) → read bytes ≡ Ok (questions_in s gs) → AreOfSort s gs
one_sort bytes s gs e = are_of s gs (then_at (read bytes) OfOneSort (questions_in s gs) (read_one bytes) e)
