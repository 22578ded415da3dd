-- What commands make of sound states: names and assertions stay sound, and each goal is well formed where it is not too large.
use Rattle.std.proofs.Common.{◌≡◌, ℕ, Bool, true, false, not, ◌&&◌, cond, List, [], ◌∷◌, ◌++◌, length, is_some, Option, Some, None, Result, Ok, Err, refl, sym, subst, ◌∙◌, arith, length-append}
use Rattle.std.proofs.Math.Seq.{get_or-append_seam}
use Rattle.ss_names.specs.declared.ScriptFault.{ScriptFault}
use Rattle.ss_names.specs.declared.FaultKind.TheVariants as kind
use Rattle.smt_lex.specs.Place.{Place}
use Rattle.smt_tree.specs.Sexp.{Sexps, none, leaf, list}
use Rattle.lin_term.specs.declared.Sort.{Sort}
use Rattle.lin_truth.specs.declared.VarSort.{VarSort}
use Rattle.lin_truth.specs.declared.VarSort.TheVariants as sort
use Rattle.term_table.specs.declared.Variadic.TheVariants as variadic
use Rattle.term_table.specs.Built.{several_of}
use Rattle.term_table.specs.Placed.{Typed}
use Rattle.term_table.specs.Sound.{Sorts, Sound, AllSound, AllOfSort}
use Rattle.term_table.proofs.Scoped.{sound-constants}
use Rattle.term_table.proofs.SoundLemmas.{sound-constant}
use Rattle.term_table.proofs.SoundMore.{sound-several, sound-goal, body_scope}
use Rattle.smt_term.specs.Reading.{Read, ◌>>=◌, unless, part_place, Part, token, group}
use Rattle.smt_term.specs.Scope.{Names, with_parameters, sorts_in_order, constant_at}
use Rattle.smt_term.specs.Word.{new_name, sort_of}
use Rattle.smt_term.specs.Apply.{same_sort, trees}
use Rattle.smt_term.specs.Terms.{term, parts}
use Rattle.smt_goal.specs.declared.command.Command.{Command}
use Rattle.smt_goal.specs.declared.command.Command.TheVariants.{SetInfo, SetOption, SetLogic, DeclareConst, DeclareFun, DefineFun, Assert, CheckSat, Exit}
use Rattle.smt_goal.specs.Command as spec
use Rattle.smt_goal.specs.Command.{State, start, sort_or_rat, scope_of, command_named, needs_logic, sets_logic, may_follow, fits_order, is_in_order, obeyed, in_order, headed, command, with_constant, with_definition, root, asked}
use Rattle.smt_goal.specs.Script.{obeyed_all}
use Rattle.smt_goal.specs.Answer.{IsFormedBody, AllFormed}
use Rattle.smt_goal.proofs.SoundNumbers.{Good, bind_ok, unless_ok, same_ok}
use Rattle.smt_goal.proofs.SoundOperators.{sort_is}
use Rattle.smt_goal.proofs.SoundNames.{EntryGood, NamesGood, ScopeGood, outer, names-parameters}
use Rattle.smt_goal.proofs.SoundTerms.{term_good}

-- ---- states

pub record StateGood (st : State) : Type 0 where
  pub names : NamesGood (sort_or_rat st.logic) (outer st.consts) st.names
  pub sorts : AllOfSort sort.Bool st.asserted
  pub asserted : AllSound (sort_or_rat st.logic) (outer st.consts) st.asserted
  pub goals : AllFormed st.goals
  -- nothing is declared before a logic is set
  pub before : st.logic ≡ None → (st.names ≡ []) × (st.asserted ≡ [])

pub start_good : StateGood start
start_good = record { names = tt; sorts = tt; asserted = tt; goals = tt; before = λ e. (refl, refl) }

-- a logic that is set is one
not_none : (o : Option Sort) → is_some o ≡ true → o ≡ None → ⊥
not_none None is e = absurd cc
not_none (Some s) is e = absurd cc

-- ---- more constants

good-constants : (s : Sort) (cs us : List VarSort) (t : Typed) → Good s (outer cs) t → Good s (outer (cs ++ us)) t
good-constants s cs us t good = record { sound = sound-constants s (outer cs) us t good.sound; narrow = good.narrow }

entry-constants : (s : Sort) (cs us params : List VarSort) (t : Typed) → EntryGood s (outer cs) params t → EntryGood s (outer (cs ++ us)) params t
entry-constants s cs us [] t good = good-constants s cs us t good
entry-constants s cs us (p ∷ params) t good = sound-constants s (body_scope (outer cs) (p ∷ params)) us t good

names-constants : (s : Sort) (cs us : List VarSort) (names : Names) → NamesGood s (outer cs) names → NamesGood s (outer (cs ++ us)) names
names-constants s cs us [] all = tt
names-constants s cs us (e ∷ names) all = (entry-constants s cs us e.1.params e.1.meaning all.0, names-constants s cs us names all.1)

all-constants : (s : Sort) (cs us : List VarSort) (ts : List Typed) → AllSound s (outer cs) ts → AllSound s (outer (cs ++ us)) ts
all-constants s cs us [] all = tt
all-constants s cs us (t ∷ ts) all = (sound-constants s (outer cs) us t all.0, all-constants s cs us ts all.1)

constant_good : (s : Sort) (cs : List VarSort) (u : VarSort) → Good s (outer (cs ++ u ∷ [])) (constant_at u (length cs))
constant_good s cs u = record {
  sound = sound-constant s (outer (cs ++ u ∷ [])) (length cs) u (omega (arith, length-append cs (u ∷ []))) (λ d. get_or-append_seam cs u [] d);
  narrow = refl;
}

declared_good : (st : State) (name : List ℕ) (u : VarSort) → is_some st.logic ≡ true → StateGood st → StateGood (with_constant st name u)
declared_good st name u some good = record {
  names = (constant_good (sort_or_rat st.logic) st.consts u, names-constants (sort_or_rat st.logic) st.consts (u ∷ []) st.names good.names);
  sorts = good.sorts;
  asserted = all-constants (sort_or_rat st.logic) st.consts (u ∷ []) st.asserted good.asserted;
  goals = good.goals;
  before = λ e. absurd (not_none st.logic some e);
}

-- ---- the commands

-- a command makes a sound state of a sound one
abbrev Keeps : State → Read State → Type 0
Keeps st read = (next : State) → read ≡ Ok next → StateGood next

same_good : (st next : State) → StateGood st → ◌≡◌ {A = Read State} (Ok st) (Ok next) → StateGood next
same_good st next good e = subst StateGood (same_ok st next e) good

info_good : (st : State) (p : Place) (ps : List Part) → StateGood st → Keeps st (spec.set_info st p ps)
info_good st p [] good next e = absurd cc
info_good st p (k ∷ []) good next e = same_good st next good (unless_ok (spec.is_keyword k) kind.Sort (part_place k) (Ok st) next e).1
info_good st p (k ∷ v ∷ []) good next e = same_good st next good (unless_ok (spec.is_keyword k) kind.Sort (part_place k) (Ok st) next e).1
info_good st p (k ∷ v ∷ w ∷ ps) good next e = absurd cc

option_good : (st : State) (p : Place) (ps : List Part) → StateGood st → Keeps st (spec.set_option st p ps)
option_good st p [] good next e = absurd cc
option_good st p (k ∷ []) good next e = absurd cc
option_good st p (k ∷ v ∷ []) good next e =
    let first = unless_ok (spec.is_keyword k) kind.Sort (part_place k) _ next e in
    same_good st next good (unless_ok (spec.is_offered (spec.part_text k) v) kind.Setting p (Ok st) next first.1).1
option_good st p (k ∷ v ∷ w ∷ ps) good next e = absurd cc

nothing : (o : Option Sort) → is_some o ≡ false → o ≡ None
nothing None e = refl
nothing (Some s) e = absurd cc

logic_set : (st : State) (p : Place) (o : Option Sort) → is_some st.logic ≡ false → StateGood st → Keeps st (spec.with_logic st p o)
logic_set st p None unset good next e = absurd cc
logic_set st p (Some s) unset good next e =
    let empty = good.before (nothing st.logic unset) in
    subst StateGood (same_ok (record st { logic = Some s }) next e) (record {
      names = subst (NamesGood s (outer st.consts)) (sym empty.0) tt;
      sorts = good.sorts;
      asserted = subst (AllSound s (outer st.consts)) (sym empty.1) tt;
      goals = good.goals;
      before = λ f. absurd cc;
    })

logic_good : (st : State) (p : Place) (ps : List Part) → is_some st.logic ≡ false → StateGood st → Keeps st (spec.set_logic st p ps)
logic_good st p [] unset good next e = absurd cc
logic_good st p (l ∷ []) unset good next e = logic_set st (part_place l) (spec.logic_named l) unset good next e
logic_good st p (l ∷ m ∷ ps) unset good next e = absurd cc

constant_command : (st : State) (p : Place) (ps : List Part) → is_some st.logic ≡ true → StateGood st → Keeps st (spec.declare_const st p ps)
constant_command st p [] some good next e = absurd cc
constant_command st p (x ∷ []) some good next e = absurd cc
constant_command st p (x ∷ s ∷ []) some good next e =
    let m = bind_ok (new_name (sort_or_rat st.logic) st.names x) (λ name. sort_of (sort_or_rat st.logic) s >>= λ v. Ok (with_constant st name v)) next e in
    let n = bind_ok (sort_of (sort_or_rat st.logic) s) (λ v. Ok (with_constant st m.0 v)) next m.2 in
    subst StateGood (same_ok (with_constant st m.0 n.0) next n.2) (declared_good st m.0 n.0 some good)
constant_command st p (x ∷ s ∷ t ∷ ps) some good next e = absurd cc

function_command : (st : State) (p : Place) (ps : List Part) → is_some st.logic ≡ true → StateGood st → Keeps st (spec.declare_fun st p ps)
function_command st p [] some good next e = absurd cc
function_command st p (x ∷ []) some good next e = absurd cc
function_command st p (x ∷ params ∷ []) some good next e = absurd cc
function_command st p (x ∷ params ∷ s ∷ []) some good next e =
    let first = unless_ok (spec.has_no_items params) kind.Arity p _ next e in
    let m = bind_ok (new_name (sort_or_rat st.logic) st.names x)
    (λ name. unless (spec.is_group params) kind.Sort (part_place params) (sort_of (sort_or_rat st.logic) s >>= λ v. Ok (with_constant st name v))) next first.1 in
    let g = unless_ok (spec.is_group params) kind.Sort (part_place params) _ next m.2 in
    let n = bind_ok (sort_of (sort_or_rat st.logic) s) (λ v. Ok (with_constant st m.0 v)) next g.1 in
    subst StateGood (same_ok (with_constant st m.0 n.0) next n.2) (declared_good st m.0 n.0 some good)
function_command st p (x ∷ params ∷ s ∷ t ∷ ps) some good next e = absurd cc

-- the scope of terms
scope_good : (st : State) → StateGood st → ScopeGood (scope_of st) (outer st.consts)
scope_good st good = record { names = good.names; around = refl }

entry_of : (s : Sort) (cs us : List VarSort) (t : Typed) → Good s (body_scope (outer cs) us) t → EntryGood s (outer cs) us t
entry_of s cs [] t good = good
entry_of s cs (u ∷ us) t good = good.sound

defined_good : (st : State) (name : List ℕ) (us : List VarSort) (t : Typed) → is_some st.logic ≡ true → StateGood st → Good (sort_or_rat st.logic) (body_scope (outer st.consts) us) t
    → StateGood (with_definition st name us t)
defined_good st name us t some good is = record {
  names = (entry_of (sort_or_rat st.logic) st.consts us t is, good.names);
  sorts = good.sorts;
  asserted = good.asserted;
  goals = good.goals;
  before = λ f. absurd (not_none st.logic some f);
}

-- a body that was read, of the sort that it is to have
definition_last : (st : State) (p : Place) (name : List ℕ) (us : List VarSort) (v : VarSort) (t : Typed) (next : State) → is_some st.logic ≡ true → StateGood st
    → Good (sort_or_rat st.logic) (body_scope (outer st.consts) us) t → unless (same_sort t.sort v) kind.Sort p (Ok (with_definition st name us t)) ≡ Ok next → StateGood next
definition_last st p name us v t next some good is e =
    subst StateGood (same_ok (with_definition st name us t) next (unless_ok (same_sort t.sort v) kind.Sort p (Ok (with_definition st name us t)) next e).1) (defined_good st name us t some good is)

definition_command : (st : State) (p : Place) (ps : List Part) → is_some st.logic ≡ true → StateGood st → Keeps st (spec.define_fun st p ps)
definition_command st p [] some good next e = absurd cc
definition_command st p (x ∷ []) some good next e = absurd cc
definition_command st p (x ∷ params ∷ []) some good next e = absurd cc
definition_command st p (x ∷ params ∷ s ∷ []) some good next e = absurd cc
definition_command st p (x ∷ params ∷ s ∷ body ∷ []) some good next e =
    let logic = sort_or_rat st.logic in
    let m = bind_ok (new_name logic st.names x)
    (λ name. spec.params_of logic params >>= λ vs. sort_of logic s >>= λ v. term (with_parameters (scope_of st) vs) body >>= λ t.
    unless (same_sort t.sort v) kind.Sort (part_place body) (Ok (with_definition st name (sorts_in_order vs) t))) next e in
    let n = bind_ok (spec.params_of logic params)
    (λ vs. sort_of logic s >>= λ v. term (with_parameters (scope_of st) vs) body >>= λ t.
    unless (same_sort t.sort v) kind.Sort (part_place body) (Ok (with_definition st m.0 (sorts_in_order vs) t))) next m.2 in
    let o = bind_ok (sort_of logic s)
    (λ v. term (with_parameters (scope_of st) n.0) body >>= λ t. unless (same_sort t.sort v) kind.Sort (part_place body) (Ok (with_definition st m.0 (sorts_in_order n.0) t))) next n.2 in
    let q = bind_ok (term (with_parameters (scope_of st) n.0) body)
    (λ t. unless (same_sort t.sort o.0) kind.Sort (part_place body) (Ok (with_definition st m.0 (sorts_in_order n.0) t))) next o.2 in
    let there = body_scope (outer st.consts) (sorts_in_order n.0) in
    let is = term_good (with_parameters (scope_of st) n.0) there body q.0 (record { names = names-parameters logic st.consts n.0 st.names good.names; around = refl }) q.1 in
    definition_last st (part_place body) m.0 (sorts_in_order n.0) o.0 q.0 next some good is q.2
definition_command st p (x ∷ params ∷ s ∷ body ∷ more ∷ ps) some good next e = absurd cc

sorts-push : (ts : List Typed) (t : Typed) → AllOfSort sort.Bool ts → t.sort ≡ sort.Bool → AllOfSort sort.Bool (ts ++ t ∷ [])
sorts-push [] t all is = (is, tt)
sorts-push (u ∷ ts) t all is = (all.0, sorts-push ts t all.1 is)

sound-push : (s : Sort) (scope : Sorts) (ts : List Typed) (t : Typed) → AllSound s scope ts → Sound s scope t → AllSound s scope (ts ++ t ∷ [])
sound-push s scope [] t all is = (is, tt)
sound-push s scope (u ∷ ts) t all is = (all.0, sound-push s scope ts t all.1 is)

assert_command : (st : State) (p : Place) (ps : List Part) → is_some st.logic ≡ true → StateGood st → Keeps st (spec.assert_of st p ps)
assert_command st p [] some good next e = absurd cc
assert_command st p (f ∷ []) some good next e =
    let m = bind_ok (term (scope_of st) f) (λ t. unless (same_sort t.sort sort.Bool) kind.Sort (part_place f) (Ok (record st { asserted = st.asserted ++ t ∷ [] }))) next e in
    let last = unless_ok (same_sort m.0.sort sort.Bool) kind.Sort (part_place f) (Ok (record st { asserted = st.asserted ++ m.0 ∷ [] })) next m.2 in
    let is = term_good (scope_of st) (outer st.consts) f m.0 (scope_good st good) m.1 in
    subst StateGood (same_ok (record st { asserted = st.asserted ++ m.0 ∷ [] }) next last.1) (record {
      names = good.names;
      sorts = sorts-push st.asserted m.0 good.sorts (sort_is m.0.sort sort.Bool last.0);
      asserted = sound-push (sort_or_rat st.logic) (outer st.consts) st.asserted m.0 good.asserted is.sound;
      goals = good.goals;
      before = λ f. absurd (not_none st.logic some f);
    })
assert_command st p (f ∷ g ∷ ps) some good next e = absurd cc

formed-push : (gs : List spec.Asked) (g : spec.Asked) → AllFormed gs → IsFormedBody g → AllFormed (gs ++ g ∷ [])
formed-push [] g all is = (is, tt)
formed-push (h ∷ gs) g all is = (all.0, formed-push gs g all.1 is)

-- the goal of a check-sat
asked_good : (st : State) (p : Place) → StateGood st → IsFormedBody (asked st p)
asked_good st p good le =
    let t : Typed = record { sort = sort.Bool; tree = λ frame n. several_of variadic.And (trees st.asserted frame n) } in
    sound-goal (sort_or_rat st.logic) st.consts t refl (sound-several (sort_or_rat st.logic) (outer st.consts) variadic.And st.asserted good.sorts good.asserted) le

check_command : (st : State) (p : Place) (ps : List Part) → StateGood st → Keeps st (spec.check_sat st p ps)
check_command st p [] good next e = subst StateGood (same_ok (record st { goals = st.goals ++ asked st p ∷ [] }) next e) (record {
  names = good.names;
  sorts = good.sorts;
  asserted = good.asserted;
  goals = formed-push st.goals (asked st p) good.goals (asked_good st p good);
  before = good.before;
})
check_command st p (x ∷ ps) good next e = absurd cc

exit_command : (st : State) (p : Place) (ps : List Part) → StateGood st → Keeps st (spec.exit_of st p ps)
exit_command st p [] good next e =
    subst StateGood (same_ok (record st { ended = true }) next e) (record { names = good.names; sorts = good.sorts; asserted = good.asserted; goals = good.goals; before = good.before })
exit_command st p (x ∷ ps) good next e = absurd cc

-- ---- the order of commands

not_false : (b : Bool) → not b ≡ true → b ≡ false
not_false true e = absurd cc
not_false false e = refl

-- what the order says of the logic
has_logic : (goals some : Bool) (c : Command) → fits_order goals some c ≡ true → (needs_logic c ≡ true → some ≡ true) × (sets_logic c ≡ true → some ≡ false)
has_logic goals some c e = by (goals && not (may_follow c)) e
  where
    logic : (some : Bool) → cond some (not (sets_logic c)) (not (needs_logic c)) ≡ true → (needs_logic c ≡ true → some ≡ true) × (sets_logic c ≡ true → some ≡ false)
    logic true e = ((λ n. refl), λ s. absurd (let f = not_false (sets_logic c) e in let g = sym f ∙ s in cc))
    logic false e = ((λ n. absurd (let f = not_false (needs_logic c) e in let g = sym f ∙ n in cc)), λ s. refl)

    by : (b : Bool) → cond b false (cond some (not (sets_logic c)) (not (needs_logic c))) ≡ true → (needs_logic c ≡ true → some ≡ true) × (sets_logic c ≡ true → some ≡ false)
    by true e = absurd cc
    by false e = logic some e

obeyed_good : (c : Command) (st : State) (p : Place) (ps : List Part) → (needs_logic c ≡ true → is_some st.logic ≡ true) × (sets_logic c ≡ true → is_some st.logic ≡ false) → StateGood st → Keeps st (obeyed c st p ps)
unfolding obeyed
obeyed_good SetInfo st p ps order good next e = info_good st p ps good next e
obeyed_good SetOption st p ps order good next e = option_good st p ps good next e
obeyed_good SetLogic st p ps order good next e = logic_good st p ps (order.1 refl) good next e
obeyed_good DeclareConst st p ps order good next e = constant_command st p ps (order.0 refl) good next e
obeyed_good DeclareFun st p ps order good next e = function_command st p ps (order.0 refl) good next e
obeyed_good DefineFun st p ps order good next e = definition_command st p ps (order.0 refl) good next e
obeyed_good Assert st p ps order good next e = assert_command st p ps (order.0 refl) good next e
obeyed_good CheckSat st p ps order good next e = check_command st p ps good next e
obeyed_good Exit st p ps order good next e = exit_command st p ps good next e

ordered_good : (st : State) (p : Place) (c : Option Command) (ps : List Part) → StateGood st → Keeps st (in_order st p c ps)
ordered_good st p None ps good next e = absurd cc
ordered_good st p (Some c) ps good next e =
    let both = unless_ok (is_in_order st c) kind.Order p (obeyed c st p ps) next e in
    obeyed_good c st p ps (has_logic _ (is_some st.logic) c both.0) good next both.1

headed_good : (st : State) (p : Place) (ps : List Part) → StateGood st → Keeps st (headed st p ps)
headed_good st p [] good next e = absurd cc
headed_good st p (token t ∷ ps) good next e = ordered_good st p (command_named t) ps good next e
headed_good st p (group q inner ∷ ps) good next e = absurd cc

command_good : (st : State) (x : Sexps) → StateGood st → Keeps st (command st x)
unfolding command
command_good st none good next e = same_good st next good e
command_good st (leaf t rest) good next e = absurd cc
command_good st (list p inner rest) good next e = headed_good st p (parts inner) good next e

-- ---- the script

ended_or : (next now : State) (rest : Read State) (b : Bool) → StateGood now → (rest ≡ Ok next → StateGood next) → cond b (Ok now) rest ≡ Ok next → StateGood next
ended_or next now rest true good goes e = same_good now next good e
ended_or next now rest false good goes e = goes e

script_good : (st : State) (xs : List (Result Sexps ScriptFault)) → StateGood st → Keeps st (obeyed_all st xs)
unfolding obeyed_all
script_good st [] good next e = same_good st next good e
script_good st (Err f ∷ xs) good next e = absurd cc
script_good st (Ok x ∷ xs) good next e =
    let m = bind_ok (command st x) (λ now. cond now.ended (Ok now) (obeyed_all now xs)) next e in
    let now = command_good st x good m.0 m.1 in
    ended_or next m.0 (obeyed_all m.0 xs) m.0.ended now (λ f. script_good m.0 xs now next f) m.2

-- each goal that a script asks is well formed where it is not too large
pub all_formed : (xs : List (Result Sexps ScriptFault)) (st : State) → obeyed_all start xs ≡ Ok st → AllFormed st.goals
all_formed xs st e = (script_good start xs start_good st e).goals
