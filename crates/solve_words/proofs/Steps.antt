-- What `clap` makes of the words, word by word.
use Rattle.std.proofs.Common.{◌≡◌, ◌∙◌, ℕ, Bool, true, false, cond, ◌&&◌, ◌||◌, List, [], ◌∷◌, ◌++◌, Option, Some, None, is_some, refl, ap, ap₂, codes, fold, true≢false}
use Rattle.std.specs.Prelude.{if◌then◌else◌, option_and_then, slice_get}
use Rattle.std.specs.List.{AllByRecursion, find}
use Rattle.std.specs.Str.{bytes_eq}
use Rattle.clap.specs.Words.{App, Row, Rule, first_of, matches_of, new_rule, built}
use Rattle.clap.specs.Walk.{Walk, at_row, default_rows, is_empty, has_row, nothing_held, reading_by, rows_after, settled, used, walk_from, walked, walk, with_default, with_values, more_values}
use Rattle.clap.specs.Simple.{Shape, names_of}
use Rattle.clap.specs.Kinds.{Kinds, or_else}
use Rattle.clap.specs.Faults.{built_fault, default_fault, defaults_fault, fault_of, is_simple_and_free, level_fault, given_default_fault, settle_fault, turn_fault, use_fault, walk_fault}
use Rattle.clap.specs.declared.builder.action.ArgAction.TheVariants.{Set}
use Rattle.clap.specs.declared.error.kind.ErrorKind.TheVariants as kind
use Rattle.clap.specs.declared.builder.value_parser.ValueParser.TheVariants as vp
use Rattle.clap.specs.declared.builder.value_parser.Reading.TheVariants.{AsWritten}
use Rattle.clap.specs.declared.parser.matches.ValueSource.TheVariants.{CommandLine}
use Rattle.clap.proofs.OnLiterals.{clap_on_literals}
use Rattle.clap.proofs.FaultLemmas.{leaf_fault}
use Rattle.solve_words.specs.Words.{Word}
use Rattle.solve_words.specs.Reading.{command}

-- ---- the command as it is built

-- an argument with one value
abbrev pub one_value : Word → Option Word → Option ℕ → Rule
one_value id long index = record (new_rule id) {
  long = long;
  index = index;
  action = Some Set;
  range = Some (record { start_inclusive = 1; end_inclusive = 1 });
  parser = Some vp.String;
}

abbrev pub script_arg : Rule
script_arg = one_value (codes "script") None (Some 1)

abbrev pub option_arg : Word → Rule
option_arg name = one_value name (Some name) None

abbrev pub args : List Rule
args = script_arg ∷ option_arg (codes "strategy") ∷ option_arg (codes "journal") ∷ option_arg (codes "workers") ∷ option_arg (codes "rounds")
    ∷ option_arg (codes "generate") ∷ []

abbrev pub top : Shape
top = record command.top { rules = args; disable_help_subcommand = true; is_built = true }

pub is_free : is_simple_and_free command ≡ true
unfolding clap_on_literals
is_free = refl

pub built_is : built command ≡ record { top = top; subs = [] }
unfolding clap_on_literals
built_is = refl

-- ---- a use of an argument

-- the row of one value
abbrev pub row_for : Word × Word → Row
row_for u = record { id = u.0; values = u.1 ∷ []; count = None; source = Some CommandLine; reading = AsWritten }

abbrev pub rows_for : List (Word × Word) → List Row
rows_for [] = []
rows_for (u ∷ us) = row_for u ∷ rows_for us

abbrev pub lookup : Word → List (Word × Word) → Option Word
lookup id [] = None
lookup id (u ∷ us) = cond (bytes_eq u.0 id) (Some u.1) (lookup id us)

pub has_row_is : (id : Word) (us : List (Word × Word)) → has_row id (rows_for us) ≡ is_some (lookup id us)
has_row_is id [] = refl
has_row_is id (u ∷ us) = go (bytes_eq u.0 id) (has_row_is id us)
  where
    go : (b : Bool) → has_row id (rows_for us) ≡ is_some (lookup id us) → (b || has_row id (rows_for us)) ≡ is_some (cond b (Some u.1) (lookup id us))
    go true e = refl
    go false e = e

pub first_is : (id : Word) (us : List (Word × Word)) → first_of id (rows_for us) ≡ lookup id us
first_is id [] = refl
first_is id (u ∷ us) = go (bytes_eq u.0 id) (first_is id us)
  where
    go : (b : Bool) → first_of id (rows_for us) ≡ lookup id us
        → option_and_then (λ (r : Row). slice_get r.values 0) (cond b (Some (row_for u)) (find (λ (r : Row). bytes_eq r.id id) (rows_for us))) ≡ cond b (Some u.1) (lookup id us)
    go true e = refl
    go false e = e

some_none : {X : Type 0} (x : X) → Some x ≡ None → ⊥
some_none {X = X} x e = true≢false (ap (λ (o : Option X). is_some o) e)

-- where the argument has no row, its change is the row at the end
at_end : (id : Word) (change : Row → List Row) (missing : List Row) (us : List (Word × Word)) → lookup id us ≡ None → at_row id change missing (rows_for us) ≡ rows_for us ++ missing
at_end id change missing [] e = refl
at_end id change missing (u ∷ us) e = go (bytes_eq u.0 id) e (at_end id change missing us)
  where
    go : (b : Bool) → cond b (Some u.1) (lookup id us) ≡ None → (lookup id us ≡ None → at_row id change missing (rows_for us) ≡ rows_for us ++ missing)
        → cond b (change (row_for u) ++ rows_for us) (row_for u ∷ at_row id change missing (rows_for us)) ≡ row_for u ∷ (rows_for us ++ missing)
    go true f ih = absurd (some_none u.1 f)
    go false f ih = ap (λ rs. row_for u ∷ rs) (ih f)

rows_more : (us : List (Word × Word)) (u : Word × Word) → rows_for us ++ row_for u ∷ [] ≡ rows_for (us ++ u ∷ [])
rows_more [] u = refl
rows_more (x ∷ us) u = ap (λ rs. row_for x ∷ rs) (rows_more us u)

append_none : (rs : List Row) → rs ++ [] ≡ rs
append_none [] = refl
append_none (r ∷ rs) = ap (λ xs. r ∷ xs) (append_none rs)

pub used_is : (id : Word) (long : Option Word) (index : Option ℕ) (v : Word) (us : List (Word × Word)) → lookup id us ≡ None
    → used (one_value id long index) (v ∷ []) (rows_for us) ≡ rows_for (us ++ (id, v) ∷ [])
used_is id long index v us e =
    ap (with_values id AsWritten CommandLine (v ∷ [])) (at_end id (λ _. []) [] us e ∙ append_none (rows_for us))
    ∙ at_end id (more_values CommandLine (v ∷ [])) (row_for (id, v) ∷ []) us e ∙ rows_more us (id, v)

abbrev pub repeat_kinds : Bool → Kinds
repeat_kinds again = if again then kind.ArgumentConflict ∷ [] else []

pub use_fault_is : (id : Word) (long : Option Word) (index : Option ℕ) (v : Word) (us : List (Word × Word))
    → use_fault false (one_value id long index) (v ∷ []) (rows_for us) ≡ repeat_kinds (is_some (lookup id us))
use_fault_is id long index v us = go (has_row id (rows_for us)) ∙ ap repeat_kinds (has_row_is id us)
  where
    go : (b : Bool) → or_else (if b && true then kind.ArgumentConflict ∷ [] else []) [] ≡ repeat_kinds b
    go true = refl
    go false = refl

-- ---- the words, one after the other

abbrev pub with_no_kind : {X : Type 0} → Kinds → X → Option X
with_no_kind [] x = Some x
with_no_kind (k ∷ ks) x = None

abbrev pub unless : {X : Type 0} → Kinds → Option X → Option X
unless [] r = r
unless (k ∷ ks) r = None

-- the rows at the end, where no word fails
abbrev pub run_from : Walk → List Word → Option (List Row)
run_from w ws =
    with_no_kind (or_else (walk_fault top [] w ws) (settle_fault args false (fold (walked args []) w ws).held)) (settled args (fold (walked args []) w ws).held).rows

pub run_more : (w : Walk) (word : Word) (ws : List Word) → run_from w (word ∷ ws) ≡ unless (turn_fault top [] w word) (run_from (walked args [] w word) ws)
unfolding walk_fault
run_more w word ws = go (turn_fault top [] w word)
  where
    go : (ks : Kinds) → with_no_kind (or_else (or_else ks (walk_fault top [] (walked args [] w word) ws)) (settle_fault args false (fold (walked args []) (walked args [] w word) ws).held))
        (settled args (fold (walked args []) (walked args [] w word) ws).held).rows
        ≡ unless ks (run_from (walked args [] w word) ws)
    go [] = refl
    go (k ∷ ks) = refl

pub run_end : (w : Walk) → run_from w [] ≡ with_no_kind (settle_fault args false w.held) (settled args w.held).rows
unfolding walk_fault
run_end w = refl

-- ---- nothing fails behind the words

no_default : (rows : List Row) (a : Rule) → a.defaults ≡ [] → (default_fault rows a ≡ []) × (with_default rows a ≡ rows)
no_default rows a e = (go (has_row a.id rows), to (has_row a.id rows))
  where
    go : (b : Bool) → (if b || is_empty a.defaults then [] else given_default_fault a a.defaults) ≡ []
    go true = refl
    go false = rw e refl

    to : (b : Bool) → (if b then rows else default_rows a.id (reading_by a) a.defaults rows) ≡ rows
    to true = refl
    to false = rw e refl

no_defaults : (rows : List Row) (xs : List Rule) → AllByRecursion (λ (a : Rule). a.defaults ≡ []) xs → (defaults_fault rows xs ≡ []) × (fold with_default rows xs ≡ rows)
unfolding defaults_fault
no_defaults rows [] h = (refl, refl)
no_defaults rows (a ∷ xs) h =
    let here = no_default rows a h.0 in
    let rest = no_defaults rows xs h.1 in
    (rw (here.0, here.1, rest.0) refl, rw (here.1, rest.1) refl)

pub run_is : (ws : List Word) → with_no_kind (fault_of command ws) (matches_of command ws) ≡ run_from (walk_from nothing_held) ws
run_is ws =
    let end = (walk args [] nothing_held ws).held in
    let rows = (settled args end).rows in
    let none = no_defaults rows args (refl, (refl, (refl, (refl, (refl, (refl, tt)))))) in
    let fault : fault_of command ws ≡ level_fault top [] nothing_held ws false [] =
    ap (λ (a : App). built_fault a nothing_held ws) built_is ∙ leaf_fault (record { top = top; subs = [] }) nothing_held ws refl in
    let found : matches_of command ws ≡ fold with_default rows args = ap (λ (a : App). rows_after a.top.rules (names_of a) ws) built_is in
    ap₂ with_no_kind fault (found ∙ none.1)
    ∙ ap (λ (ks : Kinds). with_no_kind (or_else (walk_fault top [] (walk_from nothing_held) ws) (or_else (settle_fault args false end) (or_else ks []))) rows) none.0
    ∙ ap (λ (ks : Kinds). with_no_kind (or_else (walk_fault top [] (walk_from nothing_held) ws) ks) rows) (nothing_more (settle_fault args false end))
  where
    nothing_more : (ks : Kinds) → or_else ks [] ≡ ks
    nothing_more [] = refl
    nothing_more (k ∷ ks) = refl
