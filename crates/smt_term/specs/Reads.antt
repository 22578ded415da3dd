-- What the reader knows, as the definitions see it.
use Rattle.std.specs.Prelude.{◌≡◌, ◌<◌, ℕ, length, Result, Ok, Err}
use Rattle.ss_names.specs.declared.ScriptFault.{ScriptFault}
use Rattle.ss_names.specs.declared.ScriptFault.TheVariants.{Bad, Memory}
use Rattle.term_table.specs.Meaning.{meanings}
use Rattle.smt_term.specs.declared.reader.Reader.{Reader}
use Rattle.smt_term.specs.declared.reader.Head.{Head as Shown}
use Rattle.smt_term.specs.declared.reader.Head.TheVariants as shown
use Rattle.smt_term.specs.Reading.{Read}
use Rattle.smt_term.specs.Scope.{Scope}
use Rattle.smt_term.specs.Terms.{Head, let_head, binder_head, annotation_head, operator_head, name_head}
use Rattle.smt_term.specs.View.{entry_at, entries_at, NamesIn}

abbrev pub scope_seen : Reader → Scope
scope_seen r = record { logic = r.logic; names = entries_at (meanings r.table) r.signatures.items r.names; around = r.around }

-- each name stands for an entry of the table
abbrev pub Fits : Reader → Type 0
Fits r = NamesIn (length r.table) r.names

-- all but the table is as it was
pub record Keeps (old new : Reader) : Type 0 where
  pub names : new.names ≡ old.names
  pub logic : new.logic ≡ old.logic
  pub signatures : new.signatures.items ≡ old.signatures.items
  pub around : new.around ≡ old.around

abbrev pub head_seen : Reader → Shown → Head
head_seen r shown.Let = let_head
head_seen r (shown.Binder q) = binder_head q
head_seen r shown.Annotation = annotation_head
head_seen r (shown.Operator op) = operator_head op
head_seen r (shown.Name k) = name_head (entry_at (meanings r.table) r.signatures.items k)

abbrev pub HeadIn : ℕ → Shown → Type 0
HeadIn n (shown.Name k) = k.node < n
HeadIn n h = Unit {0}

-- what a head says is what the definition says; want of memory is free
abbrev pub GivesHead : Reader → Read Head → Result Shown ScriptFault → Type 0
GivesHead r read (Ok h) = (read ≡ Ok (head_seen r h)) × HeadIn (length r.table) h
GivesHead r read (Err (Bad k line column)) = read ≡ Err (Bad k line column)
GivesHead r read (Err Memory) = Unit {0}
