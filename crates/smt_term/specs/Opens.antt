-- A reader behind names that were added.
use Rattle.std.specs.Prelude.{◌≡◌, ◌-◌, length, drop}
use Rattle.term_table.specs.Meaning.{Extends}
use Rattle.smt_term.specs.declared.reader.Reader.{Reader}
use Rattle.smt_term.specs.Scope.{Scope}
use Rattle.smt_term.specs.Reads.{scope_seen, Fits}

-- it reads in this scope, and the names that were there come back when those that were added are taken away
pub record Opens (inner : Scope) (old new : Reader) : Type 0 where
  pub scope : scope_seen new ≡ inner
  pub fits : Fits new
  pub grows : Extends old.table new.table
  pub behind : drop (length new.names - length old.names) new.names ≡ old.names
  pub logic : new.logic ≡ old.logic
  pub signatures : new.signatures.items ≡ old.signatures.items
