use Rattle.std.proofs.Common.{◌≡◌, drop}
use Rattle.smt_term.proofs.OpenLemmas.{pushed}
use Rattle.smt_term.proofs.reader.Reader.add_bound.Given as goal

abbrev pub invariant-loop-b : goal.invariant-loop-b
invariant-loop-b l = record {
  names : pushed l.self.names (drop l.b-index l.bound) ≡ pushed l.fn.self.names l.bound;
  table : l.self.table ≡ l.fn.self.table;
  logic : l.self.logic ≡ l.fn.self.logic;
  signatures : l.self.signatures.items ≡ l.fn.self.signatures.items;
  around : l.self.around ≡ l.fn.self.around;
}
