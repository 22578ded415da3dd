use Rattle.std.proofs.Common.{◌-◌, length, take, drop, arith, ltb-false, ltb-true, sym}
use Rattle.smt_lex.specs.Lexeme.{lexeme}
use Rattle.smt_lex.specs.Place.{place}
use Rattle.smt_term.proofs.PartLemmas.{first-and}
use Rattle.smt_term.proofs.PairLemmas.{bindings-none, bindings-token, bindings-empty, bindings-are}
use Rattle.smt_term.proofs.bindings.bindings_of.Goals as goal

pub returns-in-empty : goal.returns-in-empty
returns-in-empty c =
    rw c.bad.ensures (bindings-none (place c.args.line c.args.column) c.args.args.now (omega (arith, ltb-true, c.in-empty.len_below)))

pub returns-then-is_empty : goal.returns-then-is_empty
returns-then-is_empty c =
    let es = c.args.args.now in
    rw c.bad-then-is_empty.ensures (bindings-empty (place c.args.line c.args.column) (place c.in-Group.line c.in-Group.column) es c.first-item.result (take (length es - 1) (drop 1 es)) c.in-Group.items.now
    (first-and es c.first-item.result (omega (arith, ltb-false, c.in-len1-up.len_at_least)) c.first-item.is) c.in-Group.ensures (sym c.if-is_empty.ensures))

pub returns-in-Token : goal.returns-in-Token
returns-in-Token c =
    let es = c.args.args.now in
    rw c.bad-in-Token.ensures (bindings-token (place c.args.line c.args.column) es c.first-item.result (take (length es - 1) (drop 1 es)) (lexeme c.in-Token.token)
    (first-and es c.first-item.result (omega (arith, ltb-false, c.in-len1-up.len_at_least)) c.first-item.is) c.in-Token.ensures)

pub returns-else-is_empty : goal.returns-else-is_empty
returns-else-is_empty c =
    let es = c.args.args.now in
    bindings-are (place c.args.line c.args.column) (place c.in-Group.line c.in-Group.column) es c.first-item.result (take (length es - 1) (drop 1 es)) c.in-Group.items.now
    (first-and es c.first-item.result (omega (arith, ltb-false, c.in-len1-up.len_at_least)) c.first-item.is) c.in-Group.ensures (sym c.if-is_empty.ensures)
