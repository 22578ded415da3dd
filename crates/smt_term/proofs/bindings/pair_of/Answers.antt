use Rattle.std.proofs.Common.{sym}
use Rattle.smt_lex.specs.Place.{place}
use Rattle.smt_lex.specs.Lexeme.{lexeme}
use Rattle.smt_term.specs.View.{part, part_seen}
use Rattle.smt_term.proofs.PairLemmas.{pair-token, pair-wrong, pair-fault, pair-is}
use Rattle.smt_term.proofs.bindings.pair_of.Goals as goal

pub returns-then-items-ne2 : goal.returns-then-items-ne2
returns-then-items-ne2 c =
    rw c.bad-then-items-ne2.ensures (pair-wrong c.args.logic c.args.taken.now (part c.args.item.now) (place c.in-Group.line c.in-Group.column) c.in-Group.items.now (sym c.in-Group.ensures) c.if-items-ne2.true)

pub returns-in-Err : goal.returns-in-Err
returns-in-Err c =
    pair-fault c.args.logic c.args.taken.now c.args.item.now (place c.in-Group.line c.in-Group.column) c.in-Group.items.now c.index-items-0.result c.index-items-0.result
    (part_seen c.part_of-in-Group.result) c.in-Err.fault (sym c.in-Group.ensures) c.if-items-ne2.false c.index-items-0.is c.part_of-in-Group.ensures c.in-Err.ensures

pub returns-in-Token : goal.returns-in-Token
returns-in-Token c =
    rw c.bad.ensures (pair-token c.args.logic c.args.taken.now (part c.args.item.now) (lexeme c.in-Token.token) (sym c.in-Token.ensures))

pub returns-in-Ok : goal.returns-in-Ok
returns-in-Ok c =
    pair-is c.args.logic c.args.taken.now c.args.item.now (place c.in-Group.line c.in-Group.column) c.in-Group.items.now c.index-items-0.result c.index-items-1.result
    (part_seen c.part_of-in-Group.result) c.in-Ok.name.now (sym c.in-Group.ensures) c.if-items-ne2.false c.index-items-0.is c.index-items-1.is c.part_of-in-Group.ensures c.in-Ok.ensures
