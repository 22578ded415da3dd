use Rattle.std.proofs.Common.{ap}
use Rattle.smt_lex.specs.Place.{place}
use Rattle.smt_lex.specs.Lexeme.{lexeme}
use Rattle.smt_term.specs.View.{part_seen}
use Rattle.smt_goal.specs.Session.{state_seen}
use Rattle.smt_goal.proofs.Obeying.{command-token, command-group, obeys-as, obeys-fault}
use Rattle.smt_goal.proofs.session.Session.command.Goals as goal

pub returns-in-Group : goal.returns-in-Group
returns-in-Group c =
    let s = c.args.self.now in
    obeys-as _ _ c.headed.result c.headed.new.self
    (command-group (state_seen s) (place c.in-Group.line c.in-Group.column) c.in-Group.items.now (part_seen c.part_of-part.result) c.args.expr.now c.part_of-part.ensures (ap part_seen c.in-Group.is)) c.headed.ensures

pub returns-in-Token : goal.returns-in-Token
returns-in-Token c =
    let s = c.args.self.now in
    obeys-fault _ c.fault_at.result s
    (command-token (state_seen s) (part_seen c.part_of-part.result) (lexeme c.in-Token.field-0) c.args.expr.now c.part_of-part.ensures (ap part_seen c.in-Token.is)) c.fault_at.ensures
