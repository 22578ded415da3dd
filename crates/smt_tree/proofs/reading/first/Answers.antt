use Rattle.std.proofs.Common.{◌∙◌, ap}
use Rattle.smt_lex.specs.Lexeme.{lexeme}
use Rattle.smt_tree.specs.Expressions.{expressions}
use Rattle.smt_tree.proofs.Stack.{first_fault, first_left, first_other, gives_err}
use Rattle.smt_tree.proofs.reading.first.Goals as goal

pub returns-in-Some-Err : goal.returns-in-Some-Err
returns-in-Some-Err c =
    let step = rw c.in-Some-Err.field-0-is at c.in-Some-Err.ensures.steps in
    gives_err _ c.in-Some-Err.fault _ (ap expressions step ∙ first_fault c.in-Some-Err.fault c.next.new.self)

pub returns-in-Left : goal.returns-in-Left
returns-in-Left c =
    let step = rw c.in-Some-Ok.field-0-is at c.in-Some-Ok.ensures.steps in
    rw (ap expressions step ∙ first_left (lexeme c.in-Some-Ok.token) c.next.new.self c.in-Left.is) c.list_from.ensures

pub returns-in_default : goal.returns-in_default
returns-in_default c =
    let step = rw c.in-Some-Ok.field-0-is at c.in-Some-Ok.ensures.steps in
    ap expressions step ∙ first_other (lexeme c.in-Some-Ok.token) c.next.new.self c.in_default.not-Left
