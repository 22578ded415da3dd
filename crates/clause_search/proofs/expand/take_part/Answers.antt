use Rattle.std.specs.Prelude.{List}
use Rattle.std.proofs.Common.{ap}
use Rattle.clause_search.specs.declared.goal.Part.{Part}
use Rattle.clause_search.specs.declared.goal.Goal.{Goal}
use Rattle.clause_search.proofs.Parting.{fork_progresses, literal_progresses, or_in}
use Rattle.clause_search.proofs.expand.take_part.Goals as goal

pub returns-in-And : goal.returns-in-And
returns-in-And g c = fork_progresses g.D.Domain.SORT c.args.system.now c.args.goal.now c.args.part c.in-And.field-0 c.args.lines.now c.in-And.is c.requires.kept c.requires.part

pub returns-in_ok-push-in-Lit : goal.returns-in_ok-push-in-Lit
returns-in_ok-push-in-Lit g c =
    literal_progresses g.D.Domain.SORT c.args.system.now c.args.goal.now (record c.args.goal.now { lits = c.push.new.self }) c.args.part c.in-Lit.field-0 c.args.lines.now c.in-Lit.is
    (ap (λ (xs : List Part). let h : Goal = record c.args.goal.now { lits = xs } in h) c.in_ok-push-in-Lit.ensures.ok) c.requires.kept c.requires.part

pub take_parts-requires-clause-is : goal.take_parts-requires-clause-is
take_parts-requires-clause-is g c = or_in c.args.part.matrix.now c.in-Or.parts c.as_slice.result.now c.in-Or.is c.as_slice.ensures
