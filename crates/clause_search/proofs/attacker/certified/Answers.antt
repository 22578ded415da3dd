use Rattle.clause_search.proofs.attacker.certified.Goals as goal

pub returns-then-branch : goal.returns-then-branch
returns-then-branch g c = c.in_ok-is_solved_by-in-Point.ensures.0 c.if-branch.true
