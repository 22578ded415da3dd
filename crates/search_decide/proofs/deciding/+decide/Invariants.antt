use Rattle.search_decide.proofs.deciding.+decide.Given as goal

abbrev pub decreases-decide : goal.decreases-decide
decreases-decide l = l.depth
