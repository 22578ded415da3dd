use Rattle.cube_elim.proofs.descent.+search.Given as goal

abbrev pub decreases-search : goal.decreases-search
decreases-search l = l.n
