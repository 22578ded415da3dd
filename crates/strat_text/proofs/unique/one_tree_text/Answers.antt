use Rattle.strat_text.proofs.TreeLaws.{tree_has_text, skeleton_is, text_is}
use Rattle.strat_text.proofs.unique.one_tree_text.Goals as goal

pub returns-clause-follows : goal.returns-clause-follows
returns-clause-follows c turns position t f = tree_has_text turns position t f

pub returns-clause-held : goal.returns-clause-held
returns-clause-held c S = skeleton_is S

pub returns-clause-same : goal.returns-clause-same
returns-clause-same c S = text_is S
