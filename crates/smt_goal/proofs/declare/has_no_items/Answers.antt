use Rattle.std.proofs.Common.{sym, ap, ◌∙◌}
use Rattle.smt_term.specs.View.{part_seen}
use Rattle.smt_goal.specs.Command.{has_no_items}
use Rattle.smt_goal.proofs.Growing.{no_items}
use Rattle.smt_goal.proofs.declare.has_no_items.Goals as goal

pub returns-in-Group : goal.returns-in-Group
returns-in-Group c = c.is_empty.ensures ∙ no_items c.in-Group.items.now ∙ ap (λ p. has_no_items (part_seen p)) (sym c.in-Group.is)
