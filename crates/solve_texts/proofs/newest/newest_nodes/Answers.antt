use Rattle.std.proofs.Common.{List, ap, ◌∙◌}
use Rattle.dom_core.specs.declared.Quant.{Quant}
use Rattle.game_tree.specs.Skeleton.{zero_tree}
use Rattle.game_tree.specs.Union.{union_all}
use Rattle.game_board.specs.Entries.{entries_of}
use Rattle.solve_texts.specs.Tally.{paths_in}
use Rattle.solve_texts.proofs.Replaying.{newest_written}
use Rattle.solve_texts.proofs.newest.newest_nodes.Goals as goal

pub from_parts-newest-requires : goal.from_parts-newest-requires
from_parts-newest-requires g c =
    newest_written c.args.n c.requires.legal.0 (entries_of c.args.entries.now) c.in_ok-prefix.prefix c.in_ok-tree.tree c.requires.few c.requires.legal.1 c.in_ok-prefix.ensures
    (c.in_ok-tree.ensures ∙ ap (λ (qs : List Quant). union_all (zero_tree qs) (paths_in (entries_of c.args.entries.now))) c.as_slice.ensures)
