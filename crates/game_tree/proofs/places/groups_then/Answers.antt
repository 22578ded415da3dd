use Rattle.std.specs.Prelude.{◌+◌}
use Rattle.std.proofs.Common.{ap, ◌∙◌, sym}
use Rattle.game_tree.proofs.Placing.{grown_length, kept_length}
use Rattle.game_tree.proofs.places.groups_then.Goals as goal

pub returns-then-home-count : goal.returns-then-home-count
returns-then-home-count c = λ ms m e h. ap (λ n. n + 1) e ∙ sym (grown_length ms m (sym h ∙ c.if-home-count.true ∙ e))

pub returns : goal.returns
returns c = λ ms m e h. e ∙ sym (kept_length ms m (λ q. c.if-home-count.false (h ∙ q ∙ sym e)))
