use Rattle.std.proofs.Common.{ap, ◌∙◌}
use Rattle.term_table.specs.Known.{known_sum}
use Rattle.term_table.proofs.Multiples.{zero-kept}
use Rattle.term_table.proofs.known.sum.Goals as goal

pub loop-left-init : goal.loop-left-init
loop-left-init c = ap (known_sum c.args.parts.now) (c.written-all.ensures ∙ zero-kept)
