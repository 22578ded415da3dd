use Rattle.std.proofs.Common.{ap, ◌∙◌}
use Rattle.term_table.specs.Known.{known_product}
use Rattle.term_table.proofs.Multiples.{one-kept}
use Rattle.term_table.proofs.known.product.Goals as goal

pub loop-left-init : goal.loop-left-init
loop-left-init c = ap (known_product c.args.parts.now) (c.written-all.ensures ∙ one-kept)
