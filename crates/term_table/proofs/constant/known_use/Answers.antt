use Rattle.std.proofs.Common.{map, arith}
use Rattle.term_table.specs.Placed.{top, used}
use Rattle.term_table.specs.Meaning.{meanings, at}
use Rattle.term_table.specs.Entries.{nodes_of}
use Rattle.term_table.specs.Scale.{by_nodes}
use Rattle.term_table.proofs.Knowing.{too_large, if_ok-known}
use Rattle.term_table.proofs.KnownLemmas.{steps-worked}
use Rattle.term_table.proofs.constant.known_use.Goals as goal

pub returns-then-size-gt-MOST_NODES : goal.returns-then-size-gt-MOST_NODES
returns-then-size-gt-MOST_NODES c =
    let ms = meanings (nodes_of c.args.entries.now) in
    λ le. too_large (used (at ms c.args.body) (map (at ms) c.args.args.now) top 0) c.args.size.nodes (c.requires.size by_nodes) (omega (arith, c.if-size-gt-MOST_NODES.true)) le

pub returns : goal.returns
returns c =
    let ms = meanings (nodes_of c.args.entries.now) in
    let t = used (at ms c.args.body) (map (at ms) c.args.args.now) top 0 in
    if_ok-known c.worked_out.result t (steps-worked c.in_ok-steps.steps.items t c.in_ok-steps.ensures) c.worked_out.ensures
