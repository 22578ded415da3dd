use Rattle.std.proofs.Common.{◌≡◌, ◌++◌, length, ap, arith}
use Rattle.std.proofs.lemmas.List.{length-append}
use Rattle.strat_words.specs.View.{spot}
use Rattle.strat_text.specs.Written as written
use Rattle.strat_text.proofs.Trees.{text_of, move_words_takes}
use Rattle.strat_text.proofs.moves.move_text.Goals as goal

pub slice_bounds-text-count : goal.slice_bounds-text-count
slice_bounds-text-count c =
    let parts = (move_words_takes c.args.pos (spot c.args.at) (c.in_ok-term.term, spot c.in_ok-term.after) c.requires c.in_ok-term.ensures).0.parts in
    let same : length c.args.at.rest.now ≡ length (written.move_words c.in_ok-term.term ++ c.in_ok-term.after.rest.now) = ap length parts in
    omega (arith, same, length-append (written.move_words c.in_ok-term.term) c.in_ok-term.after.rest.now)

pub returns-clause-text : goal.returns-clause-text
returns-clause-text c = text_of c.args.at.rest.now (written.move_words c.in_ok-term.term) c.in_ok-term.after.rest.now (move_words_takes c.args.pos (spot c.args.at) (c.in_ok-term.term, spot c.in_ok-term.after) c.requires c.in_ok-term.ensures).0.parts
