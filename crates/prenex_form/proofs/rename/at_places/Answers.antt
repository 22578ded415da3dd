use Rattle.std.specs.Prelude.{◌^◌}
use Rattle.lin_term.specs.Literal.{form_of}
use Rattle.lin_term.proofs.AtNames.{rising_at}
use Rattle.prenex_form.proofs.Renamed.{path_rising}
use Rattle.prenex_form.proofs.rename.at_places.Goals as goal

pub renamed-requires-clause-rising : goal.renamed-requires-clause-rising
renamed-requires-clause-rising c = rising_at c.args.places.now (form_of c.args.lit.now).terms (2 ^ 20) (path_rising c.args.places.now c.requires.path) c.requires.below
