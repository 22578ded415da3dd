use Rattle.std.proofs.Common.{ap, ◌∙◌}
use Rattle.cube_rules.specs.Name.{kind_named}
use Rattle.cube_rules.proofs.Naming.{found_is, named_again}
use Rattle.cube_rules.proofs.kind.Kind.named.Goals as goal

pub returns-clause-found : goal.returns-clause-found
returns-clause-found c = found_is c.args.word.now c.kind_of_word.result c.kind_of_word.ensures

pub returns-clause-only : goal.returns-clause-only
returns-clause-only c = λ k e. c.kind_of_word.ensures ∙ ap kind_named e ∙ named_again k
