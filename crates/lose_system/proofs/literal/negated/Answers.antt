use Rattle.std.specs.Prelude.{◌^◌, length}
use Rattle.std.proofs.Common.{sym, subst}
use Rattle.lin_term.specs.declared.Lit.{Lit}
use Rattle.lin_term.specs.Linear.{Below}
use Rattle.lin_term.specs.Literal.{neg, form_of}
use Rattle.lin_term.specs.Rising.{IsRisingAt}
use Rattle.lin_term.proofs.AtNames.{rising_at}
use Rattle.lose_system.proofs.Seen.{neg_below}
use Rattle.lose_system.proofs.literal.negated.Goals as goal

pub renamed-requires-clause-below : goal.renamed-requires-clause-below
renamed-requires-clause-below c =
    subst (λ (l : Lit). Below (length c.args.names.now) (form_of l)) (sym c.in-Ok.ensures.1) (neg_below c.args.sort (length c.args.names.now) c.args.lit.now c.requires.primitive c.requires.below)

pub renamed-requires-clause-rising : goal.renamed-requires-clause-rising
renamed-requires-clause-rising c =
    subst (λ (l : Lit). IsRisingAt c.args.names.now (form_of l).terms (2 ^ 20)) (sym c.in-Ok.ensures.1)
    (rising_at c.args.names.now (form_of (neg c.args.sort c.args.lit.now)).terms (2 ^ 20) c.requires.rising (neg_below c.args.sort (length c.args.names.now) c.args.lit.now c.requires.primitive c.requires.below))
