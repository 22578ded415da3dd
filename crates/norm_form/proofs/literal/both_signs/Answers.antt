use Rattle.std.proofs.Common.{sym, subst}
use Rattle.lin_term.specs.declared.Lit.{Lit}
use Rattle.lin_term.specs.Literal.{IsPrimitive}
use Rattle.norm_form.proofs.Signing.{prim_of, first_stops, second_stops, both_made}
use Rattle.norm_form.proofs.literal.both_signs.Goals as goal

pub returns-in-Err : goal.returns-in-Err
returns-in-Err c = first_stops c.args.sort c.args.lit c.in-Err.fault c.in-Err.ensures

pub negation-requires : goal.negation-requires
negation-requires c = subst (λ (l : Lit). IsPrimitive c.args.sort l) (sym c.in-Ok.ensures.1) (prim_of c.args.sort c.args.lit c.requires)

pub returns-in-Err-negation : goal.returns-in-Err-negation
returns-in-Err-negation c = second_stops c.args.sort c.args.lit c.in-Ok.lit c.in-Err-negation.fault c.in-Ok.ensures.1 c.in-Err-negation.ensures

pub returns : goal.returns
returns c = both_made c.args.sort c.args.lit c.in-Ok.lit c.in-Ok-negation.lit (record { yes = c.leaf.result; no = c.leaf-2.result }) c.in-Ok.ensures c.in-Ok-negation.ensures c.leaf.ensures c.leaf-2.ensures
