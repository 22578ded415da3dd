use Rattle.std.specs.Prelude.{Ok, Err}
use Rattle.std.proofs.Common.{ℤ, ◌≡◌, ◌∙◌, ap, subst}
use Rattle.lin_term.specs.Form.{Form}
use Rattle.lin_term.specs.Linear.{constant_form}
use Rattle.lin_term.specs.declared.Short.TheVariants as short
use Rattle.lin_term.specs.declared.Sort.TheVariants.{Int}
use Rattle.lin_term.proofs.Terms.{word_of}
use Rattle.dom_core.proofs.Shifting.{MakesLowest, move_of}
use Rattle.dom_int.proofs.picking.constant.Goals as goal

pub returns-in-Ok : goal.returns-in-Ok
returns-in-Ok c =
    let e = c.constant.ensures ∙ ap constant_form (word_of c.args.r c.requires) in
    subst (λ (f : Form). MakesLowest Int (move_of f 1) (Ok c.in-Ok.term)) e c.in-Ok.ensures

pub returns-in-Err : goal.returns-in-Err
returns-in-Err c =
    let e = c.constant.ensures ∙ ap constant_form (word_of c.args.r c.requires) in
    subst (λ (f : Form). MakesLowest Int (move_of f 1) (Err (short.Fault c.in-Err.wide))) e c.in-Err.ensures
