use Rattle.std.specs.Prelude.{Some}
use Rattle.std.specs.List.{flat_map}
use Rattle.std.proofs.Common.{List, ◌≡◌, subst}
use Rattle.lin_term.specs.declared.Lit.{Lit}
use Rattle.lin_term.specs.Wide.{first_past}
use Rattle.lin_term.proofs.Capping.{past-append_some}
use Rattle.dom_core.specs.Elimination.{cooper, cube_numbers}
use Rattle.dom_int.specs.Counts.{first_numbers}
use Rattle.dom_int.proofs.elimination.eliminated.Goals as goal

pub returns-in-Err-prepare : goal.returns-in-Err-prepare
returns-in-Err-prepare c =
    past-append_some (first_numbers c.args.cube.now c.args.var) (flat_map cube_numbers (cooper c.args.cube.now c.args.var)) c.in-Err-prepare.wide.number
    (subst (λ (us : List Lit). first_past (first_numbers us c.args.var) ≡ Some c.in-Err-prepare.wide.number) c.in-Ok.ensures c.in-Err-prepare.ensures)
