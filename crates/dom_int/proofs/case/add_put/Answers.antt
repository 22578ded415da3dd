use Rattle.std.proofs.Common.{◌≡◌, nat_abs, subst, w64, SFits, to_z-of_z, to_z, of_z}
use mir.Syntax.{w128}
use Rattle.lin_term.specs.declared.Lit.{Lit}
use Rattle.lin_term.specs.declared.Sort.TheVariants.{Int}
use Rattle.lin_term.specs.PutIn.{put_lit}
use Rattle.lin_term.specs.Wide.{Capped, lit_numbers}
use Rattle.dom_int.proofs.case.add_put.Goals as goal

pub returns : goal.returns
returns c =
    let fc : SFits w128 c.args.constant = c.ranges.constant in
    let fd : SFits w64 c.args.div = c.ranges.div in
    let l : Lit = put_lit Int c.args.var (nat_abs c.args.div) (record { terms = c.args.terms.now; constant = c.args.constant }) c.args.lit.now in
    let same : put_lit Int c.args.var (nat_abs (to_z w64 (of_z w64 c.args.div))) (record { terms = c.args.terms.now; constant = to_z w128 (of_z w128 c.args.constant) }) c.args.lit.now ≡ l = simp to_z-of_z in
    c.add_made.ensures.adds l (subst (λ (m : Lit). Capped (lit_numbers m) m c.put_in.result) same c.put_in.ensures)
