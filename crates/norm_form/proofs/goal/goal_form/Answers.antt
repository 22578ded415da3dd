use Rattle.std.specs.Prelude.{Option}
use Rattle.std.proofs.Common.{List, ◌≡◌, ◌∙◌, ap, ap₂, sym, subst}
use Rattle.lin_form.specs.declared.FormFault.{FormFault}
use Rattle.lin_term.specs.declared.Sort.{Sort}
use Rattle.lin_truth.specs.declared.VarSort.{VarSort}
use Rattle.lin_truth.specs.declared.Term.{Term as Tree}
use Rattle.lin_truth.specs.View.{tree_of}
use Rattle.norm_form.specs.Cap.{capped}
use Rattle.norm_form.specs.Outcome.{IsCounted, nodes_of, variables_of}
use Rattle.norm_form.proofs.Answering.{counted_stops, counted_goes}
use Rattle.norm_form.proofs.goal.goal_form.Goals as goal

-- the normal form of equal parts
same_capped : (s s' : Sort) (cs cs' : List VarSort) (b b' : Tree) → s ≡ s' → cs ≡ cs' → b ≡ b' → capped s cs (tree_of b) ≡ capped s' cs' (tree_of b')
same_capped s s' cs cs' b b' e f g =
    ap₂ (λ (t : Sort) (ds : List VarSort). capped t ds (tree_of b)) e f ∙ ap (λ (c : Tree). capped s' cs' (tree_of c)) g

pub returns-in-Some-clause-form : goal.returns-in-Some-clause-form
returns-in-Some-clause-form c =
    let g = c.args.goal.now in
    counted_stops g c.in-Some.fault (subst (λ (x : Option FormFault). IsCounted (nodes_of g) (variables_of g) x) c.in-Some.is c.in_ok-fault.ensures)

pub returns-clause-form : goal.returns-clause-form
returns-clause-form c =
    let g = c.args.goal.now in
    let k = subst (λ (x : Option FormFault). IsCounted (nodes_of g) (variables_of g) x) c.in-None.is c.in_ok-fault.ensures in
    counted_goes g (capped c.sort.result c.consts.result.now (tree_of c.body-body.result.now)) c.normal_form.result k
    (sym (same_capped c.sort.result g.sort c.consts.result.now g.consts c.body-body.result.now g.body c.sort.ensures c.consts.ensures c.body-body.ensures.value))
    c.normal_form.ensures.built
