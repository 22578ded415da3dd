use Rattle.std.specs.Prelude.{None}
use Rattle.std.proofs.Common.{◌≡◌, ◌≤◌, ◌∙◌, ap, sym, subst, arith, length}
use Rattle.lin_term.specs.declared.Sort.TheVariants.{Int}
use Rattle.lin_term.specs.Wide.{first_past}
use Rattle.dom_core.specs.Elimination.{cooper}
use Rattle.dom_int.specs.Counts.{first_numbers}
use Rattle.dom_int.specs.Target.{Target}
use Rattle.dom_core.proofs.AddingLemmas.{cube_of}
use Rattle.dom_int.proofs.Adding.{counted}
use Rattle.dom_int.proofs.Numerators.{lower_size}
use Rattle.dom_int.proofs.elimination.Elimination.count.Goals as goal

pub returns-then-self-eq0-clause-value : goal.returns-then-self-eq0-clause-value
returns-then-self-eq0-clause-value c =
    let s = c.self.inside in
    let i = c.self.invariant in
    let k = counted s.cube s.var s.period s.lower (lower_size s.var) (cube_of Int s.cube i.primitive) i.period i.lower in
    i.period ∙ sym (k.length_none c.if-self-eq0.true) ∙ ap (λ (t : Target). length (cooper t.cube t.variable)) c.self.view_is

pub returns-then-self-eq0-clause-fits : goal.returns-then-self-eq0-clause-fits
returns-then-self-eq0-clause-fits c = subst (λ (t : Target). first_past (first_numbers t.cube t.variable) ≡ None) c.self.view_is c.self.invariant.fits

pub returns-else-self-eq0-clause-value : goal.returns-else-self-eq0-clause-value
returns-else-self-eq0-clause-value c =
    let s = c.self.inside in
    let i = c.self.invariant in
    let k = counted s.cube s.var s.period s.lower (lower_size s.var) (cube_of Int s.cube i.primitive) i.period i.lower in
    sym (k.length_some c.if-self-eq0.false) ∙ ap (λ (t : Target). length (cooper t.cube t.variable)) c.self.view_is

pub returns-else-self-eq0-clause-fits : goal.returns-else-self-eq0-clause-fits
returns-else-self-eq0-clause-fits c = subst (λ (t : Target). first_past (first_numbers t.cube t.variable) ≡ None) c.self.view_is c.self.invariant.fits
