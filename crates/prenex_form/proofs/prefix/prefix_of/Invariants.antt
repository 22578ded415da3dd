use Rattle.std.proofs.Common.{◌≡◌, ◌++◌, drop}
use Rattle.dom_core.specs.declared.Quant.TheVariants.{Exists}
use Rattle.prenex_form.specs.Prenex.{quants}
use Rattle.prenex_form.proofs.prefix.prefix_of.Given as goal

abbrev pub invariant-loop-size : goal.invariant-loop-size
invariant-loop-size l = l.prefix ++ quants l.quant (drop l.size-index l.sizes) ≡ quants Exists l.sizes
