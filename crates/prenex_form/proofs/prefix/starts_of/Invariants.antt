use Rattle.std.proofs.Common.{◌≡◌, ◌+◌, ◌≤◌, ◌++◌, drop}
use Rattle.prenex_form.specs.Pass.{starts, sum_of}
use Rattle.prenex_form.proofs.prefix.starts_of.Given as goal

abbrev pub invariant-loop-size : goal.invariant-loop-size
invariant-loop-size l = record {
  so_far : l.places ++ starts l.place (drop l.size-index l.sizes) ≡ starts 0 l.sizes;
  few : l.place + sum_of (drop l.size-index l.sizes) ≤ 1024;
}
