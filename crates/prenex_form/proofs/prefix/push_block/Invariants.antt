use Rattle.std.proofs.Common.{◌≡◌, ◌++◌, []}
use Rattle.prenex_form.specs.Prenex.{repeat}
use Rattle.prenex_form.proofs.prefix.push_block.Given as goal

abbrev pub invariant-loop-turn : goal.invariant-loop-turn
invariant-loop-turn l = l.prefix ≡ l.initial.prefix ++ repeat l._turn l.quant []
