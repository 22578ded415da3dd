-- The exit statuses.
use Rattle.std.specs.Prelude.{ℕ}
use Rattle.simsat.specs.declared.status.SolveStatus.{SolveStatus}
use Rattle.simsat.specs.declared.status.SolveStatus.TheVariants.{Done, Usage, Refused, ReadFault, StoreFault, PrintFault, Memory}

abbrev pub number_of : SolveStatus → ℕ
number_of Done = 0
number_of Usage = 2
number_of Refused = 3
number_of ReadFault = 4
number_of StoreFault = 5
number_of PrintFault = 6
number_of Memory = 7
