-- The exit statuses.
use Rattle.std.specs.Prelude.{ℕ}
use Rattle.simcheck.specs.declared.status.CheckStatus.{CheckStatus}
use Rattle.simcheck.specs.declared.status.CheckStatus.TheVariants.{Accepted, Rejected, Usage, Refused, ReadFault, PrintFault, Memory}

abbrev pub number_of : CheckStatus → ℕ
number_of Accepted = 0
number_of Rejected = 1
number_of Usage = 2
number_of Refused = 3
number_of ReadFault = 4
number_of PrintFault = 6
number_of Memory = 7
