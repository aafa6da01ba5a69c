-- Faults in a race.
use Rattle.alphamu_core.specs.declared.answers.SearchFault.{SearchFault}
use Rattle.alphamu_core.specs.declared.answers.SearchFault.TheVariants.{Spent, Memory}
use Rattle.alphamu_core.specs.declared.answers.RaceFault.{RaceFault}
use Rattle.alphamu_core.specs.declared.answers.RaceFault.TheVariants as race

-- the fault of a search in a race that ends as one in no race would
abbrev pub race_fault : SearchFault → RaceFault
race_fault Spent = race.Spent
race_fault Memory = race.Memory
