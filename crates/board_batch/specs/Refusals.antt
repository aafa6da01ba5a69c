-- How a batch is refused.
use Rattle.am_answer.specs.declared.status.Status.{Status}
use Rattle.am_answer.specs.declared.status.Status.TheVariants as ends
use Rattle.board_batch.specs.declared.fault.BatchFault as faults

-- the status of a batch that ends with no answer: the number of a problem is that of its game
abbrev pub batch_status : faults.BatchFault → Status
batch_status (faults.TheVariants.Spent game card) = ends.GameSpent game card
batch_status faults.TheVariants.Memory = ends.Memory
