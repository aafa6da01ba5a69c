use Rattle.std.proofs.Common.{◌≡◌, ◌+◌, ◌*◌, ◌≤◌, length}
use Rattle.std.specs.Prelude.{sum}
use Rattle.shared_table.proofs.shards.numbers_added.Given as goal

abbrev pub invariant-loop-card : goal.invariant-loop-card
invariant-loop-card l = (l.total + sum l.rest ≡ sum l.fn.cards) × (l.total + 52 * length l.rest ≤ 52 * l.count) × (l.count ≤ 255)

abbrev pub decreases-loop-card : goal.decreases-loop-card
decreases-loop-card l = length l.rest
