use Rattle.front_table.proofs.Looking.{IsPassed}
use Rattle.front_table.proofs.entries.Entries.place_of.Given as goal

abbrev pub invariant-loop-last : goal.invariant-loop-last
invariant-loop-last l =
    IsPassed l.self-inside.list.items l.self-inside.buckets.digests l.self-inside.buckets.buckets l.digest l.node l.moves l.last

abbrev pub decreases-loop-last : goal.decreases-loop-last
decreases-loop-last l = l.last
