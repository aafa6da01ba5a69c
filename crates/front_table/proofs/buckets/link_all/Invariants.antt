use Rattle.front_table.specs.Buckets.{AreLinked}
use Rattle.front_table.proofs.buckets.link_all.Given as goal

abbrev pub invariant-loop-place : goal.invariant-loop-place
invariant-loop-place l = AreLinked l.digests l.heads l.earlier l.place
