use Rattle.std.proofs.Common.{◌≡◌, ℕ, ◌+◌, ◌<◌, length, slice_index}
use Rattle.layout_maker.specs.Choosing.{ways}
use Rattle.layout_maker.proofs.dividing.with_one_more.Given as goal

abbrev pub invariant-loop-chosen : goal.invariant-loop-chosen
invariant-loop-chosen l = record {
  long : length l.next ≡ 14;
  below : (k : ℕ) → k < l.chosen → slice_index l.next k ≡ ways (l.things + 1) k;
}
