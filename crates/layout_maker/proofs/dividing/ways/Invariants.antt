use Rattle.std.proofs.Common.{◌≡◌, ℕ, ◌<◌, slice_index}
use Rattle.layout_maker.specs.Choosing.{ways}
use Rattle.layout_maker.proofs.dividing.ways.Given as goal

abbrev pub invariant-loop-thing : goal.invariant-loop-thing
invariant-loop-thing l = (k : ℕ) → k < 14 → slice_index l.row k ≡ ways l.thing k
