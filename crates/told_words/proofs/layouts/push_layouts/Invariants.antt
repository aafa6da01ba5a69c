use Rattle.std.proofs.Common.{◌≡◌, ◌++◌, take}
use Rattle.told_words.specs.Numbers.{has_one, numbers_upto}
use Rattle.told_words.proofs.layouts.push_layouts.Given as goal

abbrev pub invariant-loop-place : goal.invariant-loop-place
invariant-loop-place l = record {
  so_far : l.out ≡ l.initial.out ++ numbers_upto l.layouts l.place;
  begun : l.begun ≡ has_one (take l.place l.layouts);
}
