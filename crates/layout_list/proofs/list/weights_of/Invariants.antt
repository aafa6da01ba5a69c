use Rattle.std.proofs.Common.{◌≡◌, length, take}
use Rattle.layout_list.proofs.list.weights_of.Given as goal

-- the weights so far are those of the list
abbrev pub invariant-loop-place : goal.invariant-loop-place
invariant-loop-place l = record {
  width : length l.weights ≡ length l.list;
  same : take l.place l.weights ≡ take l.place l.list;
}
