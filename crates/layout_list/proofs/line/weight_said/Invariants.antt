use Rattle.std.proofs.Common.{◌≡◌, ◌≤◌, take}
use Rattle.std.specs.Str.Parse.{digits_value}
use Rattle.layout_list.proofs.line.weight_said.Given as goal

abbrev pub invariant-loop-digit : goal.invariant-loop-digit
invariant-loop-digit l = record {
  so_far : l.weight ≡ digits_value 10 (take l.digit-index l.digits);
  within : l.weight ≤ 1000000;
}
