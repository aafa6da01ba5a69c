use Rattle.std.proofs.Common.{◌≡◌, ◌++◌, flat_map}
use Rattle.std.specs.List.{range_with_len}
use Rattle.page_text.specs.Steps.{layout_class}
use Rattle.page_text.proofs.steps.push_layout_classes.Given as goal

abbrev pub invariant-loop-place : goal.invariant-loop-place
invariant-loop-place l = l.page ≡ l.initial.page ++ flat_map (layout_class l.layouts) (range_with_len 0 l.place)
