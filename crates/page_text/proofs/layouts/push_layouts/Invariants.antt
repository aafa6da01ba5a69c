use Rattle.std.proofs.Common.{◌≡◌, ◌++◌, flat_map}
use Rattle.std.specs.List.{range_with_len}
use Rattle.page_text.specs.Layouts.{shown_by, layout_at}
use Rattle.page_text.proofs.layouts.push_layouts.Given as goal

abbrev pub invariant-loop-place : goal.invariant-loop-place
invariant-loop-place l = l.page ≡ l.initial.page ++ flat_map (layout_at (shown_by l.shown)) (range_with_len 0 l.place)
