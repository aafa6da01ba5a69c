use Rattle.std.proofs.Common.{◌≡◌}
use Rattle.std.specs.List.{list_any, range_with_len}
use Rattle.page_text.specs.Refutations.{gives_up}
use Rattle.page_text.proofs.refutations.gives_one_up.Given as goal

abbrev pub invariant-loop-place : goal.invariant-loop-place
invariant-loop-place l = l.found ≡ list_any (gives_up l.refuted l.card) (range_with_len 0 l.place)
