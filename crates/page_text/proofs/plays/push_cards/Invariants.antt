use Rattle.std.proofs.Common.{◌≡◌, ◌++◌, flat_map}
use Rattle.std.specs.List.{range_with_len}
use Rattle.page_text.specs.Plays.{played_card}
use Rattle.page_text.proofs.plays.push_cards.Given as goal

abbrev pub invariant-loop-place : goal.invariant-loop-place
invariant-loop-place l = l.page ≡ l.initial.page ++ flat_map (played_card l.begun l.cards) (range_with_len 0 l.place)
