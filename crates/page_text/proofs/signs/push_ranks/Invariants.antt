use Rattle.std.proofs.Common.{◌≡◌, ◌++◌, ◌-◌, flat_map}
use Rattle.std.specs.List.{range_with_len}
use Rattle.card_sets.specs.Cards.{card_of}
use Rattle.page_text.specs.Signs.{rank_mark}
use Rattle.page_text.proofs.signs.push_ranks.Given as goal

abbrev pub invariant-loop-place : goal.invariant-loop-place
invariant-loop-place l = l.page ≡ l.initial.page ++ flat_map (λ place. rank_mark l.may l.sure (card_of l.suit (14 - place))) (range_with_len 0 l.place)
