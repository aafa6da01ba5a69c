use Rattle.std.proofs.Common.{◌≡◌, not, filter, map}
use Rattle.std.specs.List.{range_with_len}
use Rattle.card_sets.specs.SetWords.{has_card}
use Rattle.suit_problem.specs.Endings.{side_card}
use Rattle.suit_problem.proofs.sides.side_cards.Given as goal

abbrev pub invariant-loop-place : goal.invariant-loop-place
invariant-loop-place l = l.cards.items ≡ filter (λ card. not (has_card l.ours card)) (map side_card (range_with_len 0 l.place))
