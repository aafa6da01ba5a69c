-- Who plays which card, and how, at the nodes at which a step of a told plan may stand.
use Rattle.std.specs.Prelude.{ℕ, ◌==◌, ◌&&◌, Bool, true, false, Option, None, Some, List, [], ◌∷◌, map, filter, flat_map, length, if◌then◌else◌}
use Rattle.std.specs.List.{list_any, list_all}
use Rattle.card_sets.specs.declared.card.Suit.{Suit}
use Rattle.card_sets.specs.declared.seat.Seat.{Seat}
use Rattle.card_sets.specs.Cards.{suit_of, same_suit}
use Rattle.card_sets.specs.SetWords.{has_card, cards_where}
use Rattle.trick_rules.specs.declared.trump.Trump.{Trump}
use Rattle.trick_rules.specs.Positions.{PositionValue, to_play, seat_place}
use Rattle.trick_rules.specs.Play.{suit_led, is_trump}
use Rattle.trick_rules.specs.Nodes.{NodeValue, choices, child}
use Rattle.told_words.specs.declared.turns.Manner.{Manner}
use Rattle.told_words.specs.declared.turns.Manner.TheVariants.{Lead, Follow, Ruff, Throw}

-- the nodes after one of the cards
abbrev pub after_cards : List ℕ → List NodeValue → List NodeValue
after_cards cards places = flat_map (λ n. map (child n) (filter (has_card (choices n)) cards)) places

abbrev pub manner_on : Trump → Option Suit → ℕ → Manner
manner_on trump None card = Lead
manner_on trump (Some suit) card = if same_suit (suit_of card) suit then Follow else if is_trump trump card then Ruff else Throw

-- a card is led, follows suit, ruffs, or is thrown
abbrev pub manner_of : PositionValue → ℕ → Manner
manner_of t card = manner_on t.trump (suit_led t.trick.cards) card

-- whether two manners are the same
abbrev pub same_manner : Manner → Manner → Bool
same_manner Lead Lead = true
same_manner Follow Follow = true
same_manner Ruff Ruff = true
same_manner Throw Throw = true
same_manner _ _ = false

abbrev pub same_seat : Seat → Seat → Bool
same_seat a b = seat_place a == seat_place b

-- whether the seat can play the card in this manner at a node
abbrev pub plays_so : Seat → Manner → ℕ → NodeValue → Bool
plays_so seat manner card n = same_seat (to_play n.position) seat && has_card (choices n) card && same_manner (manner_of n.position card) manner

-- those of the cards that the seat can play in this manner at one of the nodes
abbrev pub played_so : Seat → Manner → List ℕ → List NodeValue → List ℕ
played_so seat manner cards places = cards_where (λ card. has_card cards card && list_any (plays_so seat manner card) places)

-- whether a trick begins with this seat's lead
abbrev pub leads_next : Seat → NodeValue → Bool
leads_next seat n = length n.position.trick.cards == 0 && same_seat n.position.trick.leader seat

-- who won the trick, if at each node it is over and the same seat won it
abbrev pub winner_at : List NodeValue → Option Seat
winner_at [] = None
winner_at (n ∷ places) = if list_all (leads_next n.position.trick.leader) (n ∷ places) then Some n.position.trick.leader else None
