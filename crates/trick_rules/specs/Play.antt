-- The rules of play: which cards are legal, which seat wins a trick, what follows a card, and who can make the
-- contract.
use Rattle.std.specs.Prelude.{◌≡◌, ◌≢◌, ◌<◌, slice_index, ℕ, zero, suc, ◌+◌, ◌-◌, Bool, true, false, not, ◌&&◌, ◌||◌, Option, None, Some, List, [], ◌∷◌, ◌++◌, length, map, filter, if◌then◌else◌, ◌==◌, max, nat_lt}
use Rattle.std.specs.List.{list_any, list_all, position_or_len}
use Rattle.card_sets.specs.declared.card.Suit.{Suit}
use Rattle.card_sets.specs.declared.seat.Seat.{Seat}
use Rattle.card_sets.specs.declared.seat.Seat.TheVariants.{Declarer, Left, Dummy, Right}
use Rattle.card_sets.specs.Cards.{suit_of, rank_of, same_suit}
use Rattle.card_sets.specs.SetWords.{has_card}
use Rattle.trick_rules.specs.declared.trump.Trump.{Trump}
use Rattle.trick_rules.specs.declared.trump.Trump.TheVariants.{NoTrump, Suit as Suited}
use Rattle.trick_rules.specs.Positions.{TrickValue, PositionValue, State, seat_after, to_play, tricks_left}

-- ---- legal cards

abbrev pub of_suit : Suit → List ℕ → List ℕ
of_suit suit cards = filter (λ c. same_suit (suit_of c) suit) cards

-- the first list, or the second if the first is empty
abbrev pub or_whole : List ℕ → List ℕ → List ℕ
or_whole [] hand = hand
or_whole (c ∷ cs) hand = c ∷ cs

-- the whole hand for the leader; otherwise the cards of the suit led, or the whole hand if it has none. The trick's
-- cards come first, then the hand
abbrev pub legal_cards : List ℕ → List ℕ → List ℕ
legal_cards [] hand = hand
legal_cards (led ∷ rest) hand = or_whole (of_suit (suit_of led) hand) hand

-- the suit led, if the trick has a card
abbrev pub suit_led : List ℕ → Option Suit
suit_led [] = None
suit_led (led ∷ rest) = Some (suit_of led)

-- ---- the winner of a trick

abbrev pub is_trump : Trump → ℕ → Bool
is_trump NoTrump card = false
is_trump (Suited suit) card = same_suit (suit_of card) suit

-- a trump beats every other card, and a card of the suit led beats those of the other suits
abbrev pub strength : Trump → Suit → ℕ → ℕ
strength trump led card = if is_trump trump card then 20 + rank_of card else if same_suit (suit_of card) led then rank_of card else 0

abbrev pub greatest : List ℕ → ℕ
greatest [] = 0
greatest (x ∷ xs) = max x (greatest xs)

-- the place in the trick of the card of the greatest strength
abbrev pub winning_place : Trump → List ℕ → ℕ
winning_place trump [] = 0
winning_place trump (led ∷ rest) =
    let strengths = map (strength trump (suit_of led)) (led ∷ rest) in position_or_len (λ x. x == greatest strengths) strengths

-- whether one card beats another in a trick: the higher of two trumps; a trump and no trump; with no trump, a card of the
-- suit led and one of another suit, or the higher of two of the suit led
abbrev pub beats : Trump → Suit → ℕ → ℕ → Bool
beats trump led card other =
    if is_trump trump other then is_trump trump card && nat_lt (rank_of other) (rank_of card)
    else is_trump trump card || same_suit (suit_of card) led && (not (same_suit (suit_of other) led) || nat_lt (rank_of other) (rank_of card))

-- the card at this place beats each other card of the trick
pub record IsWonBy (trump : Trump) (cards : List ℕ) (place : ℕ) : Type 0 where
  pub within : place < length cards
  pub beats_each : (other : ℕ) → other < length cards → other ≢ place
      → beats trump (suit_of (slice_index cards 0)) (slice_index cards place) (slice_index cards other) ≡ true

-- who played that card
abbrev pub winner_of : Trump → TrickValue → Seat
winner_of trump trick = seat_after (winning_place trump trick.cards) trick.leader

-- ---- after a card

-- a trick with one card more; after the fourth card its winner leads to the next
abbrev pub next_trick : Trump → TrickValue → ℕ → TrickValue
next_trick trump trick card =
    let longer : TrickValue = record { leader = trick.leader; cards = trick.cards ++ card ∷ [] } in
    if length trick.cards == 3 then record { leader = winner_of trump longer; cards = [] } else longer

abbrev pub is_declarers : Seat → Bool
is_declarers Declarer = true
is_declarers Dummy = true
is_declarers Left = false
is_declarers Right = false

abbrev pub take_out : ℕ → List ℕ → List ℕ
take_out card cards = filter (λ c. not (c == card)) cards

-- the card leaves the hand that holds it, and lies in the trick
abbrev pub put_card : PositionValue → ℕ → PositionValue
put_card t card = record {
  declarer = take_out card t.declarer;
  dummy = take_out card t.dummy;
  unseen = take_out card t.unseen;
  trick = record { leader = t.trick.leader; cards = t.trick.cards ++ card ∷ [] };
  need = t.need;
  trump = t.trump;
}

-- the fourth card ends the trick: its winner leads, and the need falls by one, not below 0, where declarer's side won
abbrev pub end_trick : PositionValue → PositionValue
end_trick t = record t {
  trick = record { leader = winner_of t.trump t.trick; cards = [] };
  need = if is_declarers (winner_of t.trump t.trick) then t.need - 1 else t.need;
}

-- the position after the seat to play has played this card
abbrev pub after_card : PositionValue → ℕ → PositionValue
after_card t card = if length t.trick.cards == 3 then end_trick (put_card t card) else put_card t card

abbrev pub after : State → ℕ → State
after s card = record { position = after_card s.position card; left = take_out card s.left }

-- the cards among which those of a seat are: its hand, or the unseen cards for a defender
abbrev pub held_by : PositionValue → Seat → List ℕ
held_by t Declarer = t.declarer
held_by t Left = t.unseen
held_by t Dummy = t.dummy
held_by t Right = t.unseen

-- the seat to play may hold this card
abbrev pub CanPlay : PositionValue → ℕ → Type 0
CanPlay t card = has_card (held_by t (to_play t)) card ≡ true

-- ---- over and decided

abbrev pub is_over : PositionValue → Bool
is_over t = tricks_left t == 0

-- made if the need is 0, failed if it is greater than the tricks left, and open otherwise
abbrev pub decided : PositionValue → Option Bool
decided t = if t.need == 0 then Some true else if nat_lt (tricks_left t) t.need then Some false else None

-- ---- double dummy

-- Right holds the unseen cards without Left's
abbrev pub right_of : State → List ℕ
right_of s = filter (λ c. not (has_card s.left c)) s.position.unseen

abbrev pub hand_of : State → Seat → List ℕ
hand_of s Declarer = s.position.declarer
hand_of s Left = s.left
hand_of s Dummy = s.position.dummy
hand_of s Right = right_of s

-- the legal cards of the seat to play
abbrev pub legal_in : State → List ℕ
legal_in s = legal_cards s.position.trick.cards (hand_of s (to_play s.position))

-- whether declarer's side takes the need, in fewer than that many cards
unfoldable pub makes_within : ℕ → State → Bool
makes_within zero s = false
makes_within (suc n) s =
    if is_over s.position then s.position.need == 0
    else if is_declarers (to_play s.position) then list_any (λ c. makes_within n (after s c)) (legal_in s)
    else list_all (λ c. makes_within n (after s c)) (legal_in s)

-- the cards that the four seats still hold
abbrev pub cards_left : PositionValue → ℕ
cards_left t = length t.declarer + length t.dummy + length t.unseen

-- whether declarer's side takes the need with all cards seen by all
unfoldable pub makes : State → Bool
makes s = makes_within (suc (cards_left s.position)) s

-- the same as rules, with no number: the play ended with no need left; declarer's side has a legal card that makes; each legal card of the defenders makes
pub data Makes : State → Type 0 where
  ended : {s : State} → is_over s.position ≡ true → s.position.need ≡ 0 → Makes s
  some_card : {s : State} → is_over s.position ≡ false → is_declarers (to_play s.position) ≡ true → (card : ℕ) → has_card (legal_in s) card ≡ true → Makes (after s card) → Makes s
  each_card : {s : State} → is_over s.position ≡ false → is_declarers (to_play s.position) ≡ false → ((card : ℕ) → has_card (legal_in s) card ≡ true → Makes (after s card)) → Makes s
