-- The cards of a suit that two hands hold, as a player writes them.
use Rattle.std.specs.Prelude.{ℕ, ◌+◌, ◌-◌, Bool, true, false, ◌==◌, ◌||◌, nat_lt, nat_le, Option, Some, None, Result, Ok, Err, List, [], ◌∷◌, length, drop, filter, if◌then◌else◌}
use Rattle.byte_text.specs.Steps.{◌>>=◌}
use Rattle.card_sets.specs.declared.card.Suit.TheVariants.{Spades}
use Rattle.card_sets.specs.Cards.{suit_of, same_suit, card_of}
use Rattle.card_sets.specs.SetWords.{has_card, cards_where}
use Rattle.card_letters.specs.Letters.{is_letter, rank_read}
use Rattle.pbn_deal.specs.BoardRead.{together}
use Rattle.layout_maker.specs.Choosing.{without}
use Rattle.suit_problem.specs.declared.fault.SuitFault.{SuitFault}
use Rattle.suit_problem.specs.declared.fault.SuitFault.TheVariants.{NotCards, Twice, TooMany}
use Rattle.suit_problem.specs.declared.reading.Written.{Written}
use Rattle.suit_problem.specs.declared.hands.SuitHands.{SuitHands}

-- ---- what the letters of a hand say

-- a hand with one small card more; a suit has no more than thirteen
abbrev pub with_small : Written → Result Written SuitFault
with_small before =
    if nat_le 13 before.small then Err TooMany
    else Ok (record { named = before.named; small = before.small + 1; one = false })

-- a hand with the card of this rank as well, if neither hand has it yet
abbrev pub with_rank : List ℕ → ℕ → Written → Result Written SuitFault
with_rank others rank before =
    if has_card others (card_of Spades rank) || has_card before.named (card_of Spades rank) then Err (Twice (card_of Spades rank))
    else Ok (record { named = cards_where (λ c. has_card before.named c || (c == card_of Spades rank)); small = before.small; one = false })

-- a hand with the card of a rank that was read
abbrev pub with_read : List ℕ → Option ℕ → Written → Result Written SuitFault
with_read others None before = Err NotCards
with_read others (Some rank) before = with_rank others rank before

-- a hand with the card that a letter names: `x` is a small one, and a 1 is the beginning of a ten
abbrev pub with_letter : List ℕ → ℕ → Written → Result Written SuitFault
with_letter others letter before =
    if letter == 49 then Ok (record { named = before.named; small = before.small; one = true })
    else if is_letter 88 letter then with_small before
    else with_read others (rank_read letter) before

-- a hand after one byte more of its text: after a 1, only a 0
abbrev pub with_byte : List ℕ → ℕ → Written → Result Written SuitFault
with_byte others byte before =
    if before.one then (if byte == 48 then with_rank others 10 before else Err NotCards)
    else with_letter others byte before

-- a hand after all bytes of a text, none of whose cards the other hand has
unfoldable pub bytes_read : List ℕ → List ℕ → Written → Result Written SuitFault
bytes_read others [] before = if before.one then Err NotCards else Ok before
bytes_read others (byte ∷ bytes) before = do
  next ← with_byte others byte before
  bytes_read others bytes next

-- the hand that a text tells
abbrev pub hand_read : List ℕ → List ℕ → Result Written SuitFault
hand_read others text = bytes_read others text (record { named = []; small = 0; one = false })

-- ---- the two hands

-- all cards of the suit
abbrev pub suit_cards : List ℕ
suit_cards = filter (λ c. same_suit (suit_of c) Spades) (cards_where (λ _. true))

-- this many cards of a set, from the lowest
abbrev pub lowest : ℕ → List ℕ → List ℕ
lowest count cards = without (drop count cards) cards

-- the hands with their small cards, the lowest that nobody names: dummy's come first
abbrev pub with_smalls : List ℕ → Written → Written → SuitHands
with_smalls free dummy south =
    record { dummy = together dummy.named (lowest dummy.small free); south = together south.named (lowest south.small (drop dummy.small free)) }

-- the hands, if there are as many small cards
abbrev pub hands_over : List ℕ → Written → Written → Result SuitHands SuitFault
hands_over free dummy south = if nat_lt (length free) (dummy.small + south.small) then Err TooMany else Ok (with_smalls free dummy south)

-- the cards of the suit that two hands hold: dummy's is read first
abbrev pub hands_read : List ℕ → List ℕ → Result SuitHands SuitFault
hands_read dummy south = do
  first ← hand_read [] dummy
  second ← hand_read first.named south
  hands_over (without (together first.named second.named) suit_cards) first second
