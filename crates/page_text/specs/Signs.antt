-- Suits, cards and places at the table, as a page shows them.
use Rattle.std.specs.Prelude.{ℕ, ◌-◌, List, [], ◌∷◌, ◌++◌, flat_map, codes, if◌then◌else◌}
use Rattle.std.specs.List.{range_with_len}
use Rattle.card_sets.specs.declared.card.Suit.{Suit}
use Rattle.card_sets.specs.declared.card.Suit.TheVariants.{Spades, Hearts, Diamonds, Clubs}
use Rattle.card_sets.specs.declared.seat.Compass.{Compass}
use Rattle.card_sets.specs.declared.seat.Compass.TheVariants.{N, E, S, W}
use Rattle.card_sets.specs.Cards.{suit_of, rank_of, card_of}
use Rattle.card_sets.specs.SetWords.{has_card}
use Rattle.card_letters.specs.Letters.{rank_letter}
use Rattle.html_text.specs.declared.page.Piece.{Piece}
use Rattle.html_text.specs.Pages.{own, told}

-- the sign of a suit, in the suit's colour
abbrev pub suit_sign : Suit → List ℕ
suit_sign Spades = codes "<span class='s'>&#9824;</span>"
suit_sign Hearts = codes "<span class='h'>&#9829;</span>"
suit_sign Diamonds = codes "<span class='d'>&#9830;</span>"
suit_sign Clubs = codes "<span class='c'>&#9827;</span>"

-- a card: the sign of its suit, and its rank
unfoldable pub card_pieces : ℕ → List Piece
card_pieces card = own (suit_sign (suit_of card)) ++ told (rank_letter (rank_of card) ∷ [])

-- the rank of a card that may be held, in bold if it is sure
unfoldable pub rank_mark : List ℕ → List ℕ → ℕ → List Piece
rank_mark may sure card =
    if has_card sure card then own (codes " <b>") ++ told (rank_letter (rank_of card) ∷ []) ++ own (codes "</b>")
    else if has_card may card then own (codes " ") ++ told (rank_letter (rank_of card) ∷ [])
    else []

-- the ranks of a suit, from the ace down
abbrev pub ranks : List ℕ → List ℕ → Suit → List Piece
ranks may sure suit = flat_map (λ place. rank_mark may sure (card_of suit (14 - place))) (range_with_len 0 13)

-- a suit of a hand
unfoldable pub suit_pieces : List ℕ → List ℕ → Suit → List Piece
suit_pieces may sure suit = own (codes "<li>") ++ own (suit_sign suit) ++ ranks may sure suit ++ own (codes "</li>\n")

-- a hand: the cards that may be in it, in bold those that are sure
unfoldable pub hand_pieces : List ℕ → List ℕ → List Piece
hand_pieces may sure = suit_pieces may sure Spades ++ suit_pieces may sure Hearts ++ suit_pieces may sure Diamonds ++ suit_pieces may sure Clubs

abbrev pub compass_word : Compass → List ℕ
compass_word N = codes "North"
compass_word E = codes "East"
compass_word S = codes "South"
compass_word W = codes "West"
