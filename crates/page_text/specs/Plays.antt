-- Lines played out in a layout, trick by trick.
use Rattle.std.specs.Prelude.{ℕ, ◌+◌, ◌%◌, ◌==◌, Bool, Option, None, Some, List, [], ◌∷◌, ◌++◌, length, get_or, slice_get, flat_map, codes, if◌then◌else◌}
use Rattle.std.specs.List.{range_with_len}
use Rattle.std.specs.Option.{option_map_or}
use Rattle.card_sets.specs.declared.card.Suit.{Suit}
use Rattle.card_sets.specs.declared.card.Suit.TheVariants.{Spades, Hearts, Diamonds, Clubs}
use Rattle.card_sets.specs.Cards.{suit_of, rank_of}
use Rattle.card_letters.specs.Letters.{rank_letter}
use Rattle.html_text.specs.declared.page.Piece.{Piece}
use Rattle.html_text.specs.Pages.{own, told}
use Rattle.page_text.specs.declared.markup.TheConstants.{PLAYS, PLAY, GIVEN_UP, PLAY_END, PLAYS_END}
use Rattle.page_text.specs.declared.plays.PlayedOut.{PlayedOut}
use Rattle.page_text.specs.declared.plays.PlayedLine.{PlayedLine}
use Rattle.page_text.specs.Lines.{link}

-- the sign of a suit without its colour, which takes less room
abbrev pub bare_sign : Suit → List ℕ
bare_sign Spades = codes "&#9824;"
bare_sign Hearts = codes "&#9829;"
bare_sign Diamonds = codes "&#9830;"
bare_sign Clubs = codes "&#9827;"

-- what stands before the card of a place, which is counted from 0, after this many earlier cards of its trick: a bar between two tricks
abbrev pub before_card : ℕ → ℕ → List ℕ
before_card begun place =
    if place == 0 then []
    else if (begun + place) % 4 == 0 then codes " | "
    else codes "&#160;"

abbrev pub bare_card : ℕ → List Piece
bare_card card = own (bare_sign (suit_of card)) ++ told (rank_letter (rank_of card) ∷ [])

-- the card of a place
abbrev pub played_card : ℕ → List ℕ → ℕ → List Piece
played_card begun cards place = own (before_card begun place) ++ bare_card (get_or cards place 0)

-- whether the contract is made
abbrev pub ending : Bool → List ℕ
ending made = if made then codes " <b class='y'>made</b>: " else codes " <b class='x'>down</b>: "

-- the card that gives the layout up, if one does
abbrev pub given_up : Option ℕ → List Piece
given_up None = []
given_up (Some card) = own GIVEN_UP.now ++ bare_card card ++ own (codes ")")

-- the line of a number played out: whether the contract is made, all cards, and the one that gives the layout up
unfoldable pub play_pieces : ℕ → ℕ → PlayedOut → List Piece
play_pieces begun number play =
    own PLAY.now ++ link number ++ own (ending play.made) ++ flat_map (played_card begun play.cards) (range_with_len 0 (length play.cards))
    ++ given_up play.given_up ++ own PLAY_END.now

-- the same in the layout of a place, if the line is played out there
abbrev pub play_at : ℕ → ℕ → PlayedLine → List Piece
play_at begun place line = option_map_or (play_pieces begun line.number) (slice_get line.plays.items place) []

-- the lines that are played out in the layout of a place
unfoldable pub plays_at : ℕ → ℕ → List PlayedLine → List Piece
plays_at begun place lines = own PLAYS.now ++ flat_map (play_at begun place) lines ++ own PLAYS_END.now
