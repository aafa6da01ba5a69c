-- Why sampling believes in more than a line makes: the layouts that the line gives up, by the card that does.
use Rattle.std.specs.Prelude.{ℕ, ◌+◌, ◌==◌, ◌&&◌, not, Bool, false, Option, None, Some, is_some, position, List, [], ◌++◌, length, get_or, slice_get, flat_map, nat_lt, codes, if◌then◌else◌}
use Rattle.std.specs.List.{list_any, range_with_len}
use Rattle.std.specs.Option.{option_map_or}
use Rattle.std.specs.Fmt.{decimal}
use Rattle.html_text.specs.declared.page.Piece.{Piece}
use Rattle.html_text.specs.Pages.{own, told}
use Rattle.page_text.specs.declared.markup.TheConstants.{REFUTATIONS, GIVES_UP, GIVEN_WITH, TO_LAYOUT}
use Rattle.page_text.specs.declared.beliefs.Belief.{Belief}
use Rattle.page_text.specs.declared.lines.Line.{Line}
use Rattle.page_text.specs.declared.plays.PlayedOut.{PlayedOut}
use Rattle.page_text.specs.declared.refutations.Refutation.{Refutation}
use Rattle.page_text.specs.Signs.{card_pieces}
use Rattle.page_text.specs.Verdicts.{begins_with, best_from}
use Rattle.page_text.specs.Lines.{link}

-- the place of the first of the best lines that begin with a card, if they make less than sampling believes
abbrev pub refuting_place : List Line → Belief → Option ℕ
refuting_place lines belief =
    let best = best_from belief.card lines in
    if nat_lt best belief.weight then position (λ line. begins_with belief.card line.begins && (line.weight == best)) lines else None

abbrev pub is_card : ℕ → Option ℕ → Bool
is_card card None = false
is_card card (Some other) = other == card

-- whether a line fails where it is played out, and this is the card that gives the layout up
abbrev pub fails_with : ℕ → PlayedOut → Bool
fails_with card play = not play.made && is_card card play.given_up

-- the same in the layout of a place, if sampling believes in that
abbrev pub gives_up : Refutation → ℕ → ℕ → Bool
gives_up refuted card place = option_map_or (λ play. get_or refuted.believed place false && fails_with card play) (slice_get refuted.line.plays.items place) false

-- a layout by its number, as a link to it
unfoldable pub layout_link : ℕ → List Piece
layout_link number = own TO_LAYOUT.now ++ told (decimal number) ++ own (codes "'>") ++ told (decimal number) ++ own (codes "</a>")

-- the layout of a place, if the line gives it up with this card
abbrev pub given_layout : Refutation → ℕ → ℕ → List Piece
given_layout refuted card place = if gives_up refuted card place then layout_link (place + 1) else []

-- a card with the layouts that it gives up
unfoldable pub card_given : Refutation → ℕ → List Piece
card_given refuted card =
    own GIVEN_WITH.now ++ card_pieces card ++ own (codes ":") ++ flat_map (given_layout refuted card) (range_with_len 0 (length refuted.believed)) ++ own (codes "</li>\n")

-- the same, if it gives one up
abbrev pub given_with : Refutation → ℕ → List Piece
given_with refuted card = if list_any (gives_up refuted card) (range_with_len 0 (length refuted.believed)) then card_given refuted card else []

-- a card of which more is believed than its best line makes, and this line
unfoldable pub refuted_card : Refutation → List Piece
refuted_card refuted = own (codes "<li>") ++ card_pieces refuted.card ++ own (codes ": line ") ++ link refuted.line.number

-- the same of each card, in card order
unfoldable pub given_cards : Refutation → List Piece
given_cards refuted = flat_map (given_with refuted) (range_with_len 0 52)

-- the layouts that the line gives up, by the card that does
unfoldable pub given_list : Refutation → List Piece
given_list refuted = own GIVES_UP.now ++ given_cards refuted ++ own (codes "</ul></li>\n")

-- both
abbrev pub refutation : Refutation → List Piece
refutation refuted = refuted_card refuted ++ given_list refuted

abbrev pub refutation_in : Option Refutation → List Piece
refutation_in None = []
refutation_in (Some refuted) = refutation refuted

-- why beliefs aren't true, if some aren't
unfoldable pub refutations : List (Option Refutation) → List Piece
refutations all = if list_any is_some all then own REFUTATIONS.now ++ flat_map refutation_in all ++ own (codes "</ul>\n") else []
