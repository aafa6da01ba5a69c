-- What plain sampling believes of each card, next to what the lines make that begin with it.
use Rattle.std.specs.Prelude.{ℕ, ◌==◌, Bool, Option, List, [], ◌++◌, map, flat_map, nat_lt, codes, if◌then◌else◌}
use Rattle.std.specs.List.{list_any, range_with_len}
use Rattle.std.specs.Fmt.{decimal}
use Rattle.html_text.specs.declared.page.Piece.{Piece}
use Rattle.html_text.specs.Pages.{own, told}
use Rattle.page_text.specs.declared.markup.TheConstants.{ROW, FIRST_CARD, WEIGHT, ROWS, SECTION_END, SAMPLING, NO_LINE_MAKES, BELIEVED, BELIEFS, BELIEFS_END}
use Rattle.page_text.specs.declared.lines.Line.{Line}
use Rattle.page_text.specs.declared.beliefs.Belief.{Belief}
use Rattle.page_text.specs.declared.verdict.Scale.{Scale}
use Rattle.page_text.specs.Signs.{card_pieces}
use Rattle.page_text.specs.Verdicts.{share, begins_with, greatest, best_from, best_of}
use Rattle.page_text.specs.declared.refutations.Refutation.{Refutation}
use Rattle.page_text.specs.Lines.{cell, column}
use Rattle.page_text.specs.Refutations.{refutations}

-- the most that sampling believes of a card
abbrev pub most_believed : List Belief → ℕ
most_believed beliefs = greatest (map (λ belief. belief.weight) beliefs)

-- a card of which sampling believes the most
abbrev pub favourite : ℕ → Belief → List Piece
favourite most belief = if belief.weight == most then card_pieces belief.card ++ own (codes " ") else []

-- the cards of which sampling believes the most, and how much that is
unfoldable pub favourites : Scale → List Belief → List Piece
favourites scale beliefs = flat_map (favourite (most_believed beliefs)) beliefs ++ own BELIEVED.now ++ share scale (most_believed beliefs)

-- what sampling believes at most, and the best line
unfoldable pub summary : Scale → List Belief → List Line → List Piece
summary scale beliefs lines = own SAMPLING.now ++ favourites scale beliefs ++ own NO_LINE_MAKES.now ++ share scale (best_of lines)

-- a line begins with the card, or has stopped before it
abbrev pub has_line : ℕ → List Line → Bool
has_line card lines = list_any (λ line. begins_with card line.begins) lines

-- whether no line with the card makes as much as sampling believes, by a sign and, for those who hear the page, a word
abbrev pub shortfall : ℕ → ℕ → List ℕ
shortfall best believed = if nat_lt best believed then codes " &#9660;<i>less than believed</i></td>" else codes "</td>"

-- what the best of the lines makes that begin with the card
unfoldable pub best_line : List Line → Belief → List Piece
best_line lines belief =
    if has_line belief.card lines
    then told (decimal (best_from belief.card lines)) ++ own (shortfall (best_from belief.card lines) belief.weight)
    else own (codes "&#8211;<i>no line</i></td>")

-- a card, what sampling believes of it, and what the best line makes
unfoldable pub figures : List Line → Belief → List Piece
figures lines belief = own ROW.now ++ card_pieces belief.card ++ own FIRST_CARD.now ++ told (decimal belief.weight) ++ own WEIGHT.now ++ best_line lines belief

-- these, and in which layouts the contract is made after the card with all hands seen
unfoldable pub belief_row : List Line → Belief → List Piece
belief_row lines belief = figures lines belief ++ flat_map cell belief.vector ++ own (codes "</tr>\n")

-- what sampling believes of each card, with this many columns, one for each layout
unfoldable pub beliefs_table : ℕ → List Belief → List Line → List Piece
beliefs_table width beliefs lines =
    own BELIEFS.now ++ flat_map column (range_with_len 1 width) ++ own ROWS.now ++ flat_map (belief_row lines) beliefs ++ own BELIEFS_END.now

-- this, and why it isn't true of some cards
unfoldable pub sampling : Scale → ℕ → List Belief → List Line → List (Option Refutation) → List Piece
sampling scale width beliefs lines refuted =
    summary scale beliefs lines ++ beliefs_table width beliefs lines ++ refutations refuted ++ own SECTION_END.now
