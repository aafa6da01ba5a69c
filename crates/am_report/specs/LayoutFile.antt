-- Layouts as a layout file lists them.
use Rattle.std.specs.Prelude.{ℕ, Some, List, [], ◌∷◌, ◌++◌, map, flat_map, codes}
use Rattle.card_sets.specs.declared.seat.Seat.{Seat}
use Rattle.card_sets.specs.declared.seat.Seat.TheVariants.{Declarer, Left, Dummy, Right}
use Rattle.card_sets.specs.declared.seat.Compass.{Compass}
use Rattle.card_sets.specs.declared.seat.Compass.TheVariants.{N, E, S, W}
use Rattle.pbn_deal.specs.Boards.{BoardValue, seat_of}
use Rattle.pbn_deal.specs.Writing.{deal_text}
use Rattle.layout_list.specs.declared.line.Layout.{Layout}
use Rattle.byte_text.specs.Lines.{line_of}

-- the hand of a seat before the first card
abbrev pub dealt_hand : BoardValue → Layout → Seat → List ℕ
dealt_hand board layout Declarer = board.declarer_hand
dealt_hand board layout Left = layout.left
dealt_hand board layout Dummy = board.dummy_hand
dealt_hand board layout Right = layout.right

-- the hand at a place of the table
abbrev pub hand_at_compass : BoardValue → Layout → Compass → List ℕ
hand_at_compass board layout place = dealt_hand board layout (seat_of board.declarer place)

-- the four hands of a layout, from North
unfoldable pub layout_line : BoardValue → Layout → List ℕ
layout_line board layout = line_of (deal_text (map (λ place. Some (hand_at_compass board layout place)) (N ∷ E ∷ S ∷ W ∷ [])))

-- a line for each layout
unfoldable pub list_text : BoardValue → List Layout → List ℕ
list_text board layouts = line_of (codes "% alphamu layouts 1") ++ flat_map (layout_line board) layouts
