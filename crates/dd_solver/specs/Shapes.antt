-- The shape of the hands at a position: how many cards of each suit each of them has.
use Rattle.std.specs.Prelude.{◌≡◌, ℕ, ◌+◌, ◌*◌, ◌^◌, List, length}
use Rattle.card_sets.specs.declared.card.Suit.TheVariants.{Spades, Hearts, Diamonds, Clubs}
use Rattle.card_sets.specs.declared.seat.Seat.{Seat}
use Rattle.card_sets.specs.declared.seat.Seat.TheVariants.{Declarer, Left, Dummy, Right}
use Rattle.trick_rules.specs.Positions.{State}
use Rattle.trick_rules.specs.Play.{of_suit}
use Rattle.dd_solver.specs.declared.shape.Shape.{Shape}

-- how many cards of each suit there are, in one number: a place of sixteen for each suit
abbrev pub lengths_of : List ℕ → ℕ
lengths_of cards = ((length (of_suit Spades cards) * 16 + length (of_suit Hearts cards)) * 16
    + length (of_suit Diamonds cards)) * 16 + length (of_suit Clubs cards)

-- the place of a seat's cards among the lengths of declarer, dummy, both defenders and Left. Left's cards stand among
-- the defenders' too
abbrev pub place_of : Seat → ℕ
place_of Declarer = 65536 ^ 3
place_of Left = 65536 + 1
place_of Dummy = 65536 ^ 2
place_of Right = 65536

-- the lengths of all of them, in one number
abbrev pub shape_of : State → ℕ
shape_of s = lengths_of s.position.declarer * 65536 ^ 3 + lengths_of s.position.dummy * 65536 ^ 2
    + lengths_of s.position.unseen * 65536 + lengths_of s.left

abbrev pub IsShapeOf : Shape → State → Type 0
IsShapeOf shape s = shape.lengths ≡ shape_of s
