-- Who sits where: play goes round the table clockwise.
use Rattle.card_sets.specs.declared.seat.Seat.{Seat}
use Rattle.card_sets.specs.declared.seat.Seat.TheVariants.{Declarer, Left, Dummy, Right}
use Rattle.card_sets.specs.declared.seat.Compass.{Compass}
use Rattle.card_sets.specs.declared.seat.Compass.TheVariants.{N, E, S, W}

-- the seat that plays after this one
abbrev pub next_seat : Seat → Seat
next_seat Declarer = Left
next_seat Left = Dummy
next_seat Dummy = Right
next_seat Right = Declarer

-- the side of the table that plays after this one
abbrev pub next_compass : Compass → Compass
next_compass N = E
next_compass E = S
next_compass S = W
next_compass W = N
