-- What each seat plays is told as what it is.
use Rattle.std.specs.Prelude.{◌≡◌, ◌≢◌, ℕ, ◌&&◌, List, [], ◌++◌, count_by}
use Rattle.card_sets.specs.declared.seat.Seat.{Seat}
use Rattle.card_sets.specs.declared.seat.Compass.{Compass}
use Rattle.trick_rules.specs.Nodes.{NodeValue}
use Rattle.told_words.specs.declared.turns.Manner.{Manner}
use Rattle.told_words.specs.Turns.{same_manner, same_seat, played_so}
use Rattle.told_words.specs.Phrases.{phrase, turns, turn_text}

-- each seat has its turn with each manner, once
abbrev pub EachTurnIsOnce : Type 0
EachTurnIsOnce = (seat : Seat) (manner : Manner) → count_by (λ turn. same_seat turn.seat seat && same_manner turn.manner manner) turns ≡ 1

-- a text has these bytes somewhere
abbrev pub HasPart : List ℕ → List ℕ → Type 0
HasPart text part = (before after : List ℕ) × (text ≡ before ++ part ++ after)

-- the cards that a seat leads, follows suit with, ruffs with or throws are told as such
abbrev pub EachTurnIsTold : Type 0
EachTurnIsTold = (declarer : Compass) (cards : List ℕ) (places : List NodeValue) (seat : Seat) (manner : Manner) → played_so seat manner cards places ≢ []
    → HasPart (turn_text declarer cards places) (phrase declarer seat manner (played_so seat manner cards places))
