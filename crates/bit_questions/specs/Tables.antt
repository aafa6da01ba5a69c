-- A trick that is taken back card by card.
use Rattle.std.specs.Prelude.{ℕ, List, ◌==◌, ◌||◌}
use Rattle.card_sets.specs.SetWords.{has_card, cards_where}
use Rattle.card_sets.specs.declared.seat.Seat.{Seat}
use Rattle.card_sets.specs.declared.seat.Seat.TheVariants.{Declarer, Left, Dummy, Right}
use Rattle.trick_rules.specs.Positions.{PositionValue}
use Rattle.bit_questions.specs.declared.table.Table.{Table}

-- the position of these hands with these cards in the trick
abbrev pub position_of : Table → List ℕ → PositionValue
position_of table cards = record {
  declarer = table.declarer;
  dummy = table.dummy;
  unseen = table.unseen;
  trick = record { leader = table.leader; cards = cards };
  need = table.need;
  trump = table.trump;
}

-- a set with the card
abbrev pub with_card : ℕ → List ℕ → List ℕ
with_card card cards = cards_where (λ c. has_card cards c || (c == card))

-- the card is back in the hand of the seat that played it
abbrev pub put_back : Table → Seat → ℕ → Table
put_back table Declarer card = record table { declarer = with_card card table.declarer }
put_back table Dummy card = record table { dummy = with_card card table.dummy }
put_back table Left card = record table { unseen = with_card card table.unseen }
put_back table Right card = record table { unseen = with_card card table.unseen }
