-- The laws of facts and reasons.
use Rattle.std.specs.Prelude.{◌≡◌, ◌≢◌, ◌≤◌, ℕ, false, true, map, All, Contains, MatchOption}
use Rattle.card_sets.specs.declared.card.Suit.{Suit}
use Rattle.card_sets.specs.declared.seat.Seat.{Seat}
use Rattle.card_sets.specs.Cards.{card_of}
use Rattle.win_vectors.specs.Fronts.{Vector}
use Rattle.trick_rules.specs.Play.{is_declarers}
use Rattle.trick_rules.specs.Nodes.{NodeValue, states}
use Rattle.layout_facts.specs.declared.fact.Fact.TheVariants.{Holds, Exactly, AtLeast}
use Rattle.layout_facts.specs.Facts.{facts}
use Rattle.layout_facts.specs.Reasons.{is_so, reasons, is_split, what_decides}

-- that a defender holds a card is listed, for each defender and each card
abbrev pub EachHoldingIsListed : Type 0
EachHoldingIsListed = (seat : Seat) (suit : Suit) (rank : ℕ) → is_declarers seat ≡ false → 2 ≤ rank → rank ≤ 14 → Contains facts (Holds seat (card_of suit rank))

-- so is that a defender has exactly, or at least, this many cards of a suit
abbrev pub EachLengthIsListed : Type 0
EachLengthIsListed =
    (seat : Seat) (suit : Suit) (count : ℕ) → is_declarers seat ≡ false → count ≤ 13
    → Contains facts (Exactly seat suit count) × Contains facts (AtLeast seat suit count)

-- what decides a vector is so in exactly the layouts that it makes; if some layouts are made and not all, and nothing decides it, no reason is
abbrev pub DecidesExactly : Type 0
DecidesExactly =
    (n : NodeValue) (vector : Vector)
    → MatchOption (what_decides n vector) (is_split n vector ≡ true → All (λ reason. vector ≢ map (is_so reason) (states n)) reasons) (λ reason. vector ≡ map (is_so reason) (states n))
