-- Equal cards.
use Rattle.std.specs.Prelude.{◌≡◌, ℕ, ◌<◌, Bool, true, false, ◌||◌, List}
use Rattle.card_sets.specs.Cards.{suit_of}
use Rattle.card_sets.specs.SetWords.{has_card}
use Rattle.trick_rules.specs.Positions.{PositionValue, State}
use Rattle.trick_rules.specs.Play.{legal_in}

-- whether a card is in a hand or in the present trick
abbrev pub in_play : PositionValue → ℕ → Bool
in_play t card = has_card t.declarer card || has_card t.dummy card || has_card t.unseen card || has_card t.trick.cards card

-- two legal cards of one suit, with no card in play between them in card order
pub record AreEqual (s : State) (low high : ℕ) : Type 0 where
  pub low_legal : has_card (legal_in s) low ≡ true
  pub high_legal : has_card (legal_in s) high ≡ true
  pub suit : suit_of low ≡ suit_of high
  pub order : low < high
  pub between : (card : ℕ) → low < card → card < high → in_play s.position card ≡ false

-- among these legal cards and these cards in play, the next card in play after a card is legal and of its suit
pub record IsNextEqual (legal playing : List ℕ) (card next : ℕ) : Type 0 where
  pub legal_too : has_card legal next ≡ true
  pub suit : suit_of card ≡ suit_of next
  pub order : card < next
  pub between : (other : ℕ) → card < other → other < next → has_card playing other ≡ false
