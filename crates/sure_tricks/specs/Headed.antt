-- The suit led is headed: a hand that still has to play takes the trick with a higher card of it.
use Rattle.std.specs.Prelude.{◌≡◌, ◌≢◌, ◌⊎◌, ℕ, ◌<◌, true, List, [], ◌∷◌}
use Rattle.card_sets.specs.declared.seat.Seat.{Seat}
use Rattle.card_sets.specs.Cards.{suit_of}
use Rattle.card_sets.specs.SetWords.{has_card}
use Rattle.trick_rules.specs.declared.trump.Trump.{Trump}
use Rattle.trick_rules.specs.declared.trump.Trump.TheVariants.{NoTrump}
use Rattle.trick_rules.specs.Positions.{State}
use Rattle.trick_rules.specs.Play.{hand_of, is_trump}
use Rattle.sure_tricks.specs.Sure.{AreHigh, AreSafe}

-- One card is led, and a seat that still has to play holds a higher one of the suit. The other
-- hands that still have to play neither have a higher one nor can ruff it.
pub record HeadsSuitLed (s : State) (x : Seat) (card : ℕ) : Type 0 where
  pub led : ℕ
  pub one : s.position.trick.cards ≡ led ∷ []
  pub to_come : x ≢ s.position.trick.leader
  pub held : has_card (hand_of s x) card ≡ true
  pub suit : suit_of led ≡ suit_of card
  pub higher : led < card
  pub high : (seat : Seat) → seat ≢ x → seat ≢ s.position.trick.leader
      → AreHigh (card ∷ []) (hand_of s seat)
  pub safe : (seat : Seat) → seat ≢ x → seat ≢ s.position.trick.leader
      → AreSafe s.position.trump (card ∷ []) (hand_of s seat)

-- nobody can ruff any of these cards: there are no trumps, or they are all trumps
abbrev pub AreBeyondRuffs : Trump → List ℕ → Type 0
AreBeyondRuffs trump cards = (trump ≡ NoTrump)
    ⊎ ((card : ℕ) → has_card cards card ≡ true → is_trump trump card ≡ true)
