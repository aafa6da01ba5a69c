-- Of a state's legal cards, those that are enough to try.
use Rattle.std.specs.Prelude.{◌≡◌, ◌⊎◌, ℕ, true, List}
use Rattle.card_sets.specs.SetWords.{has_card}
use Rattle.trick_rules.specs.Positions.{State}
use Rattle.trick_rules.specs.Play.{legal_in}
use Rattle.double_dummy.specs.Equals.{AreEqual}

-- a higher card is equal to this one, which counts if that one does
pub record HasHigherEqual (counting : List ℕ) (s : State) (card : ℕ) : Type 0 where
  pub higher : ℕ
  pub equal : AreEqual s card higher
  pub counts : has_card counting higher ≡ true → has_card counting card ≡ true

-- each legal card is one of these or has a higher equal
abbrev pub AreEnough : List ℕ → State → List ℕ → Type 0
AreEnough counting s cards = (card : ℕ) → has_card (legal_in s) card ≡ true
    → (has_card cards card ≡ true) ⊎ HasHigherEqual counting s card
