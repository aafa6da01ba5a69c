-- Relative ranks: a gap in a suit is closed by the cards below it.
use Rattle.std.specs.Prelude.{◌≡◌, ℕ, ◌<◌, false, List, [], ◌∷◌}
use Rattle.card_sets.specs.Raised.{with_raised}
use Rattle.trick_rules.specs.Positions.{State}
use Rattle.double_dummy.specs.Equals.{in_play}

-- the same state, but in each hand the cards of the gap's suit below it are one place higher
abbrev pub with_gap_closed : ℕ → State → State
with_gap_closed gap s = record {
  position = record s.position {
    declarer = with_raised gap s.position.declarer;
    dummy = with_raised gap s.position.dummy;
    unseen = with_raised gap s.position.unseen;
  };
  left = with_raised gap s.left;
}

-- between two tricks a place that nobody holds is closed
pub record IsGapClosed (gap : ℕ) (s t : State) : Type 0 where
  pub between_tricks : s.position.trick.cards ≡ []
  pub fits : gap < 52
  pub free : in_play s.position gap ≡ false
  pub closed : t ≡ with_gap_closed gap s

-- gap after gap closed, one state becomes another
abbrev pub AreGapsClosed : List ℕ → State → State → Type 0
AreGapsClosed [] s t = s ≡ t
AreGapsClosed (gap ∷ gaps) s t = (next : State) × IsGapClosed gap s next × AreGapsClosed gaps next t
