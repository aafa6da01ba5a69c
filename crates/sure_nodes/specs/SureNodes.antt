-- Nodes at which declarer's side is sure of the tricks that it needs: top cards of the hand on lead, counted without a
-- look at any layout.
use Rattle.std.specs.Prelude.{ℕ, ◌+◌, Bool, not, ◌&&◌, ◌||◌, ◌==◌, List, length, min, nat_lt, if◌then◌else◌}
use Rattle.card_sets.specs.declared.card.Suit.{Suit}
use Rattle.card_sets.specs.declared.card.Suit.TheVariants.{Spades, Hearts, Diamonds, Clubs}
use Rattle.trick_rules.specs.declared.trump.Trump.{Trump}
use Rattle.trick_rules.specs.declared.trump.Trump.TheVariants.{NoTrump, Suit as Suited}
use Rattle.trick_rules.specs.Positions.{PositionValue, seat_after, to_play}
use Rattle.trick_rules.specs.Play.{of_suit, held_by, is_declarers}
use Rattle.trick_rules.specs.Nodes.{NodeValue}
use Rattle.sure_tricks.specs.Sure.{trumps_of, is_suit, high_count}

module _ (t : PositionValue) where
  -- the hand on lead and its partner's
  abbrev pub own : List ℕ
  own = held_by t (to_play t)

  abbrev pub partners : List ℕ
  partners = held_by t (seat_after 2 (to_play t))

  -- how many cards of a suit, from the top, are high against partner and against all unseen cards
  abbrev pub tops_in : Suit → ℕ
  tops_in suit = min (high_count (of_suit suit own) (of_suit suit partners))
      (high_count (of_suit suit own) (of_suit suit t.unseen))

  -- the trumps that they draw
  abbrev pub drawn : Trump → ℕ
  drawn NoTrump = 0
  drawn (Suited suit) = tops_in suit

  -- no hand can have a trump more than are drawn
  abbrev pub none_ruffs : Bool
  none_ruffs = not (nat_lt (drawn t.trump) (length (trumps_of t.trump partners)))
      && not (nat_lt (drawn t.trump) (length (trumps_of t.trump t.unseen)))

  -- the top cards of a suit that nobody can ruff
  abbrev pub sure_tops : Suit → ℕ
  sure_tops suit = if is_suit t.trump suit || none_ruffs then tops_in suit else 0

  -- Declarer's side is on lead to a new trick, and its hand on lead has as many sure top cards as it needs tricks.
  abbrev pub is_sure : Bool
  is_sure = is_declarers (to_play t) && (length t.trick.cards == 0)
      && not (nat_lt (sure_tops Spades + sure_tops Hearts + sure_tops Diamonds + sure_tops Clubs) t.need)

-- whether a node is sure: no layout is looked at
abbrev pub is_sure_node : NodeValue → Bool
is_sure_node n = is_sure n.position
