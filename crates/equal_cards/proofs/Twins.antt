-- Two nodes of which one becomes the other where two cards exchange their names.
use Rattle.std.proofs.Common.{◌≡◌, ℕ, suc, ◌<◌, true, map, filter, refl, ap, ◌∙◌, arith}
use Rattle.std.specs.List.{AllZip}
use Rattle.card_sets.specs.Cards.{suit_of}
use Rattle.card_sets.specs.SetWords.{has_card}
use Rattle.trick_rules.specs.Positions.{State, to_play, IsState}
use Rattle.trick_rules.specs.Play.{after, legal_in, decided, makes, cards_left, is_declarers}
use Rattle.trick_rules.specs.Nodes.{NodeValue, states, child}
use Rattle.trick_rules.proofs.States.{legal_can_play, after-IsState}
use Rattle.trick_rules.proofs.PlayLaws.{a_child_keeps_the_states}
use Rattle.double_dummy.proofs.Swap.{swap}
use Rattle.double_dummy.proofs.Mirror.{Mirrored, Follows, legal_back, turn-mirrored, mirrored-after, follows-after, follows-with_card}
use Rattle.double_dummy.proofs.EqualCards.{makes-mirrored}
use Rattle.equal_cards.proofs.Zips.{zip-filter, zip-map, zip-map_same}

-- the two states of a layout
pub record AreTwins (a b : ℕ) (s m : State) : Type 0 where
  pub state : IsState s
  pub twin : IsState m
  pub mirrored : Mirrored a b s m
  pub follows : Follows a b s

module _ (a b : ℕ) (suit : suit_of a ≡ suit_of b) (order : a < b) (low : b < 52) where
  pub twins-legal : (s m : State) → AreTwins a b s m → (c : ℕ) → has_card (legal_in m) (swap a b c) ≡ has_card (legal_in s) c
  twins-legal s m t c = legal_back a b suit s m t.mirrored c

  pub twins-after : (s m : State) → AreTwins a b s m → (c : ℕ) → has_card (legal_in s) c ≡ true → AreTwins a b (after s c) (after m (swap a b c))
  twins-after s m t c k =
      let mk : has_card (legal_in m) (swap a b c) ≡ true = twins-legal s m t c ∙ k in
      record {
        state = after-IsState s t.state c k;
        twin = after-IsState m t.twin (swap a b c) mk;
        mirrored = mirrored-after a b suit order low s m t.state t.twin t.mirrored c (legal_can_play s t.state c k) (legal_can_play m t.twin (swap a b c) mk)
            t.follows.none (follows-with_card a b s t.state t.follows c k);
        follows = follows-after a b s t.state t.follows c k;
      }

  pub twins-makes : (s m : State) → AreTwins a b s m → makes m ≡ makes s
  twins-makes s m t = makes-mirrored a b suit order low (suc (cards_left s.position)) s m t.state t.twin t.mirrored t.follows (omega arith)

  -- the children by a card and by its new name
  pub twins-child : (n m : NodeValue) → AllZip (AreTwins a b) (states n) (states m) → (c : ℕ) → AllZip (AreTwins a b) (states (child n c)) (states (child m (swap a b c)))
  twins-child n m t c =
      rw (a_child_keeps_the_states n c, a_child_keeps_the_states m (swap a b c))
      (zip-map (λ s u. AreTwins a b s u × (has_card (legal_in s) c ≡ true)) (AreTwins a b) (λ s. after s c) (λ s. after s (swap a b c))
      (λ s u r. twins-after s u r.0 c r.1)
      (filter (λ s. has_card (legal_in s) c) (states n)) (filter (λ s. has_card (legal_in s) (swap a b c)) (states m))
      (zip-filter (AreTwins a b) (λ s. has_card (legal_in s) c) (λ s. has_card (legal_in s) (swap a b c)) (λ s u r. twins-legal s u r c) (states n) (states m) t))

  pub twins-mask : (n m : NodeValue) → AllZip (AreTwins a b) (states n) (states m) → (c : ℕ)
      → map (λ s. has_card (legal_in s) (swap a b c)) (states m) ≡ map (λ s. has_card (legal_in s) c) (states n)
  twins-mask n m t c = zip-map_same (AreTwins a b) (λ s. has_card (legal_in s) c) (λ s. has_card (legal_in s) (swap a b c)) (λ s u r. twins-legal s u r c) (states n) (states m) t

-- ---- what all see

pub twins-turn : (a b : ℕ) (s m : State) → AreTwins a b s m → is_declarers (to_play m.position) ≡ is_declarers (to_play s.position)
twins-turn a b s m t = ap is_declarers (turn-mirrored a b s m t.mirrored)

pub twins-decided : (a b : ℕ) (s m : State) → AreTwins a b s m → decided m.position ≡ decided s.position
twins-decided a b s m t = rw (t.mirrored.need, t.mirrored.tricks) refl
