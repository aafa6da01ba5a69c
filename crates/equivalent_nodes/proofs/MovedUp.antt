-- At a node between two tricks a card moves up to the next place, at which no card is in play, and the front stays.
use Rattle.std.proofs.Common.{◌≡◌, ℕ, suc, ◌<◌, ◌≤◌, false, true, ◌↔◌, List, [], ◌∷◌, length, map, All, Contains, refl, sym, ap, ◌∙◌, arith}
use Rattle.std.specs.List.{AllZip}
use Rattle.std.proofs.lemmas.Bool.{false≢true}
use Rattle.std.proofs.lemmas.List.{length-map}
use Rattle.std.proofs.lemmas.List.Elements.{All-nil, All-cons}
use Rattle.card_sets.specs.Cards.{suit_of}
use Rattle.card_sets.specs.SetWords.{has_card}
use Rattle.trick_rules.specs.Positions.{State, FitsLeft, IsState}
use Rattle.trick_rules.specs.Nodes.{NodeValue, IsNode}
use Rattle.trick_rules.proofs.NodeLemmas.{state_of}
use Rattle.double_dummy.specs.Equals.{in_play}
use Rattle.double_dummy.proofs.Swap.{swap}
use Rattle.double_dummy.proofs.Mirror.{Mirrored, Follows, renamed_back}
use Rattle.strategy_games.specs.Plans.{IsFront}
use Rattle.strategy_games.proofs.Lists.{All-at, Contains-here, Contains-there}
use Rattle.strategy_tree.specs.Bridge.{bridge}
use Rattle.strategy_tree.proofs.BridgeLaws.{alike}
use Rattle.dd_solver.proofs.MovedUp.{move_card, with_moved, moved-IsState, moved-mirrored, hand-left}
use Rattle.equal_cards.proofs.Twins.{AreTwins}
use Rattle.equal_cards.proofs.TwinNodes.{TwinNodes}
use Rattle.equal_cards.proofs.OneFront.{twins_kept}
use Rattle.equivalent_nodes.specs.Ranks.{AreEquivalent}

-- the node in which whoever holds a card holds the next one in its stead
abbrev pub node_moved : ℕ → NodeValue → NodeValue
node_moved p n = record {
  position = record n.position {
    declarer = move_card p (suc p) n.position.declarer;
    dummy = move_card p (suc p) n.position.dummy;
    unseen = move_card p (suc p) n.position.unseen;
  };
  lefts = map (move_card p (suc p)) n.lefts;
}

-- each layout of a node gives a state
pub layout_state : (n : NodeValue) → IsNode n → (left : List ℕ) → Contains n.lefts left → IsState (state_of n.position left)
layout_state n ok left among = record { sound = ok.sound; fits = All-at (FitsLeft n.position) n.lefts ok.fits left among }

-- a node has a first layout
pub first_layout : (n : NodeValue) → IsNode n → (left : List ℕ) × Contains n.lefts left
first_layout n ok = go n.lefts ok.some
  where
    go : (lefts : List (List ℕ)) → 1 ≤ length lefts → (left : List ℕ) × Contains lefts left
    go [] some = absurd (omega arith)
    go (left ∷ lefts) some = (left, Contains-here left lefts)

module _ (p : ℕ) (n : NodeValue) (ok : IsNode n) (none : n.position.trick.cards ≡ []) (suit : suit_of p ≡ suit_of (suc p)) (fits : suc p < 52)
    (free : in_play n.position (suc p) ≡ false) where
  pub free_above : (c : ℕ) → p < c → c ≤ suc p → in_play n.position c ≡ false
  free_above c over under = (let e : c ≡ suc p = omega (arith, over, under) in ap (in_play n.position) e ∙ free)

  module _ (left : List ℕ) (state : IsState (state_of n.position left)) where
    abbrev s : State
    s = state_of n.position left

    abbrev there : State
    there = with_moved p (suc p) s

    pub there_state : IsState there
    there_state = moved-IsState s p (suc p) state none suit (omega arith) fits free_above

    forth : Mirrored p (suc p) s there
    forth = moved-mirrored s p (suc p) state none suit (omega arith) fits free_above

    back : Mirrored p (suc p) there s
    back = record {
      declarer = λ c. sym (renamed_back p (suc p) s.position.declarer there.position.declarer forth.declarer c);
      dummy = λ c. sym (renamed_back p (suc p) s.position.dummy there.position.dummy forth.dummy c);
      unseen = λ c. sym (renamed_back p (suc p) s.position.unseen there.position.unseen forth.unseen c);
      left = λ c. sym (renamed_back p (suc p) s.left there.left forth.left c);
      leader = refl;
      cards = none ∙ sym (ap (map (swap p (suc p))) none);
      need = refl;
      trump = refl;
      tricks = sym forth.tricks;
    }

    no_trick : {A : Type 0} → has_card s.position.trick.cards p ≡ true → A
    no_trick h = absurd (false≢true (sym (ap (λ (l : List ℕ). has_card l p) none) ∙ h))

    follows : Follows p (suc p) there
    follows = record {
      gone = hand-left s p (suc p) state none suit (omega arith) fits free_above;
      none = λ c above below. absurd (omega (arith, above, below));
      one = λ h. no_trick h;
      later = λ h. no_trick h;
    }

    pub twins : AreTwins p (suc p) there s
    twins = record { state = there_state; twin = state; mirrored = back; follows = follows }

  twin_layouts : (lefts : List (List ℕ)) → ((left : List ℕ) → Contains lefts left → IsState (state_of n.position left))
      → AllZip (AreTwins p (suc p)) (map (state_of (node_moved p n).position) (map (move_card p (suc p)) lefts)) (map (state_of n.position) lefts)
  twin_layouts [] each = tt
  twin_layouts (left ∷ lefts) each =
      (twins left (each left (Contains-here left lefts)), twin_layouts lefts (λ x h. each x (Contains-there left lefts x h)))

  fitting : (lefts : List (List ℕ)) → ((left : List ℕ) → Contains lefts left → IsState (state_of n.position left))
      → All (FitsLeft (node_moved p n).position) (map (move_card p (suc p)) lefts)
  fitting [] each = All-nil (FitsLeft (node_moved p n).position)
  fitting (left ∷ lefts) each =
      All-cons (FitsLeft (node_moved p n).position) (move_card p (suc p) left) (map (move_card p (suc p)) lefts)
      (there_state left (each left (Contains-here left lefts))).fits
      (fitting lefts (λ x h. each x (Contains-there left lefts x h)))

  pub moved_node : IsNode (node_moved p n)
  moved_node =
      let at = first_layout n ok in
      let long : length (map (move_card p (suc p)) n.lefts) ≡ length n.lefts = length-map n.lefts (move_card p (suc p)) in
      record {
        sound = (there_state at.0 (layout_state n ok at.0 at.1)).sound;
        fits = fitting n.lefts (layout_state n ok);
        some = (let h = ok.some in omega (arith, h, long));
        few = (let h = ok.few in omega (arith, h, long));
      }

  pub moved_front : AreEquivalent n (node_moved p n)
  moved_front = record {
    layouts = sym (length-map n.lefts (move_card p (suc p)));
    one_front = λ moves front.
        (let same : IsFront bridge (node_moved p n) moves front ↔ IsFront bridge n moves front =
        alike (TwinNodes p (suc p)) (twins_kept p (suc p) suit (omega arith) fits) (node_moved p n) n moves front moved_node ok
        (twin_layouts n.lefts (layout_state n ok)) in
        (same.1, same.0));
  }
