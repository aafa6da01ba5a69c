-- A strategy followed card by card in one layout.
use Rattle.std.proofs.Common.{◌≡◌, ℕ, zero, suc, true, List, Contains, filter, sym, subst}
use Rattle.card_sets.specs.SetWords.{has_card}
use Rattle.trick_rules.specs.Positions.{State, IsState}
use Rattle.trick_rules.specs.Play.{legal_in, after}
use Rattle.trick_rules.specs.Nodes.{NodeValue, IsNode, states, choices, child}
use Rattle.trick_rules.proofs.PlayLaws as play
use Rattle.strategy_games.proofs.Lists.{All-at, Contains-here, Contains-there, Contains-filter, Contains-map}
use Rattle.strategy_games.specs.Plans.{Plan, Replies, Play, Hear, Reply, Fits, cards_of}
use Rattle.strategy_tree.specs.Bridge.{bridge}
use Rattle.strategy_tree.proofs.Rules.{lawful}
use Rattle.strategy_check.specs.Following.{CanFollow, CanFollowEach}

state_of : (n : NodeValue) (s : State) → IsNode n → Contains (states n) s → IsState s
state_of n s sound among = All-at (λ s. IsState s) (states n) (play.a_layout_gives_a_state n sound) s among

pub followed_state : (plan : Plan ℕ) (s : State) → CanFollow plan s → IsState s
followed_state plan s f = state_of f.node s f.sound f.among

pub followed_states : (rs : Replies ℕ) (s : State) → CanFollowEach rs s → IsState s
followed_states rs s f = state_of f.node s f.sound f.among

-- after a card that is legal in this layout
pub follow_on : (n : NodeValue) (moves : ℕ) (card : ℕ) (rest : Plan ℕ) (s : State) → IsNode n → Contains (states n) s → Contains (choices n) card → has_card (legal_in s) card ≡ true
    → Fits bridge rest (child n card) moves → CanFollow rest (after s card)
follow_on n moves card rest s sound among choice legal fits = record {
  node = child n card;
  moves = moves;
  sound = lawful.holds n card sound choice;
  among = subst (λ (ss : List State). Contains ss (after s card)) (sym (play.a_child_keeps_the_states n card))
      (Contains-map (λ s. after s card) (filter (λ s. has_card (legal_in s) card) (states n)) s (Contains-filter (λ s. has_card (legal_in s) card) (states n) s among legal));
  fits = fits;
}

-- a card of declarer's side is legal in each layout
pub follow_Play : (card : ℕ) (rest : Plan ℕ) (s : State) → CanFollow (Play card rest) s → (has_card (legal_in s) card ≡ true) × CanFollow rest (after s card)
follow_Play card rest s f = go f.moves f.fits
  where
    go : (moves : ℕ) → Fits bridge (Play card rest) f.node moves → (has_card (legal_in s) card ≡ true) × CanFollow rest (after s card)
    go zero h = absurd h
    go (suc m) h =
        let legal = All-at (λ s. has_card (legal_in s) card ≡ true) (states f.node) (lawful.seen f.node card f.sound h.1 h.2) s f.among in
        (legal, follow_on f.node m card rest s f.sound f.among h.2 legal h.3)

pub follow_Hear : (rs : Replies ℕ) (s : State) → CanFollow (Hear rs) s → CanFollowEach rs s
follow_Hear rs s f = record {
  node = f.node;
  moves = f.moves;
  sound = f.sound;
  among = f.among;
  cards = λ card h. subst (λ cards. Contains cards card) f.fits.2 h;
  fits = f.fits.3;
}

pub follow_Reply : (card : ℕ) (plan : Plan ℕ) (rs : Replies ℕ) (s : State) → CanFollowEach (Reply card plan rs) s → has_card (legal_in s) card ≡ true → CanFollow plan (after s card)
follow_Reply card plan rs s f legal = follow_on f.node f.moves card plan s f.sound f.among (f.cards card (Contains-here card (cards_of rs))) legal f.fits.0

pub follow_later : (card : ℕ) (plan : Plan ℕ) (rs : Replies ℕ) (s : State) → CanFollowEach (Reply card plan rs) s → CanFollowEach rs s
follow_later card plan rs s f = record {
  node = f.node;
  moves = f.moves;
  sound = f.sound;
  among = f.among;
  cards = λ c h. f.cards c (Contains-there card (cards_of rs) c h);
  fits = f.fits.1;
}
