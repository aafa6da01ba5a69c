-- The laws of the card that gives a layout up.
use Rattle.std.specs.Prelude.{◌≡◌, ℕ, ◌+◌, true, false, List, take, Some, IsSome}
use Rattle.trick_rules.specs.Positions.{State, IsState, to_play}
use Rattle.trick_rules.specs.Play.{makes, is_declarers}
use Rattle.strategy_games.specs.Plans.{Plan, wins}
use Rattle.strategy_tree.specs.Bridge.{bridge}
use Rattle.strategy_check.specs.Following.{CanFollow}
use Rattle.am_match.specs.PlayOuts.{state_after}
use Rattle.line_plays.specs.Defended.{PlaysOut}
use Rattle.given_up.specs.GivenUp.{AreLegal, makes_after, giving_place}

-- a strategy loses a layout that double dummy makes: each play-out against a defence that beats it has a card that gives the layout up
abbrev pub ALostLayoutIsGivenUp : Type 0
ALostLayoutIsGivenUp =
    (plan : Plan ℕ) (s : State) (cards : List ℕ) → CanFollow plan s → PlaysOut plan s cards → makes s ≡ true → wins bridge plan s ≡ false
    → IsSome (giving_place s cards)

-- the card that gives a layout up: double dummy makes before it and not after it, and declarer's side plays it
pub record IsGivingCard (s : State) (cards : List ℕ) (place : ℕ) : Type 0 where
  pub before : makes_after s cards place ≡ true
  pub after : makes_after s cards (place + 1) ≡ false
  pub ours : is_declarers (to_play (state_after s (take place cards)).position) ≡ true

-- the card that is found is such a card
abbrev pub DeclarersSideGivesUp : Type 0
DeclarersSideGivesUp = (s : State) (cards : List ℕ) (place : ℕ) → IsState s → AreLegal s cards → makes s ≡ true → giving_place s cards ≡ Some place → IsGivingCard s cards place
