-- A strategy played out against a defence that beats it, if there is one.
use Rattle.std.specs.Prelude.{◌≡◌, ℕ, true, false, not, ⊤, List, [], ◌∷◌, Option, Some, find}
use Rattle.card_sets.specs.SetWords.{has_card, first_card}
use Rattle.trick_rules.specs.Positions.{State, to_play}
use Rattle.trick_rules.specs.Play.{legal_in, after, is_declarers, is_over}
use Rattle.strategy_games.specs.Plans.{Plan, wins}
use Rattle.strategy_games.specs.Misfits.{or_else}
use Rattle.strategy_tree.specs.Bridge.{bridge}
use Rattle.am_match.specs.PlayOuts.{plan_after, IsByPlan, state_after}

-- the first legal card after which the rest of the plan loses, or if there is none the first legal card
abbrev pub beating_card : Plan ℕ → State → Option ℕ
beating_card plan s = or_else (find (λ card. not (wins bridge (plan_after plan card) (after s card))) (legal_in s)) (first_card (legal_in s))

-- a legal card that declarer's side plays by the plan, or a defender to beat it
pub record IsNextCard (plan : Plan ℕ) (s : State) (card : ℕ) : Type 0 where
  pub legal : has_card (legal_in s) card ≡ true
  pub ours : is_declarers (to_play s.position) ≡ true → IsByPlan plan s card
  pub theirs : is_declarers (to_play s.position) ≡ false → beating_card plan s ≡ Some card

-- each card is the next one
abbrev pub GoesOnSo : Plan ℕ → State → List ℕ → Type 0
GoesOnSo plan s [] = ⊤
GoesOnSo plan s (card ∷ cards) = IsNextCard plan s card × GoesOnSo (plan_after plan card) (after s card) cards

-- cards from a state to the end of play
pub record PlaysOut (plan : Plan ℕ) (s : State) (cards : List ℕ) : Type 0 where
  pub each : GoesOnSo plan s cards
  pub ended : is_over (state_after s cards).position ≡ true
