-- Where two strategies part.
use Rattle.std.specs.Prelude.{◌≡◌, ◌≢◌, ◌⊎◌, ◌<◌, ℕ, Option, None, Some, List, [], ◌∷◌, length}
use Rattle.trick_rules.specs.Nodes.{NodeValue}
use Rattle.strategy_games.specs.Plans.{Plan, Fits}
use Rattle.strategy_tree.specs.Bridge.{bridge}
use Rattle.told_plans.specs.Follows.{Plays, does_after}

-- two plans are strategies at one node, with as many moves of declarer's side
pub record FitOneNode (plan other : Plan ℕ) : Type 0 where
  pub node : NodeValue
  pub moves : ℕ
  pub fits : Fits bridge plan node moves
  pub other_fits : Fits bridge other node moves

-- Two plans part after a history, cards that both foresee, if the one then plays a card and the other another card
pub record PartAfter (plan other : Plan ℕ) (history : List ℕ) (card other_card : ℕ) : Type 0 where
  pub plays : does_after history plan ≡ Some (Plays card)
  pub other_plays : does_after history other ≡ Some (Plays other_card)
  pub differ : card ≢ other_card

-- the first of the cards that two histories don't share comes before the other's in card order
abbrev pub IsBefore : List ℕ → List ℕ → Type 0
IsBefore [] later = ⊥
IsBefore (c ∷ cards) [] = ⊥
IsBefore (c ∷ cards) (d ∷ later) = (c < d) ⊎ ((c ≡ d) × IsBefore cards later)

-- a history with fewer cards, or with as many and before the other in card order
abbrev pub IsEarlier : List ℕ → List ℕ → Type 0
IsEarlier history later = (length history < length later) ⊎ ((length history ≡ length later) × IsBefore history later)

-- a history, and the cards that two plans play after it
pub record PartingValue : Type 0 where
  pub history : List ℕ
  pub card : ℕ
  pub other : ℕ

-- the plans part there, and after no earlier history
pub record IsFirstParting (plan other : Plan ℕ) (parting : PartingValue) : Type 0 where
  pub there : PartAfter plan other parting.history parting.card parting.other
  pub first : (history : List ℕ) (card other_card : ℕ) → PartAfter plan other history card other_card → IsEarlier history parting.history → ⊥

-- where two plans first part; if they part nowhere, they are the same
abbrev pub IsWhereTheyPart : Plan ℕ → Plan ℕ → Option PartingValue → Type 0
IsWhereTheyPart plan other None = plan ≡ other
IsWhereTheyPart plan other (Some parting) = IsFirstParting plan other parting
