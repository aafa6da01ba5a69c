-- A told plan, cut down to what can be played at a node.
use Rattle.std.specs.Prelude.{ℕ, Option, Some, None, List, [], ◌∷◌, if◌then◌else◌}
use Rattle.card_sets.specs.SetWords.{has_card}
use Rattle.trick_rules.specs.Nodes.{NodeValue, choices, child}
use Rattle.strategy_games.specs.Plans.{Plan, Replies, Stop, Play, Hear, NoReply, Reply}
use Rattle.told_plans.specs.Told.{Told, Branches, ToldStop, ToldPlay, ToldHear, NoBranch, Branch}

-- a reply before the others, if the card has an answer
abbrev pub with_reply : ℕ → Option (Plan ℕ) → Replies ℕ → Replies ℕ
with_reply card None later = later
with_reply card (Some plan) later = Reply card plan later

-- a reply to each of the cards that has an answer
abbrev pub replies_to : (ℕ → Option (Plan ℕ)) → List ℕ → Replies ℕ
replies_to answer [] = NoReply
replies_to answer (card ∷ cards) = with_reply card (answer card) (replies_to answer cards)

abbrev mutual
  -- the plan that keeps, at each of a defender's turns, the cards that he can play there
  pub cut : Told → NodeValue → Plan ℕ
  cut ToldStop n = Stop
  cut (ToldPlay card rest) n = Play card (cut rest (child n card))
  cut (ToldHear branches) n = Hear (replies_to (cut_branch branches n) (choices n))

  -- what the branch with a card says after it
  pub cut_branch : Branches → NodeValue → ℕ → Option (Plan ℕ)
  cut_branch NoBranch n card = None
  cut_branch (Branch cards told later) n card = if has_card cards card then Some (cut told (child n card)) else cut_branch later n card
