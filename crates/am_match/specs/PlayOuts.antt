-- A play-out: declarer's side follows a strategy and then keeps the result of double dummy, and each
-- defender plays as its style allows.
use Rattle.std.specs.Prelude.{◌≡◌, ℕ, suc, true, false, ⊤, List, [], ◌∷◌, Option, Some, find, if◌then◌else◌, ◌==◌}
use Rattle.card_sets.specs.SetWords.{has_card, first_card}
use Rattle.trick_rules.specs.Positions.{State, to_play}
use Rattle.trick_rules.specs.Play.{legal_in, after, hand_of, is_declarers, is_over, makes}
use Rattle.strategy_games.specs.Plans.{Plan, Replies, Stop, Play, Hear, NoReply, Reply}
use Rattle.strategy_games.specs.Misfits.{or_else}
use Rattle.am_match.specs.Defences.{Sitter, at_seat, MayPlay}

-- the plan of the first reply to a card
abbrev pub reply_to : Replies ℕ → ℕ → Plan ℕ
reply_to NoReply card = Stop
reply_to (Reply c q rs) card = if c == card then q else reply_to rs card

-- what is left of a plan after a card; a plan that has stopped stays so
abbrev pub plan_after : Plan ℕ → ℕ → Plan ℕ
plan_after Stop card = Stop
plan_after (Play c q) card = q
plan_after (Hear rs) card = reply_to rs card

-- the first legal card after which double dummy makes, or if there is none the first legal card
abbrev pub keeping_card : State → Option ℕ
keeping_card s = or_else (find (λ c. makes (after s c)) (legal_in s)) (first_card (legal_in s))

-- declarer's side plays the card of the plan, and after the plan has stopped the card that keeps the result
abbrev pub IsByPlan : Plan ℕ → State → ℕ → Type 0
IsByPlan Stop s card = keeping_card s ≡ Some card
IsByPlan (Play c q) s card = card ≡ c
IsByPlan (Hear rs) s card = keeping_card s ≡ Some card

-- a legal card that declarer's side plays by the plan, or a defender as its style allows
pub record IsNext (plan : Plan ℕ) (s : State) (table : List Sitter) (card : ℕ) : Type 0 where
  pub legal : has_card (legal_in s) card ≡ true
  pub ours : is_declarers (to_play s.position) ≡ true → IsByPlan plan s card
  pub theirs : is_declarers (to_play s.position) ≡ false → (who : Sitter)
      → at_seat table (to_play s.position) ≡ Some who
      → MayPlay who.style s.position (hand_of s (to_play s.position)) card

-- the state after cards in their order
abbrev pub state_after : State → List ℕ → State
state_after s [] = s
state_after s (card ∷ cards) = state_after (after s card) cards

-- each card is the next one, the first of them the card of this number
abbrev pub GoesOn : Plan ℕ → State → (ℕ → List Sitter) → ℕ → List ℕ → Type 0
GoesOn plan s tables number [] = ⊤
GoesOn plan s tables number (card ∷ cards) = IsNext plan s (tables number) card
    × GoesOn (plan_after plan card) (after s card) tables (suc number) cards

-- cards from a state to the end by a plan, where `tables` has those who sit as the card of each
-- number is played
pub record Follows (plan : Plan ℕ) (s : State) (tables : ℕ → List Sitter) (cards : List ℕ) : Type 0 where
  pub each : GoesOn plan s tables 1 cards
  pub ended : is_over (state_after s cards).position ≡ true
