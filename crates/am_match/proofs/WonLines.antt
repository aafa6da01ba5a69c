-- Lines that follow a plan make what it wins.
use Rattle.std.proofs.Common.{◌≡◌, ◌==◌, ℕ, suc, Bool, true, false, List, [], ◌∷◌, Contains, refl, arith}
use Rattle.std.proofs.lemmas.Bool.{eqb-true}
use Rattle.card_sets.specs.SetWords.{has_card}
use Rattle.card_sets.proofs.SetCounts.{has_card-length}
use Rattle.trick_rules.specs.Positions.{State, IsState, to_play, tricks_left}
use Rattle.trick_rules.specs.Play.{legal_in, after, hand_of, is_over}
use Rattle.trick_rules.specs.Nodes.{NodeValue, IsNode, states}
use Rattle.trick_rules.proofs.PlayLaws as play
use Rattle.strategy_games.specs.Plans.{Plan, Fits, wins}
use Rattle.strategy_tree.specs.Bridge.{bridge}
use Rattle.strategy_check.specs.Following.{CanFollow}
use Rattle.strategy_check.proofs.Followed.{followed_state}
use Rattle.am_match.specs.Defences.{Sitter}
use Rattle.am_match.specs.PlayOuts.{plan_after, state_after, GoesOn, Follows}
use Rattle.am_match.proofs.OneCard.{follow_next, win_next, made_at_the_end}

-- where a card may be played, play isn't over
pub going_on : (s : State) (card : ℕ) → IsState s → has_card (legal_in s) card ≡ true → is_over s.position ≡ false
going_on s card state legal = go (is_over s.position) refl
  where
    none_left : tricks_left s.position ≡ 0 → ⊥
    none_left none = omega (arith, play.hands_have_one_length s (to_play s.position) state, has_card-length (hand_of s (to_play s.position)) card (play.a_legal_card_is_held s card legal))

    go : (b : Bool) → is_over s.position ≡ b → b ≡ false
    go false is = refl
    go true is = absurd (none_left (eqb-true (tricks_left s.position) 0 is))

line_is_made : (plan : Plan ℕ) (s : State) (tables : ℕ → List Sitter) (number : ℕ) (cards : List ℕ) → CanFollow plan s
    → GoesOn plan s tables number cards → is_over (state_after s cards).position ≡ true → wins bridge plan s ≡ true
    → ((state_after s cards).position.need == 0) ≡ true
line_is_made plan s tables number [] follow goes over won = made_at_the_end plan s follow over won
line_is_made plan s tables number (card ∷ cards) follow goes over won =
    line_is_made (plan_after plan card) (after s card) tables (suc number) cards
    (follow_next plan s (tables number) card follow goes.0) goes.1 over
    (win_next plan s (tables number) card follow (going_on s card (followed_state plan s follow) goes.0.legal) goes.0 won)

pub what_is_won_is_made : (plan : Plan ℕ) (n : NodeValue) (moves : ℕ) (s : State) (tables : ℕ → List Sitter) (cards : List ℕ)
    → IsNode n → Fits bridge plan n moves → Contains (states n) s → wins bridge plan s ≡ true → Follows plan s tables cards
    → (state_after s cards).position.need ≡ 0
what_is_won_is_made plan n moves s tables cards sound fits among won follows =
    let follow : CanFollow plan s = record { node = n; moves = moves; sound = sound; among = among; fits = fits } in
    eqb-true (state_after s cards).position.need 0 (line_is_made plan s tables 1 cards follow follows.each follows.ended won)
