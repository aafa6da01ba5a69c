-- A line of play that grows card by card.
use Rattle.std.proofs.Common.{◌≡◌, ℕ, suc, ◌+◌, List, [], ◌∷◌, ◌++◌, length, refl, subst, arith}
use Rattle.trick_rules.specs.Positions.{State}
use Rattle.trick_rules.specs.Play.{after}
use Rattle.strategy_games.specs.Plans.{Plan}
use Rattle.am_match.specs.Defences.{Sitter}
use Rattle.am_match.specs.PlayOuts.{plan_after, IsNext, state_after, GoesOn}

-- what is left of a plan after cards in their order
abbrev pub plan_left : Plan ℕ → List ℕ → Plan ℕ
plan_left plan [] = plan
plan_left plan (card ∷ cards) = plan_left (plan_after plan card) cards

pub plan_left-push : (plan : Plan ℕ) (cards : List ℕ) (card : ℕ) → plan_left plan (cards ++ card ∷ []) ≡ plan_after (plan_left plan cards) card
plan_left-push plan [] card = refl
plan_left-push plan (c ∷ cards) card = plan_left-push (plan_after plan c) cards card

pub state_after-push : (s : State) (cards : List ℕ) (card : ℕ) → state_after s (cards ++ card ∷ []) ≡ after (state_after s cards) card
state_after-push s [] card = refl
state_after-push s (c ∷ cards) card = state_after-push (after s c) cards card

pub GoesOn-push : (plan : Plan ℕ) (s : State) (tables : ℕ → List Sitter) (number : ℕ) (cards : List ℕ) (card : ℕ)
    → GoesOn plan s tables number cards → IsNext (plan_left plan cards) (state_after s cards) (tables (number + length cards)) card
    → GoesOn plan s tables number (cards ++ card ∷ [])
GoesOn-push plan s tables number [] card goes next = (subst (λ (k : ℕ). IsNext plan s (tables k) card) here next, tt)
  where
    here : number + 0 ≡ number
    here = omega arith
GoesOn-push plan s tables number (c ∷ cards) card goes next = (
  goes.0,
  GoesOn-push (plan_after plan c) (after s c) tables (suc number) cards card goes.1
      (subst (λ (k : ℕ). IsNext (plan_left (plan_after plan c) cards) (state_after (after s c) cards) (tables k) card) there next),
)
  where
    there : number + suc (length cards) ≡ suc number + length cards
    there = omega arith
