-- The places of a step, looked at one after another.
use Rattle.std.specs.Prelude.{ℕ, Bool, true, false, not, ◌&&◌, ◌||◌, List, [], ◌∷◌, map}
use Rattle.card_sets.specs.SetWords.{has_card}
use Rattle.trick_rules.specs.Positions.{State}
use Rattle.trick_rules.specs.Play.{legal_in, after, makes}
use Rattle.trick_rules.specs.Nodes.{NodeValue, states}
use Rattle.strategy_games.specs.Plans.{Plan, Replies, Stop, Play, Hear, NoReply, Reply, wins}
use Rattle.strategy_tree.specs.Bridge.{bridge}
use Rattle.told_layouts.specs.declared.steps.StepLayouts.{StepLayouts}

abbrev mutual
  -- whether the test holds at a place of the step
  pub somewhere : (Plan ℕ → State → Bool) → List (List ℕ) → Plan ℕ → State → Bool
  somewhere test [] plan s = test plan s
  somewhere test (set ∷ sets) Stop s = false
  somewhere test (set ∷ sets) (Play card rest) s = has_card set card && somewhere test sets rest (after s card)
  somewhere test (set ∷ sets) (Hear replies) s = somewhere_below test set sets replies s

  -- or below one of the replies
  pub somewhere_below : (Plan ℕ → State → Bool) → List ℕ → List (List ℕ) → Replies ℕ → State → Bool
  somewhere_below test set sets NoReply s = false
  somewhere_below test set sets (Reply card plan later) s =
      (has_card set card && has_card (legal_in s) card && somewhere test sets plan (after s card)) || somewhere_below test set sets later s

-- whether the rest of a plan loses
abbrev pub loses : Plan ℕ → State → Bool
loses plan s = not (wins bridge plan s)

-- whether it begins with a card that gives the layout up
abbrev pub gives_up : Plan ℕ → State → Bool
gives_up Stop s = false
gives_up (Play card rest) s = makes s && not (makes (after s card))
gives_up (Hear replies) s = false

-- whether the layout can reach the step and is won from there
abbrev pub is_won : List (List ℕ) → Plan ℕ → State → Bool
is_won sets plan s = somewhere (λ rest place. true) sets plan s && not (somewhere loses sets plan s)

-- the layouts behind the step after these sets, looked at one after another
unfoldable pub step_layouts : Plan ℕ → NodeValue → List (List ℕ) → StepLayouts
step_layouts plan n sets = record {
  won = map (λ s. is_won sets plan s) (states n);
  lost = map (λ s. somewhere loses sets plan s) (states n);
  given_up = map (λ s. somewhere gives_up sets plan s) (states n);
}

-- the layouts that can reach the step, looked at one after another
unfoldable pub reached : Plan ℕ → NodeValue → List (List ℕ) → List Bool
reached plan n sets = map (λ s. somewhere (λ rest place. true) sets plan s) (states n)
