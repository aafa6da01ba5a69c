use Rattle.std.proofs.Common.{◌≡◌, find, length, not}
use Rattle.card_sets.specs.SetWords.{IsSubset}
use Rattle.trick_rules.specs.Positions.{State}
use Rattle.trick_rules.specs.Play.{legal_in, after}
use Rattle.strategy_games.specs.Plans.{wins}
use Rattle.strategy_tree.specs.Bridge.{bridge}
use Rattle.strategy_tree.specs.PlanMeaning.{plan_of}
use Rattle.am_match.specs.PlayOuts.{plan_after}
use Rattle.line_plays.proofs.defending.beating_card.Given as goal

abbrev pub invariant-loop-card : goal.invariant-loop-card
invariant-loop-card l =
    let s : State = record { position = l.position; left = l.left } in
    record {
      legal : IsSubset l.cards (legal_in s);
      same : find (λ c. not (wins bridge (plan_after (plan_of l.plan) c) (after s c))) (legal_in s)
          ≡ find (λ c. not (wins bridge (plan_after (plan_of l.plan) c) (after s c))) l.cards;
    }

abbrev pub decreases-loop-card : goal.decreases-loop-card
decreases-loop-card l = length l.cards
