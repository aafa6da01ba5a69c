use Rattle.std.proofs.Common.{◌≡◌, ◌≤◌, ◌+◌, ◌*◌, ℕ, true, false, None, max, length}
use Rattle.std.specs.Prelude.{◌||◌, is_some}
use Rattle.card_sets.specs.SetWords.{has_card}
use Rattle.strategy_tree.specs.PlanMeaning.{plan_of, replies_of}
use Rattle.strategy_tree.specs.PlanText.{levels_of, levels_below}
use Rattle.told_plans.specs.Follows.{answer_to}
use Rattle.told_plans.specs.BothSteps.{IsBothAfter}
use Rattle.told_plans.proofs.merging.+both.Given as goal

abbrev pub decreases-both : goal.decreases-both
decreases-both l = 4 * levels_of (plan_of l.plan.now)

abbrev pub decreases-both_play : goal.decreases-both_play
decreases-both_play l = 4 * levels_of (plan_of l.rest.now) + 1

abbrev pub decreases-both_hear : goal.decreases-both_hear
decreases-both_hear l = 4 * levels_below (replies_of l.replies.now) + 3

abbrev pub decreases-both_replies : goal.decreases-both_replies
decreases-both_replies l = 4 * levels_below (replies_of l.replies.now) + 2

abbrev pub decreases-both_answers : goal.decreases-both_answers
decreases-both_answers l = 4 * levels_below (replies_of l.replies.now) + 1

abbrev pub invariant-both_replies-cards : goal.invariant-both_replies-cards
invariant-both_replies-cards l = record {
  answered : (card : ℕ) → has_card l.cards card ≡ true → (is_some (answer_to (replies_of l.replies) card) || is_some (answer_to (replies_of l.others) card)) ≡ true;
  left : (card : ℕ) → has_card l.cards card ≡ true → answer_to (replies_of l.all.items) card ≡ None;
  done : (card : ℕ) → has_card l.cards card ≡ false → IsBothAfter (answer_to (replies_of l.replies) card) (answer_to (replies_of l.others) card) (answer_to (replies_of l.all.items) card);
  levels : levels_below (replies_of l.all.items) ≤ max (levels_below (replies_of l.replies)) (levels_below (replies_of l.others));
}

abbrev pub decreases-both_replies-cards : goal.decreases-both_replies-cards
decreases-both_replies-cards l = length l.cards
