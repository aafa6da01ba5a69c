use Rattle.std.proofs.Common.{◌≡◌, ◌≤◌, ℕ, true, List, [], map, All, length}
use Rattle.std.specs.Prelude.{is_some}
use Rattle.card_sets.specs.SetWords.{has_card}
use Rattle.strategy_tree.specs.PlanMeaning.{plan_of, replies_of}
use Rattle.strategy_tree.specs.PlanText.{levels_of, levels_below}
use Rattle.told_plans.specs.Follows.{answer_to}
use Rattle.told_plans.specs.Told.{Group, HaveJoined, answered}
use Rattle.told_plans.specs.ToldMeaning.{group_of}
use Rattle.told_plans.proofs.grouping.grouped.Given as goal

abbrev pub invariant-cards : goal.invariant-cards
invariant-cards l = record {
  answers : (card : ℕ) → has_card l.cards card ≡ true → is_some (answer_to (replies_of l.replies) card) ≡ true;
  so_far : (after : List Group) → HaveJoined (replies_of l.replies) l.cards (map group_of l.groups.items) after → HaveJoined (replies_of l.replies) (answered (replies_of l.replies)) [] after;
  levels : All (λ group. levels_of (plan_of group.plan) ≤ levels_below (replies_of l.replies)) l.groups.items;
}

abbrev pub decreases-cards : goal.decreases-cards
decreases-cards l = length l.cards
