use Rattle.std.proofs.Common.{◌≡◌, ℕ, drop}
use Rattle.std.specs.Prelude.{◌||◌, is_some}
use Rattle.card_sets.specs.SetWords.{has_card, IsCardSet}
use Rattle.strategy_tree.specs.PlanMeaning.{replies_of}
use Rattle.told_plans.specs.Follows.{answer_to}
use Rattle.told_plans.proofs.answers.answered.Given as goal

-- the cards so far, and those of the replies left
abbrev pub invariant-loop-reply : goal.invariant-loop-reply
invariant-loop-reply l = record {
  a_set : IsCardSet l.cards;
  each : (card : ℕ) → (has_card l.cards card || is_some (answer_to (replies_of (drop l.reply-index l.replies)) card)) ≡ is_some (answer_to (replies_of l.replies) card);
}
