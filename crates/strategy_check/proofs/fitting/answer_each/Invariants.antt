use Rattle.std.proofs.Common.{◌≡◌, ◌==◌, drop}
use Rattle.strategy_games.specs.Plans.{cards_of}
use Rattle.strategy_games.specs.Misfits.{same_cards}
use Rattle.strategy_tree.specs.PlanMeaning.{replies_of}
use Rattle.strategy_check.proofs.fitting.answer_each.Given as goal

abbrev pub invariant-loop-reply : goal.invariant-loop-reply
invariant-loop-reply l = same_cards ◌==◌ (cards_of (replies_of l.replies)) l.fn.cards ≡ same_cards ◌==◌ (cards_of (replies_of (drop l.reply-index l.replies))) l.rest
