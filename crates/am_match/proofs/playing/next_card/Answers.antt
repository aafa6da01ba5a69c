use Rattle.std.proofs.Common.{◌∙◌, sym, ap}
use Rattle.trick_rules.specs.Positions.{State}
use Rattle.trick_rules.specs.Play.{hand_of}
use Rattle.strategy_tree.specs.PlanMeaning.{plan_of}
use Rattle.strategy_check.proofs.Followed.{followed_state}
use Rattle.am_match.proofs.OneCard.{some_card_in_hand}
use Rattle.am_match.proofs.playing.next_card.Goals as goal

pub defenders_card-requires-clause-holds_cards : goal.defenders_card-requires-clause-holds_cards
defenders_card-requires-clause-holds_cards g c = λ none.
    let s : State = record { position = c.args.position.now; left = c.args.left } in
    some_card_in_hand s (followed_state (plan_of c.args.plan.now) s c.requires.follow) c.requires.going_on
    (sym (c.hand-hand.ensures ∙ ap (λ seat. hand_of s seat) c.to_play.ensures.value) ∙ none)
