use Rattle.trick_rules.specs.Positions.{State}
use Rattle.trick_rules.proofs.PlayLaws as play
use Rattle.strategy_tree.specs.PlanMeaning.{plan_of}
use Rattle.strategy_check.proofs.Followed.{followed_state}
use Rattle.am_match.proofs.OneCard.{replied_to}
use Rattle.line_plays.proofs.OneDefence.{follow_theirs}
use Rattle.line_plays.proofs.defending.loses_after.Goals as goal

pub rest_after-rest-requires : goal.rest_after-rest-requires
rest_after-rest-requires c = λ replies is.
    replied_to (plan_of c.args.plan.now) (record { position = c.args.position.now; left = c.args.left }) c.args.card c.requires.follow c.requires.legal replies is

pub play-requires : goal.play-requires
play-requires c =
    let s : State = record { position = c.args.position.now; left = c.args.left } in
    play.a_legal_card_can_be_played s c.args.card (followed_state (plan_of c.args.plan.now) s c.requires.follow) c.requires.legal

pub wins_by-requires : goal.wins_by-requires
wins_by-requires c =
    let s : State = record { position = c.args.position.now; left = c.args.left } in
    rw (c.rest_after-rest.ensures, c.play.ensures.value, c.without.ensures.value) (follow_theirs (plan_of c.args.plan.now) s c.args.card c.requires.follow c.requires.theirs c.requires.legal)
