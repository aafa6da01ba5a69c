use Rattle.std.proofs.Common.{sym}
use Rattle.trick_rules.specs.Positions.{State}
use Rattle.am_match.proofs.OneCard.{some_card_keeps}
use Rattle.am_match.proofs.following.keep_result.Goals as goal

pub unreachable-requires : goal.unreachable-requires
unreachable-requires c =
    let s : State = record { position = c.args.position.now; left = c.args.left } in
    some_card_keeps s c.requires.state c.requires.going_on (sym c.in_default.ensures)
