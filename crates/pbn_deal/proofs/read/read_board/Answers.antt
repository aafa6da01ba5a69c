use Rattle.std.proofs.Common.{subst}
use Rattle.pbn_deal.specs.Boards.{BoardValue, IsDealt}
use Rattle.pbn_deal.proofs.PlaySound.{played_board}
use Rattle.pbn_deal.proofs.read.read_board.Goals as goal

pub with_plays-requires : goal.with_plays-requires
with_plays-requires c =
    played_board c.args.game.now c.in_ok-board.board c.in_ok-plays.plays.items (subst (λ (b : BoardValue). IsDealt b) c.board.view_is c.board.invariant.dealt) c.in_ok-plays.ensures
