use Rattle.pbn_games.proofs.LastRow.{row_written}
use Rattle.pbn_games.proofs.rows.push_cards.Goals as goal

pub returns : goal.returns
returns c = row_written c.args.a c.args.b c.args.c c.args.d _ _ _ _ _ c.in_ok-push_card.ensures c.in_ok-push_card-2.ensures c.in_ok-push_card-3.ensures c.in_ok-push_card-4.ensures
