use Rattle.pbn_games.proofs.LastRow.{four_cards}
use Rattle.pbn_games.proofs.rows.four_of.Goals as goal

pub returns : goal.returns
returns c =
    four_cards c.args.cards.now c.index-cards-0.result c.index-cards-1.result c.index-cards-2.result c.index-cards-3.result
    c.requires c.index-cards-0.is c.index-cards-1.is c.index-cards-2.is c.index-cards-3.is
