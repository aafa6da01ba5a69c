use Rattle.page_text.proofs.Histories.{card_added, card_played, all_added, all_played}
use Rattle.page_text.proofs.partings.push_history.Goals as goal

pub loop-card-preserved : goal.loop-card-preserved
loop-card-preserved c = record {
  short = c.in_ok-push_one_card.ensures.short;
  added = card_added c.args.declarer c.args.trump c.loop-card.trick c.push_one_card.new.trick c.args.cards.now c.loop-card.card-index c.card-item.result c.loop-card.page c.push_one_card.new.page _ c.loop-card-test.true c.card-item.is
      c.in_ok-push_one_card.ensures.card c.in_ok-push_one_card.ensures.trick c.loop-card.invariant.added;
  played = card_played c.args.trump c.loop-card.trick c.push_one_card.new.trick c.args.cards.now c.loop-card.card-index c.card-item.result _ c.loop-card-test.true c.card-item.is c.in_ok-push_one_card.ensures.trick c.loop-card.invariant.played;
}

pub returns-clause-cards : goal.returns-clause-cards
returns-clause-cards c = all_added c.args.declarer c.args.trump c.loop-card.trick c.args.cards.now c.loop-card.card-index c.loop-card.page _ c.loop-card-test.false c.loop-card.invariant.added

pub returns-clause-trick : goal.returns-clause-trick
returns-clause-trick c = all_played c.args.trump c.loop-card.trick c.args.cards.now c.loop-card.card-index _ c.loop-card-test.false c.loop-card.invariant.played
