use Rattle.trick_rules.specs.Nodes.{choices}
use Rattle.root_workers.proofs.CardPlaces.{get_in}
use Rattle.root_workers.proofs.best_card.search_alone.Goals as goal

pub search_card-found-requires-clause-card : goal.search_card-found-requires-clause-card
search_card-found-requires-clause-card g c = get_in (choices c.args.round.now.node.now) c.args.at.now.place c.args.at.now.card c.requires.at.card
