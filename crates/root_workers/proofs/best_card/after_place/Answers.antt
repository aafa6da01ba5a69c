use Rattle.root_workers.proofs.KnownCards.{known_end}
use Rattle.root_workers.proofs.Seen.{seen_more}
use Rattle.root_workers.proofs.best_card.after_place.Goals as goal

pub raced-requires-clause-at : goal.raced-requires-clause-at
raced-requires-clause-at g c = λ κs outlives. record {
  card = c.requires.at.card;
  won = λ v among. c.requires.at.won.reached v among;
  width = c.requires.at.width;
}

pub returns-in-Some-clause-end : goal.returns-in-Some-clause-end
returns-in-Some-clause-end g c =
    known_end c.args.round.now c.args.at.now c.requires.at c.in-Some.known c.result.result c.in-Some.ensures.known c.result.ensures.known c.result.ensures.spent

pub returns-in-Some-raced-clause-end : goal.returns-in-Some-raced-clause-end
returns-in-Some-raced-clause-end g c =
    known_end c.args.round.now c.args.at.now c.requires.at c.in-Some-raced.known c.result-in-Some-raced.result c.in-Some-raced.ensures.known c.result-in-Some-raced.ensures.known c.result-in-Some-raced.ensures.spent

pub returns-clause-grown : goal.returns-clause-grown
returns-clause-grown g c = seen_more c.args.pass.now c.raced.new.pass c.search_alone.new.pass c.raced.ensures.grown c.search_alone.ensures.grown
