use Rattle.std.proofs.Common.{◌∙◌, take}
use Rattle.trick_rules.specs.Nodes.{choices}
use Rattle.root_workers.proofs.CardPlaces.{none_won}
use Rattle.root_workers.proofs.round_work.RoundWorkWork.work_at.Goals as goal

pub known_after-known-requires-clause-at : goal.known_after-known-requires-clause-at
known_after-known-requires-clause-at g c = record {
  card = c.in-Some.ensures;
  won = none_won c.args.self.now.task.now.round.now (take c.args.place (choices c.args.self.now.task.now.round.now.node.now)) c.new.result.vectors c.new.ensures.empty;
  width = c.new.ensures.width ∙ c.width.ensures.value;
}
