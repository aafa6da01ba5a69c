use Rattle.std.proofs.Common.{◌∷◌, subst, ◌∙◌}
use Rattle.win_vectors.specs.Fronts.{IsReduced}
use Rattle.plain_fronts.proofs.CardByCard.{at_stop}
use Rattle.log_maker.proofs.tree.leaf.Goals as goal

pub returns-clause-front : goal.returns-clause-front
returns-clause-front c = record {
  width = c.in_ok-insert.ensures.width ∙ c.new-front.ensures.width ∙ c.width.ensures.value;
  front = at_stop c.args.node.now c.args.moves c.results.result c.insert.new.self.vectors c.requires c.results.ensures
      (subst (λ old. IsReduced (c.results.result ∷ old) c.insert.new.self.vectors) c.new-front.ensures.empty c.in_ok-insert.ensures.ok);
}
