use Rattle.std.proofs.Common.{◌∷◌, subst, ◌∙◌}
use Rattle.win_vectors.specs.Fronts.{IsReduced}
use Rattle.plain_fronts.proofs.CardByCard.{at_stop}
use Rattle.plain_fronts.proofs.plain.front_at_stop.Goals as goal

pub returns : goal.returns
returns c = record {
  width = c.in_ok-insert.ensures.width ∙ c.new-front.ensures.width ∙ c.width.ensures.value;
  front = at_stop c.args.node.now c.args.moves c.plain_results.result c.insert.new.self.vectors c.requires c.plain_results.ensures
      (subst (λ old. IsReduced (c.plain_results.result ∷ old) c.insert.new.self.vectors) c.new-front.ensures.empty c.in_ok-insert.ensures.ok);
}
