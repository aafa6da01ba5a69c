use Rattle.std.proofs.Common.{◌∷◌, sym, subst, ◌∙◌}
use Rattle.win_vectors.specs.Fronts.{IsReduced}
use Rattle.assured_fronts.proofs.Leaves.{made_wide}
use Rattle.assured_fronts.proofs.MadeLayouts.{at_settled}
use Rattle.assured_fronts.proofs.ends.settled.Goals as goal

pub returns : goal.returns
returns c = record {
  width = c.in_ok-insert.ensures.width ∙ c.new-front.ensures.width ∙ c.width.ensures.value;
  front = at_settled c.args.node.now c.args.moves c.args.made c.insert.new.self.vectors c.width.ensures.a_node c.requires.made c.requires.settled
      (subst (λ old. IsReduced (c.args.made ∷ old) c.insert.new.self.vectors) c.new-front.ensures.empty c.in_ok-insert.ensures.ok);
}

pub insert-requires : goal.insert-requires
insert-requires c = made_wide c.args.node.now c.args.made c.requires.made ∙ sym (c.new-front.ensures.width ∙ c.width.ensures.value)
