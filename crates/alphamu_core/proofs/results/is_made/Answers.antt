use Rattle.std.proofs.Common.{◌≡◌, ◌∙◌, ap, sym}
use Rattle.trick_rules.specs.Play.{makes}
use Rattle.trick_rules.specs.Positions.{PositionValue}
use Rattle.trick_rules.specs.Nodes.{NodeValue}
use Rattle.alphamu_core.proofs.Judging.{made_there}
use Rattle.alphamu_core.proofs.results.is_made.Goals as goal

pub returns : goal.returns
returns c =
    let n : NodeValue = c.args.node.now in
    let there = made_there n.position n.lefts c.args.place c.left.result c.requires c.left.ensures in
    let same : c.makes.result ≡ makes (record { position = n.position; left = c.left.result }) = c.makes.ensures.answer ∙ ap (λ (t : PositionValue). makes (record { position = t; left = c.left.result })) c.position.ensures.value in
    same ∙ sym there
