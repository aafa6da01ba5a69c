use Rattle.std.proofs.Common.{◌≡◌, ◌∙◌, length, refl, sym}
use Rattle.std.proofs.lemmas.Bool.{not-true, eqb-true}
use Rattle.assured_fronts.proofs.Leaves.{goes_on}
use Rattle.assured_fronts.proofs.MadeLayouts.{made_after, made_after_one}
use Rattle.trick_rules.specs.Nodes.{child}
use Rattle.assured_fronts.proofs.search.is_made_after_each.Goals as goal

pub returns-then-not-is_ours : goal.returns-then-not-is_ours
returns-then-not-is_ours c known card among =
    made_after c.args.node.now card c.width-width.ensures.a_node (goes_on c.args.node.now c.requires.goes_on).0 (sym c.is_ours.ensures ∙ not-true c.is_ours.result known) (child c.args.node.now card) refl c.requires.made

pub returns-else-not-is_ours : goal.returns-else-not-is_ours
returns-else-not-is_ours c known card among =
    let one : length c.args.cards ≡ 1 = sym c.count.ensures.value ∙ eqb-true c.count.result 1 known in
    made_after_one c.args.node.now c.args.cards card c.width-width.ensures.a_node (goes_on c.args.node.now c.requires.goes_on).0 (sym c.is_ours.ensures ∙ c.if-not-is_ours.false) c.requires.enough one among c.requires.made
