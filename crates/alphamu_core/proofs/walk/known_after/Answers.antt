use Rattle.std.proofs.Common.{◌≡◌, ◌∙◌, length, sym}
use Rattle.alphamu_core.proofs.Inherited.{known_ours, only_one}
use Rattle.alphamu_core.proofs.walk.known_after.Goals as goal

pub returns-then-count-eq1 : goal.returns-then-count-eq1
returns-then-count-eq1 c card tried =
    let one : length c.args.cards ≡ 1 = sym c.count.ensures.value ∙ c.if-count-eq1.true in
    known_ours c.args.question.now.node.now c.width-width.ensures.a_node c.requires.open_result c.requires.ours c.args.cards card c.requires.enough tried
    (λ other among. only_one c.args.cards one card other tried among) c.args.question.now.known c.requires.known
