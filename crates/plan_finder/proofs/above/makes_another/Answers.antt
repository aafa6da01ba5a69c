use Rattle.std.proofs.Common.{◌≡◌, ◌∙◌, ◌<◌, Some, true, length, ap, sym, true≢false, arith}
use Rattle.trick_rules.specs.Play.{makes}
use Rattle.trick_rules.specs.Positions.{PositionValue}
use Rattle.trick_rules.specs.Nodes.{NodeValue}
use Rattle.alphamu_core.proofs.Judging.{made_there, bit_at}
use Rattle.plan_finder.proofs.above.makes_another.Goals as goal

pub returns-then-get : goal.returns-then-get
returns-then-get c = λ none there.
    let low : c.args.place < length c.args.vector.now = omega (arith, c.requires.within, c.requires.width) in
    bit_at c.args.vector.now c.args.place true low (c.get.ensures ∙ ap (λ b. Some b) c.if-get.true)

pub returns : goal.returns
returns c = λ none there.
    let n : NodeValue = c.args.node.now in
    let here = made_there n.position n.lefts c.args.place c.left.result c.requires.within c.left.ensures in
    let same : c.makes.result ≡ makes (record { position = n.position; left = c.left.result }) = c.makes.ensures.answer ∙ ap (λ (t : PositionValue). makes (record { position = t; left = c.left.result })) c.position.ensures.value in
    absurd (true≢false (sym there ∙ here ∙ sym same ∙ none))
