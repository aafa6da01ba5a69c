use Rattle.std.proofs.Common.{arith}
use Rattle.std.proofs.lemmas.Bool.{ltb-true, lt-ltb}
use Rattle.board_decisions.proofs.TwoCards.{two_from_count, count_from_two}
use Rattle.board_decisions.proofs.moments.has_two_cards.Goals as goal

pub returns : goal.returns
returns c =
    let n = c.args.node.now in
    let kept = c.one_of_equals.result in
    let size = c.count.ensures.value in (
      λ more. two_from_count n kept c.count.ensures.a_set c.one_of_equals.ensures.lowest (omega (arith, size, ltb-true 1 c.count.result more)),
      λ two. lt-ltb 1 c.count.result (omega (arith, size, count_from_two n kept c.one_of_equals.ensures.lowest two)),
    )
