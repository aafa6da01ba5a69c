use Rattle.std.proofs.Common.{◌∙◌, ◌++◌, ap}
use Rattle.page_text.specs.Refutations.{given_with}
use Rattle.page_text.proofs.Grown.{place_more}
use Rattle.page_text.proofs.refutations.push_each_given.Goals as goal

pub loop-number-preserved : goal.loop-number-preserved
loop-number-preserved c =
    let refuted = c.args.refuted.now in
    place_more (given_with refuted) c.args.page.now c.loop-number.page c.push_given_with.new.page c.loop-number.number c.loop-number.invariant
    (c.in_ok-push_given_with.ensures ∙ ap (λ card. c.loop-number.page ++ given_with refuted card) c.from_number.ensures)
