use Rattle.std.proofs.Common.{ap, ◌++◌, ◌∙◌}
use Rattle.card_letters.specs.Letters.{letters_of}
use Rattle.am_report.proofs.Grown.{item_more}
use Rattle.am_report.proofs.played.push_card_line.Goals as goal

pub loop-place-preserved : goal.loop-place-preserved
loop-place-preserved c =
    item_more letters_of c.args.text.now c.loop-place.text c.push_space.new.text c.push.new.self c.args.cards.now c.loop-place.place c.get.result c.get.ensures c.loop-place.invariant
    c.in_ok-push_space.ensures (c.in_ok-push.ensures.appended ∙ ap (λ letters. c.push_space.new.text ++ letters) c.letters_of.ensures)
