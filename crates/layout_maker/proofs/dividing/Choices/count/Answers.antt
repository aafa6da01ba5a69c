use Rattle.std.proofs.Common.{ap, ◌∙◌, sym}
use Rattle.layout_maker.specs.Choosing.{ways}
use Rattle.layout_maker.proofs.Hands.{length-hands_of_size}
use Rattle.layout_maker.proofs.dividing.Choices.count.Goals as goal

pub returns : goal.returns
returns c = c.ways.ensures ∙ ap (λ n. ways n c.args.self.now.wanted) c.count.ensures.value ∙ sym (length-hands_of_size c.args.self.now.wanted c.args.self.now.free)
