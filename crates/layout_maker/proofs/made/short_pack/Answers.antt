use Rattle.std.proofs.Common.{◌∙◌, arith}
use Rattle.std.proofs.lemmas.List.FromFn.{fill_by_all}
use Rattle.layout_maker.proofs.MadePacks.{short_card, short_pack-places}
use Rattle.layout_maker.proofs.made.short_pack.Goals as goal

pub returns : goal.returns
returns c = fill_by_all short_card c.loop-place.card-items 20 0 c.loop-place.invariant.twenty (λ k inside. c.loop-place.invariant.each k (omega arith)) ∙ short_pack-places
