use Rattle.std.proofs.Common.{◌++◌, ap, ◌∙◌, sym}
use Rattle.pbn_deal.specs.BoardRead.{together}
use Rattle.layout_maker.specs.Divisions.{hands_of_size, layout_with}
use Rattle.layout_maker.proofs.Hands.{map-map}
use Rattle.layout_maker.proofs.Adding.{layouts_of}
use Rattle.layout_maker.proofs.dividing.Choices.layouts.Goals as goal

pub returns : goal.returns
returns c =
    let hands = hands_of_size c.args.self.now.wanted c.args.self.now.free in
    c.in_ok-add_layouts.ensures ∙ ap (λ items. items ++ layouts_of c.args.unseen c.args.self.now.sure hands) c.new-layouts.ensures.items
    ∙ sym (map-map (layout_with c.args.unseen) (together c.args.self.now.sure) hands)
