use Rattle.std.proofs.Common.{Some, rules}
use Rattle.std.proofs.lemmas.List.Elements.{All-set}
use Rattle.set_memo.specs.Kept.{IsTrueOf, IsTrueSlot}
use Rattle.set_memo.proofs.memo.SetMemo.offer.Goals as goal

pub invariant_of-self : goal.invariant_of-self
invariant_of-self c =
    let told : IsTrueOf c.self.inside.layouts.items c.of_verdict-kept.result = c.of_verdict-kept.ensures c.self.inside.layouts.items (search rules) (search rules) in
    All-set (IsTrueSlot c.self.inside.layouts.items) c.self.inside.slots.items c.place_for-place.result (Some c.of_verdict-kept.result) told c.self.invariant
