use Rattle.std.proofs.Common.{sym, ap, ◌∙◌}
use Rattle.std.specs.Prelude.{◌==◌}
use Rattle.pbn_deal.proofs.Suits.{has_four_suits-shown}
use Rattle.pbn_deal.proofs.hands.has_four_suits.Goals as goal

pub returns-else-is_hidden : goal.returns-else-is_hidden
returns-else-is_hidden c = ap (λ n. n == 3) c.count_full_stops.ensures ∙ has_four_suits-shown c.args.hand.now (sym c.is_hidden.ensures ∙ c.if-is_hidden.false)
