use Rattle.std.proofs.Common.{sym, subst}
use Rattle.alphamu_core.specs.Kept.{IsTaken}
use Rattle.alphamu_core.proofs.Taken.{taken_out}
use Rattle.set_search.proofs.card_order.take_widest.Goals as goal

pub returns : goal.returns
returns c = record {
  taken = subst (λ rest. IsTaken c.args.cards.now c.going_first-card.result rest) (sym c.without.ensures.value) (taken_out c.args.cards.now c.going_first-card.result c.last.ensures.a_set c.going_first-card.ensures);
}
