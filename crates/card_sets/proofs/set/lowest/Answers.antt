use Rattle.std.proofs.Common.{◌<◌, sym, ap, ◌∙◌, Some, arith}
use Rattle.bit_lists.specs.Bits.{places}
use Rattle.card_sets.specs.SetWords.{first_card}
use Rattle.card_sets.proofs.Words.{places-zero, lowest_within, first_card-places}
use Rattle.card_sets.proofs.set.lowest.Goals as goal

pub from_number-requires : goal.from_number-requires
from_number-requires c = lowest_within c.args.bits (let some : 0 < c.args.bits = omega arith in some) c.requires

pub returns-then-bits-eq0 : goal.returns-then-bits-eq0
returns-then-bits-eq0 c = sym (ap first_card (ap (places 52) c.if-bits-eq0.true ∙ places-zero))

pub returns-else-bits-eq0 : goal.returns-else-bits-eq0
returns-else-bits-eq0 c = ap Some c.from_number.ensures ∙ sym (first_card-places c.args.bits (let some : 0 < c.args.bits = omega arith in some) c.requires)
