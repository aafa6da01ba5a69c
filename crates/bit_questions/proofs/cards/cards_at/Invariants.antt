use Rattle.std.proofs.Common.{◌≡◌}
use Rattle.card_sets.specs.SetWords.{IsCardSet}
use Rattle.bit_questions.proofs.Bits.{upto}
use Rattle.bit_questions.proofs.cards.cards_at.Given as goal

abbrev pub invariant-loop-number : goal.invariant-loop-number
invariant-loop-number l = record { cards : l.cards ≡ upto l.bits l.number; a_set : IsCardSet l.cards }
