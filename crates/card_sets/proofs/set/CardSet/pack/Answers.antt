use Rattle.std.proofs.Common.{refl}
use Rattle.bit_lists.specs.Bits.{places, below}
use Rattle.card_sets.specs.SetWords.{cards_where}
use Rattle.card_sets.proofs.Words.{IsCardSet-places}
use Rattle.card_sets.proofs.set.CardSet.pack.Goals as goal

pub returns-clause-value : goal.returns-clause-value
unfolding places below cards_where
returns-clause-value c = refl

pub returns-clause-a_set : goal.returns-clause-a_set
returns-clause-a_set c = IsCardSet-places _
