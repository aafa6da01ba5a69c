-- The entries of plain sampling, in card order.
use Rattle.std.proofs.Common.{◌≡◌, ℕ, ◌<◌, true, List, length, get_or}
use Rattle.card_sets.specs.SetWords.{has_card}
use Rattle.trick_rules.specs.Nodes.{NodeValue, choices}
use Rattle.strategy_tree.proofs.CardLists.{has_card-from_Contains}
use Rattle.fusion_base.specs.declared.table.CardVector.{CardVector}
use Rattle.fusion_base.specs.Sampling.{card_vectors}
use Rattle.fusion_base.proofs.Entries.{entry_member}

-- an entry's card can be played
pub entry_choice : (n : NodeValue) (table : List CardVector) (place : ℕ) (entry : CardVector) → table ≡ card_vectors n → place < length table → entry ≡ get_or table place entry → has_card (choices n) entry.card ≡ true
entry_choice n table place entry is inside same = has_card-from_Contains (choices n) entry.card (entry_member n table place entry is inside same)
