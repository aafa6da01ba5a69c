use Rattle.std.proofs.Common.{◌∙◌, sym}
use Rattle.strategy_tree.proofs.BridgeLaws as laws
use Rattle.strategy_tree.proofs.BridgeNodes.{mask-bridge}
use Rattle.strategy_tree.proofs.laws.enough_cards.Goals as goal

pub returns : goal.returns
returns c = record {
  cards = laws.enough_cards.cards;
  covering_cards = laws.enough_cards.covering_cards;
  equal_cards = laws.enough_cards.equal_cards;
  equal_replies = λ n moves cards front sound going theirs within equal.
      laws.enough_cards.equal_replies n moves cards front sound going theirs within (λ card choice.
      let kept = equal card choice in
      (kept.0, kept.1, mask-bridge n card ∙ kept.2 ∙ sym (mask-bridge n kept.0), kept.3));
}
