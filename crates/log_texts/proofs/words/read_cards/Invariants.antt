use Rattle.std.proofs.Common.{◌≡◌, ◌≤◌, ◌+◌, length}
use Rattle.std.specs.Option.{option_map}
use Rattle.strategy_tree.specs.PlanRead.{card_named}
use Rattle.log_texts.specs.Reading.{pieces_at, all_said}
use Rattle.log_texts.proofs.Cut.{pieces_left, size_left}
use Rattle.log_texts.proofs.SaidPieces.{said_after}
use Rattle.log_texts.proofs.words.read_cards.Given as goal

abbrev pub invariant-cards : goal.invariant-cards
invariant-cards l = record {
  few : length l.path ≤ 52;
  counted : length l.path + length (pieces_left 46 (option_map (λ text. text.now) l.rest)) ≡ length (pieces_at 46 l.word);
  so_far : all_said card_named (pieces_at 46 l.word) ≡ said_after l.path (all_said card_named (pieces_left 46 (option_map (λ text. text.now) l.rest)));
}

abbrev pub decreases-cards : goal.decreases-cards
decreases-cards l = size_left (option_map (λ text. text.now) l.rest)
