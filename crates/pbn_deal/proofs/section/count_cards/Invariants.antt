use Rattle.std.proofs.Common.{◌≡◌, ◌+◌, ◌≤◌, drop}
use Rattle.std.specs.Prelude.{count_by}
use Rattle.pbn_deal.specs.Sections.{is_card, before_end}
use Rattle.pbn_deal.proofs.section.count_cards.Given as goal

-- the cards so far and those of the tokens left
abbrev pub invariant-loop-token : goal.invariant-loop-token
invariant-loop-token l = record {
  fits : l.count ≤ l.token-index;
  counted : l.count + count_by is_card (before_end (drop l.token-index l.tokens)) ≡ count_by is_card (before_end l.tokens);
}
