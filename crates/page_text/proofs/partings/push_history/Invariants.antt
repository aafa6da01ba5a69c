use Rattle.std.proofs.Common.{◌≡◌, ◌<◌, ◌++◌, length, drop}
use Rattle.page_text.specs.Partings.{history, trick_after}
use Rattle.page_text.proofs.partings.push_history.Given as goal

-- what has been added, and the cards that are left
abbrev pub invariant-loop-card : goal.invariant-loop-card
invariant-loop-card l = record {
  short : length l.trick.cards < 4;
  added : l.page ++ history l.declarer l.trump l.trick (drop l.card-index l.cards) ≡ l.initial.page ++ history l.declarer l.trump l.initial.trick l.cards;
  played : trick_after l.trump l.trick (drop l.card-index l.cards) ≡ trick_after l.trump l.initial.trick l.cards;
}
