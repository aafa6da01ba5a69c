use Rattle.std.proofs.Common.{◌≡◌, drop}
use Rattle.std.specs.Prelude.{count_by}
use Rattle.pbn_deal.specs.Sections.{is_card, before_end, section_read, prepend}
use Rattle.pbn_deal.proofs.section.read_section.Given as goal

-- the entries so far come before those of the tokens left
abbrev pub invariant-loop-token : goal.invariant-loop-token
invariant-loop-token l = record {
  cards : l.cards_left ≡ count_by is_card (before_end (drop l.token-index l.tokens));
  read : section_read l.tokens ≡ prepend l.entries.items (section_read (drop l.token-index l.tokens));
}
