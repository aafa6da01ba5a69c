use Rattle.std.proofs.Common.{◌≡◌, ◌++◌, flat_map, codes, take}
use Rattle.card_letters.specs.Letters.{letters_of}
use Rattle.am_report.proofs.head.push_cards.Given as goal

abbrev pub invariant-loop-card : goal.invariant-loop-card
invariant-loop-card l = l.text ≡ l.initial.text ++ flat_map (λ c. codes " " ++ letters_of c) (take l.card-index l.rest)
