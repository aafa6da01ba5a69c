use Rattle.std.proofs.Common.{◌≡◌, ◌++◌, take}
use Rattle.card_letters.specs.Letters.{letters_of}
use Rattle.am_report.specs.Lines.{spaced}
use Rattle.am_report.proofs.played.push_card_line.Given as goal

abbrev pub invariant-loop-place : goal.invariant-loop-place
invariant-loop-place l = l.text ≡ l.initial.text ++ spaced letters_of (take l.place l.cards)
