use Rattle.std.proofs.Common.{◌≡◌, ◌++◌, drop}
use Rattle.pbn_plain.specs.PlainText.{escaped}
use Rattle.pbn_games.proofs.tags.push_escaped.Given as goal

abbrev pub invariant-loop-byte : goal.invariant-loop-byte
invariant-loop-byte l = l.text ++ escaped (drop l.byte-index l.characters) ≡ l.initial.text ++ escaped l.characters
