use Rattle.std.proofs.Common.{◌≡◌, take}
use Rattle.told_words.specs.Turns.{played_so}
use Rattle.told_words.proofs.turns.played_so.Given as goal

abbrev pub invariant-loop-place : goal.invariant-loop-place
invariant-loop-place l = l.so ≡ played_so l.seat l.manner l.cards (take l.place-index l.places)
