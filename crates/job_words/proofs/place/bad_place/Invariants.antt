use Rattle.std.proofs.Common.{◌≡◌, take, drop}
use Rattle.job_words.specs.Asks.{texts_of}
use Rattle.job_words.specs.Words.{bad_place, bad_place_after}
use Rattle.job_words.proofs.place.bad_place.Given as goal

abbrev pub invariant-loop-place : goal.invariant-loop-place
invariant-loop-place l =
    bad_place_after (texts_of (take l.place l.words)) (texts_of (drop l.place l.words)) ≡ bad_place (texts_of l.words)
