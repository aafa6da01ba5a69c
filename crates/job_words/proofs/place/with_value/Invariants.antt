use Rattle.std.proofs.Common.{◌≡◌, take}
use Rattle.job_words.specs.Asks.{texts_of}
use Rattle.job_words.proofs.place.with_value.Given as goal

abbrev pub invariant-loop-word : goal.invariant-loop-word
invariant-loop-word l = texts_of l.more.items ≡ texts_of (take l.word-index l.words)
