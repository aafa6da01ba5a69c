use Rattle.std.proofs.Common.{◌≡◌, ◌-◌, ◌^◌, ◌<◌}
use Rattle.vector_words.proofs.Horner.{tail_of}
use Rattle.vector_words.proofs.words.word_from.Given as goal

abbrev pub invariant-loop-step : goal.invariant-loop-step
invariant-loop-step l = record { so_far : l.word ≡ tail_of l.vector l.start (64 - l.step) l.step; fits : l.word < 2 ^ l.step }
