use Rattle.std.proofs.Common.{◌≡◌, ◌++◌, length, flat_map}
use Rattle.byte_text.specs.Blanks.{words}
use Rattle.page_text.specs.Steps.{word_pieces, sentence}
use Rattle.page_text.proofs.steps.push_sentence.Given as goal

-- what has been added, and the words of the text that is left
abbrev pub invariant-words : goal.invariant-words
invariant-words l = l.page ++ flat_map word_pieces (words l.rest) ≡ l.initial.page ++ sentence l.text

abbrev pub decreases-words : goal.decreases-words
decreases-words l = length (words l.rest)
