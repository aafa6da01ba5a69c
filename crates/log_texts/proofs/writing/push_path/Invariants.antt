use Rattle.std.proofs.Common.{◌≡◌, ◌++◌, take}
use Rattle.card_letters.specs.Letters.{letters_of}
use Rattle.log_texts.specs.LogText.{apart}
use Rattle.log_texts.proofs.writing.push_path.Given as goal

abbrev pub invariant-loop-place : goal.invariant-loop-place
invariant-loop-place l = l.text ≡ l.initial.text ++ apart 46 letters_of (take l.place l.path)
