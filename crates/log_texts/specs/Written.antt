-- A log that is written line by line.
use Rattle.std.specs.Prelude.{◌≡◌, ◌+◌, ◌++◌, ℕ, List, length, codes, flat_map}
use Rattle.byte_text.specs.Lines.{line_of}
use Rattle.log_check.specs.declared.lines.LogLine.{LogLine}
use Rattle.log_texts.specs.LogText.{log_line}

-- the bytes so far, and how many of the log's lines they hold
pub record WrittenLog : Type 0 where
  pub text : List ℕ
  pub count : ℕ

-- only the first line of the text
abbrev pub begun : WrittenLog
begun = record { text = line_of (codes "alphamu log 1"); count = 0 }

-- the whole text, with the last line
abbrev pub finished : WrittenLog → List ℕ
finished log = log.text ++ line_of (codes "end")

-- the second is the first with these lines added
pub record IsLongerBy (lines : List LogLine) (before after : WrittenLog) : Type 0 where
  pub text_is : after.text ≡ before.text ++ flat_map log_line lines
  pub count_is : after.count ≡ before.count + length lines
