-- The numbers that the program ends with.
use Rattle.std.specs.Prelude.{ℕ}
use Rattle.am_answer.specs.declared.status.Status.{Status}
use Rattle.am_answer.specs.declared.status.Status.TheVariants.{Done, Refuted, BadWords, Unread, BadPbn, BadLayouts, NoTurn, Spent, Unwritten, Memory, TooLong, BadReport, BadMake, NoLayout, BadLog, Unproved, GameSpent, TooManyGames}

-- each status has a number of its own
abbrev pub code_of : Status → ℕ
code_of Done = 0
code_of (Refuted plan place) = 1
code_of BadWords = 2
code_of (Unread file) = 3
code_of (BadPbn line kind) = 4
code_of (BadLayouts fault) = 5
code_of NoTurn = 6
code_of (Spent card) = 7
code_of Unwritten = 8
code_of Memory = 9
code_of (TooLong file) = 10
code_of (BadReport line kind) = 11
code_of (BadMake fault) = 12
code_of (NoLayout layout) = 14
code_of (BadLog line) = 15
code_of (Unproved line) = 16
code_of (GameSpent game card) = 17
code_of (TooManyGames games) = 18
