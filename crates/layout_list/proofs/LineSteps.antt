-- A layout file, line by line.
use Rattle.std.proofs.Common.{ℕ, ◌+◌, Option, None, Some, List, length}

-- how much of a file is left: the bytes and the end of the last line
abbrev pub size_left : Option (List ℕ) → ℕ
size_left None = 0
size_left (Some text) = length text + 1
