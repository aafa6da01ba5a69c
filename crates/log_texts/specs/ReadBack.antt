-- Which logs are read back.
use Rattle.std.specs.Prelude.{ℕ, ◌≤◌, ◌<◌, ◌^◌, Bool, List, length, All}
use Rattle.win_vectors.specs.Vectors.{most_layouts}
use Rattle.trick_rules.specs.Nodes.{most_moves}
use Rattle.log_check.specs.declared.lines.LogLine.{LogLine}

-- a line's number fits 32 bits
abbrev pub IsLineNumber : ℕ → Type 0
IsLineNumber number = (1 ≤ number) × (number < 2 ^ 32)

-- 1 to 256 layouts
abbrev pub HasLayouts : List Bool → Type 0
HasLayouts vector = (1 ≤ length vector) × (length vector ≤ most_layouts)

-- at most 52 cards of the pack and 26 moves, and some vectors
pub record IsPrintableLine (line : LogLine) : Type 0 where
  pub few_cards : length line.path ≤ 52
  pub cards : All (λ card. card < 52) line.path
  pub few_moves : line.moves ≤ most_moves
  pub numbers : All IsLineNumber line.from
  pub some_vectors : 1 ≤ length line.vectors
  pub widths : All HasLayouts line.vectors

-- some such lines
pub record IsPrintableLog (log : List LogLine) : Type 0 where
  pub some_lines : 1 ≤ length log
  pub lines : All IsPrintableLine log
