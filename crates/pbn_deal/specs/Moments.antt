-- A board as it was at an earlier moment of its play.
use Rattle.std.specs.Prelude.{ℕ, take}
use Rattle.pbn_deal.specs.Boards.{BoardValue}

-- the board before the card at a place of its play, which is counted from 0
abbrev pub board_before : BoardValue → ℕ → BoardValue
board_before board place = record board { plays = take place board.plays }
