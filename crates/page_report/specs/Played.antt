-- The lines of a report that a page plays out.
use Rattle.std.specs.Prelude.{◌≡◌, ℕ, List, length, map, take}
use Rattle.std.specs.List.{AllZip, range_with_len}
use Rattle.trick_rules.specs.Positions.{State}
use Rattle.trick_rules.specs.Nodes.{NodeValue, states}
use Rattle.strategy_games.specs.Plans.{wins}
use Rattle.strategy_tree.specs.Bridge.{bridge}
use Rattle.line_plays.specs.Defended.{PlaysOut}
use Rattle.given_up.specs.GivenUp.{giving_card}
use Rattle.am_report.specs.Answers.{ReadEntryValue}
use Rattle.page_text.specs.declared.plays.PlayedOut.{PlayedOut}
use Rattle.page_text.specs.declared.plays.PlayedLine.{PlayedLine}

-- how many lines are played out
abbrev pub most_played : ℕ
most_played = 4

-- a line played out in a layout: it is followed, the defenders beat it if they can, the mark says whether it makes the layout,
-- and the card named is the one that gives the layout up
pub record IsPlayedOut (read : ReadEntryValue) (s : State) (play : PlayedOut) : Type 0 where
  pub cards : PlaysOut read.entry.plan s play.cards
  pub made : play.made ≡ wins bridge read.entry.plan s
  pub given_up : play.given_up ≡ giving_card s play.cards

-- a line so played out in each layout of a node
abbrev pub IsPlayedLine : NodeValue → ReadEntryValue → PlayedLine → Type 0
IsPlayedLine n read line = AllZip (IsPlayedOut read) (states n) line.plays.items

-- the first lines of a report, numbered from 1, each so played out
pub record ArePlayed (n : NodeValue) (entries : List ReadEntryValue) (played : List PlayedLine) : Type 0 where
  pub numbers : map (λ line. line.number) played ≡ range_with_len 1 (length played)
  pub each : AllZip (IsPlayedLine n) (take most_played entries) played
