-- The answers for the games of a file.
use Rattle.std.specs.Prelude.{ℕ, ◌+◌, List, [], ◌∷◌, ◌++◌, codes}
use Rattle.std.specs.Fmt.{decimal}
use Rattle.byte_text.specs.Lines.{line_of}
use Rattle.am_report.specs.declared.boards.GameText.{GameText}
use Rattle.am_report.specs.declared.boards.GameText.TheVariants.{Solved, Refused}

-- the report of a game as it is, or a line with the reason why it has none
abbrev pub outcome_text : GameText → List ℕ
outcome_text (Solved report) = report
outcome_text (Refused said) = line_of (codes "refused " ++ said)

-- a line with a game's number, and what came of the game
unfoldable pub game_text : ℕ → GameText → List ℕ
game_text number game = line_of (codes "game " ++ decimal number) ++ outcome_text game

-- the same for each game in order, numbered onwards from the first one's number
abbrev pub games_from : ℕ → List GameText → List ℕ
games_from number [] = []
games_from number (game ∷ games) = game_text number game ++ games_from (number + 1) games

-- a line that says what it is, the games from number 1, and a line that ends it
unfoldable pub boards_text : List GameText → List ℕ
boards_text games = line_of (codes "alphamu boards 1") ++ games_from 1 games ++ line_of (codes "end boards")
