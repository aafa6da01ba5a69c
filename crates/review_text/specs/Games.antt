-- The text of a review of many games.
use Rattle.std.specs.Prelude.{ℕ, List, [], ◌++◌, length, flat_map, codes}
use Rattle.std.specs.List.{enumerate_from}
use Rattle.std.specs.Fmt.{decimal}
use Rattle.byte_text.specs.Lines.{line_of}
use Rattle.review_text.specs.declared.reviewed.Reviewed.{Reviewed}
use Rattle.review_text.specs.declared.game.GameReview.{GameReview}
use Rattle.review_text.specs.declared.game.GameReview.TheVariants.{Told, Refused}
use Rattle.review_text.specs.Texts.{head_text, decisions_text, last_line}

-- the decisions of a game; a refused game has none
abbrev pub told_in : GameReview → List Reviewed
told_in (Told told) = told.items
told_in (Refused said) = []

-- what was told of each decision of a game, or a line with the reason why it was refused
abbrev pub outcome_text : GameReview → List ℕ
outcome_text (Told told) = decisions_text told.items
outcome_text (Refused said) = line_of (codes "refused " ++ said)

-- a line with a game's number, and what came of the game
unfoldable pub game_text : ℕ × GameReview → List ℕ
game_text game = line_of (codes "game " ++ decimal game.0) ++ outcome_text game.1

-- how many games there are, and the sums over the decisions of all of them
unfoldable pub total_line : List GameReview → List ℕ
total_line games = codes "games " ++ decimal (length games) ++ codes " " ++ last_line (flat_map told_in games)

-- the head, each game with its number from 1, and the sums
unfoldable pub reviews_text : ℕ → List GameReview → List ℕ
reviews_text limit games =
    head_text (codes "alphamu reviews 1") limit ++ flat_map game_text (enumerate_from 1 games) ++ total_line games
