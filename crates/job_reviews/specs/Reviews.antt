-- The reviews of all games of a deal file, each with its own layout file.
use Rattle.std.specs.Prelude.{◌≡◌, ◌≢◌, ◌⊎◌, ℕ, List, Result, Ok}
use Rattle.std.specs.List.{AllZip, zip}
use Rattle.pbn_text.specs.Games.{GameValue}
use Rattle.pbn_deal.specs.Boards.{BoardValue}
use Rattle.pbn_deal.specs.BoardRead.{board_read}
use Rattle.am_answer.specs.declared.status.Status.{Status}
use Rattle.am_answer.specs.declared.status.Status.TheVariants.{Memory}
use Rattle.am_answer.specs.Answers.{board_or}
use Rattle.am_answer.specs.Games.{GameFilesValue}
use Rattle.am_answer.specs.Lines.{said_of}
use Rattle.am_answer.specs.Stages.{IsFileRefusal}
use Rattle.text_forms.specs.declared.form.Form.{Form}
use Rattle.review_text.specs.declared.game.GameReview.{GameReview}
use Rattle.review_text.specs.declared.game.GameReview.TheVariants.{Told, Refused}
use Rattle.review_forms.specs.Forms.{reviews_in}
use Rattle.job_review.specs.declared.review.Asked.{Asked}
use Rattle.job_review.specs.Reviews.{IsReview, IsReviewRefusal}

-- a game with its layout file
abbrev pub GamePair : Type 0
GamePair = GameValue × List ℕ

-- the games of a deal file with their layout files, in order
abbrev pub pairs_of : GameFilesValue → List GamePair
pairs_of files = zip files.games files.layouts

-- the board of a game
abbrev pub game_board : GameValue → Result BoardValue Status
game_board game = board_or (board_read game)

-- why a game has no review: it has no board, or its board isn't reviewed
abbrev pub IsGameRefusal : Asked → GamePair → Status → Type 0
IsGameRefusal asked pair status = IsFileRefusal (game_board pair.0) status
    ⊎ ((board : BoardValue) × (game_board pair.0 ≡ Ok board) × IsReviewRefusal board pair.1 asked.moves asked.from asked.search.nodes status)

-- what comes of a game: told of each decision of its board, or the line that refuses it; no failed allocation does
abbrev pub IsGameReview : Asked → GamePair → GameReview → Type 0
IsGameReview asked pair (Told told) = (board : BoardValue) × (game_board pair.0 ≡ Ok board) × IsReview board pair.1 asked.moves asked.from told.items
IsGameReview asked pair (Refused said) = (status : Status) × (status ≢ Memory) × IsGameRefusal asked pair status × (said ≡ said_of status)

-- what comes of all games, in order
abbrev pub AreGameReviews : GameFilesValue → Asked → List GameReview → Type 0
AreGameReviews files asked games = AllZip (IsGameReview asked) (pairs_of files) games

-- the text of that
abbrev pub IsReviewsText : GameFilesValue → Asked → Form → List ℕ → Type 0
IsReviewsText files asked form text = (games : List GameReview) × AreGameReviews files asked games × (text ≡ reviews_in form asked.moves games)
