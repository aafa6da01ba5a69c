-- The games of a deal file, and the names of their layout files.
use Rattle.std.specs.Prelude.{ℕ, List, [], ◌∷◌, ◌++◌, length, nat_le, Result, Ok, Err, codes, if◌then◌else◌}
use Rattle.std.specs.Fmt.{decimal}
use Rattle.pbn_text.specs.declared.fault.Syntax.{Syntax as TextSyntax}
use Rattle.pbn_text.specs.Games.{GameValue}
use Rattle.pbn_text.specs.Grammar.{games_read}
use Rattle.am_answer.specs.declared.status.PbnKind.TheVariants.{Syntax, NoGame}
use Rattle.am_answer.specs.declared.status.Status.{Status}
use Rattle.am_answer.specs.declared.status.Status.TheVariants.{BadPbn, TooManyGames}

-- the most games that a deal file may have where each of them is solved
abbrev pub most_games : ℕ
most_games = 64

-- the games, where there are any and not too many
abbrev pub games_or : Result (List GameValue) (ℕ × TextSyntax) → Result (List GameValue) Status
games_or (Err fault) = Err (BadPbn fault.0 (Syntax fault.1))
games_or (Ok []) = Err (BadPbn 1 NoGame)
games_or (Ok (game ∷ later)) =
    if nat_le (length (game ∷ later)) most_games then Ok (game ∷ later) else Err (TooManyGames (length (game ∷ later)))

-- the games of a deal file
unfoldable pub games_of : List ℕ → Result (List GameValue) Status
games_of bytes = games_or (games_read bytes)

-- the name of the layout file for the game of a number: the name that the words give, a full stop and the number
abbrev pub layouts_name : List ℕ → ℕ → List ℕ
layouts_name name number = name ++ codes "." ++ decimal number

-- the games of a deal file, and the bytes of a layout file for each of them, in order
pub record GameFilesValue : Type 0 where
  pub games : List GameValue
  pub layouts : List (List ℕ)
