-- What a PBN text says: games, their tags, and the tokens below a tag.
use Rattle.std.specs.Prelude.{ℕ, List}

-- a token, and the line on which it begins
pub record TokenValue : Type 0 where
  pub text : List ℕ
  pub line : ℕ

-- a tag pair, the line of its bracket, and the tokens up to the next tag
pub record TagValue : Type 0 where
  pub name : List ℕ
  pub value : List ℕ
  pub line : ℕ
  pub tokens : List TokenValue

-- a game: its tags in the order of the text
pub record GameValue : Type 0 where
  pub tags : List TagValue
