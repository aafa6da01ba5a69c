-- A text as pieces: each begins where the one before it ends.
use Rattle.std.specs.Prelude.{ℕ, zero, suc, ◌+◌, ◌-◌, Bool, false, not, ◌&&◌, ◌||◌, ◌==◌, nat_lt, nat_le, List, [], ◌∷◌, length, take, drop, Option, Some, None, if◌then◌else◌}
use Rattle.std.specs.List.{list_all, position_or_len, before_first, after_first}
use Rattle.pbn_text.specs.declared.fault.Syntax.{Syntax}
use Rattle.pbn_text.specs.declared.fault.Syntax.TheVariants.{OpenString, BadTag, OpenBrace}
use Rattle.pbn_text.specs.Games.{TokenValue}
use Rattle.byte_text.specs.Blanks.{is_blank, after_blanks}
use Rattle.byte_text.specs.Lines.{is_line_end}
use Rattle.pbn_text.specs.Strings.{string_len, unescaped}

-- what follows up to the end of the line
abbrev pub rest_of_line : List ℕ → List ℕ
rest_of_line text = before_first is_line_end text

-- the end of the line, and what follows it
abbrev pub past_line : List ℕ → List ℕ
past_line text = drop (position_or_len is_line_end text) text

-- a letter, a digit or an underscore
abbrev pub is_name_byte : ℕ → Bool
is_name_byte byte = (nat_le 65 byte && nat_le byte 90) || (nat_le 97 byte && nat_le byte 122) || (nat_le 48 byte && nat_le byte 57) || byte == 95

-- a blank, the end of a line, or what begins a tag pair, a comment or a string
abbrev pub ends_token : ℕ → Bool
ends_token byte = is_blank byte || is_line_end byte || byte == 91 || byte == 123 || byte == 59 || byte == 34

-- what a text can begin with: something that is passed over, a line that ends a game, a tag pair, a token, or a fault
pub data Piece : Type 0 where
  passed : Piece
  game_end : Piece
  tag : List ℕ → List ℕ → ℕ → Piece
  token : TokenValue → Piece
  fault : ℕ → Syntax → Piece

-- what a text begins with, and what follows it
pub record Ahead : Type 0 where
  pub piece : Piece
  pub rest : List ℕ

-- a piece, and what follows it
abbrev pub ahead_of : Piece → List ℕ → Ahead
ahead_of piece rest = record { piece = piece; rest = rest }

-- after an opening brace: a comment goes to the next closing brace
unfoldable pub comment_ahead : ℕ → List ℕ → Ahead
comment_ahead line text = if nat_lt (position_or_len (λ byte. byte == 125) text) (length text) then ahead_of passed (after_first (λ byte. byte == 125) text) else ahead_of (fault line OpenBrace) []

-- after an opening quote: a string is a token, its quotes and backslashes among its bytes
abbrev pub string_ahead : ℕ → List ℕ → Option ℕ → Ahead
string_ahead line text None = ahead_of (fault line OpenString) []
string_ahead line text (Some len) = ahead_of (token (record { text = 34 ∷ take len text; line = line })) (drop len text)

-- after the string of a tag pair: a closing bracket
abbrev pub closed_tag : ℕ → Piece → List ℕ → Ahead
closed_tag line pair [] = ahead_of (fault line BadTag) []
closed_tag line pair (byte ∷ rest) = if byte == 93 then ahead_of pair rest else ahead_of (fault line BadTag) []

-- after the quote of a tag pair: a string, blanks, and a closing bracket
abbrev pub quoted_tag : ℕ → List ℕ → List ℕ → Option ℕ → Ahead
quoted_tag line name text None = ahead_of (fault line OpenString) []
quoted_tag line name text (Some len) = closed_tag line (tag name (unescaped (take (len - 1) text)) line) (after_blanks (drop len text))

-- after the name of a tag pair and blanks: a quote
abbrev pub named_tag : ℕ → List ℕ → List ℕ → Ahead
named_tag line [] text = ahead_of (fault line BadTag) []
named_tag line (byte ∷ bytes) [] = ahead_of (fault line BadTag) []
named_tag line (byte ∷ bytes) (quote ∷ text) = if quote == 34 then quoted_tag line (byte ∷ bytes) text (string_len text) else ahead_of (fault line BadTag) []

-- a byte that no name may have
abbrev pub ends_name : ℕ → Bool
ends_name byte = not (is_name_byte byte)

-- after an opening bracket: a name, a string and a closing bracket, with blanks allowed between them
unfoldable pub tag_ahead : ℕ → List ℕ → Ahead
tag_ahead line text =
    let named = after_blanks text in
    named_tag line (before_first ends_name named) (after_blanks (drop (position_or_len ends_name named) named))

-- a token that is no string
abbrev pub token_ahead : ℕ → List ℕ → Ahead
token_ahead line text = ahead_of (token (record { text = before_first ends_token text; line = line })) (drop (position_or_len ends_token text) text)

-- what a text begins with inside a line
abbrev pub in_line_ahead : ℕ → List ℕ → Ahead
in_line_ahead line [] = ahead_of passed []
in_line_ahead line (byte ∷ rest) =
    if is_line_end byte || is_blank byte then ahead_of passed rest
    else if byte == 123 then comment_ahead line rest
    else if byte == 59 then ahead_of passed (past_line rest)
    else if byte == 34 then string_ahead line rest (string_len rest)
    else if byte == 91 then tag_ahead line rest
    else token_ahead line (byte ∷ rest)

-- a line that begins with a percent sign
abbrev pub is_skipped_line : List ℕ → Bool
is_skipped_line [] = false
is_skipped_line (byte ∷ rest) = byte == 37

-- a line of blanks alone
abbrev pub is_blank_line : List ℕ → Bool
is_blank_line text = list_all is_blank (rest_of_line text)

-- what a text begins with, at the front of a line or inside one
unfoldable pub piece_ahead : Bool → ℕ → List ℕ → Ahead
piece_ahead at_front line text =
    if at_front && is_skipped_line text then ahead_of passed (past_line text)
    else if at_front && is_blank_line text then ahead_of game_end (after_first is_line_end text)
    else in_line_ahead line text

-- the pieces of a text that begins at the front of a line or inside one, with that line's number, after the bytes that belong to the piece before
unfoldable pub pieces : Bool → ℕ → ℕ → List ℕ → List Piece
pieces at_front line skip [] = []
pieces at_front line (suc skip) (byte ∷ rest) = pieces (is_line_end byte) (line + (if is_line_end byte then 1 else 0)) skip rest
pieces at_front line zero (byte ∷ rest) =
    let ahead = piece_ahead at_front line (byte ∷ rest) in
    ahead.piece ∷ pieces (is_line_end byte) (line + (if is_line_end byte then 1 else 0)) (length rest - length ahead.rest) rest
