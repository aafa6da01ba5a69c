-- Games: groups of tag pairs with their tokens, ended by lines of blanks alone.
use Rattle.std.specs.Prelude.{ℕ, Bool, true, false, ◌&&◌, ◌||◌, ◌==◌, nat_lt, nat_le, List, [], ◌∷◌, length, map, filter, Option, Some, None, Result, Ok, Err, if◌then◌else◌}
use Rattle.std.specs.List.{slice_split, position_or_len}
use Rattle.pbn_text.specs.declared.fault.Syntax.{Syntax}
use Rattle.pbn_text.specs.declared.fault.Syntax.TheVariants.{NotText, StrayToken}
use Rattle.pbn_text.specs.Games.{TokenValue, TagValue, GameValue}
use Rattle.byte_text.specs.Lines.{line_number}
use Rattle.pbn_text.specs.Pieces.{Piece, passed, game_end, tag, token, fault, pieces}

-- the tokens before the next tag pair
abbrev pub tokens_ahead : List Piece → List TokenValue
tokens_ahead [] = []
tokens_ahead (passed ∷ rest) = tokens_ahead rest
tokens_ahead (game_end ∷ rest) = []
tokens_ahead (tag name value line ∷ rest) = []
tokens_ahead (token t ∷ rest) = t ∷ tokens_ahead rest
tokens_ahead (fault line kind ∷ rest) = []

-- the tag pairs of a group, each with the tokens up to the next
abbrev pub tags_of : List Piece → List TagValue
tags_of [] = []
tags_of (passed ∷ rest) = tags_of rest
tags_of (game_end ∷ rest) = tags_of rest
tags_of (tag name value line ∷ rest) = record { name = name; value = value; line = line; tokens = tokens_ahead rest } ∷ tags_of rest
tags_of (token t ∷ rest) = tags_of rest
tags_of (fault line kind ∷ rest) = tags_of rest

-- a line of blanks that ends a game
abbrev pub is_game_end : Piece → Bool
is_game_end passed = false
is_game_end game_end = true
is_game_end (tag name value line) = false
is_game_end (token t) = false
is_game_end (fault line kind) = false

-- the game of a group
abbrev pub game_of : List Piece → GameValue
game_of group = record { tags = tags_of group }

-- a game has a tag pair at least
abbrev pub has_tag : GameValue → Bool
has_tag game = nat_lt 0 (length game.tags)

-- the first fault of a text, with its line, whether its game has a tag pair before it or not
abbrev pub first_fault : Bool → List Piece → Option (ℕ × Syntax)
first_fault has_tag_before [] = None
first_fault has_tag_before (passed ∷ rest) = first_fault has_tag_before rest
first_fault has_tag_before (game_end ∷ rest) = first_fault false rest
first_fault has_tag_before (tag name value line ∷ rest) = first_fault true rest
first_fault has_tag_before (token t ∷ rest) = if has_tag_before then first_fault true rest else Some (t.line, StrayToken)
first_fault has_tag_before (fault line kind ∷ rest) = Some (line, kind)

-- the groups between lines of blanks; one without a tag pair is no game
unfoldable pub games_in : List Piece → List GameValue
games_in text = filter has_tag (map game_of (slice_split is_game_end text))

-- the first fault if there is one, and otherwise what was read
abbrev pub or_fault : {A : Type 0} → Option (ℕ × Syntax) → A → Result A (ℕ × Syntax)
or_fault None value = Ok value
or_fault (Some found) value = Err found

-- a byte that no text may have: 0 to 8, 12, and 14 to 31
abbrev pub is_no_text : ℕ → Bool
is_no_text byte = nat_le byte 8 || byte == 12 || (nat_le 14 byte && nat_le byte 31)

-- the line of the first byte that no text may have
unfoldable pub no_text_fault : List ℕ → Option (ℕ × Syntax)
no_text_fault bytes =
    let place = position_or_len is_no_text bytes in
    if nat_lt place (length bytes) then Some (line_number bytes place, NotText) else None

-- a text without the UTF-8 byte order mark at its front
abbrev pub without_mark : List ℕ → List ℕ
without_mark [] = []
without_mark (a ∷ []) = a ∷ []
without_mark (a ∷ b ∷ []) = a ∷ b ∷ []
without_mark (a ∷ b ∷ c ∷ rest) = if a == 239 && b == 187 && c == 191 then rest else a ∷ b ∷ c ∷ rest

-- the games of a text, or its first fault with its line
unfoldable pub text_read : List ℕ → Result (List GameValue) (ℕ × Syntax)
text_read text = let all = pieces true 1 0 text in or_fault (first_fault false all) (games_in all)

-- a fault that was found before, and else what was read
abbrev pub unless_fault : Option (ℕ × Syntax) → Result (List GameValue) (ℕ × Syntax) → Result (List GameValue) (ℕ × Syntax)
unless_fault None read = read
unless_fault (Some found) read = Err found

-- the games of a file, or its first fault with its line; a byte that no text may have comes before all other faults
unfoldable pub games_read : List ℕ → Result (List GameValue) (ℕ × Syntax)
games_read bytes = unless_fault (no_text_fault bytes) (text_read (without_mark bytes))
