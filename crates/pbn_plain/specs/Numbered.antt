-- The games of a text as it is written, with the line of each tag pair and token.
use Rattle.std.specs.Prelude.{ℕ, ◌+◌, List, [], ◌∷◌, ◌++◌, count_by, filter}
use Rattle.byte_text.specs.Lines.{is_line_end}
use Rattle.pbn_text.specs.Games.{TokenValue, TagValue, GameValue}
use Rattle.pbn_text.specs.Grammar.{has_tag}
use Rattle.pbn_plain.specs.PlainText.{PlainItem, blank, tag_pair, word, quoted, comment, PlainLine, PlainGroup, string_text, item_text, line_text, group_text}
use Rattle.pbn_plain.specs.WellWritten.{items_of}

-- a tag pair or a token
pub data Entry : Type 0 where
  tag_entry : List ℕ → List ℕ → ℕ → Entry
  token_entry : TokenValue → Entry

-- the tokens before the next tag pair
abbrev pub first_tokens : List Entry → List TokenValue
first_tokens [] = []
first_tokens (tag_entry name value line ∷ rest) = []
first_tokens (token_entry token ∷ rest) = token ∷ first_tokens rest

-- the tag pairs, each with the tokens up to the next
abbrev pub tag_values : List Entry → List TagValue
tag_values [] = []
tag_values (tag_entry name value line ∷ rest) = record { name = name; value = value; line = line; tokens = first_tokens rest } ∷ tag_values rest
tag_values (token_entry token ∷ rest) = tag_values rest

-- the line in which a text ends that begins in a line
abbrev pub line_after : ℕ → List ℕ → ℕ
line_after line text = line + count_by is_line_end text

abbrev pub item_entries : ℕ → PlainItem → List Entry
item_entries line (blank byte) = []
item_entries line (tag_pair tag) = tag_entry tag.name tag.value line ∷ []
item_entries line (word text) = token_entry (record { text = text; line = line }) ∷ []
item_entries line (quoted characters) = token_entry (record { text = string_text characters; line = line }) ∷ []
item_entries line (comment text) = []

abbrev pub items_entries : ℕ → List PlainItem → List Entry
items_entries line [] = []
items_entries line (item ∷ items) = item_entries line item ++ items_entries (line_after line (item_text item)) items

abbrev pub lines_entries : ℕ → List PlainLine → List Entry
lines_entries line [] = []
lines_entries line (next ∷ lines) = items_entries line (items_of next) ++ lines_entries (line_after line (line_text next)) lines

-- the groups that begin in a line
abbrev pub groups_from : ℕ → List PlainGroup → List GameValue
groups_from line [] = []
groups_from line (group ∷ groups) = record { tags = tag_values (lines_entries line group.lines) } ∷ groups_from (line_after line (group_text group)) groups

-- the games: the groups with a tag pair, with lines counted from 1
unfoldable pub numbered : List PlainGroup → List GameValue
numbered groups = filter has_tag (groups_from 1 groups)
