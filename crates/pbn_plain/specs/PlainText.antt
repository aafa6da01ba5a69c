-- Games as they are written: lines with what is in them, and lines of blanks between them.
use Rattle.std.specs.Prelude.{◌≡◌, ◌⊎◌, ℕ, Bool, ◌==◌, List, [], ◌∷◌, ◌++◌, flat_map, codes, if◌then◌else◌}
use Rattle.std.specs.List.{list_any}
use Rattle.byte_text.specs.Lines.{line_of}

-- a tag pair: its name and its value, and the blanks before the name, the value and the closing bracket
pub record PlainTag : Type 0 where
  pub name : List ℕ
  pub value : List ℕ
  pub before_name : List ℕ
  pub before_value : List ℕ
  pub before_end : List ℕ

-- what is in a line: a blank, a tag pair, a word, the characters of a string, or the text of a comment in braces
pub data PlainItem : Type 0 where
  blank : ℕ → PlainItem
  tag_pair : PlainTag → PlainItem
  word : List ℕ → PlainItem
  quoted : List ℕ → PlainItem
  comment : List ℕ → PlainItem

-- a line: what is in it; the same, and a comment after a semicolon; or what follows a percent sign
pub data PlainLine : Type 0 where
  items_line : List PlainItem → PlainLine
  commented : List PlainItem → List ℕ → PlainLine
  skipped : List ℕ → PlainLine

-- lines, and the lines of blanks after them
pub record PlainGroup : Type 0 where
  pub lines : List PlainLine
  pub blank_lines : List (List ℕ)

-- a byte among these
abbrev pub is_one_of : List ℕ → ℕ → Bool
is_one_of bytes byte = list_any (λ b. byte == b) bytes

-- a quote or a backslash
abbrev pub needs_backslash : ℕ → Bool
needs_backslash byte = is_one_of (codes "\"\\") byte

-- characters, with a backslash before each quote and each backslash
abbrev pub escaped : List ℕ → List ℕ
escaped [] = []
escaped (byte ∷ rest) = if needs_backslash byte then codes "\\" ++ byte ∷ escaped rest else byte ∷ escaped rest

-- a string of these characters
abbrev pub string_text : List ℕ → List ℕ
string_text characters = codes "\"" ++ escaped characters ++ codes "\""

abbrev pub tag_text : PlainTag → List ℕ
tag_text tag = codes "[" ++ tag.before_name ++ tag.name ++ tag.before_value ++ string_text tag.value ++ tag.before_end ++ codes "]"

abbrev pub item_text : PlainItem → List ℕ
item_text (blank byte) = byte ∷ []
item_text (tag_pair tag) = tag_text tag
item_text (word text) = text
item_text (quoted characters) = string_text characters
item_text (comment text) = codes "{" ++ text ++ codes "}"

abbrev pub line_text : PlainLine → List ℕ
line_text (items_line items) = line_of (flat_map item_text items)
line_text (commented items text) = flat_map item_text items ++ (codes ";" ++ line_of text)
line_text (skipped text) = codes "%" ++ line_of text

abbrev pub group_text : PlainGroup → List ℕ
group_text group = flat_map line_text group.lines ++ flat_map line_of group.blank_lines

-- the bytes of a text
unfoldable pub plain_text : List PlainGroup → List ℕ
plain_text groups = flat_map group_text groups

-- the text of these groups, whose last line may lack its end
abbrev pub IsTextOf : List ℕ → List PlainGroup → Type 0
IsTextOf text groups = (text ≡ plain_text groups) ⊎ (line_of text ≡ plain_text groups)

-- the UTF-8 byte order mark
abbrev pub byte_order_mark : List ℕ
byte_order_mark = 239 ∷ 187 ∷ 191 ∷ []
