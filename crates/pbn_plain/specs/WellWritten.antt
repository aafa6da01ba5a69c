-- When a text is written well.
use Rattle.std.specs.Prelude.{ℕ, Bool, true, false, not, ◌&&◌, ◌||◌, nat_lt, nat_le, List, [], ◌∷◌, length, flat_map, codes}
use Rattle.std.specs.List.{list_all}
use Rattle.byte_text.specs.Blanks.{is_blank}
use Rattle.byte_text.specs.Lines.{is_line_end}
use Rattle.pbn_plain.specs.PlainText.{PlainTag, PlainItem, blank, tag_pair, word, quoted, comment, PlainLine, items_line, commented, skipped, PlainGroup, is_one_of, item_text}

-- a byte that a text may have: from a space on, or a tab, a line feed, a vertical tab or a carriage return
abbrev pub is_text_byte : ℕ → Bool
is_text_byte byte = nat_le 32 byte || is_one_of (codes "\t\n\u{b}\r") byte

-- a byte that a line may have
abbrev pub is_line_byte : ℕ → Bool
is_line_byte byte = is_text_byte byte && not (is_line_end byte)

-- a byte that a word may have
abbrev pub is_word_byte : ℕ → Bool
is_word_byte byte = is_text_byte byte && not (is_one_of (codes " \t\r\n[{;\"") byte)

-- a byte that a comment in braces may have
abbrev pub is_comment_byte : ℕ → Bool
is_comment_byte byte = is_text_byte byte && not (is_one_of (codes "}") byte)

-- a byte that a name may have
abbrev pub is_name_letter : ℕ → Bool
is_name_letter byte = is_one_of (codes "ABCDEFGHIJKLMNOPQRSTUVWXYZabcdefghijklmnopqrstuvwxyz0123456789_") byte

-- one such byte at least, and no others
abbrev pub is_run : (ℕ → Bool) → List ℕ → Bool
is_run passes text = nat_lt 0 (length text) && list_all passes text

abbrev pub is_plain_tag : PlainTag → Bool
is_plain_tag tag =
    (is_run is_name_letter tag.name && list_all is_line_byte tag.value)
    && (list_all is_blank tag.before_name && (list_all is_blank tag.before_value && list_all is_blank tag.before_end))

abbrev pub is_plain_item : PlainItem → Bool
is_plain_item (blank byte) = is_blank byte
is_plain_item (tag_pair tag) = is_plain_tag tag
is_plain_item (word text) = is_run is_word_byte text
is_plain_item (quoted characters) = list_all is_line_byte characters
is_plain_item (comment text) = list_all is_comment_byte text

abbrev pub is_word : PlainItem → Bool
is_word (word text) = true
is_word _ = false

abbrev pub is_blank_item : PlainItem → Bool
is_blank_item (blank byte) = true
is_blank_item _ = false

-- no word follows another at once
abbrev pub are_apart : List PlainItem → Bool
are_apart [] = true
are_apart (item ∷ []) = true
are_apart (item ∷ next ∷ rest) = not (is_word item && is_word next) && are_apart (next ∷ rest)

-- a text that begins with a percent sign
abbrev pub begins_with_percent : List ℕ → Bool
begins_with_percent [] = false
begins_with_percent (byte ∷ rest) = is_one_of (codes "%") byte

-- such items, of which no word begins the line with a percent sign
abbrev pub are_plain_items : List PlainItem → Bool
are_plain_items items = list_all is_plain_item items && (are_apart items && not (begins_with_percent (flat_map item_text items)))

-- a line that isn't of blanks alone
abbrev pub is_plain_line : PlainLine → Bool
is_plain_line (items_line items) = are_plain_items items && not (list_all is_blank_item items)
is_plain_line (commented items text) = are_plain_items items && list_all is_line_byte text
is_plain_line (skipped text) = list_all is_line_byte text

abbrev pub items_of : PlainLine → List PlainItem
items_of (items_line items) = items
items_of (commented items text) = items
items_of (skipped text) = []

-- no word and no string stands before the first tag pair
abbrev pub has_tag_first : List PlainItem → Bool
has_tag_first [] = true
has_tag_first (blank byte ∷ rest) = has_tag_first rest
has_tag_first (tag_pair tag ∷ rest) = true
has_tag_first (word text ∷ rest) = false
has_tag_first (quoted characters ∷ rest) = false
has_tag_first (comment text ∷ rest) = has_tag_first rest

abbrev pub is_plain_group : PlainGroup → Bool
is_plain_group group = list_all is_plain_line group.lines && (has_tag_first (flat_map items_of group.lines) && list_all (list_all is_blank) group.blank_lines)

-- each group but the last has a line of blanks after it
abbrev pub are_parted : List PlainGroup → Bool
are_parted [] = true
are_parted (group ∷ []) = true
are_parted (group ∷ next ∷ rest) = nat_lt 0 (length group.blank_lines) && are_parted (next ∷ rest)

-- a text that is written well
unfoldable pub is_well_written : List PlainGroup → Bool
is_well_written groups = list_all is_plain_group groups && are_parted groups
