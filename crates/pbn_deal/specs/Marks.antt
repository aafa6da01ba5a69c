-- What a token of the Play section says.
use Rattle.std.specs.Prelude.{ℕ, ◌-◌, Bool, false, ◌&&◌, ◌||◌, ◌==◌, nat_lt, Option, None, Some, List, [], ◌∷◌, length, slice_index, slice_range, codes, bytes_eq, if◌then◌else◌}
use Rattle.std.specs.List.{list_all}
use Rattle.std.specs.Str.{all_ascii_digits}
use Rattle.card_letters.specs.Letters.{card_read}
use Rattle.pbn_deal.specs.declared.mark.Mark.{Mark}
use Rattle.pbn_deal.specs.declared.mark.Mark.TheVariants.{End, Plus, Gap, Note, Card, Other}

-- an exclamation mark or a question mark
abbrev pub is_suffix : ℕ → Bool
is_suffix byte = byte == 33 || byte == 63

-- a token that begins with this byte
abbrev pub begins_with : ℕ → List ℕ → Bool
begins_with byte [] = false
begins_with byte (first ∷ rest) = first == byte

-- a number between equals signs
abbrev pub is_numbered : List ℕ → Bool
is_numbered text =
    nat_lt 2 (length text) && begins_with 61 text && (slice_index text (length text - 1) == 61) && all_ascii_digits (slice_range text 1 (length text - 1))

-- what is skipped: a token that begins with a dollar sign, a number between equals signs, and exclamation and question marks alone
abbrev pub is_note : List ℕ → Bool
is_note text = begins_with 36 text || is_numbered text || list_all is_suffix text

-- a suit letter and a rank letter, and then exclamation and question marks alone
abbrev pub card_of_token : List ℕ → Option ℕ
card_of_token [] = None
card_of_token (suit ∷ []) = None
card_of_token (suit ∷ rank ∷ suffix) = if list_all is_suffix suffix then card_read suit rank else None

-- a card, or none of what a token may say
abbrev pub card_mark : Option ℕ → Mark
card_mark None = Other
card_mark (Some card) = Card card

-- what a token says
unfoldable pub mark_of : List ℕ → Mark
mark_of text =
    if bytes_eq text (codes "*") then End
    else if bytes_eq text (codes "+") then Plus
    else if bytes_eq text (codes "-") then Gap
    else if is_note text then Note
    else card_mark (card_of_token text)
