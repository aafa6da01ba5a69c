-- Text as it is written in HTML, so that none of it is taken for markup, and XML takes all of it.
use Rattle.std.specs.Prelude.{ℕ, Bool, ◌||◌, ◌==◌, List, [], ◌∷◌, codes, map, chars, encode_utf8_all, if◌then◌else◌}
use Rattle.std.specs.List.{flat_map}
use Rattle.std.specs.Int.{is_in_range}
use Rattle.std.specs.Str.Lossy.{utf8_lossy}

-- the characters of XML: of those below the blank tab, line feed and carriage return, and from there all but U+FFFE and U+FFFF
abbrev pub is_xml_char : ℕ → Bool
is_xml_char c = c == 9 || c == 10 || c == 13 || is_in_range 0x20 0xD7FF c || is_in_range 0xE000 0xFFFD c || is_in_range 0x10000 0x10FFFF c

-- a character as it is shown: U+FFFD stands for one that XML refuses
abbrev pub shown_char : ℕ → ℕ
shown_char c = if is_xml_char c then c else 0xFFFD

-- the characters that are shown of a text, and U+FFFD for bytes that aren't UTF-8
abbrev pub shown : List ℕ → List ℕ
shown text = map shown_char (chars (utf8_lossy text))

-- the five signs of markup are written by their names: & < > " '
abbrev pub escape_sign : ℕ → List ℕ
escape_sign c =
    if c == 38 then codes "&amp;"
    else if c == 60 then codes "&lt;"
    else if c == 62 then codes "&gt;"
    else if c == 34 then codes "&quot;"
    else if c == 39 then codes "&#39;"
    else c ∷ []

-- a text as it is written
abbrev pub escape : List ℕ → List ℕ
escape text = encode_utf8_all (flat_map escape_sign (shown text))
