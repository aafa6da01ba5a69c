-- Lines of a text, and words at its front.
use Rattle.std.specs.Prelude.{ℕ, ◌+◌, Bool, ◌==◌, Option, None, Some, option_and_then, List, [], ◌∷◌, ◌++◌, length, take, drop, position, count_by, if◌then◌else◌}
use Rattle.std.specs.Option.{option_map}

-- a line feed
abbrev pub is_line_end : ℕ → Bool
is_line_end byte = byte == 10

-- a text and the line's end
abbrev pub line_of : List ℕ → List ℕ
line_of text = text ++ 10 ∷ []

-- the number of the line in which a place lies
abbrev pub line_number : List ℕ → ℕ → ℕ
line_number bytes at = 1 + count_by is_line_end (take at bytes)

-- what follows a word at the front of a text
abbrev pub text_after : List ℕ → List ℕ → Option (List ℕ)
text_after [] text = Some text
text_after (w ∷ word) [] = None
text_after (w ∷ word) (b ∷ text) = if w == b then text_after word text else None

-- the line that begins at a place, without its end; nothing if the text ends before the line does
unfoldable pub line_at : List ℕ → ℕ → Option (List ℕ)
line_at bytes at = option_map (λ n. take n (drop at bytes)) (position is_line_end (drop at bytes))

-- what the line that begins at a place says, and the place after it
abbrev pub said_at : {A : Type 0} → (List ℕ → Option A) → List ℕ → ℕ → Option (A × ℕ)
said_at says bytes at = option_and_then (λ line. option_map (λ said. (said, at + length line + 1)) (says line)) (line_at bytes at)
