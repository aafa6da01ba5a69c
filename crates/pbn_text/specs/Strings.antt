-- Strings: characters between two quotes on one line, in which a backslash takes the next character as it stands.
use Rattle.std.specs.Prelude.{ℕ, ◌+◌, List, [], ◌∷◌, Option, Some, None, option_map, ◌==◌, if◌then◌else◌}

-- how many bytes follow an opening quote up to the closing quote, which is counted; `None` if the line ends before it
unfoldable pub string_len : List ℕ → Option ℕ
string_len [] = None
string_len (byte ∷ []) = if byte == 34 then Some 1 else None
string_len (byte ∷ next ∷ rest) =
    if byte == 34 then Some 1
    else if byte == 10 then None
    else if byte == 92 then (if next == 10 then None else option_map (λ len. len + 2) (string_len rest))
    else option_map (λ len. len + 1) (string_len (next ∷ rest))

-- the characters of a string, without each backslash that took another
unfoldable pub unescaped : List ℕ → List ℕ
unescaped [] = []
unescaped (byte ∷ []) = byte ∷ []
unescaped (byte ∷ next ∷ rest) = if byte == 92 then next ∷ unescaped rest else byte ∷ unescaped (next ∷ rest)
