-- Blanks, and what stands between them.
use Rattle.std.specs.Prelude.{ℕ, Bool, ◌||◌, ◌==◌, nat_lt, List, [], ◌∷◌, length, filter, if◌then◌else◌}
use Rattle.std.specs.List.{slice_split}

-- a space, a tab or a carriage return
abbrev pub is_blank : ℕ → Bool
is_blank byte = byte == 32 || byte == 9 || byte == 13

-- a text without the blanks at its front
unfoldable pub after_blanks : List ℕ → List ℕ
after_blanks [] = []
after_blanks (byte ∷ rest) = if is_blank byte then after_blanks rest else byte ∷ rest

-- the words of a text: the pieces between blanks that aren't empty
unfoldable pub words : List ℕ → List (List ℕ)
words text = filter (λ piece. nat_lt 0 (length piece)) (slice_split is_blank text)
