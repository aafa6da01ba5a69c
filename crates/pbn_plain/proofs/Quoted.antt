-- Strings that are written are read back.
use Rattle.std.proofs.Common.{◌≡◌, ℕ, ◌+◌, ◌-◌, true, false, not, List, [], ◌∷◌, ◌++◌, length, take, Some, option_map, refl, ap, ◌∙◌, arith}
use Rattle.std.specs.Prelude.{◌==◌}
use Rattle.std.specs.List.{list_all}
use Rattle.std.proofs.lemmas.Bool.{and_parts, not-true, cond_both}
use Rattle.byte_text.specs.Lines.{is_line_end}
use Rattle.pbn_text.specs.Strings.{string_len, unescaped}
use Rattle.pbn_plain.specs.PlainText.{needs_backslash, escaped}
use Rattle.pbn_plain.specs.WellWritten.{is_text_byte, is_line_byte}
use Rattle.pbn_plain.proofs.Bytes.{is_itself}
use Rattle.pbn_plain.proofs.Runs.{take-behind}

quote_first : (rest : List ℕ) → string_len (34 ∷ rest) ≡ Some 1
unfolding string_len
quote_first [] = refl
quote_first (next ∷ rest) = refl

taken_first : (byte : ℕ) (rest : List ℕ) → is_line_end byte ≡ false → string_len (92 ∷ byte ∷ rest) ≡ option_map (λ len. len + 2) (string_len rest)
unfolding string_len
taken_first byte rest inside = rw inside refl

other_first : (byte : ℕ) (rest : List ℕ) → (byte == 34) ≡ false → is_line_end byte ≡ false → (byte == 92) ≡ false → string_len (byte ∷ rest) ≡ option_map (λ len. len + 1) (string_len rest)
unfolding string_len
other_first byte [] no_quote inside no_backslash = rw no_quote refl
other_first byte (next ∷ rest) no_quote inside no_backslash = rw (no_quote, inside, no_backslash) refl

-- a byte of a line isn't the line's end
pub inside_line : (byte : ℕ) → is_line_byte byte ≡ true → is_line_end byte ≡ false
inside_line byte is = not-true (is_line_end byte) (and_parts (is_text_byte byte) (not (is_line_end byte)) is).1

pub string_len-escaped : (characters rest : List ℕ) → list_all is_line_byte characters ≡ true → string_len (escaped characters ++ 34 ∷ rest) ≡ Some (length (escaped characters) + 1)
string_len-escaped [] rest each = quote_first rest
string_len-escaped (byte ∷ characters) rest each =
    let parts = and_parts (is_line_byte byte) (list_all is_line_byte characters) each in
    let inside = inside_line byte parts.0 in
    let more = escaped characters in
    let so_far = string_len-escaped characters rest parts.1 in
    cond_both (needs_backslash byte) (92 ∷ byte ∷ more) (byte ∷ more) (λ text. string_len (text ++ 34 ∷ rest) ≡ Some (length text + 1))
    (λ taken. taken_first byte (more ++ 34 ∷ rest) inside ∙ ap (option_map (λ len. len + 2)) so_far ∙ ap (λ (n : ℕ). Some n) (omega arith))
    (λ other.
    let itself = is_itself byte other in
    other_first byte (more ++ 34 ∷ rest) itself.quote inside itself.backslash ∙ ap (option_map (λ len. len + 1)) so_far ∙ ap (λ (n : ℕ). Some n) (omega arith))

kept_first : (byte : ℕ) (rest : List ℕ) → (byte == 92) ≡ false → unescaped (byte ∷ rest) ≡ byte ∷ unescaped rest
unfolding unescaped
kept_first byte [] other = refl
kept_first byte (next ∷ rest) other = rw other refl

-- a backslash takes the next character
unescaped_first : (byte : ℕ) (rest : List ℕ) → unescaped (92 ∷ byte ∷ rest) ≡ byte ∷ unescaped rest
unfolding unescaped
unescaped_first byte rest = refl

pub unescaped-escaped : (characters : List ℕ) → unescaped (escaped characters) ≡ characters
unfolding unescaped
unescaped-escaped [] = refl
unescaped-escaped (byte ∷ characters) =
    let more = escaped characters in
    let so_far = ap (λ rest. byte ∷ rest) (unescaped-escaped characters) in
    cond_both (needs_backslash byte) (92 ∷ byte ∷ more) (byte ∷ more) (λ text. unescaped text ≡ byte ∷ characters)
    (λ taken. unescaped_first byte more ∙ so_far)
    (λ other. kept_first byte more (is_itself byte other).backslash ∙ so_far)

-- the characters of a string that was written, and what follows it
pub characters-back : (characters rest : List ℕ) (len : ℕ) → len ≡ length (escaped characters) + 1 → unescaped (take (len - 1) (escaped characters ++ 34 ∷ rest)) ≡ characters
characters-back characters rest len is =
    let one : len - 1 ≡ length (escaped characters) = omega arith in
    ap (λ n. unescaped (take n (escaped characters ++ 34 ∷ rest))) one ∙ ap unescaped (take-behind (escaped characters) (34 ∷ rest)) ∙ unescaped-escaped characters
