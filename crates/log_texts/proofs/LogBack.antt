-- What is written of a log is read back.
use Rattle.std.proofs.Common.{◌≡◌, ℕ, ◌+◌, ◌≤◌, true, false, nat_le, Some, None, Ok, List, [], ◌∷◌, ◌++◌, flat_map, codes, All, refl, ap, ◌∙◌, arith, append_assoc, inl, inr}
use Rattle.std.specs.Fmt.{decimal}
use Rattle.std.specs.Str.{bytes_eq}
use Rattle.std.proofs.lemmas.Bool.{cases_Bool, and_parts, le-leb}
use Rattle.std.proofs.lemmas.List.Elements.{All-head, All-tail}
use Rattle.std.proofs.lemmas.Slice.Eq.{bytes_eq-Decides}
use Rattle.byte_text.specs.Lines.{line_of, text_after}
use Rattle.byte_text.specs.Numerals.{number_within}
use Rattle.byte_text.proofs.ReadLines.{text_after-append}
use Rattle.log_check.specs.declared.lines.LogLine.{LogLine}
use Rattle.log_texts.specs.LogText.{rule_word, path_text, numbers_text, vectors_text, log_line, log_text}
use Rattle.log_texts.specs.Reading.{pieces_at, unless_none, rule_said, cards_said, numbers_said, vectors_said, words_said, line_said, is_end, lines_read, below_version, log_read}
use Rattle.log_texts.specs.ReadBack.{IsPrintableLine, IsPrintableLog}
use Rattle.log_texts.proofs.Cut.{is_above, piece_first, piece_last}
use Rattle.log_texts.proofs.WordsBack.{IsBack, above_both, above_less, rule_back, path_back, number_back, numbers_back, vectors_back}
use Rattle.log_texts.proofs.SaidLines.{line_and_more}

-- ---- one line

five_words : (r p m f v : List ℕ) → r ++ codes " " ++ p ++ codes " " ++ m ++ codes " " ++ f ++ codes " " ++ v ≡ r ++ 32 ∷ (p ++ 32 ∷ (m ++ 32 ∷ (f ++ 32 ∷ v)))
five_words r p m f v = simp append_assoc

words_apart : (r p m f v : List ℕ) → is_above 33 r ≡ true → is_above 33 p ≡ true → is_above 33 m ≡ true → is_above 33 f ≡ true → is_above 33 v ≡ true
    → pieces_at 32 (r ++ 32 ∷ (p ++ 32 ∷ (m ++ 32 ∷ (f ++ 32 ∷ v)))) ≡ r ∷ p ∷ m ∷ f ∷ v ∷ []
words_apart r p m f v hr hp hm hf hv =
    piece_first 32 33 r (p ++ 32 ∷ (m ++ 32 ∷ (f ++ 32 ∷ v))) (omega arith) hr
    ∙ ap (λ (ps : List (List ℕ)). r ∷ ps) (piece_first 32 33 p (m ++ 32 ∷ (f ++ 32 ∷ v)) (omega arith) hp
    ∙ ap (λ (ps : List (List ℕ)). p ∷ ps) (piece_first 32 33 m (f ++ 32 ∷ v) (omega arith) hm
    ∙ ap (λ (ps : List (List ℕ)). m ∷ ps) (piece_first 32 33 f v (omega arith) hf
    ∙ ap (λ (ps : List (List ℕ)). f ∷ ps) (piece_last 32 33 v (omega arith) hv))))

words_above : (r p m f v : List ℕ) → is_above 33 r ≡ true → is_above 33 p ≡ true → is_above 33 m ≡ true → is_above 33 f ≡ true → is_above 33 v ≡ true
    → is_above 32 (r ++ 32 ∷ (p ++ 32 ∷ (m ++ 32 ∷ (f ++ 32 ∷ v)))) ≡ true
words_above r p m f v hr hp hm hf hv =
    let low = λ (t : List ℕ) (h : is_above 33 t ≡ true). above_less 32 33 t (omega arith) h in
    above_both 32 r (32 ∷ (p ++ 32 ∷ (m ++ 32 ∷ (f ++ 32 ∷ v)))) (low r hr) (above_both 32 p (32 ∷ (m ++ 32 ∷ (f ++ 32 ∷ v))) (low p hp)
    (above_both 32 m (32 ∷ (f ++ 32 ∷ v)) (low m hm) (above_both 32 f (32 ∷ v) (low f hf) (low v hv))))

-- the text of a line without its end
abbrev line_text : LogLine → List ℕ
line_text line = rule_word line.rule ++ codes " " ++ path_text line.path ++ codes " " ++ decimal line.moves ++ codes " " ++ numbers_text line.from ++ codes " " ++ vectors_text line.vectors

module _ (line : LogLine) (printable : IsPrintableLine line) where
  rule_is : IsBack rule_said (rule_word line.rule) line.rule
  rule_is = rule_back line.rule

  path_is : IsBack (unless_none cards_said) (path_text line.path) line.path
  path_is = path_back line.path printable.few_cards printable.cards

  moves_is : IsBack (number_within 0 26) (decimal line.moves) line.moves
  moves_is = number_back 0 26 line.moves (omega arith) printable.few_moves (omega arith)

  from_is : IsBack (unless_none numbers_said) (numbers_text line.from) line.from
  from_is = numbers_back line.from printable.numbers

  vectors_is : IsBack vectors_said (vectors_text line.vectors) line.vectors
  vectors_is = vectors_back line.vectors printable.some_vectors printable.widths

  line_above : is_above 32 (line_text line) ≡ true
  line_above =
      ap (is_above 32) (five_words (rule_word line.rule) (path_text line.path) (decimal line.moves) (numbers_text line.from) (vectors_text line.vectors))
      ∙ words_above (rule_word line.rule) (path_text line.path) (decimal line.moves) (numbers_text line.from) (vectors_text line.vectors) rule_is.1 path_is.1 moves_is.1 from_is.1 vectors_is.1

  line_back : line_said (line_text line) ≡ Some line
  unfolding line_said
  line_back =
      ap (λ text. words_said (pieces_at 32 text)) (five_words (rule_word line.rule) (path_text line.path) (decimal line.moves) (numbers_text line.from) (vectors_text line.vectors))
      ∙ ap words_said (words_apart (rule_word line.rule) (path_text line.path) (decimal line.moves) (numbers_text line.from) (vectors_text line.vectors) rule_is.1 path_is.1 moves_is.1 from_is.1 vectors_is.1)
      ∙ rw (rule_is.0, path_is.0, moves_is.0, from_is.0, vectors_is.0) refl

-- ---- the lines

end_is_no_line : line_said (codes "end") ≡ None
unfolding line_said
end_is_no_line = refl

no_end : (number : ℕ) (text : List ℕ) (line : LogLine) → line_said text ≡ Some line → is_end number text ≡ false
no_end number text line said =
    elim (cases_Bool (is_end number text)) [
      | inl ends ↦
          let same : text ≡ codes "end" = (bytes_eq-Decides text (codes "end")).0 (and_parts (nat_le 3 number) (bytes_eq text (codes "end")) ends).1 in
          let nothing : line_said text ≡ None = ap line_said same ∙ end_is_no_line in
          absurd cc
      | inr other ↦ other
    ]

-- the text of some lines and the last one
abbrev rest_text : List LogLine → List ℕ
rest_text lines = flat_map log_line lines ++ line_of (codes "end")

rest_cons : (line : LogLine) (lines : List LogLine) → rest_text (line ∷ lines) ≡ line_text line ++ 10 ∷ rest_text lines
unfolding log_line
rest_cons line lines =
    append_assoc (log_line line) (flat_map log_line lines) (line_of (codes "end")) ∙ append_assoc (line_text line) (10 ∷ []) (rest_text lines)

more_lines : (number : ℕ) (line : LogLine) (lines : List LogLine) → IsPrintableLine line → lines_read (number + 1) (pieces_at 10 (rest_text lines)) ≡ Ok lines
    → lines_read number (pieces_at 10 (rest_text (line ∷ lines))) ≡ Ok (line ∷ lines)
more_lines number line lines printable later =
    let said = line_back line printable in
    ap (λ text. lines_read number (pieces_at 10 text)) (rest_cons line lines)
    ∙ ap (lines_read number) (piece_first 10 32 (line_text line) (rest_text lines) (omega arith) (line_above line printable))
    ∙ line_and_more number (line_text line) (rest_text lines) line (no_end number (line_text line) line said) said
    ∙ rw later refl

lines_back : (number : ℕ) (lines : List LogLine) → 3 ≤ number → All IsPrintableLine lines → lines_read number (pieces_at 10 (rest_text lines)) ≡ Ok lines
lines_back number [] high printable = rw (le-leb 3 number high) refl
lines_back number (line ∷ lines) high printable =
    more_lines number line lines (All-head IsPrintableLine line lines printable) (lines_back (number + 1) lines (omega arith) (All-tail IsPrintableLine line lines printable))

some_lines_back : (lines : List LogLine) → IsPrintableLog lines → lines_read 2 (pieces_at 10 (rest_text lines)) ≡ Ok lines
some_lines_back [] printable = absurd (omega (arith, printable.some_lines))
some_lines_back (line ∷ lines) printable =
    more_lines 2 line lines (All-head IsPrintableLine line lines printable.lines) (lines_back 3 lines (omega arith) (All-tail IsPrintableLine line lines printable.lines))

pub log_text-read : (lines : List LogLine) → IsPrintableLog lines → log_read (log_text lines) ≡ Ok lines
unfolding log_read log_text
log_text-read lines printable =
    ap (λ text. below_version (text_after (line_of (codes "alphamu log 1")) text)) (append_assoc (line_of (codes "alphamu log 1")) (flat_map log_line lines) (line_of (codes "end")))
    ∙ ap below_version (text_after-append (line_of (codes "alphamu log 1")) (rest_text lines))
    ∙ some_lines_back lines printable
