-- What stands in a line is read as one piece each.
use Rattle.std.proofs.Common.{◌≡◌, ℕ, suc, ◌+◌, Bool, true, false, not, ◌&&◌, ◌||◌, cond, List, [], ◌∷◌, ◌++◌, length, take, drop, refl, ap, ap₂, ◌∙◌, arith, append_assoc}
use Rattle.std.specs.Prelude.{◌==◌, nat_lt}
use Rattle.std.specs.List.{list_all, position_or_len, before_first}
use Rattle.std.proofs.lemmas.Bool.{and_parts, not-true, or_right, or_from, lt-ltb}
use Rattle.std.proofs.lemmas.List.{length-append}
use Rattle.byte_text.specs.Blanks.{is_blank, after_blanks}
use Rattle.byte_text.specs.Lines.{is_line_end}
use Rattle.pbn_text.specs.declared.fault.Syntax.TheVariants.{OpenBrace}
use Rattle.pbn_text.specs.Strings.{string_len}
use Rattle.pbn_text.specs.Pieces.{Piece, passed, tag, token, fault, ahead_of, ends_name, ends_token, comment_ahead, string_ahead, closed_tag, quoted_tag, named_tag, tag_ahead, token_ahead, in_line_ahead, past_line, piece_ahead}
use Rattle.pbn_plain.specs.PlainText.{PlainTag, PlainItem, blank, tag_pair, word, quoted, comment, escaped, string_text, tag_text, item_text}
use Rattle.pbn_plain.specs.WellWritten.{is_line_byte, is_word_byte, is_comment_byte, is_name_letter, is_run, is_plain_tag, is_plain_item}
use Rattle.pbn_plain.proofs.Runs.{stops, lacks, position-behind, before-behind, rest-behind, after_blanks-behind, drop-past, all_weaker}
use Rattle.pbn_plain.proofs.Quoted.{string_len-escaped, characters-back}
use Rattle.pbn_plain.proofs.Bytes.{blank-ends_name, name-no_blank, name-stays, word-stays, comment-stays, InToken, in_token}

-- the piece as which an item is read
abbrev pub item_piece : ℕ → PlainItem → Piece
item_piece line (blank byte) = passed
item_piece line (tag_pair pair) = tag pair.name pair.value line
item_piece line (word text) = token (record { text = text; line = line })
item_piece line (quoted characters) = token (record { text = string_text characters; line = line })
item_piece line (comment text) = passed

-- whether what follows an item doesn't go on with it
abbrev pub ends_item : PlainItem → List ℕ → Bool
ends_item (blank byte) rest = true
ends_item (tag_pair pair) rest = true
ends_item (word text) rest = stops ends_token rest
ends_item (quoted characters) rest = true
ends_item (comment text) rest = true

blank-read : (line byte : ℕ) (rest : List ℕ) → is_blank byte ≡ true → in_line_ahead line (byte ∷ rest) ≡ ahead_of passed rest
blank-read line byte rest is = rw (or_right (is_line_end byte) (is_blank byte) is) refl

comment-read : (line : ℕ) (text rest : List ℕ) → list_all is_comment_byte text ≡ true → comment_ahead line (text ++ 125 ∷ rest) ≡ ahead_of passed rest
unfolding comment_ahead
comment-read line text rest each =
    let closes : ℕ → Bool = λ byte. byte == 125 in
    let none : lacks closes text ≡ true = all_weaker is_comment_byte (λ byte. not (byte == 125)) comment-stays text each in
    let place : position_or_len closes (text ++ 125 ∷ rest) ≡ length text = position-behind closes text (125 ∷ rest) none refl in
    let inside : nat_lt (length text) (length (text ++ 125 ∷ rest)) ≡ true = lt-ltb (length text) (length (text ++ 125 ∷ rest)) (omega (arith, length-append text (125 ∷ rest))) in
    ap (λ n. cond (nat_lt n (length (text ++ 125 ∷ rest))) (ahead_of passed (drop (n + 1) (text ++ 125 ∷ rest))) (ahead_of (fault line OpenBrace) [])) place
    ∙ rw inside (ap (ahead_of passed) (drop-past text 125 rest))

string-read : (line : ℕ) (characters rest : List ℕ) → list_all is_line_byte characters ≡ true
    → string_ahead line (escaped characters ++ 34 ∷ rest) (string_len (escaped characters ++ 34 ∷ rest)) ≡ ahead_of (token (record { text = string_text characters; line = line })) rest
string-read line characters rest each =
    let text = escaped characters in
    ap (string_ahead line (text ++ 34 ∷ rest)) (string_len-escaped characters rest each)
    ∙ ap₂ (λ (t r : List ℕ). ahead_of (token (record { text = 34 ∷ t; line = line })) r) (take-past text 34 rest) (drop-past text 34 rest) where
      take-past : (xs : List ℕ) (byte : ℕ) (rest : List ℕ) → take (length xs + 1) (xs ++ byte ∷ rest) ≡ xs ++ byte ∷ []
      take-past [] byte rest = refl
      take-past (x ∷ xs) byte rest =
          let e : length (x ∷ xs) + 1 ≡ suc (length xs + 1) = omega arith in
          ap (λ n. take n (x ∷ xs ++ byte ∷ rest)) e ∙ ap (λ more. x ∷ more) (take-past xs byte rest)

-- what none of five tests picks
none_of_five : {A : Type 0} (a b c d e : Bool) (p q r s t u : A) → a ≡ false → b ≡ false → c ≡ false → d ≡ false → e ≡ false → cond a p (cond b q (cond c r (cond d s (cond e t u)))) ≡ u
none_of_five a b c d e p q r s t u fa fb fc fd fe = rw (fa, fb, fc, fd, fe) refl

in_line-token : (line byte : ℕ) (rest : List ℕ) → InToken byte → in_line_ahead line (byte ∷ rest) ≡ token_ahead line (byte ∷ rest)
in_line-token line byte rest inside =
    none_of_five (is_line_end byte || is_blank byte) (byte == 123) (byte == 59) (byte == 34) (byte == 91) (ahead_of passed rest) (comment_ahead line rest) (ahead_of passed (past_line rest)) (string_ahead line rest (string_len rest)) (tag_ahead line rest) (token_ahead line (byte ∷ rest))
    (or_from (is_line_end byte) (is_blank byte) inside.line_end inside.blank) inside.brace inside.semicolon inside.quote inside.bracket

word-read : (line byte : ℕ) (bytes rest : List ℕ) → list_all is_word_byte (byte ∷ bytes) ≡ true → stops ends_token rest ≡ true
    → in_line_ahead line (byte ∷ bytes ++ rest) ≡ ahead_of (token (record { text = byte ∷ bytes; line = line })) rest
word-read line byte bytes rest each at =
    let none : lacks ends_token (byte ∷ bytes) ≡ true = all_weaker is_word_byte (λ b. not (ends_token b)) word-stays (byte ∷ bytes) each in
    let first = in_token byte (not-true (ends_token byte) (and_parts (not (ends_token byte)) (lacks ends_token bytes) none).0) in
    let whole : token_ahead line (byte ∷ bytes ++ rest) ≡ ahead_of (token (record { text = byte ∷ bytes; line = line })) rest =
    ap₂ (λ (t r : List ℕ). ahead_of (token (record { text = t; line = line })) r) (before-behind ends_token (byte ∷ bytes) rest none at) (rest-behind ends_token (byte ∷ bytes) rest none at) in
    in_line-token line byte (bytes ++ rest) first ∙ whole

-- the text of a tag pair and what follows it, without the bracket at its front
abbrev tag_rest : PlainTag → List ℕ → List ℕ
tag_rest pair rest = pair.before_name ++ (pair.name ++ (pair.before_value ++ (34 ∷ (escaped pair.value ++ (34 ∷ (pair.before_end ++ (93 ∷ rest)))))))

tag_text-rest : (pair : PlainTag) (rest : List ℕ) → tag_text pair ++ rest ≡ 91 ∷ tag_rest pair rest
tag_text-rest pair rest =
    let behind = pair.before_end ++ (93 ∷ rest) in
    ap (λ text. 91 ∷ text)
    (joined_six pair.before_name pair.name pair.before_value (string_text pair.value) pair.before_end (93 ∷ []) rest
    ∙ ap (λ text. pair.before_name ++ (pair.name ++ (pair.before_value ++ (34 ∷ text)))) (append_assoc (escaped pair.value) (34 ∷ []) behind)) where
      joined_six : (a b c d e f rest : List ℕ) → (((((a ++ b) ++ c) ++ d) ++ e) ++ f) ++ rest ≡ a ++ (b ++ (c ++ (d ++ (e ++ (f ++ rest)))))
      joined_six a b c d e f rest = simp append_assoc

-- what follows a name: blanks, or a quote
after_name : (blanks rest : List ℕ) → list_all is_blank blanks ≡ true → stops ends_name (blanks ++ 34 ∷ rest) ≡ true
after_name [] rest each = refl
after_name (byte ∷ blanks) rest each = blank-ends_name byte (and_parts (is_blank byte) (list_all is_blank blanks) each).0

-- after the name of a tag pair and blanks
value-read : (line byte : ℕ) (bytes value blanks rest : List ℕ) → list_all is_line_byte value ≡ true → list_all is_blank blanks ≡ true
    → named_tag line (byte ∷ bytes) (34 ∷ (escaped value ++ (34 ∷ (blanks ++ (93 ∷ rest))))) ≡ ahead_of (tag (byte ∷ bytes) value line) rest
value-read line byte bytes value blanks rest each each_blank =
    let text = escaped value ++ (34 ∷ (blanks ++ (93 ∷ rest))) in
    let len = length (escaped value) + 1 in
    let behind : after_blanks (drop len text) ≡ 93 ∷ rest = ap after_blanks (drop-past (escaped value) 34 (blanks ++ 93 ∷ rest)) ∙ after_blanks-behind blanks 93 rest each_blank refl in
    ap (quoted_tag line (byte ∷ bytes) text) (string_len-escaped value (blanks ++ 93 ∷ rest) each)
    ∙ ap₂ (λ (v r : List ℕ). closed_tag line (tag (byte ∷ bytes) v line) r) (characters-back value (blanks ++ 93 ∷ rest) len refl) behind

tag-read : (line : ℕ) (pair : PlainTag) (rest : List ℕ) → is_plain_tag pair ≡ true → tag_ahead line (tag_rest pair rest) ≡ ahead_of (tag pair.name pair.value line) rest
unfolding tag_ahead
tag-read line pair rest plain =
    let halves = and_parts (is_run is_name_letter pair.name && list_all is_line_byte pair.value) (list_all is_blank pair.before_name && (list_all is_blank pair.before_value && list_all is_blank pair.before_end)) plain in
    let one = and_parts (is_run is_name_letter pair.name) (list_all is_line_byte pair.value) halves.0 in
    let two = and_parts (list_all is_blank pair.before_name) (list_all is_blank pair.before_value && list_all is_blank pair.before_end) halves.1 in
    let three = and_parts (list_all is_blank pair.before_value) (list_all is_blank pair.before_end) two.1 in
    named pair.name one.0 one.1 two.0 three.0 three.1 where
      named : (name : List ℕ) → is_run is_name_letter name ≡ true → list_all is_line_byte pair.value ≡ true → list_all is_blank pair.before_name ≡ true → list_all is_blank pair.before_value ≡ true → list_all is_blank pair.before_end ≡ true
          → tag_ahead line (pair.before_name ++ (name ++ (pair.before_value ++ (34 ∷ (escaped pair.value ++ (34 ∷ (pair.before_end ++ (93 ∷ rest)))))))) ≡ ahead_of (tag name pair.value line) rest
      named [] run value a b c = absurd cc
      named (byte ∷ bytes) run value a b c =
          let behind = escaped pair.value ++ (34 ∷ (pair.before_end ++ (93 ∷ rest))) in
          let tail = pair.before_value ++ (34 ∷ behind) in
          let each = (and_parts (nat_lt 0 (length (byte ∷ bytes))) (list_all is_name_letter (byte ∷ bytes)) run).1 in
          let none : lacks ends_name (byte ∷ bytes) ≡ true = all_weaker is_name_letter (λ x. not (ends_name x)) name-stays (byte ∷ bytes) each in
          let first = (and_parts (is_name_letter byte) (list_all is_name_letter bytes) each).0 in
          let at = after_name pair.before_value behind b in
          let start : after_blanks (pair.before_name ++ (byte ∷ (bytes ++ tail))) ≡ byte ∷ (bytes ++ tail) = after_blanks-behind pair.before_name byte (bytes ++ tail) a (name-no_blank byte first) in
          ap (λ (text : List ℕ). named_tag line (before_first ends_name text) (after_blanks (drop (position_or_len ends_name text) text))) start
          ∙ ap₂ (λ (n r : List ℕ). named_tag line n (after_blanks r)) (before-behind ends_name (byte ∷ bytes) tail none at) (rest-behind ends_name (byte ∷ bytes) tail none at)
          ∙ ap (named_tag line (byte ∷ bytes)) (after_blanks-behind pair.before_value 34 behind b refl)
          ∙ value-read line byte bytes pair.value pair.before_end rest value c

pub item-read : (line : ℕ) (item : PlainItem) (rest : List ℕ) → is_plain_item item ≡ true → ends_item item rest ≡ true → piece_ahead false line (item_text item ++ rest) ≡ ahead_of (item_piece line item) rest
unfolding piece_ahead
item-read line (blank byte) rest plain at = blank-read line byte rest plain
item-read line (tag_pair pair) rest plain at = ap (in_line_ahead line) (tag_text-rest pair rest) ∙ tag-read line pair rest plain
item-read line (word []) rest plain at = absurd cc
item-read line (word (byte ∷ bytes)) rest plain at = word-read line byte bytes rest (and_parts (nat_lt 0 (length (byte ∷ bytes))) (list_all is_word_byte (byte ∷ bytes)) plain).1 at
item-read line (quoted characters) rest plain at = ap (λ text. in_line_ahead line (34 ∷ text)) (append_assoc (escaped characters) (34 ∷ []) rest) ∙ string-read line characters rest plain
item-read line (comment text) rest plain at = ap (λ more. in_line_ahead line (123 ∷ more)) (append_assoc text (125 ∷ []) rest) ∙ comment-read line text rest plain
