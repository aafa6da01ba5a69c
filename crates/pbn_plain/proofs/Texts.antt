-- The bytes of a text that is written.
use Rattle.std.proofs.Common.{◌≡◌, ℕ, Bool, true, not, ◌&&◌, cond, List, [], ◌∷◌, ◌++◌, length, flat_map, Some, None, refl, ap, sym, ◌∙◌, arith, append_assoc}
use Rattle.std.specs.Prelude.{◌==◌, nat_lt}
use Rattle.std.specs.List.{list_all, position_or_len}
use Rattle.std.proofs.lemmas.Bool.{and_parts, and_from, not-true, cond_both, le-ltb}
use Rattle.std.proofs.lemmas.Bool.Decides.{nat_tests}
use Rattle.std.proofs.lemmas.List.{append-nil}
use Rattle.std.proofs.lemmas.List.Folds.{list_all-append}
use Rattle.byte_text.specs.Blanks.{is_blank}
use Rattle.byte_text.specs.Lines.{line_of, line_number}
use Rattle.pbn_text.specs.declared.fault.Syntax.TheVariants.{NotText}
use Rattle.pbn_text.specs.Grammar.{is_no_text, no_text_fault, without_mark}
use Rattle.pbn_plain.specs.PlainText.{PlainTag, PlainItem, blank, tag_pair, word, quoted, comment, PlainLine, items_line, commented, skipped, PlainGroup, needs_backslash, escaped, string_text, tag_text, item_text, line_text, group_text}
use Rattle.pbn_plain.specs.WellWritten.{is_text_byte, is_line_byte, is_word_byte, is_comment_byte, is_name_letter, begins_with_percent, is_run, is_plain_tag, is_plain_item, are_apart, are_plain_items, is_blank_item, is_plain_line, items_of, has_tag_first, is_plain_group}
use Rattle.pbn_plain.proofs.Runs.{position-behind, all_weaker}
use Rattle.pbn_plain.proofs.Bytes.{text-allowed, blank-text, name-text, line-text, word-text, comment-text}
use Rattle.pbn_plain.proofs.Groups.{plain_parts}

-- ---- each byte may stand in a text

abbrev pub is_text : List ℕ → Bool
is_text text = list_all is_text_byte text

both_text : (xs ys : List ℕ) → is_text xs ≡ true → is_text ys ≡ true → is_text (xs ++ ys) ≡ true
both_text xs ys one two = list_all-append is_text_byte xs ys ∙ and_from (is_text xs) (is_text ys) one two

each_text : {X : Type 0} (p : X → Bool) (f : X → List ℕ) → ((x : X) → p x ≡ true → is_text (f x) ≡ true) → (xs : List X) → list_all p xs ≡ true → is_text (flat_map f xs) ≡ true
each_text p f one [] each = refl
each_text p f one (x ∷ xs) each =
    let parts = and_parts (p x) (list_all p xs) each in
    both_text (f x) (flat_map f xs) (one x parts.0) (each_text p f one xs parts.1)

escaped_text : (characters : List ℕ) → list_all is_line_byte characters ≡ true → is_text (escaped characters) ≡ true
escaped_text [] each = refl
escaped_text (byte ∷ characters) each =
    let parts = and_parts (is_line_byte byte) (list_all is_line_byte characters) each in
    let whole = and_from (is_text_byte byte) (is_text (escaped characters)) (line-text byte parts.0) (escaped_text characters parts.1) in
    cond_both (needs_backslash byte) (92 ∷ byte ∷ escaped characters) (byte ∷ escaped characters) (λ text. is_text text ≡ true) (λ taken. whole) (λ other. whole)

string_is_text : (characters : List ℕ) → list_all is_line_byte characters ≡ true → is_text (string_text characters) ≡ true
string_is_text characters each = both_text (escaped characters) (34 ∷ []) (escaped_text characters each) refl

blanks_text : (blanks : List ℕ) → list_all is_blank blanks ≡ true → is_text blanks ≡ true
blanks_text blanks each = all_weaker is_blank is_text_byte blank-text blanks each

tag_is_text : (pair : PlainTag) → is_plain_tag pair ≡ true → is_text (tag_text pair) ≡ true
tag_is_text pair plain =
    let halves = and_parts (is_run is_name_letter pair.name && list_all is_line_byte pair.value) (list_all is_blank pair.before_name && (list_all is_blank pair.before_value && list_all is_blank pair.before_end)) plain in
    let one = and_parts (is_run is_name_letter pair.name) (list_all is_line_byte pair.value) halves.0 in
    let two = and_parts (list_all is_blank pair.before_name) (list_all is_blank pair.before_value && list_all is_blank pair.before_end) halves.1 in
    let three = and_parts (list_all is_blank pair.before_value) (list_all is_blank pair.before_end) two.1 in
    let name = all_weaker is_name_letter is_text_byte name-text pair.name (and_parts (nat_lt 0 (length pair.name)) (list_all is_name_letter pair.name) one.0).1 in
    let start = 91 ∷ pair.before_name in
    let named = start ++ pair.name in
    let spaced = named ++ pair.before_value in
    let valued = spaced ++ string_text pair.value in
    both_text (valued ++ pair.before_end) (93 ∷ []) (both_text valued pair.before_end (both_text spaced (string_text pair.value) (both_text named pair.before_value (both_text start pair.name (blanks_text pair.before_name two.0) name) (blanks_text pair.before_value three.0)) (string_is_text pair.value one.1)) (blanks_text pair.before_end three.1)) refl

item_is_text : (item : PlainItem) → is_plain_item item ≡ true → is_text (item_text item) ≡ true
item_is_text (blank byte) plain = and_from (is_text_byte byte) true (blank-text byte plain) refl
item_is_text (tag_pair pair) plain = tag_is_text pair plain
item_is_text (word text) plain = all_weaker is_word_byte is_text_byte word-text text (and_parts (nat_lt 0 (length text)) (list_all is_word_byte text) plain).1
item_is_text (quoted characters) plain = string_is_text characters plain
item_is_text (comment text) plain = both_text text (125 ∷ []) (all_weaker is_comment_byte is_text_byte comment-text text plain) refl

items_text : (items : List PlainItem) → are_plain_items items ≡ true → is_text (flat_map item_text items) ≡ true
items_text items plain = each_text is_plain_item item_text item_is_text items (and_parts (list_all is_plain_item items) (are_apart items && not (begins_with_percent (flat_map item_text items))) plain).0

whole_line : (text : List ℕ) → list_all is_line_byte text ≡ true → is_text (line_of text) ≡ true
whole_line text each = both_text text (10 ∷ []) (all_weaker is_line_byte is_text_byte line-text text each) refl

line_is_text : (line : PlainLine) → is_plain_line line ≡ true → is_text (line_text line) ≡ true
line_is_text (items_line items) plain = both_text (flat_map item_text items) (10 ∷ []) (items_text items (and_parts (are_plain_items items) (not (list_all is_blank_item items)) plain).0) refl
line_is_text (commented items text) plain =
    let parts = and_parts (are_plain_items items) (list_all is_line_byte text) plain in
    both_text (flat_map item_text items) (59 ∷ line_of text) (items_text items parts.0) (whole_line text parts.1)
line_is_text (skipped text) plain = whole_line text plain

blank_line_is_text : (blanks : List ℕ) → list_all is_blank blanks ≡ true → is_text (line_of blanks) ≡ true
blank_line_is_text blanks each = both_text blanks (10 ∷ []) (blanks_text blanks each) refl

group_is_text : (group : PlainGroup) → is_plain_group group ≡ true → is_text (group_text group) ≡ true
group_is_text group plain =
    let parts = plain_parts group plain in
    both_text (flat_map line_text group.lines) (flat_map line_of group.blank_lines) (each_text is_plain_line line_text line_is_text group.lines parts.lines)
    (each_text (list_all is_blank) line_of blank_line_is_text group.blank_lines parts.blanks)

pub groups_are_text : (groups : List PlainGroup) → list_all is_plain_group groups ≡ true → is_text (flat_map group_text groups) ≡ true
groups_are_text groups plain = each_text is_plain_group group_text group_is_text groups plain

pub no_text_fault-none : (text : List ℕ) → is_text text ≡ true → no_text_fault text ≡ None
unfolding no_text_fault
no_text_fault-none text each =
    let len : position_or_len is_no_text text ≡ length text = ap (position_or_len is_no_text) (sym (append-nil text)) ∙ position-behind is_no_text text [] (all_weaker is_text_byte (λ b. not (is_no_text b)) text-allowed text each) refl in
    ap (λ n. cond (nat_lt n (length text)) (Some (line_number text n, NotText)) None) len ∙ rw (le-ltb (length text) (length text) (omega arith)) refl

-- ---- no byte order mark stands at the front

abbrev pub no_mark : List ℕ → Bool
no_mark [] = true
no_mark (byte ∷ rest) = not (byte == 239)

pub without_mark-none : (text : List ℕ) → no_mark text ≡ true → without_mark text ≡ text
without_mark-none [] other = refl
without_mark-none (a ∷ []) other = refl
without_mark-none (a ∷ b ∷ []) other = refl
without_mark-none (a ∷ b ∷ c ∷ rest) other = rw (not-true (a == 239) other) refl

blank-no_mark : (byte : ℕ) → is_blank byte ≡ true → not (byte == 239) ≡ true
blank-no_mark byte is = grind (arith, nat_tests)

items_no_mark : (items others : List PlainItem) (rest : List ℕ) → list_all is_plain_item items ≡ true → has_tag_first (items ++ others) ≡ true → no_mark rest ≡ true → no_mark (flat_map item_text items ++ rest) ≡ true
items_no_mark [] others rest plain first behind = behind
items_no_mark (blank byte ∷ items) others rest plain first behind = blank-no_mark byte (and_parts (is_blank byte) (list_all is_plain_item items) plain).0
items_no_mark (tag_pair pair ∷ items) others rest plain first behind = refl
items_no_mark (word text ∷ items) others rest plain first behind = absurd cc
items_no_mark (quoted characters ∷ items) others rest plain first behind = absurd cc
items_no_mark (comment text ∷ items) others rest plain first behind = refl

plain_items : (items : List PlainItem) → are_plain_items items ≡ true → list_all is_plain_item items ≡ true
plain_items items plain = (and_parts (list_all is_plain_item items) (are_apart items && not (begins_with_percent (flat_map item_text items))) plain).0

line_no_mark : (line : PlainLine) (others : List PlainItem) (rest : List ℕ) → is_plain_line line ≡ true → has_tag_first (items_of line ++ others) ≡ true → no_mark (line_text line ++ rest) ≡ true
line_no_mark (items_line items) others rest plain first =
    ap no_mark (append_assoc (flat_map item_text items) (10 ∷ []) rest) ∙ items_no_mark items others (10 ∷ rest) (plain_items items (and_parts (are_plain_items items) (not (list_all is_blank_item items)) plain).0) first refl
line_no_mark (commented items text) others rest plain first =
    ap no_mark (append_assoc (flat_map item_text items) (59 ∷ line_of text) rest) ∙ items_no_mark items others (59 ∷ line_of text ++ rest) (plain_items items (and_parts (are_plain_items items) (list_all is_line_byte text) plain).0) first refl
line_no_mark (skipped text) others rest plain first = refl

lines_no_mark : (lines : List PlainLine) (rest : List ℕ) → list_all is_plain_line lines ≡ true → has_tag_first (flat_map items_of lines) ≡ true → no_mark rest ≡ true → no_mark (flat_map line_text lines ++ rest) ≡ true
lines_no_mark [] rest plain first behind = behind
lines_no_mark (line ∷ lines) rest plain first behind =
    ap no_mark (append_assoc (line_text line) (flat_map line_text lines) rest)
    ∙ line_no_mark line (flat_map items_of lines) (flat_map line_text lines ++ rest) (and_parts (is_plain_line line) (list_all is_plain_line lines) plain).0 first

blanks_no_mark : (blank_lines : List (List ℕ)) (rest : List ℕ) → list_all (list_all is_blank) blank_lines ≡ true → no_mark rest ≡ true → no_mark (flat_map line_of blank_lines ++ rest) ≡ true
blanks_no_mark [] rest each behind = behind
blanks_no_mark ([] ∷ blank_lines) rest each behind = refl
blanks_no_mark ((byte ∷ blanks) ∷ blank_lines) rest each behind =
    blank-no_mark byte (and_parts (is_blank byte) (list_all is_blank blanks) (and_parts (list_all is_blank (byte ∷ blanks)) (list_all (list_all is_blank) blank_lines) each).0).0

pub groups_no_mark : (groups : List PlainGroup) → list_all is_plain_group groups ≡ true → no_mark (flat_map group_text groups) ≡ true
groups_no_mark [] plain = refl
groups_no_mark (group ∷ groups) plain =
    let both = and_parts (is_plain_group group) (list_all is_plain_group groups) plain in
    let parts = plain_parts group both.0 in
    let lines = flat_map line_text group.lines in
    let blanks = flat_map line_of group.blank_lines in
    let more = flat_map group_text groups in
    ap no_mark (append_assoc lines blanks more)
    ∙ lines_no_mark group.lines (blanks ++ more) parts.lines parts.first (blanks_no_mark group.blank_lines more parts.blanks (groups_no_mark groups both.1))
