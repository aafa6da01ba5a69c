-- Lines that are written are read piece by piece.
use Rattle.std.proofs.Common.{◌≡◌, ℕ, Bool, true, false, not, ◌&&◌, ◌||◌, cond, List, [], ◌∷◌, ◌++◌, length, take, flat_map, refl, ap, sym, ◌∙◌, arith, append_assoc}
use Rattle.std.specs.Prelude.{◌==◌, nat_lt}
use Rattle.std.specs.List.{list_all, position_or_len, after_first}
use Rattle.std.proofs.lemmas.Bool.{and_parts, and_left, and_right, not-true, lt-ltb}
use Rattle.std.proofs.lemmas.List.Sums.{sum_by-append}
use Rattle.byte_text.specs.Blanks.{is_blank}
use Rattle.byte_text.specs.Lines.{is_line_end, line_of}
use Rattle.byte_text.proofs.Places.{position_or_len-cons}
use Rattle.pbn_text.specs.Pieces.{Piece, passed, game_end, Ahead, ahead_of, ends_token, past_line, piece_ahead, in_line_ahead, is_skipped_line, is_blank_line, pieces}
use Rattle.pbn_plain.specs.PlainText.{PlainItem, blank, tag_pair, word, quoted, comment, PlainLine, items_line, commented, skipped, escaped, string_text, item_text, line_text}
use Rattle.pbn_plain.specs.WellWritten.{is_line_byte, is_word_byte, is_run, is_plain_item, is_word, is_blank_item, are_apart, are_plain_items, is_plain_line, begins_with_percent}
use Rattle.pbn_plain.specs.Numbered.{line_after}
use Rattle.pbn_plain.proofs.Runs.{stops, lacks, before-behind, rest-behind, after-behind, all_weaker}
use Rattle.pbn_plain.proofs.Scanned.{front_after, front_after-append, one_piece, front_inside}
use Rattle.pbn_plain.proofs.Bytes.{blank-inside, blank-kept, blank-ends_token, line-inside, word-stays, word-inside, in_token}
use Rattle.pbn_plain.proofs.Items.{item_piece, ends_item, item-read}

pub line_after-append : (line : ℕ) (xs ys : List ℕ) → line_after (line_after line xs) ys ≡ line_after line (xs ++ ys)
line_after-append line xs ys = omega (arith, sum_by-append (λ b. cond (is_line_end b) 1 0) xs ys)

-- ---- one item

-- no line ends in these bytes
stays_inside : (text : List ℕ) → lacks is_line_end text ≡ true → front_after false text ≡ false
stays_inside [] none = refl
stays_inside (byte ∷ text) none =
    let parts = and_parts (not (is_line_end byte)) (lacks is_line_end text) none in
    ap (λ f. front_after f text) (not-true (is_line_end byte) parts.0) ∙ stays_inside text parts.1

item-inside : (item : PlainItem) → is_plain_item item ≡ true → front_after false (item_text item) ≡ false
item-inside (blank byte) plain = blank-inside byte plain
item-inside (tag_pair pair) plain = front_after-append false (91 ∷ pair.before_name ++ pair.name ++ pair.before_value ++ string_text pair.value ++ pair.before_end) (93 ∷ [])
item-inside (word text) plain = stays_inside text (all_weaker is_word_byte (λ b. not (is_line_end b)) word-inside text (and_parts (nat_lt 0 (length text)) (list_all is_word_byte text) plain).1)
item-inside (quoted characters) plain = front_after-append false (34 ∷ escaped characters) (34 ∷ [])
item-inside (comment text) plain = front_after-append false (123 ∷ text) (125 ∷ [])

some : (byte : ℕ) (rest : List ℕ) → nat_lt 0 (length (byte ∷ rest)) ≡ true
some byte rest = lt-ltb 0 (length (byte ∷ rest)) (omega arith)

item-some : (item : PlainItem) → is_plain_item item ≡ true → nat_lt 0 (length (item_text item)) ≡ true
item-some (blank byte) plain = some byte []
item-some (tag_pair pair) plain = some 91 (pair.before_name ++ pair.name ++ pair.before_value ++ string_text pair.value ++ pair.before_end ++ 93 ∷ [])
item-some (word text) plain = (and_parts (nat_lt 0 (length text)) (list_all is_word_byte text) plain).0
item-some (quoted characters) plain = some 34 (escaped characters ++ 34 ∷ [])
item-some (comment text) plain = some 123 (text ++ 125 ∷ [])

one_inside : (line : ℕ) (text rest : List ℕ) (piece : Piece) → nat_lt 0 (length text) ≡ true → front_after false text ≡ false → piece_ahead false line (text ++ rest) ≡ ahead_of piece rest
    → pieces false line 0 (text ++ rest) ≡ piece ∷ pieces false (line_after line text) 0 rest
one_inside line [] rest piece any inside ahead = absurd cc
one_inside line (byte ∷ text) rest piece any inside ahead = one_piece false line byte text rest piece ahead ∙ ap (λ f. piece ∷ pieces f (line_after line (byte ∷ text)) 0 rest) inside

-- ---- the items of a line

abbrev pub items_pieces : ℕ → List PlainItem → List Piece
items_pieces line [] = []
items_pieces line (item ∷ items) = item_piece line item ∷ items_pieces (line_after line (item_text item)) items

-- what follows an item doesn't go on with it
apart : (item : PlainItem) (items : List PlainItem) (rest : List ℕ) → list_all is_plain_item items ≡ true → are_apart (item ∷ items) ≡ true → stops ends_token rest ≡ true → ends_item item (flat_map item_text items ++ rest) ≡ true
apart (blank byte) items rest plain parted at = refl
apart (tag_pair pair) items rest plain parted at = refl
apart (quoted characters) items rest plain parted at = refl
apart (comment text) items rest plain parted at = refl
apart (word text) [] rest plain parted at = at
apart (word text) (blank byte ∷ items) rest plain parted at = blank-ends_token byte (and_parts (is_blank byte) (list_all is_plain_item items) plain).0
apart (word text) (tag_pair pair ∷ items) rest plain parted at = refl
apart (word text) (word next ∷ items) rest plain parted at = absurd cc
apart (word text) (quoted characters ∷ items) rest plain parted at = refl
apart (word text) (comment more ∷ items) rest plain parted at = refl

parted-tail : (item : PlainItem) (items : List PlainItem) → are_apart (item ∷ items) ≡ true → are_apart items ≡ true
parted-tail item [] parted = refl
parted-tail item (next ∷ items) parted = (and_parts (not (is_word item && is_word next)) (are_apart (next ∷ items)) parted).1

pub items_read : (line : ℕ) (items : List PlainItem) (rest : List ℕ) → list_all is_plain_item items ≡ true → are_apart items ≡ true → stops ends_token rest ≡ true
    → pieces false line 0 (flat_map item_text items ++ rest) ≡ items_pieces line items ++ pieces false (line_after line (flat_map item_text items)) 0 rest
items_read line [] rest plain parted at = ap (λ n. pieces false n 0 rest) (omega arith)
items_read line (item ∷ items) rest plain parted at =
    let parts = and_parts (is_plain_item item) (list_all is_plain_item items) plain in
    let text = item_text item in
    let more = flat_map item_text items in
    let next = line_after line text in
    ap (pieces false line 0) (append_assoc text more rest)
    ∙ one_inside line text (more ++ rest) (item_piece line item) (item-some item parts.0) (item-inside item parts.0) (item-read line item (more ++ rest) parts.0 (apart item items rest parts.1 parted at))
    ∙ ap (λ behind. item_piece line item ∷ behind)
    (items_read next items rest parts.1 (parted-tail item items parted) at ∙ ap (λ n. items_pieces next items ++ pieces false n 0 rest) (line_after-append line text more))

-- ---- the front of a line

pub ink_first : (byte : ℕ) (rest : List ℕ) → is_line_end byte ≡ false → is_blank byte ≡ false → is_blank_line (byte ∷ rest) ≡ false
ink_first byte rest inside other = ap (λ n. list_all is_blank (take n (byte ∷ rest))) (position_or_len-cons is_line_end byte rest inside) ∙ and_left (is_blank byte) (list_all is_blank (take (position_or_len is_line_end rest) rest)) other

blank_first : (byte : ℕ) (rest : List ℕ) → is_blank byte ≡ true → is_blank_line (byte ∷ rest) ≡ is_blank_line rest
blank_first byte rest is =
    ap (λ n. list_all is_blank (take n (byte ∷ rest))) (position_or_len-cons is_line_end byte rest (blank-inside byte is)) ∙ ap (λ b. b && is_blank_line rest) is

-- a line in which something else than blanks stands
has_ink : (items : List PlainItem) (rest : List ℕ) → list_all is_plain_item items ≡ true → (list_all is_blank_item items && is_blank_line rest) ≡ false → is_blank_line (flat_map item_text items ++ rest) ≡ false
has_ink [] rest plain ink = ink
has_ink (blank byte ∷ items) rest plain ink =
    let parts = and_parts (is_blank byte) (list_all is_plain_item items) plain in
    blank_first byte (flat_map item_text items ++ rest) parts.0 ∙ has_ink items rest parts.1 ink
has_ink (tag_pair pair ∷ items) rest plain ink = ink_first 91 (pair.before_name ++ pair.name ++ pair.before_value ++ string_text pair.value ++ pair.before_end ++ 93 ∷ [] ++ flat_map item_text items ++ rest) refl refl
has_ink (word [] ∷ items) rest plain ink = absurd cc
has_ink (word (byte ∷ bytes) ∷ items) rest plain ink =
    let word_is = (and_parts (is_run is_word_byte (byte ∷ bytes)) (list_all is_plain_item items) plain).0 in
    let each = (and_parts (nat_lt 0 (length (byte ∷ bytes))) (list_all is_word_byte (byte ∷ bytes)) word_is).1 in
    let first = in_token byte (not-true (ends_token byte) (word-stays byte (and_parts (is_word_byte byte) (list_all is_word_byte bytes) each).0)) in
    ink_first byte (bytes ++ flat_map item_text items ++ rest) first.line_end first.blank
has_ink (quoted characters ∷ items) rest plain ink = ink_first 34 (escaped characters ++ 34 ∷ [] ++ flat_map item_text items ++ rest) refl refl
has_ink (comment text ∷ items) rest plain ink = ink_first 123 (text ++ 125 ∷ [] ++ flat_map item_text items ++ rest) refl refl

kept_line : (xs rest : List ℕ) → is_skipped_line xs ≡ false → is_skipped_line rest ≡ false → is_skipped_line (xs ++ rest) ≡ false
kept_line [] rest first behind = behind
kept_line (x ∷ xs) rest first behind = first

percent_first : (text : List ℕ) → is_skipped_line text ≡ begins_with_percent text
percent_first [] = refl
percent_first (byte ∷ rest) = either (byte == 37) where
  either : (b : Bool) → b ≡ (b || false)
  either true = refl
  either false = refl

from_front : (line : ℕ) (text : List ℕ) → is_skipped_line text ≡ false → is_blank_line text ≡ false → pieces true line 0 text ≡ pieces false line 0 text
unfolding pieces
from_front line [] kept ink = refl
from_front line (byte ∷ rest) kept ink = front_inside line byte rest kept ink

-- what stands in a line, from its front
pub front_read : (line : ℕ) (items : List PlainItem) (rest : List ℕ) → are_plain_items items ≡ true → stops ends_token rest ≡ true → is_skipped_line rest ≡ false → (list_all is_blank_item items && is_blank_line rest) ≡ false
    → pieces true line 0 (flat_map item_text items ++ rest) ≡ items_pieces line items ++ pieces false (line_after line (flat_map item_text items)) 0 rest
front_read line items rest plain at kept ink =
    let text = flat_map item_text items in
    let one = and_parts (list_all is_plain_item items) (are_apart items && not (begins_with_percent text)) plain in
    let two = and_parts (are_apart items) (not (begins_with_percent text)) one.1 in
    from_front line (text ++ rest) (kept_line text rest (percent_first text ∙ not-true (begins_with_percent text) two.1) kept) (has_ink items rest one.0 ink)
    ∙ items_read line items rest one.0 two.0 at

-- ---- a line

end_read : (line : ℕ) (rest : List ℕ) → pieces false line 0 (10 ∷ rest) ≡ passed ∷ pieces true (line_after line (10 ∷ [])) 0 rest
unfolding piece_ahead
end_read line rest = one_piece false line 10 [] rest passed refl

-- a comment after a semicolon, and the line's end
comment_read : (line : ℕ) (text rest : List ℕ) → list_all is_line_byte text ≡ true → pieces false line 0 (59 ∷ (text ++ (10 ∷ rest))) ≡ passed ∷ passed ∷ pieces true (line_after line (59 ∷ line_of text)) 0 rest
unfolding piece_ahead
comment_read line text rest each =
    let none = all_weaker is_line_byte (λ b. not (is_line_end b)) line-inside text each in
    one_piece false line 59 text (10 ∷ rest) passed (ap (ahead_of passed) (rest-behind is_line_end text (10 ∷ rest) none refl))
    ∙ ap (λ f. passed ∷ pieces f (line_after line (59 ∷ text)) 0 (10 ∷ rest)) (stays_inside text none)
    ∙ ap (λ behind. passed ∷ behind) (end_read (line_after line (59 ∷ text)) rest)
    ∙ ap (λ n. passed ∷ passed ∷ pieces true n 0 rest) (line_after-append line (59 ∷ text) (10 ∷ []))

skipped_read : (line : ℕ) (text rest : List ℕ) → list_all is_line_byte text ≡ true → pieces true line 0 (37 ∷ (text ++ (10 ∷ rest))) ≡ passed ∷ passed ∷ pieces true (line_after line (37 ∷ line_of text)) 0 rest
unfolding piece_ahead
skipped_read line text rest each =
    let none = all_weaker is_line_byte (λ b. not (is_line_end b)) line-inside text each in
    one_piece true line 37 text (10 ∷ rest) passed (ap (ahead_of passed) (rest-behind is_line_end (37 ∷ text) (10 ∷ rest) none refl))
    ∙ ap (λ f. passed ∷ pieces f (line_after line (37 ∷ text)) 0 (10 ∷ rest)) (stays_inside text none)
    ∙ ap (λ behind. passed ∷ behind) (end_read (line_after line (37 ∷ text)) rest)
    ∙ ap (λ n. passed ∷ passed ∷ pieces true n 0 rest) (line_after-append line (37 ∷ text) (10 ∷ []))

abbrev pub line_pieces : ℕ → PlainLine → List Piece
line_pieces line (items_line items) = items_pieces line items ++ passed ∷ []
line_pieces line (commented items text) = items_pieces line items ++ passed ∷ passed ∷ []
line_pieces line (skipped text) = passed ∷ passed ∷ []

pub line_read : (line : ℕ) (next : PlainLine) (rest : List ℕ) → is_plain_line next ≡ true → pieces true line 0 (line_text next ++ rest) ≡ line_pieces line next ++ pieces true (line_after line (line_text next)) 0 rest
line_read line (items_line items) rest plain =
    let parts = and_parts (are_plain_items items) (not (list_all is_blank_item items)) plain in
    let text = flat_map item_text items in
    let ink = and_left (list_all is_blank_item items) (is_blank_line (10 ∷ rest)) (not-true (list_all is_blank_item items) parts.1) in
    ap (pieces true line 0) (append_assoc text (10 ∷ []) rest)
    ∙ front_read line items (10 ∷ rest) parts.0 refl refl ink
    ∙ ap (λ behind. items_pieces line items ++ behind) (end_read (line_after line text) rest ∙ ap (λ n. passed ∷ pieces true n 0 rest) (line_after-append line text (10 ∷ [])))
    ∙ sym (append_assoc (items_pieces line items) (passed ∷ []) (pieces true (line_after line (text ++ 10 ∷ [])) 0 rest))
line_read line (commented items text) rest plain =
    let parts = and_parts (are_plain_items items) (list_all is_line_byte text) plain in
    let before = flat_map item_text items in
    let behind = 59 ∷ (text ++ (10 ∷ rest)) in
    let ink = and_right (list_all is_blank_item items) (is_blank_line behind) (ink_first 59 (text ++ (10 ∷ rest)) refl refl) in
    ap (pieces true line 0) (append_assoc before (59 ∷ line_of text) rest ∙ ap (λ more. before ++ (59 ∷ more)) (append_assoc text (10 ∷ []) rest))
    ∙ front_read line items behind parts.0 refl refl ink
    ∙ ap (λ more. items_pieces line items ++ more) (comment_read (line_after line before) text rest parts.1 ∙ ap (λ n. passed ∷ passed ∷ pieces true n 0 rest) (line_after-append line before (59 ∷ line_of text)))
    ∙ sym (append_assoc (items_pieces line items) (passed ∷ passed ∷ []) (pieces true (line_after line (before ++ 59 ∷ line_of text)) 0 rest))
line_read line (skipped text) rest plain = ap (λ more. pieces true line 0 (37 ∷ more)) (append_assoc text (10 ∷ []) rest) ∙ skipped_read line text rest plain

-- ---- a line of blanks alone

pub picked : (a b : Bool) (p q r : Ahead) → a ≡ false → b ≡ true → cond a p (cond b q r) ≡ q
picked a b p q r first second = rw (first, second) refl

blank_line-is : (line byte : ℕ) (blanks rest : List ℕ) → list_all is_blank (byte ∷ blanks) ≡ true → piece_ahead true line (byte ∷ (blanks ++ (10 ∷ rest))) ≡ ahead_of game_end rest
unfolding piece_ahead
blank_line-is line byte blanks rest each =
    let text = byte ∷ (blanks ++ (10 ∷ rest)) in
    let none = all_weaker is_blank (λ b. not (is_line_end b)) (λ b is. grind arith) (byte ∷ blanks) each in
    let kept = blank-kept byte (and_parts (is_blank byte) (list_all is_blank blanks) each).0 in
    let all : is_blank_line text ≡ true = ap (list_all is_blank) (before-behind is_line_end (byte ∷ blanks) (10 ∷ rest) none refl) ∙ each in
    picked (is_skipped_line text) (is_blank_line text) (ahead_of passed (past_line text)) (ahead_of game_end (after_first is_line_end text)) (in_line_ahead line text) kept all
    ∙ ap (ahead_of game_end) (after-behind is_line_end (byte ∷ blanks) 10 rest none refl)

pub blank_line_read : (line : ℕ) (blanks rest : List ℕ) → list_all is_blank blanks ≡ true → pieces true line 0 (line_of blanks ++ rest) ≡ game_end ∷ pieces true (line_after line (line_of blanks)) 0 rest
unfolding piece_ahead
blank_line_read line [] rest each = one_piece true line 10 [] rest game_end refl
blank_line_read line (byte ∷ blanks) rest each =
    one_piece true line byte (blanks ++ 10 ∷ []) rest game_end (ap (λ more. piece_ahead true line (byte ∷ more)) (append_assoc blanks (10 ∷ []) rest) ∙ blank_line-is line byte blanks rest each)
    ∙ ap (λ f. game_end ∷ pieces f (line_after line (line_of (byte ∷ blanks))) 0 rest) (front_after-append true (byte ∷ blanks) (10 ∷ []))
