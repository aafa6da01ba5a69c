-- A text whose last line has no end.
use Rattle.std.proofs.Common.{◌≡◌, ℕ, ◌+◌, Bool, true, false, not, List, [], ◌∷◌, ◌++◌, length, flat_map, Option, Some, None, refl, ap, ap₂, sym, ◌∙◌, arith, append_assoc}
use Rattle.std.specs.List.{list_all, after_first, position_or_len}
use Rattle.std.proofs.lemmas.Bool.{and_parts, and_left, and_right, not-true}
use Rattle.std.proofs.lemmas.List.{append-nil, drop_all}
use Rattle.byte_text.specs.Blanks.{is_blank}
use Rattle.byte_text.specs.Lines.{is_line_end, line_of}
use Rattle.pbn_text.specs.Games.{TagValue, GameValue}
use Rattle.pbn_text.specs.Pieces.{Piece, passed, game_end, tag, token, fault, ahead_of, past_line, piece_ahead, in_line_ahead, is_skipped_line, is_blank_line, pieces}
use Rattle.pbn_text.specs.Reading.{with_token, open_tags, with_game, games_with}
use Rattle.pbn_plain.specs.PlainText.{PlainLine, items_line, commented, skipped, PlainGroup, item_text, line_text, group_text}
use Rattle.pbn_plain.specs.WellWritten.{is_line_byte, is_blank_item, are_plain_items, is_plain_line, is_plain_group}
use Rattle.pbn_plain.specs.Numbered.{line_after}
use Rattle.pbn_plain.proofs.Runs.{position-behind, before-behind, rest-behind, all_weaker}
use Rattle.pbn_plain.proofs.Scanned.{front_after, one_piece}
use Rattle.pbn_plain.proofs.Bytes.{line-inside, blank-kept}
use Rattle.pbn_plain.proofs.Lines.{items_pieces, line_pieces, line_read, blank_line_read, front_read, ink_first, picked}
use Rattle.pbn_plain.proofs.Groups.{lines_pieces, ends, text_pieces, lines_read, group_read, groups_read, PlainParts, plain_parts}

-- two lists of pieces come to the same, whatever was read before
abbrev pub ComeToTheSame : List Piece → List Piece → Type 0
ComeToTheSame one other = (games : List GameValue) (tags : List TagValue) (last : Option TagValue) → games_with games tags last one ≡ games_with games tags last other

same_behind : (before one other : List Piece) → ComeToTheSame one other → ComeToTheSame (before ++ one) (before ++ other)
same_behind [] one other same games tags last = same games tags last
same_behind (passed ∷ before) one other same games tags last = same_behind before one other same games tags last
same_behind (game_end ∷ before) one other same games tags last = same_behind before one other same (with_game games (open_tags tags last)) [] None
same_behind (tag name value line ∷ before) one other same games tags last = same_behind before one other same games (open_tags tags last) (Some (record { name = name; value = value; line = line; tokens = [] }))
same_behind (token found ∷ before) one other same games tags None = refl
same_behind (token found ∷ before) one other same games tags (Some pair) = same_behind before one other same games tags (Some (with_token pair found))
same_behind (fault line kind ∷ before) one other same games tags None = refl
same_behind (fault line kind ∷ before) one other same games tags (Some pair) = refl

nothing_passed : ComeToTheSame [] (passed ∷ [])
nothing_passed games tags last = refl

nothing_ended : ComeToTheSame [] (game_end ∷ [])
nothing_ended games tags last = refl

-- a text reads as these pieces would
abbrev pub ReadsAs : ℕ → List ℕ → List Piece → Type 0
ReadsAs line text found = ComeToTheSame (pieces true line 0 text) found

-- ---- the last line

-- the last byte of two equal lists
same_front : (xs ys : List ℕ) → xs ++ 10 ∷ [] ≡ ys ++ 10 ∷ [] → xs ≡ ys
same_front [] [] same = refl
same_front [] (y ∷ []) same = absurd cc
same_front [] (y ∷ z ∷ ys) same = absurd cc
same_front (x ∷ []) [] same = absurd cc
same_front (x ∷ z ∷ xs) [] same = absurd cc
same_front (x ∷ xs) (y ∷ ys) same =
    let heads : x ≡ y = cc in
    let tails : xs ++ 10 ∷ [] ≡ ys ++ 10 ∷ [] = cc in
    ap₂ (λ (a : ℕ) (b : List ℕ). a ∷ b) heads (same_front xs ys tails)

abbrev open_line : PlainLine → List ℕ
open_line (items_line items) = flat_map item_text items
open_line (commented items text) = flat_map item_text items ++ 59 ∷ text
open_line (skipped text) = 37 ∷ text

open_line-ends : (next : PlainLine) → line_text next ≡ open_line next ++ 10 ∷ []
open_line-ends (items_line items) = refl
open_line-ends (commented items text) = sym (append_assoc (flat_map item_text items) (59 ∷ text) (10 ∷ []))
open_line-ends (skipped text) = refl

nothing_left : (at_front : Bool) (line : ℕ) → pieces at_front line 0 [] ≡ []
unfolding pieces
nothing_left at_front line = refl

-- a comment to the end of the text
last_comment : (line : ℕ) (text : List ℕ) → list_all is_line_byte text ≡ true → pieces false line 0 (59 ∷ text) ≡ passed ∷ []
unfolding piece_ahead
last_comment line text each =
    let none = all_weaker is_line_byte (λ b. not (is_line_end b)) line-inside text each in
    ap (λ more. pieces false line 0 (59 ∷ more)) (sym (append-nil text))
    ∙ one_piece false line 59 text [] passed (ap (ahead_of passed) (rest-behind is_line_end text [] none refl))
    ∙ ap (λ more. passed ∷ more) (nothing_left (front_after false (59 ∷ text)) (line_after line (59 ∷ text)))

last_skipped : (line : ℕ) (text : List ℕ) → list_all is_line_byte text ≡ true → pieces true line 0 (37 ∷ text) ≡ passed ∷ []
unfolding piece_ahead
last_skipped line text each =
    let none = all_weaker is_line_byte (λ b. not (is_line_end b)) line-inside text each in
    ap (λ more. pieces true line 0 (37 ∷ more)) (sym (append-nil text))
    ∙ one_piece true line 37 text [] passed (ap (ahead_of passed) (rest-behind is_line_end (37 ∷ text) [] none refl))
    ∙ ap (λ more. passed ∷ more) (nothing_left (front_after true (37 ∷ text)) (line_after line (37 ∷ text)))

from_pieces : (line : ℕ) (text : List ℕ) (found all last : List Piece) → pieces true line 0 text ≡ found → found ++ last ≡ all → ComeToTheSame [] last → ReadsAs line text all
from_pieces line text found all last read is same games tags pair =
    ap (games_with games tags pair) (read ∙ sym (append-nil found)) ∙ same_behind found [] last same games tags pair ∙ ap (games_with games tags pair) is

line_open : (line : ℕ) (next : PlainLine) → is_plain_line next ≡ true → ReadsAs line (open_line next) (line_pieces line next)
line_open line (items_line items) plain =
    let parts = and_parts (are_plain_items items) (not (list_all is_blank_item items)) plain in
    let text = flat_map item_text items in
    let ink = and_left (list_all is_blank_item items) (is_blank_line []) (not-true (list_all is_blank_item items) parts.1) in
    from_pieces line text (items_pieces line items) (line_pieces line (items_line items)) (passed ∷ [])
    (ap (pieces true line 0) (sym (append-nil text)) ∙ front_read line items [] parts.0 refl refl ink ∙ ap (λ more. items_pieces line items ++ more) (nothing_left false (line_after line text)) ∙ append-nil (items_pieces line items))
    refl nothing_passed
line_open line (commented items text) plain =
    let parts = and_parts (are_plain_items items) (list_all is_line_byte text) plain in
    let before = flat_map item_text items in
    let found = items_pieces line items in
    let ink = and_right (list_all is_blank_item items) (is_blank_line (59 ∷ text)) (ink_first 59 text refl refl) in
    from_pieces line (before ++ 59 ∷ text) (found ++ passed ∷ []) (line_pieces line (commented items text)) (passed ∷ [])
    (front_read line items (59 ∷ text) parts.0 refl refl ink ∙ ap (λ more. found ++ more) (last_comment (line_after line before) text parts.1)) (append_assoc found (passed ∷ []) (passed ∷ [])) nothing_passed
line_open line (skipped text) plain = from_pieces line (37 ∷ text) (passed ∷ []) (line_pieces line (skipped text)) (passed ∷ []) (last_skipped line text plain) refl nothing_passed

last_blanks : (line byte : ℕ) (blanks : List ℕ) → list_all is_blank (byte ∷ blanks) ≡ true → pieces true line 0 (byte ∷ blanks) ≡ game_end ∷ []
unfolding piece_ahead
last_blanks line byte blanks each =
    let text = byte ∷ blanks in
    let none = all_weaker is_blank (λ b. not (is_line_end b)) (λ b is. grind arith) text each in
    let whole = append-nil text in
    let kept = blank-kept byte (and_parts (is_blank byte) (list_all is_blank blanks) each).0 in
    let all : is_blank_line text ≡ true = ap is_blank_line (sym whole) ∙ ap (list_all is_blank) (before-behind is_line_end text [] none refl) ∙ each in
    let place : position_or_len is_line_end text ≡ length text = ap (position_or_len is_line_end) (sym whole) ∙ position-behind is_line_end text [] none refl in
    let past : after_first is_line_end text ≡ [] = drop_all (position_or_len is_line_end text + 1) text (omega arith) in
    let ahead : piece_ahead true line text ≡ ahead_of game_end [] =
    picked (is_skipped_line text) (is_blank_line text) (ahead_of passed (past_line text)) (ahead_of game_end (after_first is_line_end text)) (in_line_ahead line text) kept all ∙ ap (ahead_of game_end) past in
    ap (pieces true line 0) (sym whole)
    ∙ one_piece true line byte blanks [] game_end (ap (piece_ahead true line) whole ∙ ahead)
    ∙ ap (λ more. game_end ∷ more) (nothing_left (front_after true text) (line_after line text))

blanks_open : (line : ℕ) (blanks : List ℕ) → list_all is_blank blanks ≡ true → ReadsAs line blanks (game_end ∷ [])
blanks_open line [] each = from_pieces line [] [] (game_end ∷ []) (game_end ∷ []) (nothing_left true line) refl nothing_ended
blanks_open line (byte ∷ blanks) each = from_pieces line (byte ∷ blanks) (game_end ∷ []) (game_end ∷ []) [] (last_blanks line byte blanks each) refl (λ games tags last. refl)

-- ---- what stands before the last line

-- a text that ends behind another begins with it
record Behind (front rest text : List ℕ) : Type 0 where
  pub left : List ℕ
  pub is : text ≡ front ++ left
  pub ends : left ++ 10 ∷ [] ≡ rest

behind : (front : List ℕ) (byte : ℕ) (rest text : List ℕ) → text ++ 10 ∷ [] ≡ front ++ byte ∷ rest → Behind front (byte ∷ rest) text
behind [] byte rest text same = record { left = text; is = refl; ends = same }
behind (x ∷ []) byte rest [] same = absurd cc
behind (x ∷ z ∷ front) byte rest [] same = absurd cc
behind (x ∷ front) byte rest (t ∷ text) same =
    let heads : t ≡ x = cc in
    let tails : text ++ 10 ∷ [] ≡ front ++ byte ∷ rest = cc in
    let more = behind front byte rest text tails in
    record { left = more.left; is = ap₂ (λ (a : ℕ) (b : List ℕ). a ∷ b) heads more.is; ends = more.ends }

-- pieces that were read, and what the text behind them reads as
after_pieces : (line next : ℕ) (front left text : List ℕ) (found more : List Piece) → text ≡ front ++ left → pieces true line 0 (front ++ left) ≡ found ++ pieces true next 0 left → ReadsAs next left more → ReadsAs line text (found ++ more)
after_pieces line next front left text found more is read same games tags last =
    ap (λ t. games_with games tags last (pieces true line 0 t)) is ∙ ap (games_with games tags last) read ∙ same_behind found (pieces true next 0 left) more same games tags last

-- a text with an end isn't empty
ended_some : (xs more : List ℕ) → (xs ++ 10 ∷ []) ++ more ≡ [] → ⊥
ended_some [] more none = cc
ended_some (x ∷ xs) more none = cc

line_some : (next : PlainLine) (more : List ℕ) → line_text next ++ more ≡ [] → ⊥
line_some next more none = ended_some (open_line next) more (ap (λ text. text ++ more) (sym (open_line-ends next)) ∙ none)

lines_open : (line : ℕ) (next : PlainLine) (lines : List PlainLine) (text : List ℕ) → list_all is_plain_line (next ∷ lines) ≡ true → text ++ 10 ∷ [] ≡ flat_map line_text (next ∷ lines) → ReadsAs line text (lines_pieces line (next ∷ lines))
lines_open line next [] text plain is =
    let one = (and_parts (is_plain_line next) true plain).0 in
    let same : text ≡ open_line next = same_front text (open_line next) (is ∙ append-nil (line_text next) ∙ open_line-ends next) in
    λ games tags last.
    ap (λ t. games_with games tags last (pieces true line 0 t)) same ∙ line_open line next one games tags last ∙ ap (games_with games tags last) (sym (append-nil (line_pieces line next)))
lines_open line next (second ∷ lines) text plain is =
    let parts = and_parts (is_plain_line next) (list_all is_plain_line (second ∷ lines)) plain in
    some parts.0 (λ left. lines_open (line_after line (line_text next)) second lines left parts.1) (flat_map line_text (second ∷ lines)) refl where
      some : is_plain_line next ≡ true → ((left : List ℕ) → left ++ 10 ∷ [] ≡ flat_map line_text (second ∷ lines) → ReadsAs (line_after line (line_text next)) left (lines_pieces (line_after line (line_text next)) (second ∷ lines)))
          → (rest : List ℕ) → flat_map line_text (second ∷ lines) ≡ rest → ReadsAs line text (lines_pieces line (next ∷ second ∷ lines))
      some first again [] none = absurd (line_some second (flat_map line_text lines) none)
      some first again (byte ∷ rest) has =
          let after = line_after line (line_text next) in
          let left = behind (line_text next) byte rest text (is ∙ ap (λ t. line_text next ++ t) has) in
          after_pieces line after (line_text next) left.left text (line_pieces line next) (lines_pieces after (second ∷ lines)) left.is (line_read line next left.left first) (again left.left (left.ends ∙ sym has))

ends_open : (line : ℕ) (blanks : List ℕ) (blank_lines : List (List ℕ)) (text : List ℕ) → list_all (list_all is_blank) (blanks ∷ blank_lines) ≡ true → text ++ 10 ∷ [] ≡ flat_map line_of (blanks ∷ blank_lines) → ReadsAs line text (ends (blanks ∷ blank_lines))
ends_open line blanks [] text each is =
    let one = (and_parts (list_all is_blank blanks) true each).0 in
    let same : text ≡ blanks = same_front text blanks (is ∙ append-nil (line_of blanks)) in
    λ games tags last. ap (λ t. games_with games tags last (pieces true line 0 t)) same ∙ blanks_open line blanks one games tags last
ends_open line blanks (second ∷ blank_lines) text each is =
    let parts = and_parts (list_all is_blank blanks) (list_all (list_all is_blank) (second ∷ blank_lines)) each in
    some parts.0 (λ left. ends_open (line_after line (line_of blanks)) second blank_lines left parts.1) (flat_map line_of (second ∷ blank_lines)) refl where
      some : list_all is_blank blanks ≡ true → ((left : List ℕ) → left ++ 10 ∷ [] ≡ flat_map line_of (second ∷ blank_lines) → ReadsAs (line_after line (line_of blanks)) left (ends (second ∷ blank_lines)))
          → (rest : List ℕ) → flat_map line_of (second ∷ blank_lines) ≡ rest → ReadsAs line text (ends (blanks ∷ second ∷ blank_lines))
      some first again [] none = absurd (ended_some second (flat_map line_of blank_lines) none)
      some first again (byte ∷ rest) has =
          let after = line_after line (line_of blanks) in
          let left = behind (line_of blanks) byte rest text (is ∙ ap (λ t. line_of blanks ++ t) has) in
          after_pieces line after (line_of blanks) left.left text (game_end ∷ []) (ends (second ∷ blank_lines)) left.is (blank_line_read line blanks left.left first) (again left.left (left.ends ∙ sym has))

-- ---- groups

group_open : (line : ℕ) (lines : List PlainLine) (blank_lines : List (List ℕ)) (text : List ℕ) → list_all is_plain_line lines ≡ true → list_all (list_all is_blank) blank_lines ≡ true
    → text ++ 10 ∷ [] ≡ flat_map line_text lines ++ flat_map line_of blank_lines → ReadsAs line text (lines_pieces line lines ++ ends blank_lines)
group_open line [] [] text plain each is = absurd (ended_some text [] (append-nil (text ++ 10 ∷ []) ∙ is))
group_open line [] (blanks ∷ blank_lines) text plain each is = ends_open line blanks blank_lines text each is
group_open line (next ∷ lines) [] text plain each is =
    λ games tags last.
    lines_open line next lines text plain (is ∙ append-nil (flat_map line_text (next ∷ lines))) games tags last ∙ ap (games_with games tags last) (sym (append-nil (lines_pieces line (next ∷ lines))))
group_open line (next ∷ lines) (blanks ∷ blank_lines) text plain each is = some (flat_map line_of (blanks ∷ blank_lines)) refl where
  some : (rest : List ℕ) → flat_map line_of (blanks ∷ blank_lines) ≡ rest → ReadsAs line text (lines_pieces line (next ∷ lines) ++ ends (blanks ∷ blank_lines))
  some [] none = absurd (ended_some blanks (flat_map line_of blank_lines) none)
  some (byte ∷ rest) has =
      let front = flat_map line_text (next ∷ lines) in
      let after = line_after line front in
      let left = behind front byte rest text (is ∙ ap (λ t. front ++ t) has) in
      after_pieces line after front left.left text (lines_pieces line (next ∷ lines)) (ends (blanks ∷ blank_lines)) left.is (lines_read line (next ∷ lines) left.left plain) (ends_open after blanks blank_lines left.left each (left.ends ∙ sym has))

pub groups_open : (line : ℕ) (groups : List PlainGroup) (text : List ℕ) → list_all is_plain_group groups ≡ true → text ++ 10 ∷ [] ≡ flat_map group_text groups → ReadsAs line text (text_pieces line groups)
groups_open line [] text plain is = absurd (ended_some text [] (append-nil (text ++ 10 ∷ []) ∙ is))
groups_open line (group ∷ groups) text plain is =
    let both = and_parts (is_plain_group group) (list_all is_plain_group groups) plain in
    some (plain_parts group both.0) both.1 (λ left. groups_open (line_after line (group_text group)) groups left both.1) (flat_map group_text groups) refl where
      some : PlainParts group → list_all is_plain_group groups ≡ true → ((left : List ℕ) → left ++ 10 ∷ [] ≡ flat_map group_text groups → ReadsAs (line_after line (group_text group)) left (text_pieces (line_after line (group_text group)) groups))
          → (rest : List ℕ) → flat_map group_text groups ≡ rest → ReadsAs line text (text_pieces line (group ∷ groups))
      some parts others again [] none =
          let after = line_after line (group_text group) in
          let found = lines_pieces line group.lines in
          let last_ends = ends group.blank_lines in
          let nothing : text_pieces after groups ≡ [] = sym (groups_read after groups others) ∙ ap (pieces true after 0) none ∙ nothing_left true after in
          λ games tags last.
          group_open line group.lines group.blank_lines text parts.lines parts.blanks (is ∙ ap (λ t. group_text group ++ t) none ∙ append-nil (group_text group)) games tags last
          ∙ ap (games_with games tags last) (ap (λ more. found ++ more) (sym (append-nil last_ends) ∙ ap (λ more. last_ends ++ more) (sym nothing)))
      some parts others again (byte ∷ rest) has =
          let front = group_text group in
          let after = line_after line front in
          let found = lines_pieces line group.lines in
          let left = behind front byte rest text (is ∙ ap (λ t. front ++ t) has) in
          λ games tags last.
          after_pieces line after front left.left text (found ++ ends group.blank_lines) (text_pieces after groups) left.is (group_read line group left.left parts) (again left.left (left.ends ∙ sym has)) games tags last
          ∙ ap (games_with games tags last) (append_assoc found (ends group.blank_lines) (text_pieces after groups))
