-- The pieces of a text that is written, and the games that they make.
use Rattle.std.proofs.Common.{◌≡◌, ℕ, Bool, true, false, ◌&&◌, cond, List, [], ◌∷◌, ◌++◌, length, map, filter, flat_map, None, refl, ap, ap₂, sym, ◌∙◌, append_assoc, arith}
use Rattle.std.specs.Prelude.{nat_lt}
use Rattle.std.specs.List.{list_all, slice_split, onto_first}
use Rattle.std.proofs.lemmas.Bool.{and_parts, and_from}
use Rattle.std.proofs.lemmas.List.{append-nil}
use Rattle.std.proofs.lemmas.List.Folds.{list_all-append}
use Rattle.std.proofs.lemmas.Grind.{flat_map-append}
use Rattle.byte_text.specs.Blanks.{is_blank}
use Rattle.byte_text.specs.Lines.{line_of}
use Rattle.pbn_text.specs.Games.{TokenValue, TagValue, GameValue}
use Rattle.pbn_text.specs.Pieces.{Piece, passed, game_end, tag, token, fault, pieces}
use Rattle.pbn_text.specs.Grammar.{tokens_ahead, tags_of, is_game_end, game_of, has_tag, first_fault, games_in}
use Rattle.pbn_plain.specs.PlainText.{PlainItem, blank, tag_pair, word, quoted, comment, PlainLine, items_line, commented, skipped, PlainGroup, item_text, line_text, group_text}
use Rattle.pbn_plain.specs.WellWritten.{is_plain_line, items_of, has_tag_first, is_plain_group, are_parted}
use Rattle.pbn_plain.specs.Numbered.{Entry, tag_entry, token_entry, first_tokens, tag_values, line_after, item_entries, items_entries, lines_entries, groups_from}
use Rattle.pbn_plain.proofs.Items.{item_piece}
use Rattle.pbn_plain.proofs.Lines.{line_after-append, items_pieces, line_pieces, line_read, blank_line_read}

-- ---- all pieces of a text

abbrev pub lines_pieces : ℕ → List PlainLine → List Piece
lines_pieces line [] = []
lines_pieces line (next ∷ lines) = line_pieces line next ++ lines_pieces (line_after line (line_text next)) lines

abbrev pub ends : List (List ℕ) → List Piece
ends blank_lines = map (λ blanks. game_end) blank_lines

abbrev pub text_pieces : ℕ → List PlainGroup → List Piece
text_pieces line [] = []
text_pieces line (group ∷ groups) = lines_pieces line group.lines ++ (ends group.blank_lines ++ text_pieces (line_after line (group_text group)) groups)

pub lines_read : (line : ℕ) (lines : List PlainLine) (rest : List ℕ) → list_all is_plain_line lines ≡ true → pieces true line 0 (flat_map line_text lines ++ rest) ≡ lines_pieces line lines ++ pieces true (line_after line (flat_map line_text lines)) 0 rest
lines_read line [] rest plain = ap (λ n. pieces true n 0 rest) (omega arith)
lines_read line (next ∷ lines) rest plain =
    let parts = and_parts (is_plain_line next) (list_all is_plain_line lines) plain in
    let text = line_text next in
    let more = flat_map line_text lines in
    let after = line_after line text in
    ap (pieces true line 0) (append_assoc text more rest)
    ∙ line_read line next (more ++ rest) parts.0
    ∙ ap (λ behind. line_pieces line next ++ behind) (lines_read after lines rest parts.1 ∙ ap (λ n. lines_pieces after lines ++ pieces true n 0 rest) (line_after-append line text more))
    ∙ sym (append_assoc (line_pieces line next) (lines_pieces after lines) (pieces true (line_after line (text ++ more)) 0 rest))

pub ends_read : (line : ℕ) (blank_lines : List (List ℕ)) (rest : List ℕ) → list_all (list_all is_blank) blank_lines ≡ true → pieces true line 0 (flat_map line_of blank_lines ++ rest) ≡ ends blank_lines ++ pieces true (line_after line (flat_map line_of blank_lines)) 0 rest
ends_read line [] rest each = ap (λ n. pieces true n 0 rest) (omega arith)
ends_read line (blanks ∷ blank_lines) rest each =
    let parts = and_parts (list_all is_blank blanks) (list_all (list_all is_blank) blank_lines) each in
    let text = line_of blanks in
    let more = flat_map line_of blank_lines in
    ap (pieces true line 0) (append_assoc text more rest)
    ∙ blank_line_read line blanks (more ++ rest) parts.0
    ∙ ap (λ behind. game_end ∷ behind) (ends_read (line_after line text) blank_lines rest parts.1 ∙ ap (λ n. ends blank_lines ++ pieces true n 0 rest) (line_after-append line text more))

pub record PlainParts (group : PlainGroup) : Type 0 where
  pub lines : list_all is_plain_line group.lines ≡ true
  pub first : has_tag_first (flat_map items_of group.lines) ≡ true
  pub blanks : list_all (list_all is_blank) group.blank_lines ≡ true

pub plain_parts : (group : PlainGroup) → is_plain_group group ≡ true → PlainParts group
plain_parts group plain =
    let one = and_parts (list_all is_plain_line group.lines) (has_tag_first (flat_map items_of group.lines) && list_all (list_all is_blank) group.blank_lines) plain in
    let two = and_parts (has_tag_first (flat_map items_of group.lines)) (list_all (list_all is_blank) group.blank_lines) one.1 in
    record { lines = one.0; first = two.0; blanks = two.1 }

pub group_read : (line : ℕ) (group : PlainGroup) (rest : List ℕ) → PlainParts group
    → pieces true line 0 (group_text group ++ rest) ≡ (lines_pieces line group.lines ++ ends group.blank_lines) ++ pieces true (line_after line (group_text group)) 0 rest
group_read line group rest parts =
    let lines = flat_map line_text group.lines in
    let blanks = flat_map line_of group.blank_lines in
    ap (pieces true line 0) (append_assoc lines blanks rest)
    ∙ lines_read line group.lines (blanks ++ rest) parts.lines
    ∙ ap (λ behind. lines_pieces line group.lines ++ behind) (ends_read (line_after line lines) group.blank_lines rest parts.blanks ∙ ap (λ n. ends group.blank_lines ++ pieces true n 0 rest) (line_after-append line lines blanks))
    ∙ sym (append_assoc (lines_pieces line group.lines) (ends group.blank_lines) (pieces true (line_after line (group_text group)) 0 rest))

pub groups_read : (line : ℕ) (groups : List PlainGroup) → list_all is_plain_group groups ≡ true → pieces true line 0 (flat_map group_text groups) ≡ text_pieces line groups
unfolding pieces
groups_read line [] plain = refl
groups_read line (group ∷ groups) plain =
    let both = and_parts (is_plain_group group) (list_all is_plain_group groups) plain in
    let after = line_after line (group_text group) in
    group_read line group (flat_map group_text groups) (plain_parts group both.0)
    ∙ ap (λ behind. (lines_pieces line group.lines ++ ends group.blank_lines) ++ behind) (groups_read after groups both.1)
    ∙ append_assoc (lines_pieces line group.lines) (ends group.blank_lines) (text_pieces after groups)

-- ---- the pieces of one group

abbrev is_kept : Piece → Bool
is_kept passed = true
is_kept game_end = false
is_kept (tag name value line) = true
is_kept (token found) = true
is_kept (fault line kind) = false

abbrev piece_entries : Piece → List Entry
piece_entries passed = []
piece_entries game_end = []
piece_entries (tag name value line) = tag_entry name value line ∷ []
piece_entries (token found) = token_entry found ∷ []
piece_entries (fault line kind) = []

item_kept : (line : ℕ) (item : PlainItem) → is_kept (item_piece line item) ≡ true
item_kept line (blank byte) = refl
item_kept line (tag_pair pair) = refl
item_kept line (word text) = refl
item_kept line (quoted characters) = refl
item_kept line (comment text) = refl

items_kept : (line : ℕ) (items : List PlainItem) → list_all is_kept (items_pieces line items) ≡ true
items_kept line [] = refl
items_kept line (item ∷ items) = and_from (is_kept (item_piece line item)) (list_all is_kept (items_pieces (line_after line (item_text item)) items)) (item_kept line item) (items_kept (line_after line (item_text item)) items)

both_kept : (xs ys : List Piece) → list_all is_kept xs ≡ true → list_all is_kept ys ≡ true → list_all is_kept (xs ++ ys) ≡ true
both_kept xs ys one two = list_all-append is_kept xs ys ∙ and_from (list_all is_kept xs) (list_all is_kept ys) one two

line_kept : (line : ℕ) (next : PlainLine) → list_all is_kept (line_pieces line next) ≡ true
line_kept line (items_line items) = both_kept (items_pieces line items) (passed ∷ []) (items_kept line items) refl
line_kept line (commented items text) = both_kept (items_pieces line items) (passed ∷ passed ∷ []) (items_kept line items) refl
line_kept line (skipped text) = refl

lines_kept : (line : ℕ) (lines : List PlainLine) → list_all is_kept (lines_pieces line lines) ≡ true
lines_kept line [] = refl
lines_kept line (next ∷ lines) = both_kept (line_pieces line next) (lines_pieces (line_after line (line_text next)) lines) (line_kept line next) (lines_kept (line_after line (line_text next)) lines)

item_same : (line : ℕ) (item : PlainItem) → piece_entries (item_piece line item) ≡ item_entries line item
item_same line (blank byte) = refl
item_same line (tag_pair pair) = refl
item_same line (word text) = refl
item_same line (quoted characters) = refl
item_same line (comment text) = refl

items_same : (line : ℕ) (items : List PlainItem) → flat_map piece_entries (items_pieces line items) ≡ items_entries line items
items_same line [] = refl
items_same line (item ∷ items) = ap₂ (λ (xs ys : List Entry). xs ++ ys) (item_same line item) (items_same (line_after line (item_text item)) items)

line_same : (line : ℕ) (next : PlainLine) → flat_map piece_entries (line_pieces line next) ≡ items_entries line (items_of next)
line_same line (items_line items) = flat_map-append piece_entries (items_pieces line items) (passed ∷ []) ∙ append-nil (flat_map piece_entries (items_pieces line items)) ∙ items_same line items
line_same line (commented items text) = flat_map-append piece_entries (items_pieces line items) (passed ∷ passed ∷ []) ∙ append-nil (flat_map piece_entries (items_pieces line items)) ∙ items_same line items
line_same line (skipped text) = refl

lines_same : (line : ℕ) (lines : List PlainLine) → flat_map piece_entries (lines_pieces line lines) ≡ lines_entries line lines
lines_same line [] = refl
lines_same line (next ∷ lines) =
    let after = line_after line (line_text next) in
    flat_map-append piece_entries (line_pieces line next) (lines_pieces after lines) ∙ ap₂ (λ (xs ys : List Entry). xs ++ ys) (line_same line next) (lines_same after lines)

tokens_same : (group : List Piece) → list_all is_kept group ≡ true → tokens_ahead group ≡ first_tokens (flat_map piece_entries group)
tokens_same [] kept = refl
tokens_same (passed ∷ group) kept = tokens_same group kept
tokens_same (game_end ∷ group) kept = absurd cc
tokens_same (tag name value line ∷ group) kept = refl
tokens_same (token found ∷ group) kept = ap (λ more. found ∷ more) (tokens_same group kept)
tokens_same (fault line kind ∷ group) kept = absurd cc

tags_same : (group : List Piece) → list_all is_kept group ≡ true → tags_of group ≡ tag_values (flat_map piece_entries group)
tags_same [] kept = refl
tags_same (passed ∷ group) kept = tags_same group kept
tags_same (game_end ∷ group) kept = absurd cc
tags_same (tag name value line ∷ group) kept = ap₂ (λ (tokens : List TokenValue) (more : List TagValue). record { name = name; value = value; line = line; tokens = tokens } ∷ more) (tokens_same group kept) (tags_same group kept)
tags_same (token found ∷ group) kept = tags_same group kept
tags_same (fault line kind ∷ group) kept = absurd cc

abbrev a_game : List TagValue → GameValue
a_game tags = record { tags = tags }

game_same : (line : ℕ) (lines : List PlainLine) → game_of (lines_pieces line lines) ≡ a_game (tag_values (lines_entries line lines))
game_same line lines = ap a_game (tags_same (lines_pieces line lines) (lines_kept line lines) ∙ ap tag_values (lines_same line lines))

-- ---- the groups of a text

split_one : (group : List Piece) → list_all is_kept group ≡ true → slice_split is_game_end group ≡ group ∷ []
split_one [] kept = refl
split_one (passed ∷ group) kept = ap (onto_first passed) (split_one group kept)
split_one (game_end ∷ group) kept = absurd cc
split_one (tag name value line ∷ group) kept = ap (onto_first (tag name value line)) (split_one group kept)
split_one (token found ∷ group) kept = ap (onto_first (token found)) (split_one group kept)
split_one (fault line kind ∷ group) kept = absurd cc

split_first : (group rest : List Piece) → list_all is_kept group ≡ true → slice_split is_game_end (group ++ (game_end ∷ rest)) ≡ group ∷ slice_split is_game_end rest
split_first [] rest kept = refl
split_first (passed ∷ group) rest kept = ap (onto_first passed) (split_first group rest kept)
split_first (game_end ∷ group) rest kept = absurd cc
split_first (tag name value line ∷ group) rest kept = ap (onto_first (tag name value line)) (split_first group rest kept)
split_first (token found ∷ group) rest kept = ap (onto_first (token found)) (split_first group rest kept)
split_first (fault line kind ∷ group) rest kept = absurd cc

-- the games of a list of pieces
abbrev games_of : List Piece → List GameValue
games_of text = filter has_tag (map game_of (slice_split is_game_end text))

-- a game before others, where it has a tag pair
abbrev before_games : GameValue → List GameValue → List GameValue
before_games game games = cond (has_tag game) (game ∷ games) games

no_more : (blank_lines : List (List ℕ)) (rest : List Piece) → games_of (ends blank_lines ++ rest) ≡ games_of rest
no_more [] rest = refl
no_more (blanks ∷ blank_lines) rest = no_more blank_lines rest

-- nothing stands behind a group without a line of blanks
alone : (line : ℕ) (group : PlainGroup) (groups : List PlainGroup) → group.blank_lines ≡ [] → are_parted (group ∷ groups) ≡ true → groups ≡ []
alone line group [] none parted = refl
alone line group (next ∷ groups) none parted = absurd (wrong (and_parts (nat_lt 0 (length group.blank_lines)) (are_parted (next ∷ groups)) parted).0) where
  wrong : nat_lt 0 (length group.blank_lines) ≡ true → ⊥
  wrong some = let e : false ≡ true = sym (ap (λ (bs : List (List ℕ)). nat_lt 0 (length bs)) none) ∙ some in cc

parted-tail : (group : PlainGroup) (groups : List PlainGroup) → are_parted (group ∷ groups) ≡ true → are_parted groups ≡ true
parted-tail group [] parted = refl
parted-tail group (next ∷ groups) parted = (and_parts (nat_lt 0 (length group.blank_lines)) (are_parted (next ∷ groups)) parted).1

one_group : (line : ℕ) (lines : List PlainLine) (blank_lines : List (List ℕ)) (rest : List Piece) → (blank_lines ≡ [] → rest ≡ []) → games_of (lines_pieces line lines ++ (ends blank_lines ++ rest)) ≡ before_games (a_game (tag_values (lines_entries line lines))) (games_of rest)
one_group line lines [] rest last =
    let group = lines_pieces line lines in
    ap (λ more. games_of (group ++ more)) (last refl)
    ∙ ap games_of (append-nil group)
    ∙ ap (λ groups. filter has_tag (map game_of groups)) (split_one group (lines_kept line lines))
    ∙ ap (λ game. before_games game []) (game_same line lines)
    ∙ ap (λ more. before_games (a_game (tag_values (lines_entries line lines))) (games_of more)) (sym (last refl))
one_group line lines (blanks ∷ blank_lines) rest last =
    let group = lines_pieces line lines in
    ap (λ groups. filter has_tag (map game_of groups)) (split_first group (ends blank_lines ++ rest) (lines_kept line lines)) ∙ ap₂ before_games (game_same line lines) (no_more blank_lines rest)

pub games_same : (line : ℕ) (groups : List PlainGroup) → are_parted groups ≡ true → games_in (text_pieces line groups) ≡ filter has_tag (groups_from line groups)
unfolding games_in
games_same line [] parted = refl
games_same line (group ∷ groups) parted =
    let after = line_after line (group_text group) in
    one_group line group.lines group.blank_lines (text_pieces after groups) (λ none. ap (text_pieces after) (alone line group groups none parted))
    ∙ ap (before_games (a_game (tag_values (lines_entries line group.lines)))) (games_same after groups (parted-tail group groups parted))

-- ---- no fault

no_fault_after : (group rest : List Piece) → list_all is_kept group ≡ true → first_fault true (group ++ rest) ≡ first_fault true rest
no_fault_after [] rest kept = refl
no_fault_after (passed ∷ group) rest kept = no_fault_after group rest kept
no_fault_after (game_end ∷ group) rest kept = absurd cc
no_fault_after (tag name value line ∷ group) rest kept = no_fault_after group rest kept
no_fault_after (token found ∷ group) rest kept = no_fault_after group rest kept
no_fault_after (fault line kind ∷ group) rest kept = absurd cc

-- no token stands before the first tag pair
abbrev tag_comes : List Piece → Bool
tag_comes [] = true
tag_comes (passed ∷ rest) = tag_comes rest
tag_comes (game_end ∷ rest) = true
tag_comes (tag name value line ∷ rest) = true
tag_comes (token found ∷ rest) = false
tag_comes (fault line kind ∷ rest) = true

no_fault : (group rest : List Piece) → list_all is_kept group ≡ true → tag_comes group ≡ true → first_fault true rest ≡ first_fault false rest → first_fault false (group ++ rest) ≡ first_fault false rest
no_fault [] rest kept comes same = refl
no_fault (passed ∷ group) rest kept comes same = no_fault group rest kept comes same
no_fault (game_end ∷ group) rest kept comes same = absurd cc
no_fault (tag name value line ∷ group) rest kept comes same = no_fault_after group rest kept ∙ same
no_fault (token found ∷ group) rest kept comes same = absurd cc
no_fault (fault line kind ∷ group) rest kept comes same = absurd cc

items_comes : (line : ℕ) (items others : List PlainItem) (rest : List Piece) → tag_comes rest ≡ has_tag_first others → tag_comes (items_pieces line items ++ rest) ≡ has_tag_first (items ++ others)
items_comes line [] others rest same = same
items_comes line (blank byte ∷ items) others rest same = items_comes (line_after line (byte ∷ [])) items others rest same
items_comes line (tag_pair pair ∷ items) others rest same = refl
items_comes line (word text ∷ items) others rest same = refl
items_comes line (quoted characters ∷ items) others rest same = refl
items_comes line (comment text ∷ items) others rest same = items_comes (line_after line (item_text (comment text))) items others rest same

line_comes : (line : ℕ) (next : PlainLine) (others : List PlainItem) (rest : List Piece) → tag_comes rest ≡ has_tag_first others → tag_comes (line_pieces line next ++ rest) ≡ has_tag_first (items_of next ++ others)
line_comes line (items_line items) others rest same = ap tag_comes (append_assoc (items_pieces line items) (passed ∷ []) rest) ∙ items_comes line items others (passed ∷ rest) same
line_comes line (commented items text) others rest same = ap tag_comes (append_assoc (items_pieces line items) (passed ∷ passed ∷ []) rest) ∙ items_comes line items others (passed ∷ passed ∷ rest) same
line_comes line (skipped text) others rest same = same

lines_comes : (line : ℕ) (lines : List PlainLine) → tag_comes (lines_pieces line lines) ≡ has_tag_first (flat_map items_of lines)
lines_comes line [] = refl
lines_comes line (next ∷ lines) = line_comes line next (flat_map items_of lines) (lines_pieces (line_after line (line_text next)) lines) (lines_comes (line_after line (line_text next)) lines)

no_fault_between : (blank_lines : List (List ℕ)) (rest : List Piece) → first_fault false (ends blank_lines ++ rest) ≡ first_fault false rest
no_fault_between [] rest = refl
no_fault_between (blanks ∷ blank_lines) rest = no_fault_between blank_lines rest

-- a tag pair before it makes no difference
either_way : (blank_lines : List (List ℕ)) (rest : List Piece) → (blank_lines ≡ [] → rest ≡ []) → first_fault true (ends blank_lines ++ rest) ≡ first_fault false (ends blank_lines ++ rest)
either_way [] rest last = ap (first_fault true) (last refl) ∙ sym (ap (first_fault false) (last refl))
either_way (blanks ∷ blank_lines) rest last = refl

pub no_faults : (line : ℕ) (groups : List PlainGroup) → list_all is_plain_group groups ≡ true → are_parted groups ≡ true → first_fault false (text_pieces line groups) ≡ None
no_faults line [] plain parted = refl
no_faults line (group ∷ groups) plain parted =
    let both = and_parts (is_plain_group group) (list_all is_plain_group groups) plain in
    let parts = plain_parts group both.0 in
    let after = line_after line (group_text group) in
    let rest = text_pieces after groups in
    no_fault (lines_pieces line group.lines) (ends group.blank_lines ++ rest) (lines_kept line group.lines) (lines_comes line group.lines ∙ parts.first)
    (either_way group.blank_lines rest (λ none. ap (text_pieces after) (alone line group groups none parted)))
    ∙ no_fault_between group.blank_lines rest ∙ no_faults after groups both.1 (parted-tail group groups parted)
