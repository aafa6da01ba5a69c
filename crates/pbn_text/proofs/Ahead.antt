-- What follows a piece is a part of the text, and the pieces go on there.
use Rattle.std.proofs.Common.{◌≡◌, ℕ, zero, suc, ◌+◌, ◌-◌, ◌<◌, ◌≤◌, Bool, true, false, ◌&&◌, ◌||◌, cond, List, [], ◌∷◌, length, take, drop, Option, Some, None, count_by, refl, sym, ap, ap₂, subst, ◌∙◌, arith, inl, inr}
use Rattle.std.specs.Prelude.{◌==◌, nat_lt, slice_index}
use Rattle.std.specs.List.{position_or_len, before_first, after_first}
use Rattle.std.proofs.lemmas.Bool.{cases_lt, cond_both, and_parts, or_parts, or_from, eqb-true}
use Rattle.std.proofs.lemmas.List.{drop-drop, drop_all, length-drop}
use Rattle.std.proofs.lemmas.List.Sums.{sum_by-cons}
use Rattle.pbn_text.specs.declared.fault.Syntax.TheVariants.{BadTag, OpenBrace}
use Rattle.byte_text.specs.Blanks.{is_blank, after_blanks}
use Rattle.pbn_text.specs.Strings.{string_len, unescaped}
use Rattle.byte_text.specs.Lines.{is_line_end}
use Rattle.pbn_text.specs.Pieces.{past_line, ends_name, ends_token, Piece, passed, game_end, tag, fault, Ahead, ahead_of, comment_ahead, string_ahead, closed_tag, quoted_tag, named_tag, tag_ahead, token_ahead, in_line_ahead, is_skipped_line, is_blank_line, piece_ahead, pieces}
use Rattle.pbn_text.specs.Reading.{ends_line}
use Rattle.byte_text.proofs.Places.{position_or_len-cons}

-- a list is what is left of another after some elements
pub record IsPart (text rest : List ℕ) : Type 0 where
  pub len : ℕ
  pub is : rest ≡ drop len text

part_all : (text : List ℕ) → IsPart text text
part_all text = record { len = 0; is = refl }

part_drop : (text : List ℕ) (k : ℕ) → IsPart text (drop k text)
part_drop text k = record { len = k; is = refl }

part_none : (text : List ℕ) → IsPart text []
part_none text = record { len = length text; is = sym (drop_all (length text) text (omega arith)) }

part_more : (text middle rest : List ℕ) → IsPart text middle → IsPart middle rest → IsPart text rest
part_more text middle rest one two = record { len = one.len + two.len; is = two.is ∙ ap (drop two.len) one.is ∙ drop-drop two.len one.len text }

part_tail : (text : List ℕ) (byte : ℕ) (rest : List ℕ) → IsPart text (byte ∷ rest) → IsPart text rest
part_tail text byte rest part = part_more text (byte ∷ rest) rest part (record { len = 1; is = refl })

part_after_blanks : (text : List ℕ) → IsPart text (after_blanks text)
unfolding after_blanks
part_after_blanks [] = part_all []
part_after_blanks (byte ∷ rest) = cond_both (is_blank byte) (after_blanks rest) (byte ∷ rest) (IsPart (byte ∷ rest)) (λ blank. front byte rest (after_blanks rest) (part_after_blanks rest)) (λ other. part_all (byte ∷ rest)) where
  front : (byte : ℕ) (rest more : List ℕ) → IsPart rest more → IsPart (byte ∷ rest) more
  front byte rest more part = record { len = suc part.len; is = part.is }

-- ---- what follows a piece

abbrev PartAhead : List ℕ → Ahead → Type 0
PartAhead text ahead = IsPart text ahead.rest

part_comment : (line : ℕ) (text : List ℕ) → PartAhead text (comment_ahead line text)
unfolding comment_ahead
part_comment line text =
    let closes : ℕ → Bool = λ byte. byte == 125 in
    cond_both (nat_lt (position_or_len closes text) (length text)) (ahead_of passed (after_first closes text)) (ahead_of (fault line OpenBrace) []) (PartAhead text) (λ inside. part_drop text (position_or_len closes text + 1)) (λ past. part_none text)

part_string : (line : ℕ) (text : List ℕ) (len : Option ℕ) → PartAhead text (string_ahead line text len)
part_string line text None = part_none text
part_string line text (Some len) = part_drop text len

part_closed : (line : ℕ) (piece : Piece) (text left : List ℕ) → IsPart text left → PartAhead text (closed_tag line piece left)
part_closed line piece text [] part = part_none text
part_closed line piece text (byte ∷ rest) part = cond_both (byte == 93) (ahead_of piece rest) (ahead_of (fault line BadTag) []) (PartAhead text) (λ closes. part_tail text byte rest part) (λ other. part_none text)

part_quoted : (line : ℕ) (name text left : List ℕ) (len : Option ℕ) → IsPart text left → PartAhead text (quoted_tag line name left len)
part_quoted line name text left None part = part_none text
part_quoted line name text left (Some len) part =
    part_closed line (tag name (unescaped (take (len - 1) left)) line) text (after_blanks (drop len left)) (part_more text left (after_blanks (drop len left)) part (part_more left (drop len left) (after_blanks (drop len left)) (part_drop left len) (part_after_blanks (drop len left))))

part_named : (line : ℕ) (name text left : List ℕ) → IsPart text left → PartAhead text (named_tag line name left)
part_named line [] text left part = part_none text
part_named line (byte ∷ bytes) text [] part = part_none text
part_named line (byte ∷ bytes) text (quote ∷ left) part =
    cond_both (quote == 34) (quoted_tag line (byte ∷ bytes) left (string_len left)) (ahead_of (fault line BadTag) []) (PartAhead text) (λ opens. part_quoted line (byte ∷ bytes) text left (string_len left) (part_tail text quote left part)) (λ other. part_none text)

part_tag : (line : ℕ) (text : List ℕ) → PartAhead text (tag_ahead line text)
unfolding tag_ahead
part_tag line text =
    let named = after_blanks text in
    let after_name = drop (position_or_len ends_name named) named in
    part_named line (before_first ends_name named) text (after_blanks after_name)
    (part_more text named (after_blanks after_name) (part_after_blanks text) (part_more named after_name (after_blanks after_name) (part_drop named (position_or_len ends_name named)) (part_after_blanks after_name)))

-- behind the first byte, where the first byte is none of those that end a token
part_token : (byte : ℕ) (rest : List ℕ) → ends_token byte ≡ false → IsPart rest (drop (position_or_len ends_token (byte ∷ rest)) (byte ∷ rest))
part_token byte rest inside = record { len = position_or_len ends_token rest; is = ap (λ k. drop k (byte ∷ rest)) (position_or_len-cons ends_token byte rest inside) }

part_in_line : (line byte : ℕ) (rest : List ℕ) → PartAhead rest (in_line_ahead line (byte ∷ rest))
part_in_line line byte rest =
    let other = token_ahead line (byte ∷ rest) in
    let tagged = cond (byte == 91) (tag_ahead line rest) other in
    let quoted = cond (byte == 34) (string_ahead line rest (string_len rest)) tagged in
    let commented = cond (byte == 59) (ahead_of passed (past_line rest)) quoted in
    let braced = cond (byte == 123) (comment_ahead line rest) commented in
    cond_both (is_line_end byte || is_blank byte) (ahead_of passed rest) braced (PartAhead rest) (λ blank. part_all rest) (λ no_blank.
    cond_both (byte == 123) (comment_ahead line rest) commented (PartAhead rest) (λ brace. part_comment line rest) (λ no_brace.
    cond_both (byte == 59) (ahead_of passed (past_line rest)) quoted (PartAhead rest) (λ semicolon. part_drop rest (position_or_len is_line_end rest)) (λ no_semicolon.
    cond_both (byte == 34) (string_ahead line rest (string_len rest)) tagged (PartAhead rest) (λ quote. part_string line rest (string_len rest)) (λ no_quote.
    cond_both (byte == 91) (tag_ahead line rest) other (PartAhead rest) (λ bracket. part_tag line rest) (λ no_bracket.
    part_token byte rest (all_false (is_line_end byte) (is_blank byte) (byte == 91) (byte == 123) (byte == 59) (byte == 34) no_blank no_bracket no_brace no_semicolon no_quote)))))) where
      all_false : (a b c d e f : Bool) → (a || b) ≡ false → c ≡ false → d ≡ false → e ≡ false → f ≡ false → (b || a || c || d || e || f) ≡ false
      all_false a b c d e f ab c-is d-is e-is f-is =
          let parts = or_parts a b ab in
          or_from (b || a || c || d || e) f (or_from (b || a || c || d) e (or_from (b || a || c) d (or_from (b || a) c (or_from b a parts.1 parts.0) c-is) d-is) e-is) f-is

part_skipped : (byte : ℕ) (rest : List ℕ) → (byte == 37) ≡ true → IsPart rest (past_line (byte ∷ rest))
part_skipped byte rest percent =
    let other : is_line_end byte ≡ false = ap is_line_end (eqb-true byte 37 percent) in
    record { len = position_or_len is_line_end rest; is = ap (λ k. drop k (byte ∷ rest)) (position_or_len-cons is_line_end byte rest other) }

part_game_end : (byte : ℕ) (rest : List ℕ) → IsPart rest (after_first is_line_end (byte ∷ rest))
part_game_end byte rest =
    let place = position_or_len is_line_end (byte ∷ rest) in
    let past : place + 1 ≡ suc place = omega arith in
    record { len = place; is = ap (λ k. drop k (byte ∷ rest)) past }

-- what follows a piece is left of the text after its first byte, or after more
pub part_piece : (at_front : Bool) (line byte : ℕ) (rest : List ℕ) → PartAhead rest (piece_ahead at_front line (byte ∷ rest))
unfolding piece_ahead
part_piece at_front line byte rest =
    let text = byte ∷ rest in
    let blank_line = cond (at_front && is_blank_line text) (ahead_of game_end (after_first is_line_end text)) (in_line_ahead line text) in
    cond_both (at_front && is_skipped_line text) (ahead_of passed (past_line text)) blank_line (PartAhead rest) (λ skipped. part_skipped byte rest (and_parts at_front (byte == 37) skipped).1) (λ kept.
    cond_both (at_front && is_blank_line text) (ahead_of game_end (after_first is_line_end text)) (in_line_ahead line text) (PartAhead rest) (λ blank. part_game_end byte rest) (λ other. part_in_line line byte rest))

-- ---- the pieces after one

-- whether what follows these bytes begins a line
abbrev front_after : Bool → List ℕ → Bool
front_after at_front [] = at_front
front_after at_front (byte ∷ rest) = front_after (is_line_end byte) rest

count-cons : (byte : ℕ) (rest : List ℕ) → count_by is_line_end (byte ∷ rest) ≡ cond (is_line_end byte) 1 0 + count_by is_line_end rest
count-cons byte rest = sum_by-cons (λ b. cond (is_line_end b) 1 0) byte rest

lines-cons : (line byte : ℕ) (rest : List ℕ) → line + cond (is_line_end byte) 1 0 + count_by is_line_end rest ≡ line + count_by is_line_end (byte ∷ rest)
lines-cons line byte rest = omega (arith, count-cons byte rest)

pieces-skip : (at_front : Bool) (line k : ℕ) (text : List ℕ) → pieces at_front line k text ≡ pieces (front_after at_front (take k text)) (line + count_by is_line_end (take k text)) 0 (drop k text)
unfolding pieces
pieces-skip at_front line zero text = ap (λ n. pieces at_front n 0 text) (omega arith)
pieces-skip at_front line (suc k) [] = refl
pieces-skip at_front line (suc k) (byte ∷ rest) =
    pieces-skip (is_line_end byte) (line + cond (is_line_end byte) 1 0) k rest
    ∙ ap (λ n. pieces (front_after (is_line_end byte) (take k rest)) n 0 (drop k rest)) (lines-cons line byte (take k rest))

front_after-last : (byte : ℕ) (bytes : List ℕ) → front_after (is_line_end byte) bytes ≡ ends_line (byte ∷ bytes)
front_after-last byte [] = refl
front_after-last byte (next ∷ bytes) = front_after-last next bytes ∙ ap is_line_end (moved (length bytes)) where
  moved : (n : ℕ) → slice_index (next ∷ bytes) (suc n - 1) ≡ slice_index (byte ∷ next ∷ bytes) (suc (suc n) - 1)
  moved n =
      let one : suc n - 1 ≡ n = omega arith in
      let two : suc (suc n) - 1 ≡ suc n = omega arith in
      ap (slice_index (next ∷ bytes)) one ∙ sym (ap (slice_index (byte ∷ next ∷ bytes)) two)

drop_by_length : (text rest : List ℕ) → IsPart text rest → drop (length text - length rest) text ≡ rest
drop_by_length text rest part =
    let lengths : length rest ≡ length text - part.len = ap length part.is ∙ length-drop part.len text in
    elim (cases_lt part.len (length text)) [
      | inl inside ↦ ap (λ k. drop k text) (omega (arith, lengths)) ∙ sym part.is
      | inr past ↦
          let none : drop part.len text ≡ [] = drop_all part.len text past in
          drop_all (length text - length rest) text (omega (arith, lengths)) ∙ sym none ∙ sym part.is
    ]

pub length-part : (text rest : List ℕ) → IsPart text rest → length rest ≤ length text
length-part text rest part = omega (arith, ap length part.is, length-drop part.len text)

-- the pieces of a text that isn't empty: the one at its front, and those after it
pub pieces-next : (at_front : Bool) (line : ℕ) (text rest : List ℕ) → 0 < length text → (piece_ahead at_front line text).rest ≡ rest
    → (pieces at_front line 0 text ≡ (piece_ahead at_front line text).piece ∷ pieces (ends_line (take (length text - length rest) text)) (line + count_by is_line_end (take (length text - length rest) text)) 0 rest) × (length rest < length text)
unfolding pieces
pieces-next at_front line [] rest some is = absurd (omega arith)
pieces-next at_front line (byte ∷ bytes) rest some is =
    let ahead = piece_ahead at_front line (byte ∷ bytes) in
    let part : IsPart bytes rest = subst (IsPart bytes) is (part_piece at_front line byte bytes) in
    let m = length bytes - length rest in
    let within : length rest ≤ length bytes = length-part bytes rest part in
    let behind : length (byte ∷ bytes) - length rest ≡ suc m = omega arith in
    let taken : take (length (byte ∷ bytes) - length rest) (byte ∷ bytes) ≡ byte ∷ take m bytes = ap (λ k. take k (byte ∷ bytes)) behind in
    let front = front_after-last byte (take m bytes) ∙ ap ends_line (sym taken) in
    let lines : line + cond (is_line_end byte) 1 0 + count_by is_line_end (take m bytes) ≡ line + count_by is_line_end (take (length (byte ∷ bytes) - length rest) (byte ∷ bytes)) =
    lines-cons line byte (take m bytes) ∙ ap (λ bs. line + count_by is_line_end bs) (sym taken) in (
      ap (λ r. ahead.piece ∷ pieces (is_line_end byte) (line + cond (is_line_end byte) 1 0) (length bytes - length r) bytes) is
          ∙ ap (λ more. ahead.piece ∷ more) (pieces-skip (is_line_end byte) (line + cond (is_line_end byte) 1 0) m bytes ∙ ap₂ (λ f n. pieces f n 0 (drop m bytes)) front lines
          ∙ ap (pieces (ends_line (take (length (byte ∷ bytes) - length rest) (byte ∷ bytes))) (line + count_by is_line_end (take (length (byte ∷ bytes) - length rest) (byte ∷ bytes))) 0) (drop_by_length bytes rest part)),
      omega arith,
    )

pub pieces-fault : (at_front : Bool) (line : ℕ) (text : List ℕ) → 0 < length text → (more : List Piece) × (pieces at_front line 0 text ≡ (piece_ahead at_front line text).piece ∷ more)
pieces-fault at_front line text some =
    let ahead = piece_ahead at_front line text in
    (pieces (ends_line (take (length text - length ahead.rest) text)) (line + count_by is_line_end (take (length text - length ahead.rest) text)) 0 ahead.rest, (pieces-next at_front line text ahead.rest some refl).0)
