-- The deal file as it is read: a game with five tag pairs.
use Rattle.std.proofs.Common.{◌≡◌, ℕ, suc, ◌+◌, ◌-◌, ◌≤◌, Bool, true, false, not, ◌&&◌, ◌||◌, cond, List, [], ◌∷◌, ◌++◌, length, take, drop, Option, Some, None, option_map, Ok, refl, sym, ap, ap₂, subst, ◌∙◌, inl, inr, arith, append_assoc}
use Rattle.std.specs.Prelude.{◌==◌, codes, nat_lt}
use Rattle.std.specs.List.{list_all, position_or_len, before_first}
use Rattle.std.proofs.lemmas.Bool.{and_parts, and_from, not-true, not-false, le-ltb, eqb-true, both_ways, or_cases, false_from_ne_true}
use Rattle.std.proofs.lemmas.List.{append-nil, length-append, take_at, drop_at, drop-drop}
use Rattle.std.proofs.lemmas.List.Folds.{list_all-append}
use Rattle.byte_text.specs.Blanks.{is_blank, after_blanks}
use Rattle.pbn_text.specs.Strings.{string_len, unescaped}
use Rattle.byte_text.specs.Lines.{is_line_end}
use Rattle.pbn_text.specs.Pieces.{is_name_byte, ends_name, Piece, passed, tag, Ahead, ahead_of, closed_tag, quoted_tag, named_tag, tag_ahead, is_blank_line, piece_ahead, pieces}
use Rattle.pbn_text.specs.Grammar.{is_no_text, no_text_fault, without_mark, first_fault, games_in, or_fault, unless_fault, text_read, games_read}
use Rattle.byte_text.proofs.Places.{position_or_len-cons}
use Rattle.layout_maker.specs.MadeProblem.{tag_line, deal_file}
use Rattle.pbn_deal.specs.Writing.{deal_text}
use Rattle.layout_maker.proofs.MadeTexts.{deal_text-passes, length-deal_text}
use Rattle.layout_maker.proofs.MadeBoards.{made_game}

-- ---- bytes

abbrev no_line_end : ℕ → Bool
no_line_end byte = not (is_line_end byte)

-- a byte that stands as it is in a string
abbrev pub is_plain : ℕ → Bool
is_plain byte = not (byte == 34) && not (byte == 10) && not (byte == 92)

plain_parts : (byte : ℕ) → is_plain byte ≡ true → ((byte == 34) ≡ false) × ((byte == 10) ≡ false) × ((byte == 92) ≡ false)
plain_parts byte plain =
    let one = and_parts (not (byte == 34) && not (byte == 10)) (not (byte == 92)) plain in
    let two = and_parts (not (byte == 34)) (not (byte == 10)) one.0 in (not-true (byte == 34) two.0, not-true (byte == 10) two.1, not-true (byte == 92) one.1)

-- a weaker test
all_weaker : (p q : ℕ → Bool) → ((byte : ℕ) → p byte ≡ true → q byte ≡ true) → (bytes : List ℕ) → list_all p bytes ≡ true → list_all q bytes ≡ true
all_weaker p q weaker [] each = refl
all_weaker p q weaker (byte ∷ bytes) each =
    let parts = and_parts (p byte) (list_all p bytes) each in
    and_from (q byte) (list_all q bytes) (weaker byte parts.0) (all_weaker p q weaker bytes parts.1)

-- where the first byte stands that passes, after bytes that don't
position-append : (p : ℕ → Bool) (front : List ℕ) (byte : ℕ) (rest : List ℕ) → list_all (λ b. not (p b)) front ≡ true → p byte ≡ true → position_or_len p (front ++ byte ∷ rest) ≡ length front
position-append p [] byte rest none here = rw (here) refl
position-append p (first ∷ front) byte rest none here =
    let parts = and_parts (not (p first)) (list_all (λ b. not (p b)) front) none in
    position_or_len-cons p first (front ++ byte ∷ rest) (not-true (p first) parts.0) ∙ ap (λ n. suc n) (position-append p front byte rest parts.1 here)

position-none : (p : ℕ → Bool) (bytes : List ℕ) → list_all (λ b. not (p b)) bytes ≡ true → position_or_len p bytes ≡ length bytes
position-none p [] none = refl
position-none p (byte ∷ bytes) none =
    let parts = and_parts (not (p byte)) (list_all (λ b. not (p b)) bytes) none in
    position_or_len-cons p byte bytes (not-true (p byte) parts.0) ∙ ap (λ n. suc n) (position-none p bytes parts.1)

-- ---- strings

string_len-quote : (rest : List ℕ) → string_len (34 ∷ rest) ≡ Some 1
unfolding string_len
string_len-quote [] = refl
string_len-quote (next ∷ rest) = refl

string_len-plain : (value rest : List ℕ) → list_all is_plain value ≡ true → string_len (value ++ 34 ∷ rest) ≡ Some (length value + 1)
unfolding string_len
string_len-plain [] rest plain = string_len-quote rest
string_len-plain (byte ∷ []) rest plain =
    let parts = plain_parts byte (and_parts (is_plain byte) true plain).0 in
    rw (parts.0, parts.1, parts.2) (ap (λ (found : Option ℕ). option_map (λ (len : ℕ). len + 1) found) (string_len-quote rest))
string_len-plain (byte ∷ next ∷ value) rest plain =
    let both = and_parts (is_plain byte) (list_all is_plain (next ∷ value)) plain in
    let parts = plain_parts byte both.0 in
    let more : suc (length value) + 1 + 1 ≡ suc (suc (length value)) + 1 = omega arith in
    rw (parts.0, parts.1, parts.2) (ap (λ (found : Option ℕ). option_map (λ (len : ℕ). len + 1) found) (string_len-plain (next ∷ value) rest both.1) ∙ ap (λ (n : ℕ). Some n) more)

unescaped-plain : (value : List ℕ) → list_all is_plain value ≡ true → unescaped value ≡ value
unfolding unescaped
unescaped-plain [] plain = refl
unescaped-plain (byte ∷ []) plain = refl
unescaped-plain (byte ∷ next ∷ value) plain =
    let both = and_parts (is_plain byte) (list_all is_plain (next ∷ value)) plain in
    let parts = plain_parts byte both.0 in
    rw (parts.2) (ap (λ bytes. byte ∷ bytes) (unescaped-plain (next ∷ value) both.1))

-- ---- a tag pair

-- a name of a tag pair
pub record IsName (name : List ℕ) : Type 0 where
  pub first : ℕ
  pub others : List ℕ
  pub is : name ≡ first ∷ others
  pub bytes : list_all (λ byte. not (ends_name byte)) name ≡ true

-- what follows a tag pair's opening bracket
abbrev after_bracket : List ℕ → List ℕ → List ℕ → List ℕ
after_bracket name value more = name ++ 32 ∷ 34 ∷ (value ++ 34 ∷ 93 ∷ more)

quoted-plain : (line : ℕ) (name value more : List ℕ) → list_all is_plain value ≡ true → quoted_tag line name (value ++ 34 ∷ 93 ∷ more) (string_len (value ++ 34 ∷ 93 ∷ more)) ≡ ahead_of (tag name value line) more
unfolding after_blanks
quoted-plain line name value more plain =
    let text = value ++ 34 ∷ 93 ∷ more in
    let last : length value + 1 - 1 ≡ length value = omega arith in
    let taken : unescaped (take (length value + 1 - 1) text) ≡ value =
    ap (λ k. unescaped (take k text)) last ∙ ap unescaped (take_at value (34 ∷ 93 ∷ more) (length value) refl) ∙ unescaped-plain value plain in
    let left : drop (length value + 1) text ≡ 93 ∷ more = sym (drop-drop 1 (length value) text) ∙ ap (drop 1) (drop_at value (34 ∷ 93 ∷ more) (length value) refl) in
    ap (quoted_tag line name text) (string_len-plain value (93 ∷ more) plain)
    ∙ ap₂ (λ (v rest : List ℕ). closed_tag line (tag name v line) (after_blanks rest)) taken left

name_not_blank : (byte : ℕ) → is_name_byte byte ≡ true → is_blank byte ≡ false
name_not_blank byte named =
    false_from_ne_true (is_blank byte) (λ blank. elim (or_cases (byte == 32 || byte == 9) (byte == 13) blank) [
      | inl front ↦ elim (or_cases (byte == 32) (byte == 9) front) [
        | inl space ↦ both_ways (is_name_byte byte) (ap is_name_byte (eqb-true byte 32 space)) named
        | inr tab ↦ both_ways (is_name_byte byte) (ap is_name_byte (eqb-true byte 9 tab)) named
      ]
      | inr return ↦ both_ways (is_name_byte byte) (ap is_name_byte (eqb-true byte 13 return)) named
    ])

not_blank_first : (byte : ℕ) (rest : List ℕ) → is_blank byte ≡ false → after_blanks (byte ∷ rest) ≡ byte ∷ rest
unfolding after_blanks
not_blank_first byte rest other = rw (other) refl

space_quote : (rest : List ℕ) → after_blanks (32 ∷ 34 ∷ rest) ≡ 34 ∷ rest
unfolding after_blanks
space_quote rest = refl

tag_ahead-cons : (line first : ℕ) (others value more : List ℕ) → list_all (λ byte. not (ends_name byte)) (first ∷ others) ≡ true → list_all is_plain value ≡ true
    → tag_ahead line (after_bracket (first ∷ others) value more) ≡ ahead_of (tag (first ∷ others) value line) more
unfolding tag_ahead
tag_ahead-cons line first others value more named plain =
    let name = first ∷ others in
    let rest = 32 ∷ 34 ∷ (value ++ 34 ∷ 93 ∷ more) in
    let text = name ++ rest in
    let parts = and_parts (not (ends_name first)) (list_all (λ byte. not (ends_name byte)) others) named in
    let start : after_blanks text ≡ text = not_blank_first first (others ++ rest) (name_not_blank first (not-false (is_name_byte first) (not-true (ends_name first) parts.0))) in
    let place : position_or_len ends_name text ≡ length name = position-append ends_name name 32 (34 ∷ (value ++ 34 ∷ 93 ∷ more)) named refl in
    let taken : before_first ends_name text ≡ name = ap (λ k. take k text) place ∙ take_at name rest (length name) refl in
    let left : drop (position_or_len ends_name text) text ≡ rest = ap (λ k. drop k text) place ∙ drop_at name rest (length name) refl in
    ap (λ (t : List ℕ). named_tag line (before_first ends_name t) (after_blanks (drop (position_or_len ends_name t) t))) start
    ∙ ap₂ (λ (n t : List ℕ). named_tag line n (after_blanks t)) taken left
    ∙ ap (named_tag line name) (space_quote (value ++ 34 ∷ 93 ∷ more))
    ∙ quoted-plain line name value more plain

tag_ahead-made : (line : ℕ) (name value more : List ℕ) → IsName name → list_all is_plain value ≡ true → tag_ahead line (after_bracket name value more) ≡ ahead_of (tag name value line) more
tag_ahead-made line name value more named plain =
    subst (λ (n : List ℕ). tag_ahead line (after_bracket n value more) ≡ ahead_of (tag n value line) more) (sym named.is)
    (tag_ahead-cons line named.first named.others value more (ap (list_all (λ byte. not (ends_name byte))) (sym named.is) ∙ named.bytes) plain)

piece_ahead-made : (line : ℕ) (name value more : List ℕ) → IsName name → list_all is_plain value ≡ true → piece_ahead true line (91 ∷ after_bracket name value more) ≡ ahead_of (tag name value line) more
unfolding piece_ahead
piece_ahead-made line name value more named plain =
    let rest = after_bracket name value more in
    let seen : is_blank_line (91 ∷ rest) ≡ false = ap (λ k. list_all is_blank (take k (91 ∷ rest))) (position_or_len-cons is_line_end 91 rest refl) in
    rw (seen) (tag_ahead-made line name value more named plain)

-- ---- pieces

-- bytes that belong to a piece, on one line
pieces-passed : (line : ℕ) (bytes more : List ℕ) → list_all no_line_end bytes ≡ true → pieces false line (length bytes) (bytes ++ more) ≡ pieces false line 0 more
unfolding pieces
pieces-passed line [] more none = refl
pieces-passed line (byte ∷ bytes) more none =
    let parts = and_parts (no_line_end byte) (list_all no_line_end bytes) none in
    let plain : is_line_end byte ≡ false = not-true (is_line_end byte) parts.0 in
    let same : line + cond (is_line_end byte) 1 0 ≡ line = rw (plain) (omega arith) in
    ap₂ (λ (f : Bool) (n : ℕ). pieces f n (length bytes) (bytes ++ more)) plain same ∙ pieces-passed line bytes more parts.1

-- the end of a line
pieces-line_end : (line : ℕ) (more : List ℕ) → pieces false line 0 (10 ∷ more) ≡ passed ∷ pieces true (line + 1) 0 more
unfolding pieces piece_ahead
pieces-line_end line more =
    let none : length more - length more ≡ 0 = omega arith in
    ap (λ (k : ℕ). passed ∷ pieces true (line + 1) k more) none

pieces-first : (line : ℕ) (rest left : List ℕ) (piece : Piece) → piece_ahead true line (91 ∷ rest) ≡ ahead_of piece left → pieces true line 0 (91 ∷ rest) ≡ piece ∷ pieces false (line + 0) (length rest - length left) rest
unfolding pieces
pieces-first line rest left piece is = ap (λ (a : Ahead). a.piece ∷ pieces false (line + 0) (length rest - length a.rest) rest) is

not_line_end : (byte : ℕ) → is_plain byte ≡ true → no_line_end byte ≡ true
not_line_end byte plain = let parts = plain_parts byte plain in ap not parts.1

name_no_line_end : (byte : ℕ) → not (ends_name byte) ≡ true → no_line_end byte ≡ true
name_no_line_end byte named =
    ap not (false_from_ne_true (is_line_end byte) (λ ends. both_ways (not (ends_name byte)) (ap (λ b. not (ends_name b)) (eqb-true byte 10 ends)) named))

-- a line that is a tag pair
pub pieces-tag_line : (line : ℕ) (name value more : List ℕ) → IsName name → list_all is_plain value ≡ true → pieces true line 0 (tag_line name value ++ more) ≡ tag name value line ∷ passed ∷ pieces true (line + 1) 0 more
pieces-tag_line line name value more named plain =
    let rest = after_bracket name value (10 ∷ more) in
    let inner = name ++ 32 ∷ 34 ∷ (value ++ 34 ∷ 93 ∷ []) in
    let text : tag_line name value ++ more ≡ 91 ∷ rest = simp append_assoc in
    let split : rest ≡ inner ++ 10 ∷ more = simp append_assoc in
    let behind : length rest - length (10 ∷ more) ≡ length inner = omega (arith, ap length split, length-append inner (10 ∷ more)) in
    let same : line + 0 ≡ line = omega arith in
    let no_end : list_all no_line_end inner ≡ true =
    list_all-append no_line_end name (32 ∷ 34 ∷ (value ++ 34 ∷ 93 ∷ []))
    ∙ and_from (list_all no_line_end name) (list_all no_line_end (value ++ 34 ∷ 93 ∷ [])) (all_weaker (λ byte. not (ends_name byte)) no_line_end name_no_line_end name named.bytes)
    (list_all-append no_line_end value (34 ∷ 93 ∷ []) ∙ and_from (list_all no_line_end value) true (all_weaker is_plain no_line_end not_line_end value plain) refl) in
    ap (pieces true line 0) text
    ∙ pieces-first line rest (10 ∷ more) (tag name value line) (piece_ahead-made line name value (10 ∷ more) named plain)
    ∙ ap (λ (found : List Piece). tag name value line ∷ found)
    (ap₂ (λ (n k : ℕ). pieces false n k rest) same behind ∙ ap (pieces false line (length inner)) split ∙ pieces-passed line inner (10 ∷ more) no_end ∙ pieces-line_end line more)

-- ---- the file

deal_name : IsName (codes "Deal")
deal_name = record { first = 68; others = codes "eal"; is = refl; bytes = refl }

declarer_name : IsName (codes "Declarer")
declarer_name = record { first = 68; others = codes "eclarer"; is = refl; bytes = refl }

contract_name : IsName (codes "Contract")
contract_name = record { first = 67; others = codes "ontract"; is = refl; bytes = refl }

need_name : IsName (codes "EndNeed")
need_name = record { first = 69; others = codes "ndNeed"; is = refl; bytes = refl }

lead_name : IsName (codes "EndLead")
lead_name = record { first = 69; others = codes "ndLead"; is = refl; bytes = refl }

abbrev file_text : List ℕ → List ℕ
file_text deal =
    tag_line (codes "Deal") deal
    ++ (tag_line (codes "Declarer") (codes "S") ++ (tag_line (codes "Contract") (codes "1NT") ++ (tag_line (codes "EndNeed") (codes "2") ++ (tag_line (codes "EndLead") (codes "S") ++ []))))

-- the pieces of the file
abbrev file_pieces : List ℕ → List Piece
file_pieces deal =
    tag (codes "Deal") deal 1 ∷ passed ∷ tag (codes "Declarer") (codes "S") 2 ∷ passed ∷ tag (codes "Contract") (codes "1NT") 3 ∷ passed ∷ tag (codes "EndNeed") (codes "2") 4 ∷ passed
    ∷ tag (codes "EndLead") (codes "S") 5 ∷ passed ∷ []

pieces-nil : (line : ℕ) → pieces true line 0 [] ≡ []
unfolding pieces
pieces-nil line = refl

pieces-file : (deal : List ℕ) → list_all is_plain deal ≡ true → pieces true 1 0 (file_text deal) ≡ file_pieces deal
pieces-file deal plain =
    let five = tag_line (codes "EndLead") (codes "S") ++ [] in
    let four = tag_line (codes "EndNeed") (codes "2") ++ five in
    let three = tag_line (codes "Contract") (codes "1NT") ++ four in
    let two = tag_line (codes "Declarer") (codes "S") ++ three in
    pieces-tag_line 1 (codes "Deal") deal two deal_name plain
    ∙ ap (λ (found : List Piece). tag (codes "Deal") deal 1 ∷ passed ∷ found)
    (pieces-tag_line 2 (codes "Declarer") (codes "S") three declarer_name refl
    ∙ ap (λ (found : List Piece). tag (codes "Declarer") (codes "S") 2 ∷ passed ∷ found)
    (pieces-tag_line 3 (codes "Contract") (codes "1NT") four contract_name refl
    ∙ ap (λ (found : List Piece). tag (codes "Contract") (codes "1NT") 3 ∷ passed ∷ found)
    (pieces-tag_line 4 (codes "EndNeed") (codes "2") five need_name refl
    ∙ ap (λ (found : List Piece). tag (codes "EndNeed") (codes "2") 4 ∷ passed ∷ found)
    (pieces-tag_line 5 (codes "EndLead") (codes "S") [] lead_name refl
    ∙ ap (λ (found : List Piece). tag (codes "EndLead") (codes "S") 5 ∷ passed ∷ found) (pieces-nil 6)))))

-- the game that these pieces make
games-file : (deal : List ℕ) → or_fault (first_fault false (file_pieces deal)) (games_in (file_pieces deal)) ≡ Ok (made_game deal ∷ [])
unfolding games_in
games-file deal = refl

text_read-file : (deal : List ℕ) → list_all is_plain deal ≡ true → text_read (file_text deal) ≡ Ok (made_game deal ∷ [])
unfolding text_read
text_read-file deal plain = ap (λ (all : List Piece). or_fault (first_fault false all) (games_in all)) (pieces-file deal plain) ∙ games-file deal

-- ---- bytes that stand in no text

abbrev is_text : ℕ → Bool
is_text byte = not (is_no_text byte)

tag_line-passes : (name value : List ℕ) → list_all is_text name ≡ true → list_all is_text value ≡ true → list_all is_text (tag_line name value) ≡ true
tag_line-passes name value in_name in_value =
    rw (list_all-append is_text (codes "[" ++ name ++ codes " \"" ++ value) (codes "\"]\n"), list_all-append is_text (codes "[" ++ name ++ codes " \"") value, list_all-append is_text (codes "[" ++ name) (codes " \""), list_all-append is_text (codes "[") name, in_name, in_value)
    refl

file_text-passes : (deal : List ℕ) → list_all is_text deal ≡ true → list_all is_text (file_text deal) ≡ true
file_text-passes deal each =
    let rest = tag_line (codes "Declarer") (codes "S") ++ (tag_line (codes "Contract") (codes "1NT") ++ (tag_line (codes "EndNeed") (codes "2") ++ (tag_line (codes "EndLead") (codes "S") ++ []))) in
    list_all-append is_text (tag_line (codes "Deal") deal) rest
    ∙ and_from (list_all is_text (tag_line (codes "Deal") deal)) (list_all is_text rest) (tag_line-passes (codes "Deal") deal refl each) refl

no_text_fault-none : (bytes : List ℕ) → list_all is_text bytes ≡ true → no_text_fault bytes ≡ None
unfolding no_text_fault
no_text_fault-none bytes each =
    let past : nat_lt (position_or_len is_no_text bytes) (length bytes) ≡ false = le-ltb (position_or_len is_no_text bytes) (length bytes) (omega (arith, position-none is_no_text bytes each)) in
    rw (past) refl

without_mark-file : (deal : List ℕ) → without_mark (file_text deal) ≡ file_text deal
without_mark-file deal = refl

games_read-file : (deal : List ℕ) → list_all is_plain deal ≡ true → list_all is_text deal ≡ true → games_read (file_text deal) ≡ Ok (made_game deal ∷ [])
unfolding games_read
games_read-file deal plain each =
    ap (λ (found : Option (ℕ × _)). unless_fault found (text_read (without_mark (file_text deal)))) (no_text_fault-none (file_text deal) (file_text-passes deal each))
    ∙ ap text_read (without_mark-file deal) ∙ text_read-file deal plain

five_joined : (a b c d e : List ℕ) → a ++ b ++ c ++ d ++ e ≡ a ++ (b ++ (c ++ (d ++ (e ++ []))))
five_joined a b c d e = simp (append_assoc, append-nil)

deal_file-text : (north south : List ℕ) → deal_file north south ≡ file_text (deal_text (Some north ∷ None ∷ Some south ∷ None ∷ []))
unfolding deal_file
deal_file-text north south =
    five_joined (tag_line (codes "Deal") (deal_text (Some north ∷ None ∷ Some south ∷ None ∷ []))) (tag_line (codes "Declarer") (codes "S")) (tag_line (codes "Contract") (codes "1NT")) (tag_line (codes "EndNeed") (codes "2"))
    (tag_line (codes "EndLead") (codes "S"))

-- the game of a deal file
pub games_read-made : (north south : List ℕ) → games_read (deal_file north south) ≡ Ok (made_game (deal_text (Some north ∷ None ∷ Some south ∷ None ∷ [])) ∷ [])
games_read-made north south =
    ap games_read (deal_file-text north south)
    ∙ games_read-file (deal_text (Some north ∷ None ∷ Some south ∷ None ∷ []))
    (deal_text-passes is_plain (record { ranks = refl; stop = refl; dash = refl; space = refl; colon = refl; north = refl }) (Some north) None (Some south) None)
    (deal_text-passes is_text (record { ranks = refl; stop = refl; dash = refl; space = refl; colon = refl; north = refl }) (Some north) None (Some south) None)

-- ---- how long the file is

pub length-deal_file : (north south : List ℕ) → length (deal_file north south) ≤ 300
length-deal_file north south =
    let deal = deal_text (Some north ∷ None ∷ Some south ∷ None ∷ []) in
    let rest = tag_line (codes "Declarer") (codes "S") ++ (tag_line (codes "Contract") (codes "1NT") ++ (tag_line (codes "EndNeed") (codes "2") ++ (tag_line (codes "EndLead") (codes "S") ++ []))) in
    let others : length rest ≡ 60 = refl in
    let front : length (codes "[" ++ codes "Deal" ++ codes " \"") ≡ 7 = refl in
    let back : length (codes "\"]\n") ≡ 3 = refl in
    omega (
      arith,
      ap length (deal_file-text north south),
      length-append (tag_line (codes "Deal") deal) rest,
      length-append (codes "[" ++ codes "Deal" ++ codes " \"" ++ deal) (codes "\"]\n"),
      length-append (codes "[" ++ codes "Deal" ++ codes " \"") deal,
      length-deal_text (Some north) None (Some south) None,
      others,
      front,
      back,
    )
