-- The layout file as it is read: each line is a layout of the board, and nothing is dropped.
use Rattle.std.proofs.Common.{◌≡◌, ℕ, suc, ◌+◌, ◌*◌, ◌<◌, ◌≤◌, Bool, true, not, List, [], ◌∷◌, ◌++◌, length, map, take, drop, Option, Some, None, Ok, refl, ap, ◌∙◌, arith, append_assoc}
use Rattle.std.specs.Prelude.{All}
use Rattle.std.specs.List.{list_all, slice_split, onto_first, enumerate_from}
use Rattle.std.specs.List.Sorted.{IsPermutation}
use Rattle.std.proofs.lemmas.Bool.{and_parts, not-true, ne_eqb}
use Rattle.std.proofs.lemmas.List.{length-append}
use Rattle.std.proofs.lemmas.List.Elements.{All-head, All-tail}
use Rattle.std.proofs.lemmas.List.Splits.{slice_split-cons_yes, slice_split-cons_no}
use Rattle.std.proofs.lemmas.List.{take-append-drop}
use Rattle.std.proofs.lemmas.Slice.Eq.{bytes_eq-Decides}
use Rattle.card_sets.specs.declared.seat.Seat.TheVariants.{Declarer}
use Rattle.card_sets.specs.declared.seat.Compass.TheVariants.{S}
use Rattle.trick_rules.specs.declared.trump.Trump.TheVariants.{NoTrump}
use Rattle.trick_rules.specs.Positions.{PositionValue}
use Rattle.pbn_deal.specs.Boards.{BoardValue, dealt_board}
use Rattle.pbn_deal.specs.BoardRead.{together}
use Rattle.pbn_deal.specs.Deal.{deal_read}
use Rattle.pbn_deal.specs.Writing.{deal_text}
use Rattle.layout_list.specs.declared.line.Layout.{Layout}
use Rattle.layout_list.specs.declared.line.Weighed.{Weighed}
use Rattle.layout_list.specs.Kept.{KeptValue}
use Rattle.byte_text.specs.Blanks.{after_blanks}
use Rattle.byte_text.specs.Lines.{is_line_end}
use Rattle.layout_list.specs.Lines.{layout_lines, same_set, is_told, deal_of_line, weight_read, line_read, lines_read}
use Rattle.layout_list.specs.Layouts.{allowed, dropped, numbers_kept, weights_kept, lefts_kept, kept_of}
use Rattle.layout_list.specs.Verdicts.{first_position}
use Rattle.layout_maker.specs.MadeProblem.{set_of, west_hand, east_hand, order_line, layout_file}
use Rattle.layout_maker.proofs.MadeHands.{AreHands, together-set_of}
use Rattle.layout_maker.proofs.MadeDeals.{all_read}
use Rattle.layout_maker.proofs.MadeTexts.{deal_text-passes, length-deal_text}

-- ---- lines

abbrev no_line_end : ℕ → Bool
no_line_end byte = not (is_line_end byte)

split_line : (text more : List ℕ) → list_all no_line_end text ≡ true → slice_split is_line_end (text ++ 10 ∷ more) ≡ text ∷ slice_split is_line_end more
split_line [] more none = slice_split-cons_yes is_line_end 10 more refl
split_line (byte ∷ text) more none =
    let parts = and_parts (no_line_end byte) (list_all no_line_end text) none in
    slice_split-cons_no is_line_end byte (text ++ 10 ∷ more) (not-true (is_line_end byte) parts.0) ∙ ap (onto_first byte) (split_line text more parts.1)

-- ---- one layout

-- the board of a number's problem
abbrev pub made_board : List ℕ → List ℕ → BoardValue
made_board north south = dealt_board S NoTrump 2 Declarer (set_of south) (set_of north) None

-- the defenders' hands by an order of their cards
abbrev pub defenders_by : List ℕ → Layout
defenders_by order = record { left = west_hand order; right = east_hand order }

-- a layout of weight 1, by an order of the defenders' cards
abbrev pub weighed_by : List ℕ → Weighed
weighed_by order = record { weight = 1; layout = defenders_by order }

-- the text of a layout's line
abbrev line_text : List ℕ → List ℕ → List ℕ → List ℕ
line_text north south order = deal_text (Some (set_of north) ∷ Some (east_hand order) ∷ Some (set_of south) ∷ Some (west_hand order) ∷ [])

same_set-refl : (cards : List ℕ) → same_set cards cards ≡ true
same_set-refl cards = (bytes_eq-Decides cards cards).1 refl

-- an order of these cards, with the hands of North and South
pub record IsLayout (north south cards order : List ℕ) : Type 0 where
  pub hands : AreHands south north (take 5 order) (drop 5 order)
  pub moved : IsPermutation cards order

together-order : (north south cards order : List ℕ) → IsLayout north south cards order → together (west_hand order) (east_hand order) ≡ set_of cards
together-order north south cards order layout =
    let whole : IsPermutation cards (take 5 order ++ drop 5 order) = record {
      moves = layout.moved.moves;
      below = layout.moved.below;
      is = take-append-drop 5 order ∙ layout.moved.is;
    } in
    together-set_of (take 5 order) (drop 5 order) cards whole

-- a line that begins with a letter has weight 1
weight_read-letter : (rest : List ℕ) → weight_read (78 ∷ rest) ≡ Some (1, 78 ∷ rest)
unfolding weight_read after_blanks
weight_read-letter rest = refl

line_read-plain : (board : BoardValue) (unseen : Option (List ℕ)) (number : ℕ) (text : List ℕ) (layout : Layout) → weight_read text ≡ Some (1, text)
    → deal_of_line board unseen number (deal_read text) ≡ Ok layout → line_read board unseen number text ≡ Ok (record { weight = 1; layout = layout })
unfolding line_read
line_read-plain board unseen number text layout plain hands = rw (plain, hands) refl

line_read-made : (north south cards order : List ℕ) (unseen : Option (List ℕ)) (number : ℕ) → IsLayout north south cards order → is_told unseen (set_of cards) ≡ true
    → line_read (made_board north south) unseen number (line_text north south order) ≡ Ok (weighed_by order)
line_read-made north south cards order unseen number layout told =
    let told_here : is_told unseen (together (west_hand order) (east_hand order)) ≡ true = ap (is_told unseen) (together-order north south cards order layout) ∙ told in
    let hands : deal_of_line (made_board north south) unseen number (deal_read (line_text north south order)) ≡ Ok (defenders_by order) =
    ap (deal_of_line (made_board north south) unseen number) (all_read south north (take 5 order) (drop 5 order) layout.hands)
    ∙ rw (same_set-refl (set_of south), same_set-refl (set_of north), told_here) refl in
    line_read-plain (made_board north south) unseen number (line_text north south order) (defenders_by order) (weight_read-letter _) hands

-- ---- all layouts

lines_read-cons : (board : BoardValue) (unseen : Option (List ℕ)) (number count : ℕ) (text : List ℕ) (lines : List (ℕ × List ℕ)) (weighed : Weighed) (layouts : List Weighed) → count < 256
    → line_read board unseen number text ≡ Ok weighed → lines_read board (Some (together weighed.layout.left weighed.layout.right)) (count + 1) lines ≡ Ok layouts
    → lines_read board unseen count ((number, text) ∷ lines) ≡ Ok (weighed ∷ layouts)
lines_read-cons board unseen number count text lines weighed layouts few one others = rw (ne_eqb count 256 (λ same. absurd (omega arith)), one, others) refl

pub lines_read-made : (north south cards : List ℕ) (orders : List (List ℕ)) → All (IsLayout north south cards) orders → (unseen : Option (List ℕ)) (number count : ℕ)
    → is_told unseen (set_of cards) ≡ true → count + length orders ≤ 256
    → lines_read (made_board north south) unseen count (layout_lines (enumerate_from number (slice_split is_line_end (layout_file (set_of north) (set_of south) orders)))) ≡ Ok (map weighed_by orders)
unfolding order_line
lines_read-made north south cards [] each unseen number count told few = refl
lines_read-made north south cards (order ∷ orders) each unseen number count told few =
    let board = made_board north south in
    let text = line_text north south order in
    let more = layout_file (set_of north) (set_of south) orders in
    let layout = All-head (IsLayout north south cards) order orders each in
    let rest = layout_lines (enumerate_from (number + 1) (slice_split is_line_end more)) in
    let plain : list_all no_line_end text ≡ true =
    deal_text-passes no_line_end (record { ranks = refl; stop = refl; dash = refl; space = refl; colon = refl; north = refl }) (Some (set_of north)) (Some (east_hand order)) (Some (set_of south)) (Some (west_hand order)) in
    let split : slice_split is_line_end (layout_file (set_of north) (set_of south) (order ∷ orders)) ≡ text ∷ slice_split is_line_end more =
    ap (slice_split is_line_end) (append_assoc text (10 ∷ []) more) ∙ split_line text more plain in
    let same : is_told (Some (together (west_hand order) (east_hand order))) (set_of cards) ≡ true =
    ap (λ (t : List ℕ). same_set (set_of cards) t) (together-order north south cards order layout) ∙ same_set-refl (set_of cards) in
    ap (λ (lines : List (List ℕ)). lines_read board unseen count (layout_lines (enumerate_from number lines))) split
    ∙ lines_read-cons board unseen number count text rest (weighed_by order) (map weighed_by orders) (omega arith)
    (line_read-made north south cards order unseen number layout told)
    (lines_read-made north south cards orders (All-tail (IsLayout north south cards) order orders each) (Some (together (west_hand order) (east_hand order))) (number + 1) (count + 1) same (omega arith))

-- ---- what is kept

allowed-all : (t : PositionValue) (layouts : List (ℕ × Weighed)) → allowed [] t layouts ≡ layouts
allowed-all t [] = refl
allowed-all t (layout ∷ layouts) = ap (λ rest. layout ∷ rest) (allowed-all t layouts)

pub dropped-none : (t : PositionValue) (layouts : List (ℕ × Weighed)) → dropped [] t layouts ≡ []
dropped-none t [] = refl
dropped-none t (layout ∷ layouts) = dropped-none t layouts

length-enumerated : (number : ℕ) (layouts : List Weighed) → length (map (λ (l : ℕ × Weighed). l.0) (enumerate_from number layouts)) ≡ length layouts
length-enumerated number [] = refl
length-enumerated number (layout ∷ layouts) = ap (λ n. suc n) (length-enumerated (number + 1) layouts)

pub length-numbers_kept : (t : PositionValue) (layouts : List Weighed) → length (numbers_kept [] t (enumerate_from 1 layouts)) ≡ length layouts
length-numbers_kept t layouts = ap (λ ls. length (map (λ (l : ℕ × Weighed). l.0) ls)) (allowed-all t (enumerate_from 1 layouts)) ∙ length-enumerated 1 layouts

-- the position before the first card, and all layouts with their numbers
abbrev pub whole_kept : List ℕ → List ℕ → Weighed → List Weighed → KeptValue
whole_kept north south first layouts =
    let t = first_position (made_board north south) (together first.layout.left first.layout.right) in
    let numbered = enumerate_from 1 (first ∷ layouts) in
    record { numbers = numbers_kept [] t numbered; dropped = dropped [] t numbered; node = record { position = t; lefts = lefts_kept [] t numbered }; weights = weights_kept [] t numbered }

pub kept_of-made : (north south : List ℕ) (first : Weighed) (layouts : List Weighed) → kept_of (made_board north south) (first ∷ layouts) ≡ Ok (whole_kept north south first layouts)
kept_of-made north south first layouts = refl

-- ---- how long the file is

pub length-layout_file : (north south : List ℕ) (orders : List (List ℕ)) → length (layout_file north south orders) ≤ 226 * length orders
unfolding order_line
length-layout_file north south [] = omega arith
length-layout_file north south (order ∷ orders) =
    let text = deal_text (Some north ∷ Some (east_hand order) ∷ Some south ∷ Some (west_hand order) ∷ []) in
    let more = layout_file north south orders in
    omega (
      arith,
      length-append (text ++ 10 ∷ []) more,
      length-append text (10 ∷ []),
      length-deal_text (Some north) (Some (east_hand order)) (Some south) (Some (west_hand order)),
      length-layout_file north south orders,
    )
