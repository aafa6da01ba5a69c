-- The lines of a layout file, read one by one.
use Rattle.std.specs.Prelude.{◌≡◌, ℕ, ◌+◌, Bool, true, false, not, ◌&&◌, ◌||◌, ◌==◌, nat_le, Option, None, Some, Result, Ok, Err, List, [], ◌∷◌, length, filter, take, drop, All, ok_or, bytes_eq, if◌then◌else◌}
use Rattle.std.specs.List.{list_all, slice_split, enumerate_from, position_or_len}
use Rattle.std.specs.Option.{option_map}
use Rattle.std.specs.Str.{all_ascii_digits}
use Rattle.std.specs.Str.Parse.{digits_value}
use Rattle.card_sets.specs.declared.seat.Seat.TheVariants.{Left, Dummy, Right}
use Rattle.byte_text.specs.Blanks.{is_blank, after_blanks}
use Rattle.byte_text.specs.Lines.{is_line_end}
use Rattle.pbn_deal.specs.declared.deal.DealValue.{DealValue}
use Rattle.pbn_deal.specs.declared.deal.DealFault.{DealFault}
use Rattle.card_sets.specs.SetWords.{IsCardSet}
use Rattle.pbn_deal.specs.Boards.{BoardValue, compass_of, tricks_of, FitsUnseen}
use Rattle.pbn_deal.specs.BoardRead.{together}
use Rattle.pbn_deal.specs.Deal.{deal_read, hand_at}
use Rattle.pbn_deal.specs.Sections.{prepend}
use Rattle.byte_text.specs.Steps.{◌>>=◌}
use Rattle.win_vectors.specs.Weights.{IsWeight}
use Rattle.layout_list.specs.declared.fault.LayoutFault.{LayoutFault}
use Rattle.layout_list.specs.declared.fault.LayoutFault.TheVariants.{BadLine, OtherHands, TooMany, BadWeight}
use Rattle.layout_list.specs.declared.line.Layout.{Layout}
use Rattle.layout_list.specs.declared.line.Weighed.{Weighed}

-- ---- lines

-- a line that begins with a per cent sign
abbrev pub is_comment : List ℕ → Bool
is_comment [] = false
is_comment (byte ∷ rest) = byte == 37

-- a line of blanks alone, or one that begins with a per cent sign
abbrev pub is_skipped : List ℕ → Bool
is_skipped line = list_all is_blank line || is_comment line

-- the lines of a file with their numbers from 1
abbrev pub numbered_lines : List ℕ → List (ℕ × List ℕ)
numbered_lines bytes = enumerate_from 1 (slice_split is_line_end bytes)

-- the lines of what is left of a file, if anything is
abbrev pub lines_left : ℕ → Option (List ℕ) → List (ℕ × List ℕ)
lines_left number None = []
lines_left number (Some text) = enumerate_from number (slice_split is_line_end text)

-- the lines that aren't skipped, each a layout
abbrev pub layout_lines : List (ℕ × List ℕ) → List (ℕ × List ℕ)
layout_lines lines = filter (λ line. not (is_skipped line.1)) lines

-- ---- the weight of a layout

-- the greatest weight of a layout
abbrev pub most_weight : ℕ
most_weight = 1000000

-- a byte that is no digit
abbrev pub ends_digits : ℕ → Bool
ends_digits byte = not (all_ascii_digits (byte ∷ []))

-- the weight that digits write: 1 to 1,000,000, leading zeros allowed
abbrev pub weight_said : List ℕ → Option ℕ
weight_said digits =
    let weight = digits_value 10 digits in
    if nat_le 1 weight && nat_le weight most_weight then Some weight else None

-- whether a text begins with a blank
abbrev pub begins_blank : List ℕ → Bool
begins_blank [] = false
begins_blank (byte ∷ rest) = is_blank byte

-- the weight that this many digits write at the beginning of a text, and what follows them, if that begins with a blank
abbrev pub weight_of_digits : ℕ → List ℕ → Option (ℕ × List ℕ)
weight_of_digits count text =
    if begins_blank (drop count text) then option_map (λ weight. (weight, drop count text)) (weight_said (take count text))
    else None

-- the weight that a line begins with and what follows it; if the line's first byte that isn't a blank is no digit, weight 1
-- and the whole line
unfoldable pub weight_read : List ℕ → Option (ℕ × List ℕ)
weight_read line =
    let text = after_blanks line in
    let count = position_or_len ends_digits text in
    if count == 0 then Some (1, line) else weight_of_digits count text

-- ---- one layout

-- two sets have the same cards
abbrev pub same_set : List ℕ → List ℕ → Bool
same_set a b = bytes_eq a b

-- the cards of the two defenders, where they are told
abbrev pub is_told : Option (List ℕ) → List ℕ → Bool
is_told None cards = true
is_told (Some unseen) cards = same_set cards unseen

-- the defenders' hands, where all four hands are shown, declarer's side has the board's hands and the defenders have the unseen cards
abbrev pub layout_of : BoardValue → Option (List ℕ) → Option (List ℕ) → Option (List ℕ) → Option (List ℕ) → Option (List ℕ) → Option Layout
layout_of board unseen (Some own) (Some dummy) (Some left) (Some right) =
    if same_set own board.declarer_hand && same_set dummy board.dummy_hand && is_told unseen (together left right) then Some (record { left = left; right = right })
    else None
layout_of board unseen _ _ _ _ = None

-- the defenders' hands in a deal that shows all four hands, as the board has them
abbrev pub layout_in : BoardValue → Option (List ℕ) → DealValue → Option Layout
layout_in board unseen deal =
    layout_of board unseen (hand_at deal board.declarer) (hand_at deal (compass_of board.declarer Dummy)) (hand_at deal (compass_of board.declarer Left)) (hand_at deal (compass_of board.declarer Right))

-- the defenders' hands in a deal that was read from this line, or the refusal of the line
abbrev pub deal_of_line : BoardValue → Option (List ℕ) → ℕ → Result DealValue DealFault → Result Layout LayoutFault
deal_of_line board unseen number (Ok deal) = ok_or (layout_in board unseen deal) (OtherHands number)
deal_of_line board unseen number (Err fault) = Err (BadLine number fault)

-- the weight and the defenders' hands in a line, or its refusal
unfoldable pub line_read : BoardValue → Option (List ℕ) → ℕ → List ℕ → Result Weighed LayoutFault
line_read board unseen number line = do
  said ← ok_or (weight_read line) (BadWeight number)
  layout ← deal_of_line board unseen number (deal_read said.1)
  Ok (record { weight = said.0; layout = layout })

-- ---- all layouts

-- the most layouts of a file
abbrev pub most_listed : ℕ
most_listed = 256

-- the layouts of the lines, after some that were read: at most 256 in all, and each with the unseen cards of the first if the board doesn't tell them
abbrev pub lines_read : BoardValue → Option (List ℕ) → ℕ → List (ℕ × List ℕ) → Result (List Weighed) LayoutFault
lines_read board unseen count [] = Ok []
lines_read board unseen count (line ∷ lines) =
    if count == most_listed then Err (TooMany line.0)
    else line_read board unseen line.0 line.1 >>= (λ weighed. prepend (weighed ∷ []) (lines_read board (Some (together weighed.layout.left weighed.layout.right)) (count + 1) lines))

-- ---- what a layout that was read keeps

-- a set for each defender, apart from each other and from declarer's side, each with a card for each trick
pub record FitsBoard (board : BoardValue) (layout : Layout) : Type 0 where
  pub left_set : IsCardSet layout.left
  pub left_size : length layout.left ≡ tricks_of board
  pub unseen : FitsUnseen board (together layout.left layout.right)

-- the defenders' cards together are the ones told
abbrev pub IsTold : Option (List ℕ) → List ℕ → Type 0
IsTold None cards = Unit {0}
IsTold (Some unseen) cards = cards ≡ unseen

-- a layout of a board whose defenders hold these cards together
pub record FitsOver (board : BoardValue) (unseen : List ℕ) (layout : Layout) : Type 0 where
  pub fits : FitsBoard board layout
  pub same : together layout.left layout.right ≡ unseen

-- layouts of a board, each with the same cards together, which are told if there is a layout
abbrev pub AreOver : BoardValue → Option (List ℕ) → List Weighed → Type 0
AreOver board None layouts = layouts ≡ []
AreOver board (Some unseen) layouts = All (λ weighed. FitsOver board unseen weighed.layout) layouts

-- layouts of a board whose defenders hold the same cards together
abbrev pub IsOneDeal : BoardValue → List Weighed → Type 0
IsOneDeal board [] = Unit {0}
IsOneDeal board (first ∷ rest) = All (λ weighed. FitsOver board (together first.layout.left first.layout.right) weighed.layout) (first ∷ rest)

-- each has a weight that a layout may have
abbrev pub HaveWeights : List Weighed → Type 0
HaveWeights layouts = All (λ weighed. IsWeight weighed.weight) layouts
