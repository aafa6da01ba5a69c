-- All layouts of a board that the play allows.
use Rattle.std.specs.Prelude.{◌≡◌, ℕ, zero, suc, ◌<◌, Bool, not, Option, None, Some, is_none, Result, Ok, Err, List, [], ◌∷◌, ◌++◌, length, map, filter, ◌==◌, nat_lt, ◌⊎◌, if◌then◌else◌}
use Rattle.card_sets.specs.SetWords.{has_card, IsCardSet, Apart}
use Rattle.pbn_deal.specs.BoardRead.{together}
use Rattle.pbn_deal.specs.Boards.{BoardValue, tricks_of}
use Rattle.layout_list.specs.declared.line.Layout.{Layout}
use Rattle.layout_list.specs.Lines.{most_listed}
use Rattle.layout_list.specs.Verdicts.{first_position}
use Rattle.layout_list.specs.Layouts.{verdict}
use Rattle.layout_maker.specs.declared.fault.MakeFault.{MakeFault}
use Rattle.layout_maker.specs.declared.fault.MakeFault.TheVariants.{TooManyFit, NoneFit, NotShown, Memory}

-- ---- every division of the cards

-- the most cards that the defenders hold unseen, thirteen each
abbrev pub most_unseen : ℕ
most_unseen = 26

-- each hand of this many of these cards: those with the first card, and then those without it
abbrev pub hands_of_size : ℕ → List ℕ → List (List ℕ)
hands_of_size zero cards = [] ∷ []
hands_of_size (suc size) [] = []
hands_of_size (suc size) (card ∷ cards) = map (λ hand. card ∷ hand) (hands_of_size size cards) ++ hands_of_size (suc size) cards

-- Left has this hand, and Right the rest of the unseen cards
abbrev pub layout_with : List ℕ → List ℕ → Layout
layout_with unseen left = record { left = left; right = filter (λ card. not (has_card left card)) unseen }

-- every division of the unseen cards in which Left has this many
abbrev pub divisions : ℕ → List ℕ → List Layout
divisions size unseen = map (layout_with unseen) (hands_of_size size unseen)

-- ---- those that the play allows

-- whether the play contradicts no card of a layout
abbrev pub is_allowed : BoardValue → List ℕ → Layout → Bool
is_allowed board unseen layout = is_none (verdict board.plays (first_position board unseen) layout)

-- every division of the unseen cards, half of them to each defender, that the play allows
unfoldable pub layouts_over : BoardValue → List ℕ → List Layout
layouts_over board unseen = filter (is_allowed board unseen) (divisions (tricks_of board) unseen)

-- a list of at least one layout and at most 256, or else why it isn't given
abbrev pub if_few : List Layout → Result (List Layout) MakeFault
if_few layouts =
    if length layouts == 0 then Err NoneFit
    else if nat_lt most_listed (length layouts) then Err (TooManyFit (length layouts))
    else Ok layouts

-- the layouts over the unseen cards, where they are shown
abbrev pub layouts_shown : BoardValue → Option (List ℕ) → Result (List Layout) MakeFault
layouts_shown board None = Err NotShown
layouts_shown board (Some unseen) = if_few (layouts_over board unseen)

-- all layouts of a board that the play allows, or why they aren't listed
abbrev pub layouts_made : BoardValue → Result (List Layout) MakeFault
layouts_made board = layouts_shown board board.unseen

-- a fault that may come in place of this list: a failed allocation, or the reason
abbrev pub IsMakeFaultOf : Result (List Layout) MakeFault → MakeFault → Type 0
IsMakeFaultOf expected fault = (fault ≡ Memory) ⊎ (expected ≡ Err fault)

-- ---- what one would say of them

-- a division of the unseen cards between the defenders, in which Left has this many
pub record IsDivision (unseen : List ℕ) (size : ℕ) (layout : Layout) : Type 0 where
  pub left_set : IsCardSet layout.left
  pub right_set : IsCardSet layout.right
  pub apart : Apart layout.left layout.right
  pub whole : together layout.left layout.right ≡ unseen
  pub left_size : length layout.left ≡ size

-- of two hands compared card by card, at the first place where they differ this one has the lower card
abbrev pub ComesBefore : List ℕ → List ℕ → Type 0
ComesBefore [] others = ⊥
ComesBefore (card ∷ cards) [] = ⊥
ComesBefore (card ∷ cards) (other ∷ others) = (card < other) ⊎ ((card ≡ other) × ComesBefore cards others)
