-- The layouts that the play and conditions allow, and those drawn of them.
use Rattle.std.specs.Prelude.{◌≡◌, ℕ, ◌+◌, Bool, ◌&&◌, ◌||◌, ◌==◌, min, Option, None, Some, Result, Ok, Err, List, [], ◌∷◌, length, filter, if◌then◌else◌}
use Rattle.std.specs.List.{list_any}
use Rattle.pbn_deal.specs.Boards.{BoardValue}
use Rattle.layout_list.specs.declared.line.Layout.{Layout}
use Rattle.hand_conditions.specs.declared.term.Term.{Term}
use Rattle.hand_conditions.specs.Conditions.{meets}
use Rattle.drawn_places.specs.Places.{ArePlaces, is_among}
use Rattle.layout_maker.specs.declared.fault.MakeFault.{MakeFault}
use Rattle.layout_maker.specs.declared.fault.MakeFault.TheVariants.{NoneFit, NotShown}
use Rattle.layout_maker.specs.Divisions.{layouts_over}

-- ---- the layouts that fit

-- whether there are no conditions, or a hand meets one of them
abbrev pub meets_one : List (List Term) → List ℕ → Bool
meets_one conditions hand = (length conditions == 0) || list_any (λ condition. meets condition hand) conditions

-- whether the two hands of a layout meet the conditions on Left's and on Right's hand
abbrev pub fits : List (List Term) → List (List Term) → Layout → Bool
fits left right layout = meets_one left layout.left && meets_one right layout.right

-- the layouts that the play allows and that meet the conditions, in the order of all layouts
unfoldable pub fitting_layouts : BoardValue → List ℕ → List (List Term) → List (List Term) → List Layout
fitting_layouts board unseen left right = filter (fits left right) (layouts_over board unseen)

-- at least one layout
abbrev pub if_some : List Layout → Result (List Layout) MakeFault
if_some [] = Err NoneFit
if_some (layout ∷ more) = Ok (layout ∷ more)

-- the fitting layouts over the unseen cards, if they are shown
abbrev pub fitting_shown : BoardValue → List (List Term) → List (List Term) → Option (List ℕ) → Result (List Layout) MakeFault
fitting_shown board left right None = Err NotShown
fitting_shown board left right (Some unseen) = if_some (fitting_layouts board unseen left right)

-- all fitting layouts of a board, or why there are none
abbrev pub fitting_made : BoardValue → List (List Term) → List (List Term) → Result (List Layout) MakeFault
fitting_made board left right = fitting_shown board left right board.unseen

-- ---- those drawn

-- the layouts at these places of a list, in its order; its first place has this number
abbrev pub at_places : List ℕ → ℕ → List Layout → List Layout
at_places places first [] = []
at_places places first (layout ∷ more) =
    if is_among places first then layout ∷ at_places places (first + 1) more else at_places places (first + 1) more

-- layouts drawn from a list: those at this many different places, or at all if there are fewer
pub record AreDrawn (fitting : List Layout) (amount : ℕ) (drawn : List Layout) : Type 0 where
  pub places : List ℕ
  pub are_places : ArePlaces (length fitting) (min amount (length fitting)) places
  pub there : drawn ≡ at_places places 0 fitting
  pub as_many : length drawn ≡ min amount (length fitting)

-- what a draw gives: how many layouts fit, and those drawn of them
abbrev pub IsDrawOf : Result (List Layout) MakeFault → ℕ → ℕ → List Layout → Type 0
IsDrawOf (Ok fitting) amount count drawn = (count ≡ length fitting) × AreDrawn fitting amount drawn
IsDrawOf (Err fault) amount count drawn = ⊥
