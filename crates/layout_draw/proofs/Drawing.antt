-- What a draw gives.
use Rattle.std.proofs.Common.{◌≡◌, ℕ, ◌<◌, None, Some, Result, Ok, Err, List, [], ◌∷◌, length, map, filter, refl, sym, ap, ◌∙◌, subst, arith}
use Rattle.std.specs.Prelude.{min}
use Rattle.hand_conditions.specs.declared.term.Term.{Term}
use Rattle.pbn_deal.specs.Boards.{BoardValue}
use Rattle.pbn_deal.specs.BoardRead.{together}
use Rattle.layout_list.specs.declared.line.Layout.{Layout}
use Rattle.drawn_places.specs.Places.{ArePlaces}
use Rattle.layout_maker.specs.declared.fault.MakeFault.{MakeFault}
use Rattle.layout_maker.specs.declared.fault.MakeFault.TheVariants.{NoneFit, NotShown}
use Rattle.layout_maker.specs.Divisions.{hands_of_size, layout_with, layouts_over}
use Rattle.layout_maker.proofs.Hands.{map-map}
use Rattle.layout_draw.specs.Fitting.{fits, at_places, if_some, fitting_layouts, fitting_shown, fitting_made, AreDrawn, IsDrawOf}
use Rattle.layout_draw.specs.Walks.{fitting_from}
use Rattle.layout_draw.proofs.Counted.{length-at_places}

-- the fitting layouts as a walk finds them
pub fitting-walked : (b : BoardValue) (left right : List (List Term)) (unseen sure free : List ℕ) (wanted : ℕ)
    → layouts_over b unseen ≡ map (layout_with unseen) (map (together sure) (hands_of_size wanted free)) → fitting_layouts b unseen left right ≡ fitting_from left right unseen sure wanted free
unfolding fitting_layouts
fitting-walked b left right unseen sure free wanted are =
    ap (filter (fits left right)) (are ∙ map-map (layout_with unseen) (together sure) (hands_of_size wanted free))

pub fitting-none : (b : BoardValue) (left right : List (List Term)) (unseen : List ℕ) → layouts_over b unseen ≡ [] → fitting_layouts b unseen left right ≡ []
unfolding fitting_layouts
fitting-none b left right unseen none = ap (filter (fits left right)) none

-- ---- a board

pub made-not_shown : (b : BoardValue) (left right : List (List Term)) → b.unseen ≡ None → fitting_made b left right ≡ Err NotShown
made-not_shown b left right none = ap (fitting_shown b left right) none

made-shown : (b : BoardValue) (left right : List (List Term)) (unseen : List ℕ) → b.unseen ≡ Some unseen → fitting_made b left right ≡ if_some (fitting_layouts b unseen left right)
made-shown b left right unseen shown = ap (fitting_shown b left right) shown

pub made-none : (b : BoardValue) (left right : List (List Term)) (unseen : List ℕ) → b.unseen ≡ Some unseen → fitting_layouts b unseen left right ≡ [] → fitting_made b left right ≡ Err NoneFit
made-none b left right unseen shown none = made-shown b left right unseen shown ∙ ap if_some none

pub made-counted_none : (b : BoardValue) (left right : List (List Term)) (unseen : List ℕ) (fitting : List Layout) → b.unseen ≡ Some unseen → fitting_layouts b unseen left right ≡ fitting → length fitting ≡ 0
    → fitting_made b left right ≡ Err NoneFit
made-counted_none b left right unseen [] shown are none = made-none b left right unseen shown are
made-counted_none b left right unseen (layout ∷ more) shown are none = absurd (omega arith)

some_layouts : (fitting : List Layout) → 0 < length fitting → if_some fitting ≡ Ok fitting
some_layouts [] some = absurd (omega arith)
some_layouts (layout ∷ more) some = refl

-- ---- the layouts that are drawn

drawn-places : (fitting : List Layout) (amount : ℕ) (places : List ℕ) → ArePlaces (length fitting) (min amount (length fitting)) places → AreDrawn fitting amount (at_places places 0 fitting)
drawn-places fitting amount places are = record {
  places = places;
  are_places = are;
  there = refl;
  as_many = length-at_places places 0 fitting are.ascending (λ k d inside. let below = are.inside k d inside in (omega arith, omega (arith, below))) ∙ are.count;
}

pub drawn-of : (b : BoardValue) (left right : List (List Term)) (unseen : List ℕ) (fitting kept : List Layout) (amount n fewer : ℕ) (places : List ℕ)
    → b.unseen ≡ Some unseen → fitting_layouts b unseen left right ≡ fitting → n ≡ length fitting → 0 < n → fewer ≡ min amount n → ArePlaces n fewer places → kept ≡ at_places places 0 fitting
    → IsDrawOf (fitting_made b left right) amount n kept
drawn-of b left right unseen fitting kept amount n fewer places shown are count some least are_places there =
    let made : fitting_made b left right ≡ Ok fitting = made-shown b left right unseen shown ∙ ap if_some are ∙ some_layouts fitting (omega (arith, count)) in
    let placed = subst (λ m. ArePlaces m (min amount m) places) count (subst (λ m. ArePlaces n m places) least are_places) in
    subst (λ (expected : Result (List Layout) MakeFault). IsDrawOf expected amount n kept) (sym made)
    (count, subst (λ layouts. AreDrawn fitting amount layouts) (sym there) (drawn-places fitting amount places placed))
