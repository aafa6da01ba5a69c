-- The layouts that a part of a walk comes to.
use Rattle.std.specs.Prelude.{ℕ, List, map, filter}
use Rattle.hand_conditions.specs.declared.term.Term.{Term}
use Rattle.pbn_deal.specs.BoardRead.{together}
use Rattle.layout_list.specs.declared.line.Layout.{Layout}
use Rattle.layout_maker.specs.Divisions.{hands_of_size, layout_with}
use Rattle.layout_draw.specs.Fitting.{fits}

-- the layouts in which Left has these cards and this many of the free ones
abbrev pub layouts_from : List ℕ → List ℕ → ℕ → List ℕ → List Layout
layouts_from unseen hand wanted free = map (λ more. layout_with unseen (together hand more)) (hands_of_size wanted free)

-- those of them that meet the conditions
abbrev pub fitting_from : List (List Term) → List (List Term) → List ℕ → List ℕ → ℕ → List ℕ → List Layout
fitting_from left right unseen hand wanted free = filter (fits left right) (layouts_from unseen hand wanted free)
