-- The parts of a layout.
use Rattle.std.proofs.Common.{◌≡◌, ◌∙◌, ℕ, Result, Ok, Err, Some, List, [], ◌++◌, length, slice_get, get_or, sym, ap, append_assoc}
use Rattle.std.specs.Prelude.{OnOk}
use Rattle.std.proofs.lemmas.Option.{get_or_from_slice_get}
use Rattle.trick_rules.specs.Positions.{PositionValue}
use Rattle.html_text.specs.declared.page.Piece.{Piece}
use Rattle.page_text.specs.Layouts.{LayoutsShown, hands, worth, makers, layout_at}
use Rattle.page_text.specs.Plays.{plays_at}

-- the layout at a place, its parts added one after another
pub layout_added : {V E : Type 0} (result : Result V E) (shown : LayoutsShown) (place : ℕ) (position : PositionValue) (left : List ℕ) (weight : ℕ) (start dealt weighed made next : List Piece)
    → position ≡ shown.node.position → slice_get shown.node.lefts place ≡ Some left → slice_get shown.weights place ≡ Some weight
    → dealt ≡ start ++ hands place shown.declarer position left → weighed ≡ dealt ++ worth shown.by_weight weight → made ≡ weighed ++ makers place shown.lines
    → OnOk result (next ≡ made ++ plays_at (length position.trick.cards) place shown.played) → OnOk result (next ≡ start ++ layout_at shown place)
unfolding layout_at
layout_added (Err e) shown place position left weight start dealt weighed made next is_position is_left is_weight first second third last = tt
layout_added (Ok v) shown place position left weight start dealt weighed made next is_position is_left is_weight first second third last =
    let at = shown.node.position in
    let left-is : left ≡ get_or shown.node.lefts place [] = sym (get_or_from_slice_get shown.node.lefts place left [] is_left) in
    let weight-is : weight ≡ get_or shown.weights place 0 = sym (get_or_from_slice_get shown.weights place weight 0 is_weight) in
    let hand = hands place shown.declarer at (get_or shown.node.lefts place []) in
    let weighs = worth shown.by_weight (get_or shown.weights place 0) in
    let told = makers place shown.lines in
    let plays = plays_at (length at.trick.cards) place shown.played in
    let dealt-is : dealt ≡ start ++ hand = first ∙ ap (λ (t : PositionValue). start ++ hands place shown.declarer t left) is_position ∙ ap (λ (l : List ℕ). start ++ hands place shown.declarer at l) left-is in
    let weighed-is : weighed ≡ (start ++ hand) ++ weighs = second ∙ ap (λ (w : ℕ). dealt ++ worth shown.by_weight w) weight-is ∙ ap (λ d. d ++ weighs) dealt-is in
    let made-is : made ≡ ((start ++ hand) ++ weighs) ++ told = third ∙ ap (λ w. w ++ told) weighed-is in
    last ∙ ap (λ (t : PositionValue). made ++ plays_at (length t.trick.cards) place shown.played) is_position ∙ ap (λ m. m ++ plays) made-is
    ∙ append_assoc ((start ++ hand) ++ weighs) told plays ∙ append_assoc (start ++ hand) weighs (told ++ plays) ∙ append_assoc start hand (weighs ++ (told ++ plays))
    ∙ ap (λ p. start ++ p) (sym (append_assoc hand weighs (told ++ plays)) ∙ sym (append_assoc (hand ++ weighs) told plays))
