-- What is kept of the layouts of a board.
use Rattle.std.proofs.Common.{◌≡◌, ℕ, ◌≤◌, Bool, true, cond, ltb, List, [], ◌∷◌, Option, None, Some, Ok, Err, map, length, get_or, refl, sym, ap, ap₂, ◌∙◌, subst, arith}
use Rattle.std.specs.Prelude.{All, MatchOption, slice_get, ◌||◌}
use Rattle.std.specs.List.{enumerate_from}
use Rattle.std.proofs.lemmas.Bool.{le-ltb}
use Rattle.std.proofs.lemmas.List.{length-map}
use Rattle.card_sets.specs.declared.seat.Seat.{Seat}
use Rattle.card_sets.specs.declared.seat.Seat.TheVariants.{Declarer, Left}
use Rattle.card_sets.specs.SetWords.{has_card}
use Rattle.card_sets.proofs.Sets.{has_card-cards_where, has_card-below}
use Rattle.trick_rules.specs.Positions.{PositionValue, IsSound, IsState, places_on}
use Rattle.trick_rules.specs.Nodes.{NodeValue}
use Rattle.pbn_deal.specs.declared.board.Played.{Played}
use Rattle.pbn_deal.specs.Boards.{BoardValue}
use Rattle.pbn_deal.specs.BoardRead.{together}
use Rattle.layout_list.specs.declared.fault.LayoutFault.TheVariants.{NoneLeft}
use Rattle.layout_list.specs.declared.kept.Dropped.{Dropped}
use Rattle.layout_list.specs.declared.line.Layout.{Layout}
use Rattle.layout_list.specs.declared.line.Weighed.{Weighed}
use Rattle.layout_list.specs.Kept.{KeptValue}
use Rattle.layout_list.specs.Lines.{FitsOver, IsOneDeal}
use Rattle.layout_list.specs.Verdicts.{first_position, position_after, hand_after}
use Rattle.layout_list.specs.Layouts.{allowed, dropped, numbers_kept, weights_kept, lefts_kept, unless_none, kept_over, kept_of, IsAfter}

-- ---- the states before the first card

-- nobody has played to a trick with no card
no_card_played : (leader seat : Seat) → cond {A = ℕ} (ltb (places_on leader seat) 0) 1 0 ≡ 0
no_card_played leader seat = ap (λ b. cond b 1 0) (le-ltb (places_on leader seat) 0 (omega arith))

in_either : (l r : Bool) → l ≡ true → (l || r) ≡ true
in_either l r holds = ap (λ b. b || r) holds

pub start_state : (b : BoardValue) (unseen : List ℕ) (layout : Layout) → IsSound (first_position b unseen) → FitsOver b unseen layout → IsState (record { position = first_position b unseen; left = layout.left })
start_state b unseen layout sound over = record {
  sound = sound;
  fits = record {
    set = over.fits.left_set;
    part = λ c holds.
        ap (λ cards. has_card cards c) (sym over.same)
        ∙ has_card-cards_where (λ c. has_card layout.left c || has_card layout.right c) c (has_card-below layout.left c over.fits.left_set holds)
        ∙ in_either (has_card layout.left c) (has_card layout.right c) holds;
    count = omega (arith, over.fits.left_size, no_card_played b.leader Left, no_card_played b.leader Declarer);
  };
}

pub start_states : (b : BoardValue) (unseen : List ℕ) (layouts : List Weighed) → IsSound (first_position b unseen) → All (λ weighed. FitsOver b unseen weighed.layout) layouts
    → All (λ d. IsState (record { position = first_position b unseen; left = d.layout.left })) layouts
start_states b unseen layouts sound over = λ k d lt. start_state b unseen (get_or layouts k d).layout sound (over k d lt)

-- ---- none and some

map_none : {A B C : Type 0} (f : A → B) (g : A → C) (xs : List A) → map f xs ≡ [] → map g xs ≡ []
map_none f g [] none = refl
map_none f g (x ∷ xs) none = cc

map_some : {A B C : Type 0} (f : A → B) (g : A → C) (xs : List A) → length (map f xs) ≡ length (map g xs)
map_some f g xs = length-map xs f ∙ sym (length-map xs g)

-- what is kept where some layout is
kept_value : List Played → PositionValue → List (ℕ × Weighed) → KeptValue
kept_value plays t layouts = record {
  numbers = numbers_kept plays t layouts;
  dropped = dropped plays t layouts;
  node = record { position = position_after t plays; lefts = lefts_kept plays t layouts };
  weights = weights_kept plays t layouts;
}

none_left : (plays : List Played) (t : PositionValue) (layouts : List (ℕ × Weighed)) → lefts_kept plays t layouts ≡ [] → kept_over plays t layouts ≡ Err NoneLeft
unfolding kept_value
none_left plays t layouts none = ap (λ numbers. unless_none numbers (kept_value plays t layouts)) (map_none (λ l. hand_after l.1.layout.left plays) (λ l. l.0) (allowed plays t layouts) none)

some_number : (numbers : List ℕ) (kept : KeptValue) → 1 ≤ length numbers → unless_none numbers kept ≡ Ok kept
some_number [] kept some = absurd (omega arith)
some_number (number ∷ numbers) kept some = refl

some_left : (plays : List Played) (t : PositionValue) (layouts : List (ℕ × Weighed)) → 1 ≤ length (lefts_kept plays t layouts) → kept_over plays t layouts ≡ Ok (kept_value plays t layouts)
unfolding kept_value
some_left plays t layouts some =
    some_number (numbers_kept plays t layouts) (kept_value plays t layouts) (omega (arith, map_some (λ l. hand_after l.1.layout.left plays) (λ l. l.0) (allowed plays t layouts)))

-- ---- the first layout

first_kept : (b : BoardValue) (layouts : List Weighed) (first : Weighed) → slice_get layouts 0 ≡ Some first
    → kept_of b layouts ≡ kept_over b.plays (first_position b (together first.layout.left first.layout.right)) (enumerate_from 1 layouts)
first_kept b [] first is = cc
first_kept b (weighed ∷ rest) first is =
    let same : weighed ≡ first = cc in
    ap (λ d. kept_over b.plays (first_position b (together d.layout.left d.layout.right)) (enumerate_from 1 (weighed ∷ rest))) same

pub first_over : (b : BoardValue) (layouts : List Weighed) (first : Weighed) → slice_get layouts 0 ≡ Some first → IsOneDeal b layouts → All (λ weighed. FitsOver b (together first.layout.left first.layout.right) weighed.layout) layouts
first_over b [] first is over = cc
first_over b (weighed ∷ rest) first is over =
    let same : weighed ≡ first = cc in
    subst (λ (d : Weighed). All (λ w. FitsOver b (together d.layout.left d.layout.right) w.layout) (weighed ∷ rest)) same over

-- where the play allows no layout, that is the fault
pub kept_none : (b : BoardValue) (layouts : List Weighed) (first : Weighed) (start : PositionValue) (plays : List Played) (lefts : List (List ℕ)) (position : Option PositionValue)
    → slice_get layouts 0 ≡ Some first → start ≡ first_position b (together first.layout.left first.layout.right) → plays ≡ b.plays → lefts ≡ lefts_kept plays start (enumerate_from 1 layouts)
    → MatchOption position (lefts ≡ []) (IsAfter plays start lefts) → position ≡ None → kept_of b layouts ≡ Err NoneLeft
kept_none b layouts first start plays lefts position is start_is plays_are lefts_are after none =
    let empty : lefts ≡ [] = subst (λ (o : Option PositionValue). MatchOption o (lefts ≡ []) (IsAfter plays start lefts)) none after in
    first_kept b layouts first is ∙ sym (ap₂ (λ ps t. kept_over ps t (enumerate_from 1 layouts)) plays_are start_is) ∙ none_left plays start (enumerate_from 1 layouts) (sym lefts_are ∙ empty)

-- where it allows some, what is kept
pub kept_some : (b : BoardValue) (layouts : List Weighed) (first : Weighed) (start : PositionValue) (plays : List Played) (numbers weights : List ℕ) (lefts : List (List ℕ)) (ruled_out : List Dropped) (position : PositionValue) (node : NodeValue)
    → slice_get layouts 0 ≡ Some first → start ≡ first_position b (together first.layout.left first.layout.right) → plays ≡ b.plays
    → numbers ≡ numbers_kept plays start (enumerate_from 1 layouts) → weights ≡ weights_kept plays start (enumerate_from 1 layouts) → lefts ≡ lefts_kept plays start (enumerate_from 1 layouts) → ruled_out ≡ dropped plays start (enumerate_from 1 layouts)
    → IsAfter plays start lefts position → node ≡ record { position = position; lefts = lefts } → kept_of b layouts ≡ Ok (record { numbers = numbers; dropped = ruled_out; node = node; weights = weights })
unfolding kept_value
kept_some b layouts first start plays numbers weights lefts ruled_out position node is start_is plays_are numbers_are weights_are lefts_are ruled_out_are after node_is =
    let all = enumerate_from 1 layouts in
    let some : 1 ≤ length (lefts_kept plays start all) = omega (arith, after.node.some, ap length lefts_are) in
    let node_same : node ≡ record { position = position_after start plays; lefts = lefts_kept plays start all } = node_is ∙ ap₂ (λ t l. record { position = t; lefts = l }) after.same lefts_are in
    first_kept b layouts first is ∙ sym (ap₂ (λ ps t. kept_over ps t all) plays_are start_is) ∙ some_left plays start all some
    ∙ sym (ap (λ n. Ok (record { numbers = n; dropped = ruled_out; node = node; weights = weights })) numbers_are
    ∙ ap (λ d. Ok (record { numbers = numbers_kept plays start all; dropped = d; node = node; weights = weights })) ruled_out_are
    ∙ ap (λ n. Ok (record { numbers = numbers_kept plays start all; dropped = dropped plays start all; node = n; weights = weights })) node_same
    ∙ ap (λ w. Ok (record { numbers = numbers_kept plays start all; dropped = dropped plays start all; node = record { position = position_after start plays; lefts = lefts_kept plays start all }; weights = w })) weights_are)

-- as many numbers are kept as hands
pub as_many : (plays : List Played) (t : PositionValue) (layouts : List Weighed) (numbers : List ℕ) (lefts : List (List ℕ))
    → numbers ≡ numbers_kept plays t (enumerate_from 1 layouts) → lefts ≡ lefts_kept plays t (enumerate_from 1 layouts) → length numbers ≡ length lefts
as_many plays t layouts numbers lefts numbers_are lefts_are =
    ap length numbers_are ∙ sym (map_some (λ l. hand_after l.1.layout.left plays) (λ l. l.0) (allowed plays t (enumerate_from 1 layouts))) ∙ sym (ap length lefts_are)
