-- The cards of a seat by one layout more.
use Rattle.std.proofs.Common.{◌≡◌, ℕ, ◌+◌, ◌<◌, ◌||◌, ◌&&◌, List, length, filter, get_or, take, sym, ap, ◌∙◌}
use Rattle.std.specs.List.{list_any, list_all}
use Rattle.std.proofs.lemmas.List.Folds.{list_any_more, list_all_more}
use Rattle.card_sets.specs.declared.seat.Seat.{Seat}
use Rattle.card_sets.specs.SetWords.{has_card, cards_where}
use Rattle.card_sets.proofs.Sets.{has_card-cards_where, cards_where-agree, filter-cards_where}
use Rattle.trick_rules.specs.Positions.{PositionValue}
use Rattle.trick_rules.specs.Play.{hand_of}
use Rattle.page_text.specs.Tables.{is_held}

module _ (t : PositionValue) (seat : Seat) (lefts : List (List ℕ)) (i : ℕ) (left hand cards next : List ℕ) (inside : i < length lefts) (here : left ≡ get_or lefts i left)
    (is : hand ≡ hand_of (record { position = t; left = left }) seat) where
  pub may_more : cards ≡ cards_where (λ card. list_any (is_held t seat card) (take i lefts)) → next ≡ cards_where (λ c. has_card cards c || has_card hand c)
      → next ≡ cards_where (λ card. list_any (is_held t seat card) (take (i + 1) lefts))
  may_more so_far grew =
      grew ∙ ap (λ (h : List ℕ). cards_where (λ c. has_card cards c || has_card h c)) is
      ∙ ap (λ (cs : List ℕ). cards_where (λ c. has_card cs c || is_held t seat c left)) so_far
      ∙ cards_where-agree (λ c. has_card (cards_where (λ card. list_any (is_held t seat card) (take i lefts))) c || is_held t seat c left)
      (λ card. list_any (is_held t seat card) (take (i + 1) lefts))
      (λ c low.
      ap (λ b. b || is_held t seat c left) (has_card-cards_where (λ card. list_any (is_held t seat card) (take i lefts)) c low)
      ∙ ap (λ l. list_any (is_held t seat c) (take i lefts) || is_held t seat c l) here
      ∙ sym (list_any_more (is_held t seat c) lefts i left inside))

  pub must_more : cards ≡ cards_where (λ card. list_all (is_held t seat card) (take i lefts)) → next ≡ filter (has_card hand) cards
      → next ≡ cards_where (λ card. list_all (is_held t seat card) (take (i + 1) lefts))
  must_more so_far grew =
      grew ∙ ap (λ (h : List ℕ). filter (has_card h) cards) is
      ∙ ap (filter (λ c. is_held t seat c left)) so_far
      ∙ filter-cards_where (λ c. is_held t seat c left) (λ card. list_all (is_held t seat card) (take i lefts))
      ∙ cards_where-agree (λ c. list_all (is_held t seat c) (take i lefts) && is_held t seat c left)
      (λ card. list_all (is_held t seat card) (take (i + 1) lefts))
      (λ c low.
      ap (λ l. list_all (is_held t seat c) (take i lefts) && is_held t seat c l) here
      ∙ sym (list_all_more (is_held t seat c) lefts i left inside))
