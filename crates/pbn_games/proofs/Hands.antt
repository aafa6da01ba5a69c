-- The cards that a seat has played, one play after another.
use Rattle.std.proofs.Common.{◌≡◌, ◌==◌, ◌<◌, ◌+◌, ◌&&◌, ◌||◌, ℕ, Bool, true, false, List, [], ◌∷◌, ◌++◌, length, take, get_or, slice_get, Some, append_assoc, refl, sym, ap, ◌∙◌}
use Rattle.std.specs.List.{list_any}
use Rattle.std.proofs.Math.Bool.{or-false}
use Rattle.std.proofs.lemmas.List.{take_more}
use Rattle.std.proofs.lemmas.Option.{get_or_from_slice_get, slice_get_within}
use Rattle.std.proofs.lemmas.List.Folds.{list_any-append}
use Rattle.card_sets.specs.declared.seat.Seat.{Seat}
use Rattle.card_sets.specs.declared.seat.Seat.TheVariants.{Declarer, Left, Dummy, Right}
use Rattle.card_sets.specs.SetWords.{has_card, cards_where}
use Rattle.card_sets.proofs.Sets.{has_card-cards_where, cards_where-agree}
use Rattle.trick_rules.specs.Positions.{seat_place}
use Rattle.pbn_deal.specs.declared.board.Played.{Played}
use Rattle.pbn_games.specs.GameText.{played_by}

abbrev is_its : Seat → ℕ → Played → Bool
is_its seat card play = (seat_place play.seat == seat_place seat) && (card == play.card)

other_place : (a b : Seat) → (a ≡ b → ⊥) → (seat_place a == seat_place b) ≡ false
other_place Declarer Declarer differ = absurd (differ refl)
other_place Left Left differ = absurd (differ refl)
other_place Dummy Dummy differ = absurd (differ refl)
other_place Right Right differ = absurd (differ refl)
other_place _ _ differ = refl

same_place : (a b : Seat) → a ≡ b → (seat_place a == seat_place b) ≡ true
same_place Declarer b same = ap (λ (s : Seat). 0 == seat_place s) (sym same)
same_place Left b same = ap (λ (s : Seat). 1 == seat_place s) (sym same)
same_place Dummy b same = ap (λ (s : Seat). 2 == seat_place s) (sym same)
same_place Right b same = ap (λ (s : Seat). 3 == seat_place s) (sym same)

module _ (plays : List Played) (seat : Seat) (i : ℕ) (play : Played) (low : i < length plays) (is : play ≡ get_or plays i play) where
  one_more : (card : ℕ) → list_any (is_its seat card) (take (i + 1) plays) ≡ (list_any (is_its seat card) (take i plays) || is_its seat card play)
  one_more card =
      ap (list_any (is_its seat card)) (take_more plays i play low ∙ ap (λ x. take i plays ++ x ∷ []) (sym is))
      ∙ list_any-append (is_its seat card) (take i plays) (play ∷ [])
      ∙ ap (λ b. list_any (is_its seat card) (take i plays) || b) (or-false (is_its seat card play))

  pub its_card : (cards : List ℕ) → play.seat ≡ seat → cards ≡ played_by (take i plays) seat
      → cards_where (λ c. has_card cards c || (c == play.card)) ≡ played_by (take (i + 1) plays) seat
  its_card cards same so_far = cards_where-agree (λ c. has_card cards c || (c == play.card)) (λ c. list_any (is_its seat c) (take (i + 1) plays)) (λ c below.
      ap (λ b. b || (c == play.card)) (ap (λ cs. has_card cs c) so_far ∙ has_card-cards_where (λ d. list_any (is_its seat d) (take i plays)) c below)
      ∙ ap (λ b. list_any (is_its seat c) (take i plays) || (b && (c == play.card))) (sym (same_place play.seat seat same))
      ∙ sym (one_more c))

  pub another_s_card : (cards : List ℕ) → (play.seat ≡ seat → ⊥) → cards ≡ played_by (take i plays) seat → cards ≡ played_by (take (i + 1) plays) seat
  another_s_card cards differ so_far =
      so_far ∙ cards_where-agree (λ c. list_any (is_its seat c) (take i plays)) (λ c. list_any (is_its seat c) (take (i + 1) plays)) (λ c below.
      sym (or-false (list_any (is_its seat c) (take i plays)))
      ∙ ap (λ b. list_any (is_its seat c) (take i plays) || (b && (c == play.card))) (sym (other_place play.seat seat differ))
      ∙ sym (one_more c))

-- ---- cards one after another

-- the cards of a line up to a place, and the next
pub more_of_line : (before line : List ℕ) (i card : ℕ) (all now : List ℕ) → slice_get line i ≡ Some card → all ≡ before ++ take i line → now ≡ all ++ card ∷ []
    → now ≡ before ++ take (i + 1) line
more_of_line before line i card all now there so_far pushed =
    pushed ∙ ap (λ cs. cs ++ card ∷ []) so_far ∙ append_assoc before (take i line) (card ∷ [])
    ∙ ap (λ cs. before ++ cs) (ap (λ c. take i line ++ c ∷ []) (sym (get_or_from_slice_get line i card card there))
    ∙ sym (take_more line i card (slice_get_within line i card there)))
