-- What is written in the Deal form is read back.
use Rattle.std.proofs.Common.{◌≡◌, ℕ, zero, suc, ◌<◌, ◌≤◌, Bool, true, false, not, ◌||◌, ◌&&◌, cond, nat_le, nat_lt, get_or, List, [], ◌∷◌, ◌++◌, length, map, filter, flat_map, Option, Some, None, Ok, refl, sym, ap, ap₂, ◌∙◌, arith, inl, inr}
use Rattle.std.specs.Prelude.{◌==◌, filter_map, is_some}
use Rattle.std.specs.Option.{option_map_or}
use Rattle.std.specs.List.{list_all, list_any, cons_option, slice_split, onto_first, join_with_byte}
use Rattle.std.proofs.lemmas.Bool.{cases_lt, both_ways, and_parts, and_from, or_parts, or_from, eqb-true, eq-eqb, le-leb, lt-ltb, false_from_ne_true, not-true, ne_eqb}
use Rattle.std.proofs.lemmas.List.{length-append, get_or_past}
use Rattle.std.proofs.lemmas.List.Elements.{filter-append}
use Rattle.std.proofs.lemmas.List.Folds.{list_all-append, list_all-map, list_any-append}
use Rattle.std.proofs.lemmas.List.Splits.{slice_split-cons_yes, slice_split-cons_no}
use Rattle.std.proofs.lemmas.Bool.{agree_below_at}
use Rattle.card_sets.specs.declared.card.Suit.{Suit}
use Rattle.card_sets.specs.declared.card.Suit.TheVariants.{Spades, Hearts, Diamonds, Clubs}
use Rattle.card_sets.specs.declared.seat.Compass.{Compass}
use Rattle.card_sets.specs.declared.seat.Compass.TheVariants.{N, E, S, W}
use Rattle.card_sets.specs.Cards.{card_of}
use Rattle.card_sets.specs.SetWords.{has_card, cards_where, IsCardSet, Apart}
use Rattle.card_sets.proofs.Sets.{has_card-filter, cards_where-agree}
use Rattle.card_letters.specs.Letters.{rank_letter, rank_read}
use Rattle.byte_text.specs.Blanks.{is_blank, after_blanks, words}
use Rattle.pbn_deal.specs.declared.deal.DealValue.{DealValue}
use Rattle.pbn_deal.specs.Hands.{is_hidden, is_full_stop, suits_of, suit_order, has_four_suits, has_rank_letters, suit_cards, cards_in, hand_cards, hand_read}
use Rattle.pbn_deal.specs.Deal.{has_repeat, are_one_size, shown_sizes, compass_place, hands_read, deal_read, hand_at, IsSoundDeal}
use Rattle.pbn_deal.specs.Writing.{ranks_down, suit_text, hand_text, shown_text, hands_text, deal_text}
use Rattle.pbn_deal.proofs.Cards.{meets, has_repeat-append}
use Rattle.pbn_deal.proofs.Written.{hand_text-joined, hands_text-joined}

-- ---- pieces with a separator between them are split again

abbrev lacks : (ℕ → Bool) → List ℕ → Bool
lacks p xs = list_all (λ b. not (p b)) xs

split_one : (p : ℕ → Bool) (xs : List ℕ) → lacks p xs ≡ true → slice_split p xs ≡ xs ∷ []
split_one p [] none = refl
split_one p (x ∷ xs) none =
    let parts = and_parts (not (p x)) (lacks p xs) none in
    slice_split-cons_no p x xs (not-true (p x) parts.0) ∙ ap (onto_first x) (split_one p xs parts.1)

split_first : (p : ℕ → Bool) (xs : List ℕ) (y : ℕ) (ys : List ℕ) → lacks p xs ≡ true → p y ≡ true → slice_split p (xs ++ y ∷ ys) ≡ xs ∷ slice_split p ys
split_first p [] y ys none sep = slice_split-cons_yes p y ys sep
split_first p (x ∷ xs) y ys none sep =
    let parts = and_parts (not (p x)) (lacks p xs) none in
    slice_split-cons_no p x (xs ++ y ∷ ys) (not-true (p x) parts.0) ∙ ap (onto_first x) (split_first p xs y ys parts.1 sep)

split_four : (p : ℕ → Bool) (separator : ℕ) (a b c d : List ℕ) → p separator ≡ true → lacks p a ≡ true → lacks p b ≡ true → lacks p c ≡ true → lacks p d ≡ true
    → slice_split p (join_with_byte separator (a ∷ b ∷ c ∷ d ∷ [])) ≡ a ∷ b ∷ c ∷ d ∷ []
split_four p separator a b c d sep in_a in_b in_c in_d =
    split_first p a separator (b ++ (separator ∷ (c ++ (separator ∷ d)))) in_a sep
    ∙ ap (λ parts. a ∷ parts) (split_first p b separator (c ++ (separator ∷ d)) in_b sep ∙ ap (λ parts. b ∷ parts) (split_first p c separator d in_c sep ∙ ap (λ parts. c ∷ parts) (split_one p d in_d)))

-- ---- the letters of a suit

all_filter : (q t : ℕ → Bool) (xs : List ℕ) → list_all q xs ≡ true → list_all q (filter t xs) ≡ true
all_filter q t [] each = refl
all_filter q t (x ∷ xs) each =
    let parts = and_parts (q x) (list_all q xs) each in
    kept (t x) parts.0 (all_filter q t xs parts.1) where
      kept : (b : Bool) → q x ≡ true → list_all q (filter t xs) ≡ true → list_all q (cond b (x ∷ filter t xs) (filter t xs)) ≡ true
      kept true one rest = and_from (q x) (list_all q (filter t xs)) one rest
      kept false one rest = rest

-- each letter of a suit passes a test that the letters of all ranks pass
pub suit_text-passes : (q : ℕ → Bool) (cards : List ℕ) (suit : Suit) → list_all (λ rank. q (rank_letter rank)) ranks_down ≡ true → list_all q (suit_text cards suit) ≡ true
unfolding suit_text
suit_text-passes q cards suit each =
    list_all-map q rank_letter (filter (λ rank. has_card cards (card_of suit rank)) ranks_down) ∙ all_filter (λ rank. q (rank_letter rank)) (λ rank. has_card cards (card_of suit rank)) ranks_down each

-- so does each byte of a hand, where the full stop passes
hand_text-passes : (q : ℕ → Bool) (cards : List ℕ) → list_all (λ rank. q (rank_letter rank)) ranks_down ≡ true → q 46 ≡ true → list_all q (hand_text cards) ≡ true
hand_text-passes q cards each stop =
    let a = suit_text cards Spades in
    let b = suit_text cards Hearts in
    let c = suit_text cards Diamonds in
    let d = suit_text cards Clubs in
    let in_d : list_all q (46 ∷ d) ≡ true = and_from (q 46) (list_all q d) stop (suit_text-passes q cards Clubs each) in
    let in_c : list_all q (46 ∷ (c ++ (46 ∷ d))) ≡ true = and_from (q 46) (list_all q (c ++ (46 ∷ d))) stop (list_all-append q c (46 ∷ d) ∙ and_from (list_all q c) (list_all q (46 ∷ d)) (suit_text-passes q cards Diamonds each) in_d) in
    let in_b : list_all q (46 ∷ (b ++ (46 ∷ (c ++ (46 ∷ d))))) ≡ true = and_from (q 46) (list_all q (b ++ (46 ∷ (c ++ (46 ∷ d))))) stop (list_all-append q b (46 ∷ (c ++ (46 ∷ d))) ∙ and_from (list_all q b) (list_all q (46 ∷ (c ++ (46 ∷ d)))) (suit_text-passes q cards Hearts each) in_c) in
    ap (list_all q) (hand_text-joined cards) ∙ list_all-append q a (46 ∷ (b ++ (46 ∷ (c ++ (46 ∷ d))))) ∙ and_from (list_all q a) (list_all q (46 ∷ (b ++ (46 ∷ (c ++ (46 ∷ d)))))) (suit_text-passes q cards Spades each) in_b

length-hand_text : (cards : List ℕ) → 3 ≤ length (hand_text cards)
length-hand_text cards =
    let a = suit_text cards Spades in
    let b = suit_text cards Hearts in
    let c = suit_text cards Diamonds in
    let d = suit_text cards Clubs in
    omega (arith, ap length (hand_text-joined cards), length-append a (46 ∷ (b ++ (46 ∷ (c ++ (46 ∷ d))))), length-append b (46 ∷ (c ++ (46 ∷ d))), length-append c (46 ∷ d))

is_hidden-long : (xs : List ℕ) → 1 < length xs → is_hidden xs ≡ false
is_hidden-long [] long = absurd (omega arith)
is_hidden-long (x ∷ []) long = absurd (omega arith)
is_hidden-long (x ∷ y ∷ xs) long = refl

hand_text-shown : (cards : List ℕ) → is_hidden (hand_text cards) ≡ false
hand_text-shown cards = is_hidden-long (hand_text cards) (omega (arith, length-hand_text cards))

suits_of-hand_text : (cards : List ℕ) → suits_of (hand_text cards) ≡ suit_text cards Spades ∷ suit_text cards Hearts ∷ suit_text cards Diamonds ∷ suit_text cards Clubs ∷ []
suits_of-hand_text cards =
    let none : (suit : Suit) → lacks is_full_stop (suit_text cards suit) ≡ true = λ suit. suit_text-passes (λ b. not (is_full_stop b)) cards suit refl in
    ap suits_of (hand_text-joined cards) ∙ split_four is_full_stop 46 (suit_text cards Spades) (suit_text cards Hearts) (suit_text cards Diamonds) (suit_text cards Clubs) refl (none Spades) (none Hearts) (none Diamonds) (none Clubs)

-- ---- the cards of a hand that was written

-- whether the letter of a rank is read as that rank
abbrev reads_back : ℕ → Bool
reads_back rank = option_map_or (λ read. read == rank) (rank_read (rank_letter rank)) false

same_rank : (found : Option ℕ) (rank : ℕ) → option_map_or (λ read. read == rank) found false ≡ true → found ≡ Some rank
same_rank None rank is = absurd cc
same_rank (Some read) rank is = ap (λ (r : ℕ). Some r) (eqb-true read rank is)

ranks_back : (ranks : List ℕ) → list_all reads_back ranks ≡ true → filter_map rank_read (map rank_letter ranks) ≡ ranks
ranks_back [] each = refl
ranks_back (rank ∷ ranks) each =
    let parts = and_parts (reads_back rank) (list_all reads_back ranks) each in
    ap₂ cons_option (same_rank (rank_read (rank_letter rank)) rank parts.0) (ranks_back ranks parts.1)

filter-map : (p : ℕ → Bool) (f : ℕ → ℕ) (xs : List ℕ) → map f (filter (λ x. p (f x)) xs) ≡ filter p (map f xs)
filter-map p f [] = refl
filter-map p f (x ∷ xs) = kept (p (f x)) (filter-map p f xs) where
  kept : (b : Bool) → map f (filter (λ y. p (f y)) xs) ≡ filter p (map f xs) → map f (cond b (x ∷ filter (λ y. p (f y)) xs) (filter (λ y. p (f y)) xs)) ≡ cond b (f x ∷ filter p (map f xs)) (filter p (map f xs))
  kept true rest = ap (λ ys. f x ∷ ys) rest
  kept false rest = rest

suit_cards-suit_text : (cards : List ℕ) (suit : Suit) → suit_cards suit (suit_text cards suit) ≡ filter (has_card cards) (map (card_of suit) ranks_down)
unfolding suit_text
suit_cards-suit_text cards suit =
    let kept = filter (λ rank. has_card cards (card_of suit rank)) ranks_down in
    ap (map (card_of suit)) (ranks_back kept (all_filter reads_back (λ rank. has_card cards (card_of suit rank)) ranks_down refl)) ∙ filter-map (has_card cards) (card_of suit) ranks_down

-- all cards, suit by suit, from the ace down
abbrev pack_down : List ℕ
pack_down = flat_map (λ suit. map (card_of suit) ranks_down) suit_order

hand_cards-hand_text : (cards : List ℕ) → hand_cards (hand_text cards) ≡ filter (has_card cards) pack_down
unfolding hand_cards
hand_cards-hand_text cards =
    let p = has_card cards in
    let s = map (card_of Spades) ranks_down in
    let h = map (card_of Hearts) ranks_down in
    let d = map (card_of Diamonds) ranks_down in
    let c = map (card_of Clubs) ranks_down in
    let shown : hand_cards (hand_text cards) ≡ cards_in suit_order (suits_of (hand_text cards)) = rw (hand_text-shown cards) refl in
    let split : filter p (s ++ (h ++ (d ++ (c ++ [])))) ≡ filter p s ++ (filter p h ++ (filter p d ++ (filter p c ++ []))) =
    filter-append p s (h ++ (d ++ (c ++ []))) ∙ ap (λ xs. filter p s ++ xs) (filter-append p h (d ++ (c ++ [])) ∙ ap (λ xs. filter p h ++ xs) (filter-append p d (c ++ []) ∙ ap (λ xs. filter p d ++ xs) (filter-append p c []))) in
    shown ∙ ap (cards_in suit_order) (suits_of-hand_text cards)
    ∙ ap₂ ◌++◌ (suit_cards-suit_text cards Spades) (ap₂ ◌++◌ (suit_cards-suit_text cards Hearts) (ap₂ ◌++◌ (suit_cards-suit_text cards Diamonds) (ap₂ ◌++◌ (suit_cards-suit_text cards Clubs) refl)))
    ∙ sym split

in_pack : (card : ℕ) → card < 52 → has_card pack_down card ≡ true
in_pack card below = agree_below_at (has_card pack_down) (λ _. true) 52 card refl below

hand_read-shown_text : (hand : Option (List ℕ)) → ((cards : List ℕ) → hand ≡ Some cards → IsCardSet cards) → hand_read (shown_text hand) ≡ hand
unfolding hand_read
hand_read-shown_text None a_set = refl
hand_read-shown_text (Some cards) a_set =
    let shown : hand_read (hand_text cards) ≡ Some (cards_where (has_card (hand_cards (hand_text cards)))) = rw (hand_text-shown cards) refl in
    let same : (card : ℕ) → card < 52 → has_card (hand_cards (hand_text cards)) card ≡ has_card cards card =
    λ card below. ap (λ xs. has_card xs card) (hand_cards-hand_text cards) ∙ has_card-filter (has_card cards) pack_down card ∙ ap (λ b. b && has_card cards card) (in_pack card below) in
    shown ∙ ap (λ (xs : List ℕ). Some xs) (cards_where-agree (has_card (hand_cards (hand_text cards))) (has_card cards) same ∙ sym (a_set cards refl))

-- ---- no card comes twice in what was written

repeat_filter : (p : ℕ → Bool) (xs : List ℕ) → has_repeat xs ≡ false → has_repeat (filter p xs) ≡ false
repeat_filter p [] once = refl
repeat_filter p (x ∷ xs) once =
    let parts = or_parts (has_card xs x) (has_repeat xs) once in
    let alone : has_card (filter p xs) x ≡ false = has_card-filter p xs x ∙ ap (λ b. b && p x) parts.0 in
    kept (p x) alone (repeat_filter p xs parts.1) where
      kept : (b : Bool) → has_card (filter p xs) x ≡ false → has_repeat (filter p xs) ≡ false → has_repeat (cond b (x ∷ filter p xs) (filter p xs)) ≡ false
      kept true alone rest = or_from (has_card (filter p xs) x) (has_repeat (filter p xs)) alone rest
      kept false alone rest = rest

list_any_false : (p : ℕ → Bool) (xs : List ℕ) → ((x : ℕ) → has_card xs x ≡ true → p x ≡ false) → list_any p xs ≡ false
list_any_false p [] fails = refl
list_any_false p (x ∷ xs) fails =
    or_from (p x) (list_any p xs) (fails x (ap (λ b. b || has_card xs x) (eq-eqb x x refl))) (list_any_false p xs (λ y has. fails y (ap (λ b. (x == y) || b) has ∙ or_true (x == y)))) where
      or_true : (b : Bool) → (b || true) ≡ true
      or_true true = refl
      or_true false = refl

-- the cards of a hand as they are written
abbrev written : Option (List ℕ) → List ℕ
written hand = hand_cards (shown_text hand)

written_none : written None ≡ []
unfolding hand_cards
written_none = refl

written-once : (hand : Option (List ℕ)) → has_repeat (written hand) ≡ false
written-once None = ap has_repeat written_none
written-once (Some cards) = ap has_repeat (hand_cards-hand_text cards) ∙ repeat_filter (has_card cards) pack_down refl

-- a card of a hand that is written is a card of the hand
written-has : (cards : List ℕ) (card : ℕ) → has_card (written (Some cards)) card ≡ (has_card pack_down card && has_card cards card)
written-has cards card = ap (λ xs. has_card xs card) (hand_cards-hand_text cards) ∙ has_card-filter (has_card cards) pack_down card

abbrev Hands : Type 0
Hands = List (Option (List ℕ))

-- no card is in two of the hands, by their places
abbrev AreApart : Hands → Type 0
AreApart hands = (i j : ℕ) (cards others : List ℕ) → i < j → get_or hands i None ≡ Some cards → get_or hands j None ≡ Some others → Apart cards others

written_apart : (first second : Option (List ℕ)) → ((cards others : List ℕ) → first ≡ Some cards → second ≡ Some others → Apart cards others) → meets (written first) (written second) ≡ false
written_apart None second apart = list_any_false (has_card (written None)) (written second) (λ card has. ap (λ xs. has_card xs card) written_none)
written_apart (Some cards) None apart = list_any_false (has_card (written (Some cards))) (written None) (λ card has. absurd (both_ways (has_card (written None) card) (ap (λ xs. has_card xs card) written_none) has))
written_apart (Some cards) (Some others) apart =
    list_any_false (has_card (written (Some cards))) (written (Some others)) (λ card has.
    let there = (and_parts (has_card pack_down card) (has_card others card) (sym (written-has others card) ∙ has)).1 in
    let here : has_card cards card ≡ false = false_from_ne_true (has_card cards card) (λ both. both_ways (has_card others card) (apart cards others refl refl card both) there) in
    written-has cards card ∙ ap (λ b. has_card pack_down card && b) here ∙ and_false (has_card pack_down card)) where
      and_false : (b : Bool) → (b && false) ≡ false
      and_false true = refl
      and_false false = refl

meets_all : (hand : Option (List ℕ)) (hands : Hands) → ((j : ℕ) (cards others : List ℕ) → hand ≡ Some cards → get_or hands j None ≡ Some others → Apart cards others) → meets (written hand) (flat_map written hands) ≡ false
meets_all hand [] apart = refl
meets_all hand (second ∷ hands) apart =
    list_any-append (has_card (written hand)) (written second) (flat_map written hands)
    ∙ or_from (meets (written hand) (written second)) (meets (written hand) (flat_map written hands)) (written_apart hand second (λ cards others. apart 0 cards others)) (meets_all hand hands (λ j. apart (suc j)))

all_once : (hands : Hands) → AreApart hands → has_repeat (flat_map written hands) ≡ false
all_once [] apart = refl
all_once (hand ∷ hands) apart =
    has_repeat-append (written hand) (flat_map written hands)
    ∙ or_from (has_repeat (written hand) || has_repeat (flat_map written hands)) (meets (written hand) (flat_map written hands))
    (or_from (has_repeat (written hand)) (has_repeat (flat_map written hands)) (written-once hand) (all_once hands (λ i j cards others before. apart (suc i) (suc j) cards others (omega arith))))
    (meets_all hand hands (λ j cards others is there. apart 0 (suc j) cards others (omega arith) is there))

flat_map-map : (hands : Hands) → flat_map hand_cards (map shown_text hands) ≡ flat_map written hands
flat_map-map [] = refl
flat_map-map (hand ∷ hands) = ap (λ xs. written hand ++ xs) (flat_map-map hands)

-- ---- sizes

size_kept : (n : ℕ) (hands : Hands) → ((i : ℕ) (cards : List ℕ) → get_or hands i None ≡ Some cards → length cards ≡ n) → list_all (λ m. m == n) (shown_sizes hands) ≡ true
size_kept n [] each = refl
size_kept n (None ∷ hands) each = size_kept n hands (λ i. each (suc i))
size_kept n (Some cards ∷ hands) each = and_from (length cards == n) (list_all (λ m. m == n) (shown_sizes hands)) (eq-eqb (length cards) n (each 0 cards refl)) (size_kept n hands (λ i. each (suc i)))

-- hands by their places: their sizes are one size of 1 to 13
record HaveOneSize (hands : Hands) : Type 0 where
  pub some : (i : ℕ) (cards : List ℕ) → get_or hands i None ≡ Some cards → 1 ≤ length cards
  pub few : (i : ℕ) (cards : List ℕ) → get_or hands i None ≡ Some cards → length cards ≤ 13
  pub same : (i j : ℕ) (cards others : List ℕ) → get_or hands i None ≡ Some cards → get_or hands j None ≡ Some others → length cards ≡ length others

one_size_from : (hands : Hands) → HaveOneSize hands → list_any is_some hands ≡ true → are_one_size (shown_sizes hands) ≡ true
one_size_from [] sizes shown = absurd cc
one_size_from (None ∷ hands) sizes shown =
    one_size_from hands (record { some = λ i. sizes.some (suc i); few = λ i. sizes.few (suc i); same = λ i j. sizes.same (suc i) (suc j) }) shown
one_size_from (Some cards ∷ hands) sizes shown =
    and_from (nat_le 1 (length cards) && nat_le (length cards) 13) (list_all (λ m. m == length cards) (shown_sizes hands))
    (and_from (nat_le 1 (length cards)) (nat_le (length cards) 13) (le-leb 1 (length cards) (sizes.some 0 cards refl)) (le-leb (length cards) 13 (sizes.few 0 cards refl)))
    (size_kept (length cards) hands (λ i others there. sizes.same (suc i) 0 others cards there refl))

-- ---- seats and places

seat_at : ℕ → Compass
seat_at zero = N
seat_at (suc zero) = E
seat_at (suc (suc zero)) = S
seat_at (suc (suc (suc i))) = W

place_seat : (i : ℕ) → i < 4 → compass_place (seat_at i) ≡ i
unfolding seat_at
place_seat zero below = refl
place_seat (suc zero) below = refl
place_seat (suc (suc zero)) below = refl
place_seat (suc (suc (suc zero))) below = refl
place_seat (suc (suc (suc (suc i)))) below = absurd (omega arith)

place_inside : (hands : Hands) (i : ℕ) (cards : List ℕ) → get_or hands i None ≡ Some cards → i < length hands
place_inside hands i cards at =
    elim (cases_lt i (length hands)) [
      | inl inside ↦ inside
      | inr past ↦ let none = get_or_past hands i None past in absurd cc
    ]

at_place : (deal : DealValue) (i : ℕ) (cards : List ℕ) → length deal.hands ≡ 4 → get_or deal.hands i None ≡ Some cards → hand_at deal (seat_at i) ≡ Some cards
at_place deal i cards four at = ap (λ k. get_or deal.hands k None) (place_seat i (omega (arith, place_inside deal.hands i cards at, four))) ∙ at

-- ---- the whole deal

all_back : (hands : Hands) → ((i : ℕ) (cards : List ℕ) → get_or hands i None ≡ Some cards → IsCardSet cards) → map hand_read (map shown_text hands) ≡ hands
all_back [] a_set = refl
all_back (hand ∷ hands) a_set = ap₂ (λ h hs. h ∷ hs) (hand_read-shown_text hand (λ cards is. a_set 0 cards is)) (all_back hands (λ i. a_set (suc i)))

abbrev not_blank : ℕ → Bool
not_blank byte = not (is_blank byte)

shown_text-lacks : (hand : Option (List ℕ)) → lacks is_blank (shown_text hand) ≡ true
shown_text-lacks None = refl
shown_text-lacks (Some cards) = hand_text-passes not_blank cards refl refl

shown_text-some : (hand : Option (List ℕ)) → nat_lt 0 (length (shown_text hand)) ≡ true
shown_text-some None = refl
shown_text-some (Some cards) = lt-ltb 0 (length (hand_text cards)) (omega (arith, length-hand_text cards))

words-hands_text : (a b c d : Option (List ℕ)) → words (hands_text (a ∷ b ∷ c ∷ d ∷ [])) ≡ map shown_text (a ∷ b ∷ c ∷ d ∷ [])
unfolding words
words-hands_text a b c d =
    ap words (hands_text-joined a b c d)
    ∙ ap (filter (λ piece. nat_lt 0 (length piece))) (split_four is_blank 32 (shown_text a) (shown_text b) (shown_text c) (shown_text d) refl (shown_text-lacks a) (shown_text-lacks b) (shown_text-lacks c) (shown_text-lacks d))
    ∙ rw (shown_text-some a, shown_text-some b, shown_text-some c, shown_text-some d) refl

has_four_suits-shown_text : (hand : Option (List ℕ)) → has_four_suits (shown_text hand) ≡ true
has_four_suits-shown_text None = refl
has_four_suits-shown_text (Some cards) =
    ap (λ parts. is_hidden (hand_text cards) || (length parts == 4)) (suits_of-hand_text cards) ∙ or_true (is_hidden (hand_text cards)) where
      or_true : (b : Bool) → (b || true) ≡ true
      or_true true = refl
      or_true false = refl

has_rank_letters-shown_text : (hand : Option (List ℕ)) → has_rank_letters (shown_text hand) ≡ true
has_rank_letters-shown_text None = refl
has_rank_letters-shown_text (Some cards) =
    ap (λ b. is_hidden (hand_text cards) || b) (hand_text-passes (λ byte. is_full_stop byte || is_some (rank_read byte)) cards refl refl) ∙ or_true (is_hidden (hand_text cards)) where
      or_true : (b : Bool) → (b || true) ≡ true
      or_true true = refl
      or_true false = refl

each_of_four : (q : List ℕ → Bool) (a b c d : Option (List ℕ)) → ((hand : Option (List ℕ)) → q (shown_text hand) ≡ true) → list_all q (map shown_text (a ∷ b ∷ c ∷ d ∷ [])) ≡ true
each_of_four q a b c d each = rw (each a, each b, each c, each d) refl

hands_back : (a b c d : Option (List ℕ)) → (deal : DealValue) → deal.hands ≡ a ∷ b ∷ c ∷ d ∷ [] → IsSoundDeal deal → hands_read N (map shown_text (a ∷ b ∷ c ∷ d ∷ [])) ≡ Ok (record { hands = a ∷ b ∷ c ∷ d ∷ [] })
unfolding hands_read
hands_back a b c d deal is sound =
    let hands : Hands = a ∷ b ∷ c ∷ d ∷ [] in
    let here : (i : ℕ) (cards : List ℕ) → get_or hands i None ≡ Some cards → hand_at deal (seat_at i) ≡ Some cards = λ i cards at. at_place deal i cards sound.four (ap (λ hs. get_or hs i None) is ∙ at) in
    let back : map hand_read (map shown_text hands) ≡ hands = all_back hands (λ i cards at. sound.set (seat_at i) cards (here i cards at)) in
    let sizes : are_one_size (shown_sizes hands) ≡ true = one_size_from hands (record {
      some = λ i cards at. sound.some (seat_at i) cards (here i cards at);
      few = λ i cards at. sound.few (seat_at i) cards (here i cards at);
      same = λ i j cards others at there. sound.one_size (seat_at i) (seat_at j) cards others (here i cards at) (here j others there);
    }) (ap (list_any is_some) (sym is) ∙ sound.shown) in
    let once : has_repeat (flat_map hand_cards (map shown_text hands)) ≡ false =
    ap has_repeat (flat_map-map hands) ∙ all_once hands (λ i j cards others before at there. sound.apart (seat_at i) (seat_at j) cards others
    (ap₂ (λ x y. x == y) (place_seat i (omega (arith, place_inside hands i cards at))) (place_seat j (omega (arith, place_inside hands j others there))) ∙ ne_eqb i j (λ same. omega arith)) (here i cards at) (here j others there)) in
    rw (each_of_four has_four_suits a b c d has_four_suits-shown_text, each_of_four has_rank_letters a b c d has_rank_letters-shown_text, once, ap (λ hs. are_one_size (shown_sizes hs)) back ∙ sizes, back) refl

four_back : (hands : Hands) (deal : DealValue) → deal.hands ≡ hands → IsSoundDeal deal → deal_read (deal_text hands) ≡ Ok (record { hands = hands })
unfolding deal_read after_blanks
four_back [] deal is sound = absurd (omega (arith, sound.four, ap length is))
four_back (a ∷ []) deal is sound = absurd (omega (arith, sound.four, ap length is))
four_back (a ∷ b ∷ []) deal is sound = absurd (omega (arith, sound.four, ap length is))
four_back (a ∷ b ∷ c ∷ []) deal is sound = absurd (omega (arith, sound.four, ap length is))
four_back (a ∷ b ∷ c ∷ d ∷ []) deal is sound = ap (hands_read N) (words-hands_text a b c d) ∙ hands_back a b c d deal is sound
four_back (a ∷ b ∷ c ∷ d ∷ e ∷ rest) deal is sound = absurd (omega (arith, sound.four, ap length is))

-- what is written of sound hands is read as these hands
pub deal_text-read : (deal : DealValue) → IsSoundDeal deal → deal_read (deal_text deal.hands) ≡ Ok deal
deal_text-read deal sound = four_back deal.hands deal refl sound
