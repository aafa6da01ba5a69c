-- A board that a sound deal gives is dealt well.
use Rattle.std.proofs.Common.{◌≡◌, ℕ, ◌+◌, ◌≤◌, Bool, true, false, not, cond, List, Option, None, Some, length, refl, ap, ap₂, ◌∙◌, arith}
use Rattle.std.specs.Prelude.{filter, IfSome, ◌&&◌, ◌||◌, ◌==◌}
use Rattle.std.proofs.lemmas.Bool.{eqb-true}
use Rattle.card_sets.specs.declared.seat.Seat.{Seat}
use Rattle.card_sets.specs.declared.seat.Seat.TheVariants.{Left, Dummy, Right}
use Rattle.card_sets.specs.declared.seat.Compass.{Compass}
use Rattle.card_sets.specs.declared.seat.Compass.TheVariants.{N, E, S, W}
use Rattle.card_sets.specs.SetWords.{has_card, cards_where, IsCardSet, IsSubset, Apart}
use Rattle.card_sets.proofs.Sets.{has_card-cards_where, filter-cards_where, IsCardSet-cards_where, has_card-below, Apart-sym}
use Rattle.bit_lists.specs.Bits.{below}
use Rattle.trick_rules.specs.declared.trump.Trump.{Trump}
use Rattle.card_sets.proofs.SetCounts.{length-minus, length-either}
use Rattle.pbn_deal.specs.declared.deal.DealValue.{DealValue}
use Rattle.pbn_deal.specs.Deal.{hand_at, compass_place, IsSoundDeal}
use Rattle.pbn_deal.specs.Boards.{BoardValue, compass_of, dealt_board, FitsUnseen, IsDealt}
use Rattle.pbn_deal.specs.BoardRead.{together, both_hands, unseen_in}

-- ---- sets

pack : List ℕ
pack = cards_where (λ _. true)

length-pack : length pack ≡ 52
unfolding pack cards_where below
length-pack = refl

-- a set that leaves out what another has
pub apart_by : (t : ℕ → Bool) (xs : List ℕ) → IsCardSet xs → ((c : ℕ) → has_card xs c ≡ true → t c ≡ false) → Apart xs (cards_where t)
apart_by t xs a_set out c holds = has_card-cards_where t c (has_card-below xs c a_set holds) ∙ out c holds

in_pack : (xs : List ℕ) → IsCardSet xs → IsSubset xs pack
unfolding pack
in_pack xs a_set c holds = has_card-cards_where (λ _. true) c (has_card-below xs c a_set holds)

-- the pack without two hands
length-rest : (own dummy : List ℕ) → IsCardSet own → IsCardSet dummy → Apart own dummy
    → length (cards_where (λ c. not (has_card own c) && not (has_card dummy c))) + length dummy + length own ≡ 52
unfolding pack
length-rest own dummy own_set dummy_set apart =
    let first = cards_where (λ c. not (has_card own c)) in
    let first_is : filter (λ c. not (has_card own c)) pack ≡ first = filter-cards_where (λ c. not (has_card own c)) (λ _. true) in
    let inside : IsSubset dummy first = λ c holds.
    has_card-cards_where (λ c. not (has_card own c)) c (has_card-below dummy c dummy_set holds) ∙ ap not (Apart-sym own dummy apart c holds) in
    let second = length-minus first dummy (IsCardSet-cards_where (λ c. not (has_card own c))) dummy_set inside in
    let whole = length-minus pack own (IsCardSet-cards_where (λ _. true)) own_set (in_pack own own_set) in
    omega (arith, ap length first_is, second, whole, length-pack, ap length (filter-cards_where (λ c. not (has_card dummy c)) (λ c. not (has_card own c))))

-- ---- places

each_compass : (test : Compass → Bool) → test N ≡ false → test E ≡ false → test S ≡ false → test W ≡ false → (declarer : Compass) → test declarer ≡ false
each_compass test n e s w N = n
each_compass test n e s w E = e
each_compass test n e s w S = s
each_compass test n e s w W = w

partners_differ : (declarer : Compass) → (compass_place declarer == compass_place (compass_of declarer Dummy)) ≡ false
partners_differ = each_compass (λ declarer. compass_place declarer == compass_place (compass_of declarer Dummy)) refl refl refl refl

left_differs : (declarer : Compass) → (compass_place declarer == compass_place (compass_of declarer Left)) ≡ false
left_differs = each_compass (λ declarer. compass_place declarer == compass_place (compass_of declarer Left)) refl refl refl refl

right_differs : (declarer : Compass) → (compass_place declarer == compass_place (compass_of declarer Right)) ≡ false
right_differs = each_compass (λ declarer. compass_place declarer == compass_place (compass_of declarer Right)) refl refl refl refl

dummy_and_left : (declarer : Compass) → (compass_place (compass_of declarer Dummy) == compass_place (compass_of declarer Left)) ≡ false
dummy_and_left = each_compass (λ declarer. compass_place (compass_of declarer Dummy) == compass_place (compass_of declarer Left)) refl refl refl refl

dummy_and_right : (declarer : Compass) → (compass_place (compass_of declarer Dummy) == compass_place (compass_of declarer Right)) ≡ false
dummy_and_right = each_compass (λ declarer. compass_place (compass_of declarer Dummy) == compass_place (compass_of declarer Right)) refl refl refl refl

left_and_right : (declarer : Compass) → (compass_place (compass_of declarer Left) == compass_place (compass_of declarer Right)) ≡ false
left_and_right = each_compass (λ declarer. compass_place (compass_of declarer Left) == compass_place (compass_of declarer Right)) refl refl refl refl

-- ---- boards

neither_first : (a b : Bool) → a ≡ true → (not a && b) ≡ false
neither_first a b holds = ap (λ a. not a && b) holds

neither_second : (a b : Bool) → b ≡ true → (not a && not b) ≡ false
neither_second true b holds = refl
neither_second false b holds = ap not holds

neither : (a b : Bool) → a ≡ false → b ≡ false → (a || b) ≡ false
neither a b first second = ap₂ (λ a b. a || b) first second

-- the unseen cards where no card is missing
unseen_rest : (b : BoardValue) → IsCardSet b.declarer_hand → IsCardSet b.dummy_hand → Apart b.declarer_hand b.dummy_hand → length b.declarer_hand ≡ 13 → length b.dummy_hand ≡ 13
    → FitsUnseen b (cards_where (λ c. not (has_card b.declarer_hand c) && not (has_card b.dummy_hand c)))
unseen_rest b own_set dummy_set apart own_full dummy_full = record {
  set = IsCardSet-cards_where (λ c. not (has_card b.declarer_hand c) && not (has_card b.dummy_hand c));
  declarer_apart = apart_by (λ c. not (has_card b.declarer_hand c) && not (has_card b.dummy_hand c)) b.declarer_hand own_set
      (λ c holds. neither_first (has_card b.declarer_hand c) (not (has_card b.dummy_hand c)) holds);
  dummy_apart = apart_by (λ c. not (has_card b.declarer_hand c) && not (has_card b.dummy_hand c)) b.dummy_hand dummy_set
      (λ c holds. neither_second (has_card b.declarer_hand c) (has_card b.dummy_hand c) holds);
  count = omega (arith, length-rest b.declarer_hand b.dummy_hand own_set dummy_set apart);
}

-- the unseen cards where both defenders' hands are shown
pub unseen_both : (b : BoardValue) (left right : List ℕ) → IsCardSet b.declarer_hand → IsCardSet b.dummy_hand → IsCardSet left → IsCardSet right
    → Apart b.declarer_hand left → Apart b.declarer_hand right → Apart b.dummy_hand left → Apart b.dummy_hand right → Apart left right
    → length left ≡ length b.declarer_hand → length right ≡ length b.declarer_hand
    → FitsUnseen b (together left right)
unseen_both b left right own_set dummy_set left_set right_set own_left own_right dummy_left dummy_right apart left_size right_size = record {
  set = IsCardSet-cards_where (λ c. has_card left c || has_card right c);
  declarer_apart = apart_by (λ c. has_card left c || has_card right c) b.declarer_hand own_set (λ c holds. neither (has_card left c) (has_card right c) (own_left c holds) (own_right c holds));
  dummy_apart = apart_by (λ c. has_card left c || has_card right c) b.dummy_hand dummy_set (λ c holds. neither (has_card left c) (has_card right c) (dummy_left c holds) (dummy_right c holds));
  count = omega (arith, length-either left right left_set right_set apart);
}

pub both_fit : (deal : DealValue) (declarer : Compass) (b : BoardValue) → IsSoundDeal deal → hand_at deal declarer ≡ Some b.declarer_hand → hand_at deal (compass_of declarer Dummy) ≡ Some b.dummy_hand
    → (left right : Option (List ℕ)) → hand_at deal (compass_of declarer Left) ≡ left → hand_at deal (compass_of declarer Right) ≡ right
    → IfSome (both_hands left right) (FitsUnseen b)
both_fit deal declarer b sound own_is dummy_is None right left_is right_is = tt
both_fit deal declarer b sound own_is dummy_is (Some left) None left_is right_is = tt
both_fit deal declarer b sound own_is dummy_is (Some left) (Some right) left_is right_is =
    let l = compass_of declarer Left in
    let r = compass_of declarer Right in
    let d = compass_of declarer Dummy in
    unseen_both b left right (sound.set declarer b.declarer_hand own_is) (sound.set d b.dummy_hand dummy_is) (sound.set l left left_is) (sound.set r right right_is)
    (sound.apart declarer l b.declarer_hand left (left_differs declarer) own_is left_is) (sound.apart declarer r b.declarer_hand right (right_differs declarer) own_is right_is)
    (sound.apart d l b.dummy_hand left (dummy_and_left declarer) dummy_is left_is) (sound.apart d r b.dummy_hand right (dummy_and_right declarer) dummy_is right_is)
    (sound.apart l r left right (left_and_right declarer) left_is right_is)
    (sound.one_size l declarer left b.declarer_hand left_is own_is) (sound.one_size r declarer right b.declarer_hand right_is own_is)

unseen_fit : (deal : DealValue) (declarer : Compass) (b : BoardValue) → IsSoundDeal deal → hand_at deal declarer ≡ Some b.declarer_hand → hand_at deal (compass_of declarer Dummy) ≡ Some b.dummy_hand
    → IfSome (unseen_in deal declarer b.declarer_hand b.dummy_hand) (FitsUnseen b)
unseen_fit deal declarer b sound own_is dummy_is = by_size (length b.declarer_hand == 13) refl where
  by_size : (full : Bool) → (length b.declarer_hand == 13) ≡ full
      → IfSome (cond full (Some (cards_where (λ c. not (has_card b.declarer_hand c) && not (has_card b.dummy_hand c)))) (both_hands (hand_at deal (compass_of declarer Left)) (hand_at deal (compass_of declarer Right)))) (FitsUnseen b)
  by_size true is =
      let size : length b.declarer_hand ≡ 13 = eqb-true (length b.declarer_hand) 13 is in
      unseen_rest b (sound.set declarer b.declarer_hand own_is) (sound.set (compass_of declarer Dummy) b.dummy_hand dummy_is)
      (sound.apart declarer (compass_of declarer Dummy) b.declarer_hand b.dummy_hand (partners_differ declarer) own_is dummy_is)
      size (sound.one_size (compass_of declarer Dummy) declarer b.dummy_hand b.declarer_hand dummy_is own_is ∙ size)
  by_size false is = both_fit deal declarer b sound own_is dummy_is (hand_at deal (compass_of declarer Left)) (hand_at deal (compass_of declarer Right)) refl refl

pub dealt : (deal : DealValue) (declarer : Compass) (trump : Trump) (need : ℕ) (leader : Seat) (own dummy : List ℕ) → IsSoundDeal deal
    → hand_at deal declarer ≡ Some own → hand_at deal (compass_of declarer Dummy) ≡ Some dummy → need ≤ 13
    → IsDealt (dealt_board declarer trump need leader own dummy (unseen_in deal declarer own dummy))
dealt deal declarer trump need leader own dummy sound own_is dummy_is fits = record {
  declarer_set = sound.set declarer own own_is;
  dummy_set = sound.set (compass_of declarer Dummy) dummy dummy_is;
  apart = sound.apart declarer (compass_of declarer Dummy) own dummy (partners_differ declarer) own_is dummy_is;
  same_size = sound.one_size (compass_of declarer Dummy) declarer dummy own dummy_is own_is;
  some = sound.some declarer own own_is;
  few = sound.few declarer own own_is;
  need_fits = fits;
  unseen_fits = unseen_fit deal declarer (dealt_board declarer trump need leader own dummy (unseen_in deal declarer own dummy)) sound own_is dummy_is;
}
