-- States: legal cards, and what follows them.
use Rattle.std.proofs.Common.{◌≡◌, ℕ, suc, ◌+◌, ◌<◌, ◌≤◌, Bool, true, false, not, cond, eqb, List, [], ◌∷◌, ◌++◌, length, refl, sym, ap, ◌∙◌, inl, inr, arith, add-one}
use Rattle.std.proofs.lemmas.Bool.{false≢true, eqb-false, eq-eqb, ne_eqb, and_parts, cases_Bool, cases_eq, not-true, cond_both}
use Rattle.std.proofs.lemmas.List.{length_push}
use Rattle.card_sets.specs.declared.card.Suit.{Suit}
use Rattle.card_sets.specs.declared.seat.Seat.{Seat}
use Rattle.card_sets.specs.declared.seat.Seat.TheVariants.{Declarer, Left, Dummy, Right}
use Rattle.card_sets.specs.Cards.{suit_of, same_suit}
use Rattle.card_sets.specs.SetWords.{has_card, IsSubset}
use Rattle.trick_rules.specs.Positions.{PositionValue, State, to_play, played_count, tricks_left, IsSound, IsState}
use Rattle.trick_rules.specs.Play.{take_out, next_trick, put_card, end_trick, after_card, after, held_by, hand_of, right_of, CanPlay, legal_in, legal_cards, of_suit, or_whole, cards_left, is_over}
use Rattle.card_sets.proofs.Sets.{has_card-filter, IsCardSet-filter}
use Rattle.trick_rules.proofs.CardLists.{has_card-take_out}
use Rattle.card_sets.proofs.SetCounts.{length-take_out, take_out-absent, length-minus, some_card}
use Rattle.trick_rules.proofs.Turns.{count_in, same_seat, count_in-suc, count_in-none, count_in-all, count_in-turn}
use Rattle.trick_rules.proofs.Soundness.{hands_fall, after_short, after_third, after_card_sound}

-- ---- legal cards are cards of the hand

or_whole-low : (part hand : List ℕ) (c : ℕ) → IsSubset part hand → has_card (or_whole part hand) c ≡ true → has_card hand c ≡ true
or_whole-low [] hand c within h = h
or_whole-low (x ∷ xs) hand c within h = within c h

pub of_suit-low : (suit : Suit) (hand : List ℕ) → IsSubset (of_suit suit hand) hand
of_suit-low suit hand c h = (and_parts _ _ (sym (has_card-filter (λ d. same_suit (suit_of d) suit) hand c) ∙ h)).0

pub legal_cards-low : (trick hand : List ℕ) → IsSubset (legal_cards trick hand) hand
legal_cards-low [] hand c h = h
legal_cards-low (led ∷ rest) hand c h = or_whole-low (of_suit (suit_of led) hand) hand c (of_suit-low (suit_of led) hand) h

pub right_of-low : (s : State) → IsSubset (right_of s) s.position.unseen
right_of-low s c h = (and_parts _ _ (sym (has_card-filter (λ d. not (has_card s.left d)) s.position.unseen c) ∙ h)).0

-- Left doesn't hold Right's cards
pub right_of-not_left : (s : State) (c : ℕ) → has_card (right_of s) c ≡ true → has_card s.left c ≡ false
right_of-not_left s c h = not-true (has_card s.left c) (and_parts (has_card s.position.unseen c) (not (has_card s.left c)) (sym (has_card-filter (λ d. not (has_card s.left d)) s.position.unseen c) ∙ h)).1

-- each hand is among the cards that the seat may hold
pub hand_held : (s : State) → IsState s → (seat : Seat) → IsSubset (hand_of s seat) (held_by s.position seat)
hand_held s ok Declarer c h = h
hand_held s ok Left c h = ok.fits.part c h
hand_held s ok Dummy c h = h
hand_held s ok Right c h = right_of-low s c h

pub legal_can_play : (s : State) → IsState s → (card : ℕ) → has_card (legal_in s) card ≡ true → CanPlay s.position card
legal_can_play s ok card h =
    hand_held s ok (to_play s.position) card (legal_cards-low s.position.trick.cards (hand_of s (to_play s.position)) card h)

-- ---- Left's hand after a card

-- a card that isn't unseen is not Left's
not_part : (s : State) → IsState s → (card : ℕ) → has_card s.position.unseen card ≡ false → has_card s.left card ≡ false
not_part s ok card gone =
    elim (cases_Bool (has_card s.left card)) as (λ _. has_card s.left card ≡ false) [
      | inl e ↦ absurd (false≢true (sym gone ∙ ok.fits.part card e))
      | inr e ↦ e
    ]

-- Left's cards are fewer by the card where Left played it
left_falls : (s : State) → IsState s → (card : ℕ) (seat : Seat) → has_card (hand_of s seat) card ≡ true
    → length (take_out card s.left) + same_seat seat Left ≡ length s.left
left_falls s ok card Declarer h = omega (arith, ap (length {A = ℕ}) (take_out-absent s.left card (not_part s ok card (ok.sound.declarer_unseen card h))))
left_falls s ok card Dummy h = omega (arith, ap (length {A = ℕ}) (take_out-absent s.left card (not_part s ok card (ok.sound.dummy_unseen card h))))
left_falls s ok card Left h = length-take_out s.left card ok.fits.set h
left_falls s ok card Right h = omega (arith, ap (length {A = ℕ}) (take_out-absent s.left card (right_of-not_left s card h)))

-- what a card leaves of the table, whether or not the trick ends
pub after_card-unseen : (t : PositionValue) (card : ℕ) → (after_card t card).unseen ≡ take_out card t.unseen
after_card-unseen t card = cond_both (eqb (length t.trick.cards) 3) (end_trick (put_card t card)) (put_card t card) (λ u. u.unseen ≡ take_out card t.unseen) (λ _. refl) (λ _. refl)

pub after_card-declarer : (t : PositionValue) (card : ℕ) → (after_card t card).declarer ≡ take_out card t.declarer
after_card-declarer t card = cond_both (eqb (length t.trick.cards) 3) (end_trick (put_card t card)) (put_card t card) (λ u. u.declarer ≡ take_out card t.declarer) (λ _. refl) (λ _. refl)

pub after_card-dummy : (t : PositionValue) (card : ℕ) → (after_card t card).dummy ≡ take_out card t.dummy
after_card-dummy t card = cond_both (eqb (length t.trick.cards) 3) (end_trick (put_card t card)) (put_card t card) (λ u. u.dummy ≡ take_out card t.dummy) (λ _. refl) (λ _. refl)

pub after_card-trump : (t : PositionValue) (card : ℕ) → (after_card t card).trump ≡ t.trump
after_card-trump t card = cond_both (eqb (length t.trick.cards) 3) (end_trick (put_card t card)) (put_card t card) (λ u. u.trump ≡ t.trump) (λ _. refl) (λ _. refl)

pub after_card-trick : (t : PositionValue) (card : ℕ) → (after_card t card).trick ≡ next_trick t.trump t.trick card
after_card-trick t card = by_end (eqb (length t.trick.cards) 3) where
  by_end : (b : Bool) → (cond b (end_trick (put_card t card)) (put_card t card)).trick ≡ cond b (end_trick (put_card t card)).trick (put_card t card).trick
  by_end true = refl
  by_end false = refl

-- ---- the tricks left after a card

pub cards_more : (t : PositionValue) (card : ℕ) → length (t.trick.cards ++ card ∷ []) ≡ suc (length t.trick.cards)
cards_more t card = length_push t.trick.cards card ∙ add-one (length t.trick.cards)

-- a seat's count in the trick, with the card that is played
count_more : (t : PositionValue) (card : ℕ) → length t.trick.cards < 4 → (seat : Seat)
    → count_in t.trick.leader (length (t.trick.cards ++ card ∷ [])) seat ≡ count_in t.trick.leader (length t.trick.cards) seat + same_seat (to_play t) seat
count_more t card low seat =
    ap (λ m. count_in t.trick.leader m seat) (cards_more t card) ∙ count_in-suc (length t.trick.cards) t.trick.leader seat low

-- the fourth card is that of the seat that has not played
count_full : (t : PositionValue) → length t.trick.cards ≡ 3 → (seat : Seat) → count_in t.trick.leader (length t.trick.cards) seat + same_seat (to_play t) seat ≡ 1
count_full t third seat =
    sym (count_in-suc (length t.trick.cards) t.trick.leader seat (omega arith)) ∙ ap (λ m. count_in t.trick.leader (suc m) seat) third ∙ count_in-all t.trick.leader seat

tricks_short : (t : PositionValue) (card : ℕ) → IsSound t → CanPlay t card → length t.trick.cards < 3 → tricks_left (put_card t card) ≡ tricks_left t
tricks_short t card sound can short =
    let falls = hands_fall t sound card (to_play t) can in
    omega (arith, falls.declarer, count_more t card (omega arith) Declarer)

tricks_third : (t : PositionValue) (card : ℕ) → IsSound t → CanPlay t card → length t.trick.cards ≡ 3 → tricks_left (end_trick (put_card t card)) + 1 ≡ tricks_left t
tricks_third t card sound can third =
    let falls = hands_fall t sound card (to_play t) can in
    omega (arith, falls.declarer, count_full t third Declarer, count_in-none (end_trick (put_card t card)).trick.leader Declarer)

-- the tricks left fall by one at the fourth card, and stay else
pub tricks_left-after : (t : PositionValue) (card : ℕ) → IsSound t → CanPlay t card
    → tricks_left (after_card t card) + cond (eqb (length t.trick.cards) 3) 1 0 ≡ tricks_left t
tricks_left-after t card sound can =
    elim (cases_eq (length t.trick.cards) 3) as (λ _. tricks_left (after_card t card) + cond (eqb (length t.trick.cards) 3) 1 0 ≡ tricks_left t) [
      | inl third ↦ rw (after_third t card third, eq-eqb (length t.trick.cards) 3 third) (tricks_third t card sound can third)
      | inr other ↦ (let short : length t.trick.cards < 3 = omega (arith, sound.trick_short, other) in
          rw (after_short t card short, ne_eqb (length t.trick.cards) 3 other) (omega (arith, tricks_short t card sound can short)))
    ]

-- ---- Left's count after a card

left_short : (s : State) → IsState s → (card : ℕ) → has_card (hand_of s (to_play s.position)) card ≡ true → length s.position.trick.cards < 3
    → length (take_out card s.left) + played_count (put_card s.position card) Left ≡ tricks_left (put_card s.position card)
left_short s ok card h short =
    let t = s.position in
    let can = hand_held s ok (to_play t) card h in
    omega (arith, tricks_short t card ok.sound can short, count_more t card (omega arith) Left, left_falls s ok card (to_play t) h, ok.fits.count)

left_third : (s : State) → IsState s → (card : ℕ) → has_card (hand_of s (to_play s.position)) card ≡ true → length s.position.trick.cards ≡ 3
    → length (take_out card s.left) + played_count (end_trick (put_card s.position card)) Left ≡ tricks_left (end_trick (put_card s.position card))
left_third s ok card h third =
    let t = s.position in
    let can = hand_held s ok (to_play t) card h in
    omega (
      arith,
      tricks_third t card ok.sound can third,
      count_full t third Left,
      count_in-none (end_trick (put_card t card)).trick.leader Left,
      left_falls s ok card (to_play t) h,
      ok.fits.count,
    )

left_count : (s : State) → IsState s → (card : ℕ) → has_card (hand_of s (to_play s.position)) card ≡ true
    → length (take_out card s.left) + played_count (after_card s.position card) Left ≡ tricks_left (after_card s.position card)
left_count s ok card h =
    let t = s.position in
    elim (cases_eq (length t.trick.cards) 3) as (λ _. length (take_out card s.left) + played_count (after_card t card) Left ≡ tricks_left (after_card t card)) [
      | inl third ↦ rw (after_third t card third) (left_third s ok card h third)
      | inr other ↦ (let short : length t.trick.cards < 3 = omega (arith, ok.sound.trick_short, other) in
          rw (after_short t card short) (left_short s ok card h short))
    ]

-- ---- a state after a legal card

part_after : (s : State) → IsState s → (card : ℕ) → IsSubset (take_out card s.left) (take_out card s.position.unseen)
part_after s ok card c h =
    let both = and_parts (has_card s.left c) (not (eqb c card)) (sym (has_card-take_out card s.left c) ∙ h) in
    has_card-take_out card s.position.unseen c ∙ rw (ok.fits.part c both.0, both.1) refl

pub after-IsState : (s : State) → IsState s → (card : ℕ) → has_card (legal_in s) card ≡ true → IsState (after s card)
after-IsState s ok card h =
    let in_hand = legal_cards-low s.position.trick.cards (hand_of s (to_play s.position)) card h in
    record {
      sound = after_card_sound s.position card ok.sound (legal_can_play s ok card h);
      fits = record {
        set = IsCardSet-filter (λ c. not (eqb c card)) s.left ok.fits.set;
        part = λ c k. rw (after_card-unseen s.position card) (part_after s ok card c k);
        count = left_count s ok card in_hand;
      };
    }

-- ---- the cards left

pub cards_left-after : (t : PositionValue) (card : ℕ) → IsSound t → CanPlay t card → suc (cards_left (after_card t card)) ≡ cards_left t
cards_left-after t card sound can =
    let falls = hands_fall t sound card (to_play t) can in
    let one = one_seat (to_play t) in
    omega (
      arith,
      falls.declarer,
      falls.dummy,
      falls.unseen,
      one,
      ap (length {A = ℕ}) (after_card-declarer t card),
      ap (length {A = ℕ}) (after_card-dummy t card),
      ap (length {A = ℕ}) (after_card-unseen t card),
    )
  where
    one_seat : (seat : Seat) → same_seat seat Declarer + same_seat seat Dummy + same_seat seat Left + same_seat seat Right ≡ 1
    one_seat Declarer = refl
    one_seat Left = refl
    one_seat Dummy = refl
    one_seat Right = refl

-- ---- there is a card to play

or_whole-length : (part hand : List ℕ) → 1 ≤ length hand → 1 ≤ length (or_whole part hand)
or_whole-length [] hand h = h
or_whole-length (x ∷ xs) hand h = omega arith

pub legal_cards-length : (trick hand : List ℕ) → 1 ≤ length hand → 1 ≤ length (legal_cards trick hand)
legal_cards-length [] hand h = h
legal_cards-length (led ∷ rest) hand h = or_whole-length (of_suit (suit_of led) hand) hand h

-- each hand has the cards of the tricks left, less the one that its seat has played
pub hand_length : (s : State) → IsState s → (seat : Seat) → length (hand_of s seat) + played_count s.position seat ≡ tricks_left s.position
hand_length s ok Declarer = refl
hand_length s ok Left = ok.fits.count
hand_length s ok Dummy = ok.sound.dummy_count
hand_length s ok Right =
    omega (arith, length-minus s.position.unseen s.left ok.sound.unseen_set ok.fits.set ok.fits.part, ok.fits.count, ok.sound.unseen_count)

-- while tricks are left, the seat to play has a legal card
pub some_legal : (s : State) → IsState s → is_over s.position ≡ false → (card : ℕ) × (has_card (legal_in s) card ≡ true)
some_legal s ok open' =
    let t = s.position in
    let turn : played_count t (to_play t) ≡ 0 = count_in-turn (length t.trick.cards) t.trick.leader ok.sound.trick_short in
    let some : tricks_left t ≡ 0 → ⊥ = eqb-false (tricks_left t) 0 open' in
    some_card (legal_in s) (legal_cards-length t.trick.cards (hand_of s (to_play t)) (omega (arith, hand_length s ok (to_play t), turn, some)))
