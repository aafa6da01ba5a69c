-- Equal cards win the same.
use Rattle.std.proofs.Common.{◌≡◌, ◌≢◌, ℕ, zero, suc, ◌+◌, ◌<◌, Bool, true, false, eqb, List, [], ◌∷◌, length, map, refl, sym, ap, ◌∙◌, inl, inr, arith}
use Rattle.std.specs.List.{list_any, list_all}
use Rattle.std.proofs.lemmas.Bool.{false≢true, eqb-false, cases_Bool, both_ways, or_parts, false_from_ne_true}
use Rattle.std.proofs.lemmas.List.{length_push}
use Rattle.card_sets.specs.declared.seat.Seat.{Seat}
use Rattle.card_sets.specs.declared.seat.Seat.TheVariants.{Declarer, Left, Dummy, Right}
use Rattle.card_sets.specs.Cards.{suit_of}
use Rattle.card_sets.specs.SetWords.{has_card}
use Rattle.trick_rules.specs.Positions.{State, seat_after, to_play, IsState}
use Rattle.trick_rules.specs.Play.{hand_of, legal_in, after, after_card, is_over, is_declarers, cards_left, makes}
use Rattle.trick_rules.proofs.CardLists.{list_any-from_card, card_from_list_any, list_all-from_cards, cards_from_list_all}
use Rattle.trick_rules.proofs.Soundness.{Apart-sym, held_low, with_card}
use Rattle.trick_rules.proofs.States.{after-IsState, legal_can_play, legal_cards-low, cards_left-after, right_of-low, right_of-not_left}
use Rattle.trick_rules.proofs.PlayLaws.{makes_at_the_end, makes_by_some_card, makes_against_each_card, hands_are_apart, the_trick_is_not_held}
use Rattle.double_dummy.specs.Equals.{AreEqual}
use Rattle.double_dummy.proofs.Swap.{swap, swap-first, swap-second, swap-other, swap-swap, each_card}
use Rattle.double_dummy.proofs.Mirror.{Renamed, Mirrored, Follows, renamed_back, legal-mirrored, legal_back, turn-mirrored, mirrored-after, follows-after, follows-with_card, hand-gone, hand-after, absent-after, with_card-absent, trick-after-short, turn-put}

-- ---- choices under new names

any_renamed : (a b : ℕ) (p q : ℕ → Bool) (old new : List ℕ) → Renamed a b old new → ((c : ℕ) → has_card old c ≡ true → q (swap a b c) ≡ p c) → list_any q new ≡ list_any p old
any_renamed a b p q old new r same =
    elim (cases_Bool (list_any p old)) as (λ _. list_any q new ≡ list_any p old) [
      | inl e ↦
          (let found : (c : ℕ) × (has_card old c ≡ true) × (p c ≡ true) = card_from_list_any p old e in
          list_any-from_card q new (swap a b found.0) (renamed_back a b old new r found.0 ∙ found.1) (same found.0 found.1 ∙ found.2) ∙ sym e)
      | inr e ↦
          false_from_ne_true (list_any q new) (λ h.
          let found : (c : ℕ) × (has_card new c ≡ true) × (q c ≡ true) = card_from_list_any q new h in
          let c = swap a b found.0 in
          let in_old : has_card old c ≡ true = sym (r found.0) ∙ found.1 in
          both_ways (list_any p old) e (list_any-from_card p old c in_old (sym (same c in_old) ∙ ap q (swap-swap a b found.0) ∙ found.2)))
          ∙ sym e
    ]

all_renamed : (a b : ℕ) (p q : ℕ → Bool) (old new : List ℕ) → Renamed a b old new → ((c : ℕ) → has_card old c ≡ true → q (swap a b c) ≡ p c) → list_all q new ≡ list_all p old
all_renamed a b p q old new r same =
    elim (cases_Bool (list_all p old)) as (λ _. list_all q new ≡ list_all p old) [
      | inl e ↦
          list_all-from_cards q new (λ d k.
          let c = swap a b d in
          let in_old : has_card old c ≡ true = sym (r d) ∙ k in
          sym (ap q (swap-swap a b d)) ∙ same c in_old ∙ cards_from_list_all p old e c in_old)
          ∙ sym e
      | inr e ↦
          false_from_ne_true (list_all q new) (λ h.
          both_ways (list_all p old) e
          (list_all-from_cards p old (λ c k. sym (same c k) ∙ cards_from_list_all q new h (swap a b c) (renamed_back a b old new r c ∙ k))))
          ∙ sym e
    ]

-- ---- one state and the other, card after card

module _ (a b : ℕ) (suit : suit_of a ≡ suit_of b) (order : a < b) (low : b < 52) where
  pub makes-mirrored : (n : ℕ) (s m : State) → IsState s → IsState m → Mirrored a b s m → Follows a b s → cards_left s.position < n → makes m ≡ makes s
  makes-mirrored zero s m ok mok r f few = absurd (omega arith)
  makes-mirrored (suc n) s m ok mok r f few =
      let over : is_over m.position ≡ is_over s.position = ap {B = Bool} (λ k. eqb k 0) r.tricks in
      let turn : is_declarers (to_play m.position) ≡ is_declarers (to_play s.position) = ap is_declarers (turn-mirrored a b s m r) in
      elim (cases_Bool (is_over s.position)) as (λ _. makes m ≡ makes s) [
        | inl e ↦ makes_at_the_end m (over ∙ e) ∙ ap {B = Bool} (λ k. eqb k 0) r.need ∙ sym (makes_at_the_end s e)
        | inr e ↦
            (let each : (c : ℕ) → has_card (legal_in s) c ≡ true → makes (after m (swap a b c)) ≡ makes (after s c) = λ c k.
            (let can = legal_can_play s ok c k in
            let mk : has_card (legal_in m) (swap a b c) ≡ true = legal_back a b suit s m r c ∙ k in
            let mcan = legal_can_play m mok (swap a b c) mk in
            makes-mirrored n (after s c) (after m (swap a b c)) (after-IsState s ok c k) (after-IsState m mok (swap a b c) mk)
            (mirrored-after a b suit order low s m ok mok r c can mcan f.none (follows-with_card a b s ok f c k)) (follows-after a b s ok f c k)
            (omega (arith, cards_left-after s.position c ok.sound can))) in
            let legal = legal-mirrored a b suit s m r in
            elim (cases_Bool (is_declarers (to_play s.position))) as (λ _. makes m ≡ makes s) [
              | inl ours ↦ makes_by_some_card m mok (over ∙ e) (turn ∙ ours)
                  ∙ any_renamed a b (λ c. makes (after s c)) (λ c. makes (after m c)) (legal_in s) (legal_in m) legal each
                  ∙ sym (makes_by_some_card s ok e ours)
              | inr theirs ↦ makes_against_each_card m mok (over ∙ e) (turn ∙ theirs)
                  ∙ all_renamed a b (λ c. makes (after s c)) (λ c. makes (after m c)) (legal_in s) (legal_in m) legal each
                  ∙ sym (makes_against_each_card s ok e theirs)
            ])
      ]

-- ---- two equal cards of one hand

-- a list in which both cards are, or neither, is the same under new names
renamed-self : (a b : ℕ) (xs : List ℕ) → has_card xs a ≡ has_card xs b → Renamed a b xs xs
renamed-self a b xs e = each_card a b (λ c. has_card xs c ≡ has_card xs (swap a b c))
    (e ∙ ap (has_card xs) (sym (swap-first a b)))
    (sym e ∙ ap (has_card xs) (sym (swap-second a b)))
    (λ c f g. ap (has_card xs) (sym (swap-other a b c f g)))

map-self : (a b : ℕ) (xs : List ℕ) → has_card xs a ≡ false → has_card xs b ≡ false → xs ≡ map (swap a b) xs
map-self a b [] no_a no_b = refl
map-self a b (x ∷ xs) no_a no_b =
    let pa = or_parts (eqb x a) (has_card xs a) no_a in
    let pb = or_parts (eqb x b) (has_card xs b) no_b in
    rw (swap-other a b x (eqb-false x a pa.0) (eqb-false x b pb.0), ← map-self a b xs pa.1 pb.1) refl

module _ (s : State) (ok : IsState s) where
  in_declarer : (seat : Seat) (a b : ℕ) → has_card (hand_of s seat) a ≡ true → has_card (hand_of s seat) b ≡ true → has_card s.position.declarer a ≡ has_card s.position.declarer b
  in_declarer Declarer a b ha hb = ha ∙ sym hb
  in_declarer Left a b ha hb = hands_are_apart s Left Declarer ok (λ e. cc) a ha ∙ sym (hands_are_apart s Left Declarer ok (λ e. cc) b hb)
  in_declarer Dummy a b ha hb = hands_are_apart s Dummy Declarer ok (λ e. cc) a ha ∙ sym (hands_are_apart s Dummy Declarer ok (λ e. cc) b hb)
  in_declarer Right a b ha hb = hands_are_apart s Right Declarer ok (λ e. cc) a ha ∙ sym (hands_are_apart s Right Declarer ok (λ e. cc) b hb)

  in_dummy : (seat : Seat) (a b : ℕ) → has_card (hand_of s seat) a ≡ true → has_card (hand_of s seat) b ≡ true → has_card s.position.dummy a ≡ has_card s.position.dummy b
  in_dummy Declarer a b ha hb = hands_are_apart s Declarer Dummy ok (λ e. cc) a ha ∙ sym (hands_are_apart s Declarer Dummy ok (λ e. cc) b hb)
  in_dummy Left a b ha hb = hands_are_apart s Left Dummy ok (λ e. cc) a ha ∙ sym (hands_are_apart s Left Dummy ok (λ e. cc) b hb)
  in_dummy Dummy a b ha hb = ha ∙ sym hb
  in_dummy Right a b ha hb = hands_are_apart s Right Dummy ok (λ e. cc) a ha ∙ sym (hands_are_apart s Right Dummy ok (λ e. cc) b hb)

  in_left : (seat : Seat) (a b : ℕ) → has_card (hand_of s seat) a ≡ true → has_card (hand_of s seat) b ≡ true → has_card s.left a ≡ has_card s.left b
  in_left Declarer a b ha hb = hands_are_apart s Declarer Left ok (λ e. cc) a ha ∙ sym (hands_are_apart s Declarer Left ok (λ e. cc) b hb)
  in_left Left a b ha hb = ha ∙ sym hb
  in_left Dummy a b ha hb = hands_are_apart s Dummy Left ok (λ e. cc) a ha ∙ sym (hands_are_apart s Dummy Left ok (λ e. cc) b hb)
  in_left Right a b ha hb = right_of-not_left s a ha ∙ sym (right_of-not_left s b hb)

  in_unseen : (seat : Seat) (a b : ℕ) → has_card (hand_of s seat) a ≡ true → has_card (hand_of s seat) b ≡ true → has_card s.position.unseen a ≡ has_card s.position.unseen b
  in_unseen Declarer a b ha hb = ok.sound.declarer_unseen a ha ∙ sym (ok.sound.declarer_unseen b hb)
  in_unseen Left a b ha hb = ok.fits.part a ha ∙ sym (ok.fits.part b hb)
  in_unseen Dummy a b ha hb = ok.sound.dummy_unseen a ha ∙ sym (ok.sound.dummy_unseen b hb)
  in_unseen Right a b ha hb = right_of-low s a ha ∙ sym (right_of-low s b hb)

  -- a card of a hand is not in the trick
  not_in_trick : (seat : Seat) (c : ℕ) → has_card (hand_of s seat) c ≡ true → has_card s.position.trick.cards c ≡ false
  not_in_trick seat c h = Apart-sym s.position.trick.cards (hand_of s seat) (the_trick_is_not_held s seat ok) c h

  mirrored-self : (seat : Seat) (a b : ℕ) → has_card (hand_of s seat) a ≡ true → has_card (hand_of s seat) b ≡ true → Mirrored a b s s
  mirrored-self seat a b ha hb = record {
    declarer = renamed-self a b s.position.declarer (in_declarer seat a b ha hb);
    dummy = renamed-self a b s.position.dummy (in_dummy seat a b ha hb);
    unseen = renamed-self a b s.position.unseen (in_unseen seat a b ha hb);
    left = renamed-self a b s.left (in_left seat a b ha hb);
    leader = refl;
    cards = map-self a b s.position.trick.cards (not_in_trick seat a ha) (not_in_trick seat b hb);
    need = refl;
    trump = refl;
    tricks = refl;
  }

-- the seats still to play to a trick are others than the seat to play
turns_differ : (seat : Seat) (k : ℕ) → suc k < 4 → seat ≢ seat_after (suc k) seat
turns_differ Declarer zero h e = cc
turns_differ Left zero h e = cc
turns_differ Dummy zero h e = cc
turns_differ Right zero h e = cc
turns_differ Declarer (suc zero) h e = cc
turns_differ Left (suc zero) h e = cc
turns_differ Dummy (suc zero) h e = cc
turns_differ Right (suc zero) h e = cc
turns_differ Declarer (suc (suc zero)) h e = cc
turns_differ Left (suc (suc zero)) h e = cc
turns_differ Dummy (suc (suc zero)) h e = cc
turns_differ Right (suc (suc zero)) h e = cc
turns_differ seat (suc (suc (suc k))) h e = absurd (omega arith)

module _ (s : State) (ok : IsState s) (a b : ℕ) (eq : AreEqual s a b) where
  held_a : has_card (hand_of s (to_play s.position)) a ≡ true
  held_a = legal_cards-low s.position.trick.cards (hand_of s (to_play s.position)) a eq.low_legal

  held_b : has_card (hand_of s (to_play s.position)) b ≡ true
  held_b = legal_cards-low s.position.trick.cards (hand_of s (to_play s.position)) b eq.high_legal

  one_start : has_card (with_card s.position a) b ≡ false
  one_start = with_card-absent s.position a b (not_in_trick s ok (to_play s.position) b held_b) (λ e. let o = eq.order in omega arith)

  pub follows-start : Follows a b (after s a)
  follows-start = record {
    gone = hand-gone s a;
    none = λ d low high. absent-after s.position a d (legal_can_play s ok a eq.low_legal) (eq.between d low high);
    one = trick-after-short s a (λ u. has_card u.trick.cards a ≡ true → has_card u.trick.cards b ≡ false) ok.sound (λ _ _. one_start) (λ _ h. absurd (false≢true h));
    later = trick-after-short s a
        (λ u. has_card u.trick.cards a ≡ true → (k : ℕ) → length u.trick.cards + k < 4 → has_card (hand_of (after s a) (seat_after k (to_play u))) b ≡ false) ok.sound
        (λ _ h k low. rw (turn-put s.position a k)
        (hand-after s a (seat_after (suc k) (to_play s.position)) b
        (hands_are_apart s (to_play s.position) (seat_after (suc k) (to_play s.position)) ok (turns_differ (to_play s.position) k (omega (arith, low, length_push s.position.trick.cards a))) b held_b)))
        (λ _ h. absurd (false≢true h));
  }

  pub mirrored-start : b < 52 → Mirrored a b (after s a) (after s b)
  mirrored-start low =
      let can_a = legal_can_play s ok a eq.low_legal in
      let can_b = legal_can_play s ok b eq.high_legal in
      let r = mirrored-after a b eq.suit eq.order low s s ok ok (mirrored-self s ok (to_play s.position) a b held_a held_b) a can_a (rw (swap-first a b) can_b) eq.between (λ _. one_start) in
      rw (swap-first a b) at r

-- equal cards win the same
pub equal_cards_win_the_same : (s : State) (low high : ℕ) → IsState s → AreEqual s low high → makes (after s high) ≡ makes (after s low)
equal_cards_win_the_same s low high ok eq =
    let fits = held_low s.position ok.sound high (to_play s.position) (legal_can_play s ok high eq.high_legal) in
    makes-mirrored low high eq.suit eq.order fits (suc (cards_left (after_card s.position low))) (after s low) (after s high)
    (after-IsState s ok low eq.low_legal) (after-IsState s ok high eq.high_legal)
    (mirrored-start s ok low high eq fits) (follows-start s ok low high eq) (omega arith)
