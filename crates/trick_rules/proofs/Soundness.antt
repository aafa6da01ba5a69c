-- What a card leaves: the hands, the counts, and a sound position.
use Rattle.std.proofs.Common.{◌≡◌, ◌≢◌, ℕ, zero, suc, ◌+◌, ◌-◌, ◌*◌, ◌<◌, ◌≤◌, Bool, true, false, not, cond, eqb, List, [], ◌∷◌, ◌++◌, length, get_or, refl, sym, ap, ◌∙◌, inl, inr, arith, add-one, All, AllPairs}
use Rattle.std.proofs.lemmas.Bool.{false≢true, eq-eqb, ne_eqb, cases_Bool, cases_eq, or_cases}
use Rattle.std.proofs.lemmas.List.{length_push}
use Rattle.std.proofs.lemmas.List.Elements.{All-push, All-nil}
use Rattle.std.proofs.lemmas.List.Quantifiers.{all_pairs_push}
use Rattle.card_sets.specs.declared.seat.Seat.{Seat}
use Rattle.card_sets.specs.declared.seat.Seat.TheVariants.{Declarer, Left, Dummy, Right}
use Rattle.card_sets.specs.SetWords.{has_card, Apart}
use Rattle.trick_rules.specs.Positions.{TrickValue, PositionValue, seat_after, to_play, IsSound}
use Rattle.trick_rules.specs.Play.{take_out, put_card, end_trick, after_card, held_by, CanPlay, is_declarers}
use Rattle.card_sets.proofs.Sets.{IsCardSet-filter, has_card-below}
use Rattle.trick_rules.proofs.CardLists.{has_card-append, has_card-take_out, take_out-low, take_out-gone}
use Rattle.card_sets.proofs.SetCounts.{length-take_out, take_out-absent}
use Rattle.trick_rules.proofs.Turns.{count_in, same_seat, count_in-suc, count_in-none, count_in-all}

-- ---- the hands after a card

pub Apart-sym : (xs ys : List ℕ) → Apart xs ys → Apart ys xs
Apart-sym xs ys apart c h =
    elim (cases_Bool (has_card xs c)) as (λ _. has_card xs c ≡ false) [
      | inl e ↦ absurd (false≢true (sym (apart c e) ∙ h))
      | inr e ↦ e
    ]

-- the lengths of the hands fall by the card of the seat that holds it
pub record HandsFall (t : PositionValue) (card : ℕ) (seat : Seat) : Type 0 where
  pub declarer : length (take_out card t.declarer) + same_seat seat Declarer ≡ length t.declarer
  pub dummy : length (take_out card t.dummy) + same_seat seat Dummy ≡ length t.dummy
  pub unseen : length (take_out card t.unseen) + same_seat seat Left + same_seat seat Right ≡ length t.unseen

pub hands_fall : (t : PositionValue) → IsSound t → (card : ℕ) (seat : Seat) → has_card (held_by t seat) card ≡ true → HandsFall t card seat
hands_fall t sound card Declarer h = record {
  declarer = length-take_out t.declarer card sound.declarer_set h;
  dummy = omega (arith, ap (length {A = ℕ}) (take_out-absent t.dummy card (sound.declarer_dummy card h)));
  unseen = omega (arith, ap (length {A = ℕ}) (take_out-absent t.unseen card (sound.declarer_unseen card h)));
}
hands_fall t sound card Dummy h = record {
  declarer = omega (arith, ap (length {A = ℕ}) (take_out-absent t.declarer card (Apart-sym t.declarer t.dummy sound.declarer_dummy card h)));
  dummy = length-take_out t.dummy card sound.dummy_set h;
  unseen = omega (arith, ap (length {A = ℕ}) (take_out-absent t.unseen card (sound.dummy_unseen card h)));
}
hands_fall t sound card Left h = record {
  declarer = omega (arith, ap (length {A = ℕ}) (take_out-absent t.declarer card (Apart-sym t.declarer t.unseen sound.declarer_unseen card h)));
  dummy = omega (arith, ap (length {A = ℕ}) (take_out-absent t.dummy card (Apart-sym t.dummy t.unseen sound.dummy_unseen card h)));
  unseen = omega (arith, length-take_out t.unseen card sound.unseen_set h);
}
hands_fall t sound card Right h = record {
  declarer = omega (arith, ap (length {A = ℕ}) (take_out-absent t.declarer card (Apart-sym t.declarer t.unseen sound.declarer_unseen card h)));
  dummy = omega (arith, ap (length {A = ℕ}) (take_out-absent t.dummy card (Apart-sym t.dummy t.unseen sound.dummy_unseen card h)));
  unseen = omega (arith, length-take_out t.unseen card sound.unseen_set h);
}

Apart-take_out : (card : ℕ) (xs ys : List ℕ) → Apart xs ys → Apart (take_out card xs) (take_out card ys)
Apart-take_out card xs ys apart c h = has_card-take_out card ys c ∙ rw (apart c (take_out-low card xs c h)) refl

Apart-push : (card : ℕ) (xs ys : List ℕ) → Apart xs ys → Apart (xs ++ card ∷ []) (take_out card ys)
Apart-push card xs ys apart c h =
    elim (or_cases (has_card xs c) (has_card (card ∷ []) c) (sym (has_card-append xs (card ∷ []) c) ∙ h)) as (λ _. has_card (take_out card ys) c ≡ false) [
      | inl e ↦ has_card-take_out card ys c ∙ rw (apart c e) refl
      | inr e ↦ elim (cases_eq card c) as (λ _. has_card (take_out card ys) c ≡ false) [
        | inl same ↦ ap (has_card (take_out card ys)) (sym same) ∙ take_out-gone card ys
        | inr other ↦ absurd (false≢true (rw (ne_eqb card c other) at e))
      ]
    ]

-- ---- a sound position after a card

pub held_low : (t : PositionValue) → IsSound t → (card : ℕ) (seat : Seat) → has_card (held_by t seat) card ≡ true → card < 52
held_low t sound card Declarer h = has_card-below t.declarer card sound.declarer_set h
held_low t sound card Dummy h = has_card-below t.dummy card sound.dummy_set h
held_low t sound card Left h = has_card-below t.unseen card sound.unseen_set h
held_low t sound card Right h = has_card-below t.unseen card sound.unseen_set h

-- no card of the trick is held
pub trick_held : (t : PositionValue) → IsSound t → (seat : Seat) → Apart (held_by t seat) t.trick.cards
trick_held t sound Declarer = Apart-sym t.trick.cards t.declarer sound.trick_declarer
trick_held t sound Dummy = Apart-sym t.trick.cards t.dummy sound.trick_dummy
trick_held t sound Left = Apart-sym t.trick.cards t.unseen sound.trick_unseen
trick_held t sound Right = Apart-sym t.trick.cards t.unseen sound.trick_unseen

pub absent_differs : (xs : List ℕ) (card : ℕ) → has_card xs card ≡ false → (k : ℕ) (d : ℕ) → k < length xs → get_or xs k d ≡ card → ⊥
absent_differs [] card h k d low e = absurd (omega arith)
absent_differs (x ∷ xs) card h zero d low e = false≢true (sym h ∙ rw (eq-eqb x card e) refl)
absent_differs (x ∷ xs) card h (suc k) d low e =
    elim (cases_Bool (eqb x card)) as (λ _. ⊥) [
      | inl same ↦ false≢true (sym h ∙ rw same refl)
      | inr other ↦ absent_differs xs card (rw other at h) k d (omega arith) e
    ]

-- the cards of a trick with one card more
abbrev pub with_card : PositionValue → ℕ → List ℕ
with_card t c = t.trick.cards ++ c ∷ []

pub with_card-low : (t : PositionValue) (c : ℕ) → IsSound t → CanPlay t c → All (λ d. d < 52) (with_card t c)
with_card-low t c sound can = All-push (λ d. d < 52) t.trick.cards c sound.trick_cards (held_low t sound c (to_play t) can)

pub with_card-differ : (t : PositionValue) (c : ℕ) → IsSound t → CanPlay t c → AllPairs (λ d e. d ≢ e) (with_card t c)
with_card-differ t c sound can =
    all_pairs_push (λ d e. d ≢ e) t.trick.cards c sound.trick_differs (absent_differs t.trick.cards c (trick_held t sound (to_play t) c can))

pub after_short : (t : PositionValue) (card : ℕ) → length t.trick.cards < 3 → after_card t card ≡ put_card t card
after_short t card h = rw (ne_eqb (length t.trick.cards) 3 (λ e. omega arith)) refl

pub after_third : (t : PositionValue) (card : ℕ) → length t.trick.cards ≡ 3 → after_card t card ≡ end_trick (put_card t card)
after_third t card h = rw (eq-eqb (length t.trick.cards) 3 h) refl

-- the counts of the three hands and the trick's cards
record CountsFit (leader : Seat) (n declarer dummy unseen : ℕ) : Type 0 where
  pub dummy_count : dummy + count_in leader n Dummy ≡ declarer + count_in leader n Declarer
  pub unseen_count : unseen + count_in leader n Left + count_in leader n Right ≡ 2 * (declarer + count_in leader n Declarer)

sound_counts : (t : PositionValue) → IsSound t → CountsFit t.trick.leader (length t.trick.cards) (length t.declarer) (length t.dummy) (length t.unseen)
sound_counts t sound = record { dummy_count = sound.dummy_count; unseen_count = sound.unseen_count }

counts_short : (t : PositionValue) (card : ℕ) → IsSound t → CanPlay t card → length t.trick.cards < 3
    → CountsFit t.trick.leader (suc (length t.trick.cards)) (length (take_out card t.declarer)) (length (take_out card t.dummy)) (length (take_out card t.unseen))
counts_short t card sound can short =
    let n = length t.trick.cards in
    let leader = t.trick.leader in
    let seat = to_play t in
    let before = sound_counts t sound in
    let falls = hands_fall t sound card seat can in
    let low : n < 4 = omega arith in
    record {
      dummy_count = omega (arith, before.dummy_count, falls.declarer, falls.dummy, count_in-suc n leader Dummy low, count_in-suc n leader Declarer low);
      unseen_count = omega (arith, before.unseen_count, falls.declarer, falls.unseen, count_in-suc n leader Left low, count_in-suc n leader Right low, count_in-suc n leader Declarer low);
    }

counts_third : (t : PositionValue) (card : ℕ) (next : Seat) → IsSound t → CanPlay t card → length t.trick.cards ≡ 3
    → CountsFit next 0 (length (take_out card t.declarer)) (length (take_out card t.dummy)) (length (take_out card t.unseen))
counts_third t card next sound can third =
    let n = length t.trick.cards in
    let leader = t.trick.leader in
    let before = sound_counts t sound in
    let falls = hands_fall t sound card (to_play t) can in
    let low : n < 4 = omega arith in
    let full : (seat : Seat) → count_in leader n seat + same_seat (seat_after n leader) seat ≡ 1 =
    λ seat. sym (count_in-suc n leader seat low) ∙ ap (λ m. count_in leader (suc m) seat) third ∙ count_in-all leader seat in
    let none = count_in-none next in
    record {
      dummy_count = omega (arith, before.dummy_count, falls.declarer, falls.dummy, full Dummy, full Declarer, none Dummy, none Declarer);
      unseen_count = omega (arith, before.unseen_count, falls.declarer, falls.unseen, full Left, full Right, full Declarer, none Left, none Right, none Declarer);
    }

-- what holds of the hands after a card, whether or not the trick ends
put_sets : (t : PositionValue) (card : ℕ) → IsSound t → (trick : TrickValue) (need : ℕ)
    → Apart trick.cards (take_out card t.declarer) → Apart trick.cards (take_out card t.dummy) → Apart trick.cards (take_out card t.unseen)
    → length trick.cards < 4 → All (λ c. c < 52) trick.cards → AllPairs (λ c d. c ≢ d) trick.cards → need ≤ 13
    → CountsFit trick.leader (length trick.cards) (length (take_out card t.declarer)) (length (take_out card t.dummy)) (length (take_out card t.unseen))
    → IsSound (record { declarer = take_out card t.declarer; dummy = take_out card t.dummy; unseen = take_out card t.unseen; trick = trick; need = need; trump = t.trump })
put_sets t card sound trick need declarer dummy unseen short cards differs fits counts = record {
  declarer_set = IsCardSet-filter (λ c. not (eqb c card)) t.declarer sound.declarer_set;
  dummy_set = IsCardSet-filter (λ c. not (eqb c card)) t.dummy sound.dummy_set;
  unseen_set = IsCardSet-filter (λ c. not (eqb c card)) t.unseen sound.unseen_set;
  declarer_dummy = Apart-take_out card t.declarer t.dummy sound.declarer_dummy;
  declarer_unseen = Apart-take_out card t.declarer t.unseen sound.declarer_unseen;
  dummy_unseen = Apart-take_out card t.dummy t.unseen sound.dummy_unseen;
  trick_declarer = declarer;
  trick_dummy = dummy;
  trick_unseen = unseen;
  trick_short = short;
  trick_cards = cards;
  trick_differs = differs;
  need_fits = fits;
  dummy_count = counts.dummy_count;
  unseen_count = counts.unseen_count;
}

put_sound : (t : PositionValue) (card : ℕ) → IsSound t → CanPlay t card → length t.trick.cards < 3 → IsSound (put_card t card)
put_sound t card sound can short =
    let trick = (put_card t card).trick in
    let long = length_push t.trick.cards card in
    put_sets t card sound trick t.need
    (Apart-push card t.trick.cards t.declarer sound.trick_declarer)
    (Apart-push card t.trick.cards t.dummy sound.trick_dummy)
    (Apart-push card t.trick.cards t.unseen sound.trick_unseen)
    (omega (arith, long))
    (with_card-low t card sound can)
    (with_card-differ t card sound can)
    sound.need_fits
    (rw (long, add-one) (counts_short t card sound can short))

nothing_apart : (xs : List ℕ) → Apart [] xs
nothing_apart xs c h = absurd (false≢true h)

less_fits : (b : Bool) (n m : ℕ) → n ≤ m → cond b (n - 1) n ≤ m
less_fits true n m h = omega arith
less_fits false n m h = h

end_sound : (t : PositionValue) (card : ℕ) → IsSound t → CanPlay t card → length t.trick.cards ≡ 3 → IsSound (end_trick (put_card t card))
end_sound t card sound can third =
    let trick = (end_trick (put_card t card)).trick in
    put_sets t card sound trick (end_trick (put_card t card)).need
    (nothing_apart (take_out card t.declarer)) (nothing_apart (take_out card t.dummy)) (nothing_apart (take_out card t.unseen))
    (omega arith)
    (All-nil (λ c. c < 52))
    (λ i j d low high. absurd (omega arith))
    (less_fits (is_declarers trick.leader) t.need 13 sound.need_fits)
    (counts_third t card trick.leader sound can third)

-- the position after a card that the seat to play may hold is sound
pub after_card_sound : (t : PositionValue) (card : ℕ) → IsSound t → CanPlay t card → IsSound (after_card t card)
after_card_sound t card sound can =
    elim (cases_eq (length t.trick.cards) 3) as (λ _. IsSound (after_card t card)) [
      | inl third ↦ rw (after_third t card third) (end_sound t card sound can third)
      | inr other ↦ (let short : length t.trick.cards < 3 = omega (arith, sound.trick_short, other) in
          rw (after_short t card short) (put_sound t card sound can short))
    ]

-- the position after a card, put together from its parts
pub after_card-parts : (t : PositionValue) (card : ℕ) (declarer dummy unseen : List ℕ) (trick : TrickValue) (need : ℕ)
    → declarer ≡ take_out card t.declarer → dummy ≡ take_out card t.dummy → unseen ≡ take_out card t.unseen → trick ≡ (after_card t card).trick → need ≡ (after_card t card).need
    → record { declarer = declarer; dummy = dummy; unseen = unseen; trick = trick; need = need; trump = t.trump } ≡ after_card t card
after_card-parts t card declarer dummy unseen trick need a b c d e = rw (a, b, c, d, e) (whole (eqb (length t.trick.cards) 3) (end_trick (put_card t card)) (put_card t card) refl refl)
  where
    whole : (b : Bool) (u v : PositionValue) → u ≡ end_trick (put_card t card) → v ≡ put_card t card → record { declarer = take_out card t.declarer; dummy = take_out card t.dummy; unseen = take_out card t.unseen; trick = (cond b u v).trick; need = (cond b u v).need; trump = t.trump } ≡ cond b u v
    whole true u v e f = rw e refl
    whole false u v e f = rw f refl
