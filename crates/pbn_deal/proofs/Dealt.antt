-- What holds while cards are read: what is left to read completes what was read.
use Rattle.std.proofs.Common.{◌≡◌, ℕ, ◌+◌, ◌<◌, ◌≤◌, true, false, ◌||◌, get_or, List, [], ◌∷◌, ◌++◌, length, map, drop, Option, Some, None, refl, sym, ap, subst, ◌∙◌, arith}
use Rattle.std.specs.Prelude.{◌==◌, filter_map}
use Rattle.std.specs.List.{cons_option}
use Rattle.std.proofs.lemmas.List.{drop_more, drop_all}
use Rattle.card_sets.specs.declared.card.Suit.{Suit}
use Rattle.card_sets.specs.declared.card.Suit.TheVariants.{Spades, Hearts, Diamonds, Clubs}
use Rattle.card_sets.specs.Cards.{card_of}
use Rattle.card_sets.specs.SetWords.{has_card, cards_where, IsCardSet}
use Rattle.card_letters.specs.Letters.{rank_read}
use Rattle.card_sets.proofs.Sets.{cards_where-agree}
use Rattle.pbn_deal.specs.Hands.{is_hidden, suits_of, suit_order, suit_cards, cards_in, hand_cards, hand_read}
use Rattle.pbn_deal.specs.Deal.{has_repeat}
use Rattle.pbn_deal.specs.Dealing.{repeats, Adds}
use Rattle.pbn_deal.proofs.Cards.{has_card-append, Adds-with, Adds-more, Adds-none, repeats-append, repeats-none}

-- from the cards seen and the hand at the start, all of these cards are to be read; now these sets are reached, and the rest is left
pub record IsReading (seen hand all now_seen now_hand rest : List ℕ) : Type 0 where
  pub repeated : repeats now_seen rest ≡ repeats seen all
  pub seen_adds : (last : List ℕ) → Adds now_seen last rest → Adds seen last all
  pub hand_adds : (last : List ℕ) → Adds now_hand last rest → Adds hand last all
  pub a_set : IsCardSet now_hand

pub IsReading-start : (seen hand all : List ℕ) → IsCardSet hand → IsReading seen hand all seen hand all
IsReading-start seen hand all a_set = record { repeated = refl; seen_adds = λ last adds. adds; hand_adds = λ last adds. adds; a_set = a_set }

-- a set with these cards beside its own
with_cards : (seen cards : List ℕ) → Adds seen (seen ++ cards) cards
with_cards seen cards c = has_card-append seen cards c

-- one of the next cards repeats
pub IsReading-repeated : (seen hand all now_seen now_hand next rest : List ℕ) → IsReading seen hand all now_seen now_hand (next ++ rest) → repeats now_seen next ≡ true → repeats seen all ≡ true
IsReading-repeated seen hand all now_seen now_hand next rest reading repeated =
    sym reading.repeated ∙ repeats-append now_seen (now_seen ++ next) next rest (with_cards now_seen next) ∙ ap (λ b. b || repeats (now_seen ++ next) rest) repeated

-- the next cards are new
pub IsReading-more : (seen hand all now_seen now_hand next rest more_seen more_hand : List ℕ) → IsReading seen hand all now_seen now_hand (next ++ rest) → repeats now_seen next ≡ false
    → Adds now_seen more_seen next → Adds now_hand more_hand next → IsCardSet more_hand → IsReading seen hand all more_seen more_hand rest
IsReading-more seen hand all now_seen now_hand next rest more_seen more_hand reading new seen_more hand_more a_set = record {
  repeated = sym (repeats-append now_seen more_seen next rest seen_more ∙ ap (λ b. b || repeats more_seen rest) new) ∙ reading.repeated;
  seen_adds = λ last adds. reading.seen_adds last (Adds-more now_seen more_seen last next rest seen_more adds);
  hand_adds = λ last adds. reading.hand_adds last (Adds-more now_hand more_hand last next rest hand_more adds);
  a_set = a_set;
}

-- the next card is new
pub IsReading-card : (seen hand all now_seen now_hand rest : List ℕ) (card : ℕ) → IsReading seen hand all now_seen now_hand (card ∷ rest) → has_card now_seen card ≡ false → IsCardSet now_seen → card < 52
    → (more_seen more_hand : List ℕ) → more_seen ≡ cards_where (λ c. has_card now_seen c || (c == card)) → more_hand ≡ cards_where (λ c. has_card now_hand c || (c == card)) → IsCardSet more_hand
    → IsReading seen hand all more_seen more_hand rest
IsReading-card seen hand all now_seen now_hand rest card reading new seen_set below more_seen more_hand seen-is hand-is a_set =
    IsReading-more seen hand all now_seen now_hand (card ∷ []) rest more_seen more_hand reading (rw (new) refl) (rw (seen-is) (Adds-with now_seen card seen_set below)) (rw (hand-is) (Adds-with now_hand card reading.a_set below)) a_set

-- all is read
pub record IsRead (seen hand all now_seen now_hand : List ℕ) : Type 0 where
  pub a_set : IsCardSet now_hand
  pub new : repeats seen all ≡ false
  pub seen_adds : Adds seen now_seen all
  pub hand_adds : Adds hand now_hand all

pub IsRead-end : (seen hand all now_seen now_hand rest : List ℕ) → rest ≡ [] → IsReading seen hand all now_seen now_hand rest → IsRead seen hand all now_seen now_hand
IsRead-end seen hand all now_seen now_hand rest none reading =
    let nothing : repeats now_seen rest ≡ false = rw (none) refl in
    record {
      a_set = reading.a_set;
      new = sym reading.repeated ∙ nothing;
      seen_adds = reading.seen_adds now_seen (rw (none) (Adds-none now_seen));
      hand_adds = reading.hand_adds now_hand (rw (none) (Adds-none now_hand));
    }

-- ---- the letters of a suit

some_cards : (suit : Suit) (found : Option ℕ) (ranks : List ℕ) (rank : ℕ) → found ≡ Some rank → map (card_of suit) (cons_option found ranks) ≡ card_of suit rank ∷ map (card_of suit) ranks
some_cards suit found ranks rank is = rw (is) refl

no_card : (suit : Suit) (found : Option ℕ) (ranks : List ℕ) → found ≡ None → map (card_of suit) (cons_option found ranks) ≡ map (card_of suit) ranks
no_card suit found ranks is = rw (is) refl

pub suit_cards-some : (suit : Suit) (letters : List ℕ) (i rank : ℕ) → i < length letters → rank_read (get_or letters i 0) ≡ Some rank → suit_cards suit (drop i letters) ≡ card_of suit rank ∷ suit_cards suit (drop (i + 1) letters)
suit_cards-some suit letters i rank inside is =
    ap (suit_cards suit) (drop_more letters i 0 inside) ∙ some_cards suit (rank_read (get_or letters i 0)) (filter_map rank_read (drop (i + 1) letters)) rank is

pub suit_cards-none : (suit : Suit) (letters : List ℕ) (i : ℕ) → i < length letters → rank_read (get_or letters i 0) ≡ None → suit_cards suit (drop i letters) ≡ suit_cards suit (drop (i + 1) letters)
suit_cards-none suit letters i inside is =
    ap (suit_cards suit) (drop_more letters i 0 inside) ∙ no_card suit (rank_read (get_or letters i 0)) (filter_map rank_read (drop (i + 1) letters)) is

pub suit_cards-end : (suit : Suit) (letters : List ℕ) (i : ℕ) → length letters ≤ i → suit_cards suit (drop i letters) ≡ []
suit_cards-end suit letters i past = ap (suit_cards suit) (drop_all i letters past)

pub card_of-below : (suit : Suit) (rank : ℕ) → 2 ≤ rank → rank ≤ 14 → card_of suit rank < 52
card_of-below Spades rank low high = omega arith
card_of-below Hearts rank low high = omega arith
card_of-below Diamonds rank low high = omega arith
card_of-below Clubs rank low high = omega arith

-- ---- a whole hand

-- the cards of a hand that was read are the set that it shows
pub read_set : (hand cards : List ℕ) → IsCardSet hand → Adds [] hand cards → hand ≡ cards_where (has_card cards)
read_set hand cards a_set adds = a_set ∙ cards_where-agree (has_card hand) (has_card cards) (λ c below. adds c)

-- what reading a word gives: its hand, and the cards seen then
pub record IsHandRead (seen now_seen word : List ℕ) (hand : Option (List ℕ)) : Type 0 where
  pub value : hand ≡ hand_read word
  pub new : repeats seen (hand_cards word) ≡ false
  pub adds : Adds seen now_seen (hand_cards word)

pub hand_cards-hidden : (word : List ℕ) → is_hidden word ≡ true → hand_cards word ≡ []
unfolding hand_cards
hand_cards-hidden word hidden = rw (hidden) refl

pub hand_cards-shown : (word : List ℕ) → is_hidden word ≡ false → hand_cards word ≡ cards_in suit_order (suits_of word)
unfolding hand_cards
hand_cards-shown word shown = rw (shown) refl

hand_read-hidden : (word : List ℕ) → is_hidden word ≡ true → hand_read word ≡ None
unfolding hand_read
hand_read-hidden word hidden = rw (hidden) refl

hand_read-shown : (word : List ℕ) → is_hidden word ≡ false → hand_read word ≡ Some (cards_where (has_card (hand_cards word)))
unfolding hand_read
hand_read-shown word shown = rw (shown) refl

pub IsHandRead-hidden : (seen word : List ℕ) → is_hidden word ≡ true → IsHandRead seen seen word None
IsHandRead-hidden seen word hidden =
    let none = hand_cards-hidden word hidden in
    record { value = sym (hand_read-hidden word hidden); new = rw (none) refl; adds = rw (none) (Adds-none seen) }

pub IsHandRead-shown : (seen now_seen hand word rest empty : List ℕ) → is_hidden word ≡ false → empty ≡ [] → rest ≡ [] → IsReading seen empty (cards_in suit_order (suits_of word)) now_seen hand rest → IsHandRead seen now_seen word (Some hand)
IsHandRead-shown seen now_seen hand word rest empty shown empty-is none reading =
    let cards = hand_cards-shown word shown in
    let read = IsRead-end seen empty (cards_in suit_order (suits_of word)) now_seen hand rest none reading in
    let adds : Adds [] hand (hand_cards word) = subst (λ start. Adds start hand (hand_cards word)) empty-is (rw (cards) read.hand_adds) in
    record {
      value = ap (λ (h : List ℕ). Some h) (read_set hand (hand_cards word) read.a_set adds) ∙ sym (hand_read-shown word shown);
      new = rw (cards) read.new;
      adds = rw (cards) read.seen_adds;
    }

-- ---- hands one after another

-- no card is in two of the hands before these cards, and their cards are seen
pub record AreDealt (before : List ℕ → List ℕ) (seen : List ℕ) : Type 0 where
  rest : (cards : List ℕ) → has_repeat (before cards) ≡ repeats seen cards

pub none_dealt : {seen : List ℕ} → seen ≡ [] → AreDealt (λ cards. cards) seen
none_dealt none = record { rest = λ cards. sym (ap (λ s. repeats s cards) none ∙ repeats-none cards) }

-- one hand more
pub more_dealt : {before : List ℕ → List ℕ} {seen : List ℕ} (hand next : List ℕ) → AreDealt before seen → repeats seen hand ≡ false → Adds seen next hand → AreDealt (λ cards. before (hand ++ cards)) next
more_dealt {seen = seen} hand next dealt new adds = record {
  rest = λ cards. dealt.rest (hand ++ cards) ∙ repeats-append seen next hand cards adds ∙ ap (λ b. b || repeats next cards) new;
}

-- a hand that repeats a card
pub hand_repeats : {before : List ℕ → List ℕ} {seen : List ℕ} (hand cards : List ℕ) → AreDealt before seen → repeats seen hand ≡ true → has_repeat (before (hand ++ cards)) ≡ true
hand_repeats {seen = seen} hand cards dealt repeated =
    dealt.rest (hand ++ cards) ∙ repeats-append seen (seen ++ hand) hand cards (with_cards seen hand) ∙ ap (λ b. b || repeats (seen ++ hand) cards) repeated

pub all_dealt : {before : List ℕ → List ℕ} {seen : List ℕ} → AreDealt before seen → has_repeat (before []) ≡ false
all_dealt dealt = dealt.rest []
