-- The highest cards of each suit of a hand, this many of each.
use Rattle.std.proofs.Common.{◌≡◌, ◌⊎◌, ℕ, suc, ◌+◌, ◌<◌, ◌≤◌, Bool, true, false, ◌&&◌, eqb, cond, nat_lt, List, [], ◌∷◌, length, filter, min, refl, sym, ap, ap₂, ◌∙◌, inl, inr, arith}
use Rattle.std.specs.List.{list_all}
use Rattle.std.proofs.lemmas.Bool.{cases_Bool, cases_lt, false≢true, and_parts, lt-ltb, le-ltb, ltb-true}
use Rattle.std.proofs.Math.Nat.{min-le_right}
use Rattle.card_sets.specs.declared.card.Suit.{Suit}
use Rattle.card_sets.specs.declared.card.Suit.TheVariants.{Spades, Hearts, Diamonds, Clubs}
use Rattle.card_sets.specs.Cards.{suit_of, same_suit}
use Rattle.card_sets.specs.SetWords.{has_card, IsCardSet}
use Rattle.card_sets.proofs.Sets.{has_card-filter, filter-all, IsCardSet-filter, IsCardSet-tail, tail-after}
use Rattle.card_sets.proofs.SetCounts.{length-IsSubset}
use Rattle.card_sets.proofs.Suits.{same_suit-true}
use Rattle.trick_rules.specs.Play.{of_suit}
use Rattle.trick_rules.proofs.CardLists.{first_has, or_true, cards_from_list_all, list_all-from_cards}
use Rattle.sure_tricks.specs.Sure.{above, top_count, high_count, AreHigh}
use Rattle.sure_tricks.proofs.Counting.{filter-filter}
use Rattle.sure_tricks.proofs.Holding.{suit_test}

-- ---- lists

filter-agree : (p q : ℕ → Bool) (xs : List ℕ) → ((c : ℕ) → has_card xs c ≡ true → p c ≡ q c) → filter p xs ≡ filter q xs
filter-agree p q [] same = refl
filter-agree p q (x ∷ xs) same = rw (same x (first_has x xs), filter-agree p q xs (λ c h. same c (rw h (or_true (eqb x c))))) refl

filter-both : (p q : ℕ → Bool) (xs : List ℕ) → filter p (filter q xs) ≡ filter (λ c. q c && p c) xs
filter-both p q [] = refl
filter-both p q (x ∷ xs) = go (q x) refl (filter-both p q xs)
  where
    go : (b : Bool) → q x ≡ b → filter p (filter q xs) ≡ filter (λ c. q c && p c) xs
        → filter p (cond b (x ∷ filter q xs) (filter q xs)) ≡ cond (b && p x) (x ∷ filter (λ c. q c && p c) xs) (filter (λ c. q c && p c) xs)
    go true e rest = ap (λ (l : List ℕ). cond (p x) (x ∷ l) l) rest
    go false e rest = rest

length-part : (p : ℕ → Bool) (xs : List ℕ) → length (filter p xs) ≤ length xs
length-part p [] = omega arith
length-part p (x ∷ xs) = go (p x) (length-part p xs)
  where
    go : (b : Bool) → length (filter p xs) ≤ length xs → length (cond b (x ∷ filter p xs) (filter p xs)) ≤ suc (length xs)
    go true rest = omega arith
    go false rest = omega arith

-- ---- the highest k of a set

abbrev highest : ℕ → List ℕ → List ℕ
highest k xs = filter (λ c. nat_lt (length (filter (nat_lt c) xs)) k) xs

length-highest : (k : ℕ) (xs : List ℕ) → IsCardSet xs → length (highest k xs) ≡ min k (length xs)
length-highest k [] set = sym (min-eq_left' k)
  where
    min-eq_left' : (k : ℕ) → min k 0 ≡ 0
    min-eq_left' k = omega (arith, min-le_right k 0)
length-highest k (x ∷ xs) set =
    ap (length {A = ℕ}) (ap₂ (λ (b : Bool) (l : List ℕ). cond b (x ∷ l) l) first others)
    ∙ go (cases_lt (length xs) k) (length-highest k xs (IsCardSet-tail x xs set))
  where
    none_below : (c : ℕ) → has_card xs c ≡ true → filter (nat_lt c) (x ∷ xs) ≡ filter (nat_lt c) xs
    none_below c h = let past = tail-after x xs set c h in rw (le-ltb c x (omega arith)) refl

    first : nat_lt (length (filter (nat_lt x) (x ∷ xs))) k ≡ nat_lt (length xs) k
    first = ap (λ (l : List ℕ). nat_lt (length l) k) (filter_head ∙ filter-all (nat_lt x) xs (λ c h. lt-ltb x c (tail-after x xs set c h)))
      where
        filter_head : filter (nat_lt x) (x ∷ xs) ≡ filter (nat_lt x) xs
        filter_head = rw (le-ltb x x (omega arith)) refl

    others : filter (λ c. nat_lt (length (filter (nat_lt c) (x ∷ xs))) k) xs ≡ filter (λ c. nat_lt (length (filter (nat_lt c) xs)) k) xs
    others = filter-agree _ _ xs (λ c h. ap (λ (l : List ℕ). nat_lt (length l) k) (none_below c h))

    go : (length xs < k) ⊎ (k ≤ length xs) → length (filter (λ c. nat_lt (length (filter (nat_lt c) xs)) k) xs) ≡ min k (length xs)
        → length (cond (nat_lt (length xs) k) (x ∷ filter (λ c. nat_lt (length (filter (nat_lt c) xs)) k) xs) (filter (λ c. nat_lt (length (filter (nat_lt c) xs)) k) xs)) ≡ min k (suc (length xs))
    go (inl more) rest = rw (lt-ltb (length xs) k more) (omega arith)
    go (inr less) rest = rw (le-ltb (length xs) k less) (omega arith)

-- ---- this many of each suit

above-in_suit : (c : ℕ) (own : List ℕ) → above c own ≡ filter (nat_lt c) (of_suit (suit_of c) own)
above-in_suit c own = sym (filter-both (nat_lt c) (λ d. same_suit (suit_of d) (suit_of c)) own)

-- the cards with fewer of their suit above them than their suit's number
abbrev pub picked : (Suit → ℕ) → List ℕ → List ℕ
picked k own = filter (λ c. nat_lt (length (above c own)) (k (suit_of c))) own

module _ (k : Suit → ℕ) (own : List ℕ) (set : IsCardSet own) where
  pub in_suit : (suit : Suit) → length (of_suit suit (picked k own)) ≡ min (k suit) (length (of_suit suit own))
  in_suit suit =
      ap (length {A = ℕ}) (filter-filter (λ c. same_suit (suit_of c) suit) (λ c. nat_lt (length (above c own)) (k (suit_of c))) own
      ∙ filter-agree _ _ (of_suit suit own) each)
      ∙ length-highest (k suit) (of_suit suit own) (IsCardSet-filter (λ c. same_suit (suit_of c) suit) own set)
    where
      each : (c : ℕ) → has_card (of_suit suit own) c ≡ true → nat_lt (length (above c own)) (k (suit_of c)) ≡ nat_lt (length (filter (nat_lt c) (of_suit suit own))) (k suit)
      each c h =
          let both = and_parts (has_card own c) (same_suit (suit_of c) suit) (sym (has_card-filter (λ d. same_suit (suit_of d) suit) own c) ∙ h) in
          let is : suit_of c ≡ suit = same_suit-true (suit_of c) suit both.1 in
          ap (λ (l : List ℕ). nat_lt (length l) (k (suit_of c))) (above-in_suit c own)
          ∙ ap (λ (s : Suit). nat_lt (length (filter (nat_lt c) (of_suit s own))) (k s)) is

  -- ---- they are high where each number is within what is high

  module _ (hand : List ℕ) (within : (suit : Suit) → k suit ≤ high_count (of_suit suit own) (of_suit suit hand)) where
    pub picked_high : AreHigh (picked k own) hand
    picked_high card mem = elim (cases_Bool (list_all (λ d. nat_lt d card) (of_suit (suit_of card) hand))) as (λ _. ((c : ℕ) → has_card hand c ≡ true → same_suit (suit_of c) (suit_of card) ≡ true → c < card) ⊎ (length (of_suit (suit_of card) hand) ≤ length (above card (picked k own)))) [
      | inl top ↦ inl (λ c held suit. ltb-true c card (cards_from_list_all (λ d. nat_lt d card) (of_suit (suit_of card) hand) top c (has_card-filter (λ d. same_suit (suit_of d) (suit_of card)) hand c ∙ rw (held, suit) refl)))
      | inr low ↦ inr (enough low)
    ]
      where
        parts : (has_card own card ≡ true) × (nat_lt (length (above card own)) (k (suit_of card)) ≡ true)
        parts = and_parts (has_card own card) (nat_lt (length (above card own)) (k (suit_of card))) (sym (has_card-filter (λ c. nat_lt (length (above c own)) (k (suit_of c))) own card) ∙ mem)

        -- a card that stands above all of theirs is higher than one that doesn't
        higher : list_all (λ d. nat_lt d card) (of_suit (suit_of card) hand) ≡ false → (c : ℕ) → list_all (λ d. nat_lt d c) (of_suit (suit_of card) hand) ≡ true → card < c
        higher low c top = elim (cases_lt card c) as (λ _. card < c) [
          | inl more ↦ more
          | inr less ↦ absurd (false≢true (sym low ∙ list_all-from_cards (λ d. nat_lt d card) (of_suit (suit_of card) hand) (λ d held.
              let below = ltb-true d c (cards_from_list_all (λ e. nat_lt e c) (of_suit (suit_of card) hand) top d held) in
              lt-ltb d card (omega arith))))
        ]

        tops_set : IsCardSet (filter (λ c. list_all (λ d. nat_lt d c) (of_suit (suit_of card) hand)) (of_suit (suit_of card) own))
        tops_set = IsCardSet-filter _ _ (IsCardSet-filter (λ c. same_suit (suit_of c) (suit_of card)) own set)

        -- of a card that stands above all of theirs
        top_parts : (c : ℕ) → has_card (filter (λ c. list_all (λ d. nat_lt d c) (of_suit (suit_of card) hand)) (of_suit (suit_of card) own)) c ≡ true
            → (has_card own c ≡ true) × (suit_of c ≡ suit_of card) × (list_all (λ d. nat_lt d c) (of_suit (suit_of card) hand) ≡ true)
        top_parts c h =
            let one = and_parts (has_card (of_suit (suit_of card) own) c) (list_all (λ d. nat_lt d c) (of_suit (suit_of card) hand)) (sym (has_card-filter _ (of_suit (suit_of card) own) c) ∙ h) in
            let two = and_parts (has_card own c) (same_suit (suit_of c) (suit_of card)) (sym (has_card-filter (λ d. same_suit (suit_of d) (suit_of card)) own c) ∙ one.0) in
            (two.0, same_suit-true (suit_of c) (suit_of card) two.1, one.1)

        in_above : (cards : List ℕ) (c : ℕ) → has_card cards c ≡ true → suit_of c ≡ suit_of card → card < c → has_card (above card cards) c ≡ true
        in_above cards c held same past = has_card-filter (λ d. same_suit (suit_of d) (suit_of card) && nat_lt card d) cards c ∙ rw (held, suit_test c (suit_of card) same, lt-ltb card c past) refl

        above_set : (cards : List ℕ) → IsCardSet cards → IsCardSet (above card cards)
        above_set cards s = IsCardSet-filter (λ d. same_suit (suit_of d) (suit_of card) && nat_lt card d) cards s

        -- a card above one that is picked is picked
        picked_above : (c : ℕ) → has_card own c ≡ true → suit_of c ≡ suit_of card → card < c → has_card (picked k own) c ≡ true
        picked_above c held same past =
            let fewer = length-IsSubset (above card own) (above c own) (above_set own set) (IsCardSet-filter (λ d. same_suit (suit_of d) (suit_of c) && nat_lt c d) own set) (λ d h.
            let one = and_parts (has_card own d) (same_suit (suit_of d) (suit_of c) && nat_lt c d) (sym (has_card-filter (λ e. same_suit (suit_of e) (suit_of c) && nat_lt c e) own d) ∙ h) in
            let two = and_parts (same_suit (suit_of d) (suit_of c)) (nat_lt c d) one.1 in
            let more = ltb-true c d two.1 in
            in_above own d one.0 (same_suit-true (suit_of d) (suit_of c) two.0 ∙ same) (omega arith)) in
            let few = ltb-true (length (above card own)) (k (suit_of card)) parts.1 in
            let number = ap k same in
            has_card-filter (λ d. nat_lt (length (above d own)) (k (suit_of d))) own c ∙ rw (held, lt-ltb (length (above c own)) (k (suit_of c)) (omega arith)) refl

        enough : list_all (λ d. nat_lt d card) (of_suit (suit_of card) hand) ≡ false → length (of_suit (suit_of card) hand) ≤ length (above card (picked k own))
        enough low =
            let all_above = length-IsSubset (above card own) _ (above_set own set) tops_set (λ c h. let p = top_parts c h in in_above own c p.0 p.1 (higher low c p.2)) in
            let all_picked = length-IsSubset (above card (picked k own)) _ (above_set (picked k own) (IsCardSet-filter _ own set)) tops_set
            (λ c h. let p = top_parts c h in in_above (picked k own) c (picked_above c p.0 p.1 (higher low c p.2)) p.1 (higher low c p.2)) in
            let few = ltb-true (length (above card own)) (k (suit_of card)) parts.1 in
            let most = within (suit_of card) in
            elim (cases_lt (top_count (of_suit (suit_of card) own) (of_suit (suit_of card) hand)) (length (of_suit (suit_of card) hand))) as (λ _. length (of_suit (suit_of card) hand) ≤ length (above card (picked k own))) [
              | inl less ↦ (let is : high_count (of_suit (suit_of card) own) (of_suit (suit_of card) hand) ≡ top_count (of_suit (suit_of card) own) (of_suit (suit_of card) hand) = rw (lt-ltb _ _ less) refl in absurd (omega arith))
              | inr more ↦ omega arith
            ]

-- ---- a hand by its suits

pub by_suits : (xs : List ℕ) → length xs ≡ length (of_suit Spades xs) + length (of_suit Hearts xs) + length (of_suit Diamonds xs) + length (of_suit Clubs xs)
by_suits [] = refl
by_suits (x ∷ xs) = go (suit_of x) (by_suits xs)
  where
    go : (u : Suit) → length xs ≡ length (of_suit Spades xs) + length (of_suit Hearts xs) + length (of_suit Diamonds xs) + length (of_suit Clubs xs)
        → suc (length xs) ≡ length (cond (same_suit u Spades) (x ∷ of_suit Spades xs) (of_suit Spades xs)) + length (cond (same_suit u Hearts) (x ∷ of_suit Hearts xs) (of_suit Hearts xs))
        + length (cond (same_suit u Diamonds) (x ∷ of_suit Diamonds xs) (of_suit Diamonds xs)) + length (cond (same_suit u Clubs) (x ∷ of_suit Clubs xs) (of_suit Clubs xs))
    go Spades rest = omega arith
    go Hearts rest = omega arith
    go Diamonds rest = omega arith
    go Clubs rest = omega arith

-- the same, with a number for each suit
pub length_by_suits : (xs : List ℕ) (number : Suit → ℕ) → ((suit : Suit) → length (of_suit suit xs) ≡ number suit) → length xs ≡ number Spades + number Hearts + number Diamonds + number Clubs
length_by_suits xs number are = omega (arith, by_suits xs, are Spades, are Hearts, are Diamonds, are Clubs)

-- what is high is no more than there is
pub high_count-part : (own theirs : List ℕ) → high_count own theirs ≤ length own
high_count-part own theirs = go (nat_lt (top_count own theirs) (length theirs)) (length-part (λ c. list_all (λ d. nat_lt d c) theirs) own)
  where
    go : (b : Bool) → top_count own theirs ≤ length own → cond b (top_count own theirs) (length own) ≤ length own
    go true h = h
    go false h = omega arith
