-- A suit as it is written, one letter after another.
use Rattle.std.proofs.Common.{◌≡◌, ℕ, suc, ◌+◌, ◌-◌, ◌<◌, true, false, List, [], ◌∷◌, ◌++◌, map, filter, refl, sym, ap, ◌∙◌, arith, append_assoc, Option}
use Rattle.std.specs.List.{range_with_len, join_with_byte}
use Rattle.std.proofs.lemmas.List.{append-nil}
use Rattle.card_sets.specs.declared.card.Suit.{Suit}
use Rattle.card_sets.specs.declared.card.Suit.TheVariants.{Spades, Hearts, Diamonds, Clubs}
use Rattle.card_sets.specs.Cards.{card_of}
use Rattle.card_sets.specs.SetWords.{has_card}
use Rattle.card_letters.specs.Letters.{rank_letter}
use Rattle.pbn_deal.specs.Writing.{suit_text, hand_text, shown_text, hands_text}

-- the letters of the ranks that a hand has in a suit, of n ranks down from a place below the ace
unfoldable pub letters_from : List ℕ → Suit → ℕ → ℕ → List ℕ
letters_from cards suit place n = map rank_letter (filter (λ rank. has_card cards (card_of suit rank)) (map (λ p. 14 - p) (range_with_len place n)))

pub letters_from-all : (cards : List ℕ) (suit : Suit) → suit_text cards suit ≡ letters_from cards suit 0 13
unfolding suit_text letters_from
letters_from-all cards suit = refl

one_less : (place : ℕ) → place < 13 → 13 - place ≡ suc (13 - (place + 1))
one_less place inside = omega arith

pub letters_from-has : (cards : List ℕ) (suit : Suit) (place : ℕ) → place < 13 → has_card cards (card_of suit (14 - place)) ≡ true
    → letters_from cards suit place (13 - place) ≡ rank_letter (14 - place) ∷ letters_from cards suit (place + 1) (13 - (place + 1))
unfolding letters_from
letters_from-has cards suit place inside has = rw (one_less place inside, has) refl

pub letters_from-has_not : (cards : List ℕ) (suit : Suit) (place : ℕ) → place < 13 → has_card cards (card_of suit (14 - place)) ≡ false
    → letters_from cards suit place (13 - place) ≡ letters_from cards suit (place + 1) (13 - (place + 1))
unfolding letters_from
letters_from-has_not cards suit place inside has = rw (one_less place inside, has) refl

-- one letter is written
pub written_letter : (text more total : List ℕ) (cards : List ℕ) (suit : Suit) (place rank letter : ℕ) → place < 13 → rank ≡ 14 - place → has_card cards (card_of suit rank) ≡ true → letter ≡ rank_letter rank
    → more ≡ text ++ letter ∷ [] → text ++ letters_from cards suit place (13 - place) ≡ total → more ++ letters_from cards suit (place + 1) (13 - (place + 1)) ≡ total
written_letter text more total cards suit place rank letter inside rank-is has letter-is more-is so_far =
    let here : has_card cards (card_of suit (14 - place)) ≡ true = ap (λ r. has_card cards (card_of suit r)) (sym rank-is) ∙ has in
    let spelled : letter ≡ rank_letter (14 - place) = letter-is ∙ ap rank_letter rank-is in
    ap (λ t. t ++ letters_from cards suit (place + 1) (13 - (place + 1))) (more-is ∙ ap (λ (l : ℕ). text ++ l ∷ []) spelled)
    ∙ append_assoc text (rank_letter (14 - place) ∷ []) (letters_from cards suit (place + 1) (13 - (place + 1)))
    ∙ ap (λ t. text ++ t) (sym (letters_from-has cards suit place inside here)) ∙ so_far

-- no letter is written
pub unwritten_letter : (text total : List ℕ) (cards : List ℕ) (suit : Suit) (place rank : ℕ) → place < 13 → rank ≡ 14 - place → has_card cards (card_of suit rank) ≡ false
    → text ++ letters_from cards suit place (13 - place) ≡ total → text ++ letters_from cards suit (place + 1) (13 - (place + 1)) ≡ total
unwritten_letter text total cards suit place rank inside rank-is has so_far =
    ap (λ t. text ++ t) (sym (letters_from-has_not cards suit place inside (ap (λ r. has_card cards (card_of suit r)) (sym rank-is) ∙ has))) ∙ so_far

-- all letters are written
pub written_all : (text total : List ℕ) (cards : List ℕ) (suit : Suit) (place : ℕ) → 13 - place ≡ 0 → text ++ letters_from cards suit place (13 - place) ≡ total → text ≡ total
unfolding letters_from
written_all text total cards suit place none so_far =
    let nothing : letters_from cards suit place (13 - place) ≡ [] = rw (none) refl in
    sym (append-nil text) ∙ ap (λ t. text ++ t) (sym nothing) ∙ so_far

-- ---- pieces that are pushed one after another

pub four_joined : (front : List ℕ) (separator : ℕ) (a b c d : List ℕ) → ((((((front ++ a) ++ separator ∷ []) ++ b) ++ separator ∷ []) ++ c) ++ separator ∷ []) ++ d ≡ front ++ join_with_byte separator (a ∷ b ∷ c ∷ d ∷ [])
four_joined front separator a b c d = simp append_assoc

pub hand_text-joined : (cards : List ℕ) → hand_text cards ≡ join_with_byte 46 (suit_text cards Spades ∷ suit_text cards Hearts ∷ suit_text cards Diamonds ∷ suit_text cards Clubs ∷ [])
unfolding hand_text
hand_text-joined cards = refl

pub hands_text-joined : (north east south west : Option (List ℕ)) → hands_text (north ∷ east ∷ south ∷ west ∷ []) ≡ join_with_byte 32 (shown_text north ∷ shown_text east ∷ shown_text south ∷ shown_text west ∷ [])
unfolding hands_text
hands_text-joined north east south west = refl
