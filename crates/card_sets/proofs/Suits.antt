-- A card by its suit and rank, and back.
use Rattle.std.proofs.Common.{◌≡◌, ℕ, ◌<◌, ◌≤◌, true, cond, refl, ap, ap₂, ◌∙◌, inl, inr, arith}
use Rattle.std.specs.Prelude.{nat_lt, if◌then◌else◌}
use Rattle.std.proofs.lemmas.Bool.{cases_lt, lt-ltb, le-ltb, eq-eqb}
use Rattle.card_sets.specs.declared.card.Suit.{Suit}
use Rattle.card_sets.specs.declared.card.Suit.TheVariants.{Spades, Hearts, Diamonds, Clubs}
use Rattle.card_sets.specs.Cards.{suit_place, same_suit, card_of, suit_of, rank_of}

pub same_suit-true : (a b : Suit) → same_suit a b ≡ true → a ≡ b
same_suit-true Spades Spades same = refl
same_suit-true Spades Hearts same = cc
same_suit-true Spades Diamonds same = cc
same_suit-true Spades Clubs same = cc
same_suit-true Hearts Spades same = cc
same_suit-true Hearts Hearts same = refl
same_suit-true Hearts Diamonds same = cc
same_suit-true Hearts Clubs same = cc
same_suit-true Diamonds Spades same = cc
same_suit-true Diamonds Hearts same = cc
same_suit-true Diamonds Diamonds same = refl
same_suit-true Diamonds Clubs same = cc
same_suit-true Clubs Spades same = cc
same_suit-true Clubs Hearts same = cc
same_suit-true Clubs Diamonds same = cc
same_suit-true Clubs Clubs same = refl

pub same_suit-refl : (a : Suit) → same_suit a a ≡ true
same_suit-refl a = eq-eqb (suit_place a) (suit_place a) refl

-- which suit the place of a card falls into
spades_below : (c : ℕ) → c < 13 → suit_of c ≡ Spades
spades_below c high = ap (λ b. cond b Spades (if nat_lt c 26 then Hearts else if nat_lt c 39 then Diamonds else Clubs)) (lt-ltb c 13 high)

hearts_between : (c : ℕ) → 13 ≤ c → c < 26 → suit_of c ≡ Hearts
hearts_between c low high =
    ap₂ (λ a b. cond a Spades (cond b Hearts (if nat_lt c 39 then Diamonds else Clubs))) (le-ltb c 13 low) (lt-ltb c 26 high)

diamonds_between : (c : ℕ) → 26 ≤ c → c < 39 → suit_of c ≡ Diamonds
diamonds_between c low high =
    ap₂ (λ a b. cond a Spades (cond b Hearts (if nat_lt c 39 then Diamonds else Clubs))) (le-ltb c 13 (omega arith)) (le-ltb c 26 low)
    ∙ ap (λ b. cond b Diamonds Clubs) (lt-ltb c 39 high)

clubs_above : (c : ℕ) → 39 ≤ c → suit_of c ≡ Clubs
clubs_above c low =
    ap₂ (λ a b. cond a Spades (cond b Hearts (if nat_lt c 39 then Diamonds else Clubs))) (le-ltb c 13 (omega arith)) (le-ltb c 26 (omega arith))
    ∙ ap (λ b. cond b Diamonds Clubs) (le-ltb c 39 low)

pub suit_of-card_of : (suit : Suit) (rank : ℕ) → 2 ≤ rank → rank ≤ 14 → suit_of (card_of suit rank) ≡ suit
suit_of-card_of Spades rank low high = spades_below (card_of Spades rank) (omega arith)
suit_of-card_of Hearts rank low high = hearts_between (card_of Hearts rank) (omega arith) (omega arith)
suit_of-card_of Diamonds rank low high = diamonds_between (card_of Diamonds rank) (omega arith) (omega arith)
suit_of-card_of Clubs rank low high = clubs_above (card_of Clubs rank) (omega arith)

pub card_of-below : (suit : Suit) (rank : ℕ) → 2 ≤ rank → rank ≤ 14 → card_of suit rank < 52
card_of-below Spades rank low high = omega arith
card_of-below Hearts rank low high = omega arith
card_of-below Diamonds rank low high = omega arith
card_of-below Clubs rank low high = omega arith

pub rank_of-card_of : (suit : Suit) (rank : ℕ) → 2 ≤ rank → rank ≤ 14 → rank_of (card_of suit rank) ≡ rank
rank_of-card_of Spades rank low high = omega arith
rank_of-card_of Hearts rank low high = omega arith
rank_of-card_of Diamonds rank low high = omega arith
rank_of-card_of Clubs rank low high = omega arith

pub card_of-suit_of : (card : ℕ) → card < 52 → card_of (suit_of card) (rank_of card) ≡ card
card_of-suit_of card within =
    elim (cases_lt card 13) [
      | inl spade ↦ ap (λ suit. card_of suit (rank_of card)) (spades_below card spade) ∙ omega arith
      | inr above ↦
          elim (cases_lt card 26) [
            | inl heart ↦ ap (λ suit. card_of suit (rank_of card)) (hearts_between card above heart) ∙ omega arith
            | inr higher ↦
                elim (cases_lt card 39) [
                  | inl diamond ↦ ap (λ suit. card_of suit (rank_of card)) (diamonds_between card higher diamond) ∙ omega arith
                  | inr club ↦ ap (λ suit. card_of suit (rank_of card)) (clubs_above card club) ∙ omega arith
                ]
          ]
    ]
