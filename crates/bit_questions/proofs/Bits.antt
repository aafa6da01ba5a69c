-- The cards of a word, card by card.
use Rattle.std.proofs.Common.{◌≡◌, ℕ, ◌+◌, Bool, true, false, ◌&&◌, inl, inr, List, [], refl, sym, ap, ap₂, ◌∙◌, arith}
use Rattle.std.specs.Prelude.{nat_lt, ◌==◌, ◌||◌}
use Rattle.std.proofs.lemmas.Bool.{cases_eq, cases_lt, eq-eqb, ne_eqb, lt-ltb, le-ltb}
use Rattle.bit_lists.specs.Bits.{has_bit, below}
use Rattle.card_sets.specs.SetWords.{has_card, cards_where}
use Rattle.card_sets.proofs.Sets.{has_card-cards_where, cards_where-agree}

-- the cards before a place whose bits are set
abbrev pub upto : ℕ → ℕ → List ℕ
upto bits place = cards_where (λ c. nat_lt c place && has_bit bits c)

or_false : (b : Bool) → (b || false) ≡ b
or_false true = refl
or_false false = refl

-- one card more
pub upto-next : (bits place : ℕ) → cards_where (λ c. has_card (upto bits place) c || ((c == place) && has_bit bits place)) ≡ upto bits (place + 1)
upto-next bits place = cards_where-agree _ _ (λ c within. ap (λ b. b || ((c == place) && has_bit bits place)) (has_card-cards_where (λ d. nat_lt d place && has_bit bits d) c within) ∙ next c)
  where
    next : (c : ℕ) → ((nat_lt c place && has_bit bits c) || ((c == place) && has_bit bits place)) ≡ (nat_lt c (place + 1) && has_bit bits c)
    next c =
        elim (cases_eq c place) [
          | inl here ↦
              ap₂ (λ b e. (b && has_bit bits c) || (e && has_bit bits place)) (le-ltb c place (omega (arith, here))) (eq-eqb c place here)
              ∙ ap (has_bit bits) (sym here)
              ∙ sym (ap (λ b. b && has_bit bits c) (lt-ltb c (place + 1) (omega (arith, here))))
          | inr other ↦
              ap (λ e. (nat_lt c place && has_bit bits c) || (e && has_bit bits place)) (ne_eqb c place other)
              ∙ or_false (nat_lt c place && has_bit bits c)
              ∙ elim (cases_lt c place) [
                | inl before ↦ ap (λ b. b && has_bit bits c) (lt-ltb c place before ∙ sym (lt-ltb c (place + 1) (omega (arith, before))))
                | inr past ↦ ap (λ b. b && has_bit bits c) (le-ltb c place past ∙ sym (le-ltb c (place + 1) (omega (arith, past, other))))
              ]
        ]

-- no card yet, and all of them
pub upto-none : (bits : ℕ) → [] ≡ upto bits 0
unfolding cards_where below
upto-none bits = refl

pub upto-all : (bits : ℕ) → upto bits 52 ≡ cards_where (has_bit bits)
upto-all bits = cards_where-agree _ _ (λ c within. ap (λ b. b && has_bit bits c) (lt-ltb c 52 within))
