-- What the count of sure cards looks at.
use Rattle.std.proofs.Common.{◌≡◌, ◌⊎◌, ℕ, ◌<◌, ◌≤◌, Bool, true, false, not, List, [], ◌∷◌, length, filter, refl, sym, ap, ◌∙◌, inl, inr, arith}
use Rattle.std.specs.Prelude.{◌||◌, nat_lt, IsTrue, ◌↔◌}
use Rattle.std.specs.List.{list_all}
use Rattle.std.proofs.lemmas.Bool.{cases_lt, false≢true, lt-ltb, le-ltb, ltb-true, and_parts, and_from, or_cases}
use Rattle.card_sets.specs.Cards.{suit_of, same_suit}
use Rattle.card_sets.specs.SetWords.{has_card, cards_where}
use Rattle.card_sets.proofs.SetCounts.{nil_from_length}
use Rattle.card_sets.proofs.Sets.{has_card-filter, has_card-cards_where, has_card-below, IsCardSet-cards_where, fails-filter_nil, filter-all, filter-none}
use Rattle.trick_rules.specs.declared.trump.Trump.TheVariants.{NoTrump, Suit as Suited}
use Rattle.card_sets.specs.declared.card.Suit.{Suit}
use Rattle.trick_rules.specs.Play.{of_suit}
use Rattle.trick_rules.proofs.CardLists.{first_has, list_all-from_cards, cards_from_list_all}
use Rattle.sure_tricks.specs.Sure.{top_count, high_count, taken_from, trumps_of}

-- ---- no card is high

-- against a hand below which no card stands, none is high
pub none_taken : (may_ruff : Bool) (own theirs : List ℕ) → top_count own theirs ≡ 0 → taken_from may_ruff own theirs ≡ 0
none_taken may_ruff own theirs none = go may_ruff
  where
    high : high_count own theirs ≡ 0
    high = elim (cases_lt 0 (length theirs)) [
      | inl some ↦ rw (none, lt-ltb 0 (length theirs) some) refl
      | inr few ↦
          let empty : theirs ≡ [] = nil_from_length theirs (omega arith) in
          let all : top_count own theirs ≡ length own = rw empty (ap (length {A = ℕ}) (filter-all (λ c. true) own (λ c h. refl))) in
          rw (none, le-ltb 0 (length theirs) few) (sym all ∙ none)
    ]

    go : (b : Bool) → taken_from b own theirs ≡ 0
    go true = rw high (omega arith)
    go false = high

one_of : (t : ℕ → Bool) (xs ys : List ℕ) → filter t xs ≡ ys → 0 < length ys → (c : ℕ) × (has_card xs c ≡ true) × (t c ≡ true)
one_of t xs [] is some = absurd (omega arith)
one_of t xs (y ∷ ys) is some =
    let both = and_parts (has_card xs y) (t y) (sym (has_card-filter t xs y) ∙ ap (λ l. has_card l y) is ∙ first_has y ys) in
    (y, both.0, both.1)

-- where no card of a hand comes after all of three others', there is one of these after whose cards none comes
pub none_above : (own next partner last all : List ℕ)
    → ((d : ℕ) → has_card all d ≡ true → (has_card next d ≡ true) ⊎ ((has_card partner d ≡ true) ⊎ (has_card last d ≡ true)))
    → filter (λ c. list_all (λ d. nat_lt d c) all) own ≡ []
    → (top_count own next ≡ 0) ⊎ ((top_count own partner ≡ 0) ⊎ (top_count own last ≡ 0))
none_above own next partner last all parts none = elim (cases_lt 0 (top_count own next)) as (λ _. (top_count own next ≡ 0) ⊎ ((top_count own partner ≡ 0) ⊎ (top_count own last ≡ 0))) [
  | inr few ↦ inl (omega arith)
  | inl a ↦ elim (cases_lt 0 (top_count own partner)) as (λ _. (top_count own next ≡ 0) ⊎ ((top_count own partner ≡ 0) ⊎ (top_count own last ≡ 0))) [
    | inr few ↦ inr (inl (omega arith))
    | inl b ↦ elim (cases_lt 0 (top_count own last)) as (λ _. (top_count own next ≡ 0) ⊎ ((top_count own partner ≡ 0) ⊎ (top_count own last ≡ 0))) [
      | inr few ↦ inr (inr (omega arith))
      | inl c ↦ absurd (three (one_of (λ x. list_all (λ d. nat_lt d x) next) own _ refl a) (one_of (λ x. list_all (λ d. nat_lt d x) partner) own _ refl b) (one_of (λ x. list_all (λ d. nat_lt d x) last) own _ refl c))
    ]
  ]
]
  where
    under : (theirs : List ℕ) (x m d : ℕ) → list_all (λ e. nat_lt e x) theirs ≡ true → x ≤ m → has_card theirs d ≡ true → nat_lt d m ≡ true
    under theirs x m d over less held = let low = ltb-true d x (cards_from_list_all (λ e. nat_lt e x) theirs over d held) in lt-ltb d m (omega arith)

    greatest : (x y z m : ℕ) → has_card own m ≡ true → x ≤ m → y ≤ m → z ≤ m → list_all (λ d. nat_lt d x) next ≡ true → list_all (λ d. nat_lt d y) partner ≡ true → list_all (λ d. nat_lt d z) last ≡ true → ⊥
    greatest x y z m held xm ym zm over_next over_partner over_last = false≢true (sym (fails-filter_nil (λ c. list_all (λ d. nat_lt d c) all) own m none held)
        ∙ list_all-from_cards (λ d. nat_lt d m) all (λ d k. elim (parts d k) as (λ _. nat_lt d m ≡ true) [
          | inl i ↦ under next x m d over_next xm i
          | inr o ↦ elim o as (λ _. nat_lt d m ≡ true) [ inl i ↦ under partner y m d over_partner ym i | inr i ↦ under last z m d over_last zm i ]
        ]))

    three : (x : ℕ) × (has_card own x ≡ true) × (list_all (λ d. nat_lt d x) next ≡ true) → (y : ℕ) × (has_card own y ≡ true) × (list_all (λ d. nat_lt d y) partner ≡ true)
        → (z : ℕ) × (has_card own z ≡ true) × (list_all (λ d. nat_lt d z) last ≡ true) → ⊥
    three (x, hx, ox) (y, hy, oy) (z, hz, oz) = elim (cases_lt x y) [
      | inl xy ↦ elim (cases_lt y z) [
        | inl yz ↦ greatest x y z z hz (omega arith) (omega arith) (omega arith) ox oy oz
        | inr zy ↦ greatest x y z y hy (omega arith) (omega arith) (omega arith) ox oy oz
      ]
      | inr yx ↦ elim (cases_lt x z) [
        | inl xz ↦ greatest x y z z hz (omega arith) (omega arith) (omega arith) ox oy oz
        | inr zx ↦ greatest x y z x hx (omega arith) (omega arith) (omega arith) ox oy oz
      ]
    ]

pub no_trumps : (hand : List ℕ) → [] ≡ trumps_of NoTrump hand
no_trumps hand = sym (filter-none (λ c. false) hand (λ c h. refl))

pub some_by_length : (none : Bool) (xs : List ℕ) → IsTrue none ↔ (xs ≡ []) → not none ≡ nat_lt 0 (length xs)
some_by_length none [] tells = ap not (tells.1 refl)
some_by_length true (x ∷ xs) tells = absurd (no_cards (tells.0 refl))
  where
    no_cards : x ∷ xs ≡ [] → ⊥
    no_cards e = cc
some_by_length false (x ∷ xs) tells = sym (lt-ltb 0 (length (x ∷ xs)) (omega arith))

pub suited_same : (one other : Suit) → Suited one ≡ Suited other → one ≡ other
suited_same one other e = cc

-- the cards of three hands in a suit
pub in_one_of : (suit : Suit) (next partner last : List ℕ) (d : ℕ)
    → has_card (of_suit suit (cards_where (λ c. has_card (cards_where (λ e. has_card next e || has_card partner e)) c || has_card last c))) d ≡ true
    → (has_card (of_suit suit next) d ≡ true) ⊎ ((has_card (of_suit suit partner) d ≡ true) ⊎ (has_card (of_suit suit last) d ≡ true))
in_one_of suit next partner last d held =
    let both = and_parts (has_card others d) (same_suit (suit_of d) suit) (sym (has_card-filter (λ c. same_suit (suit_of c) suit) others d) ∙ held) in
    elim (either_of ours last d both.0) as (λ _. (has_card (of_suit suit next) d ≡ true) ⊎ ((has_card (of_suit suit partner) d ≡ true) ⊎ (has_card (of_suit suit last) d ≡ true))) [
      | inr c ↦ inr (inr (here last both.1 c))
      | inl o ↦ elim (either_of next partner d o) as (λ _. (has_card (of_suit suit next) d ≡ true) ⊎ ((has_card (of_suit suit partner) d ≡ true) ⊎ (has_card (of_suit suit last) d ≡ true))) [
        | inl a ↦ inl (here next both.1 a)
        | inr b ↦ inr (inl (here partner both.1 b))
      ]
    ]
  where
    ours : List ℕ
    ours = cards_where (λ e. has_card next e || has_card partner e)

    others : List ℕ
    others = cards_where (λ c. has_card ours c || has_card last c)

    either_of : (these those : List ℕ) (c : ℕ) → has_card (cards_where (λ e. has_card these e || has_card those e)) c ≡ true → (has_card these c ≡ true) ⊎ (has_card those c ≡ true)
    either_of these those c k =
        let within = has_card-below (cards_where (λ e. has_card these e || has_card those e)) c (IsCardSet-cards_where (λ e. has_card these e || has_card those e)) k in
        or_cases (has_card these c) (has_card those c) (sym (has_card-cards_where (λ e. has_card these e || has_card those e) c within) ∙ k)

    here : (hand : List ℕ) → same_suit (suit_of d) suit ≡ true → has_card hand d ≡ true → has_card (of_suit suit hand) d ≡ true
    here hand same k = has_card-filter (λ c. same_suit (suit_of c) suit) hand d ∙ and_from (has_card hand d) (same_suit (suit_of d) suit) k same
