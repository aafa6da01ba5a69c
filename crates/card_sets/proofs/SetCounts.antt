-- How many cards sets have: no word and no bit is spoken of here.
use Rattle.std.proofs.Common.{◌≡◌, ℕ, zero, suc, ◌+◌, ◌<◌, ◌≤◌, Bool, true, false, not, cond, List, [], ◌∷◌, length, refl, sym, ap, ap₂, ◌∙◌, inl, inr, arith}
use Rattle.std.specs.Prelude.{◌==◌, ◌&&◌, ◌||◌, filter}
use Rattle.std.specs.List.{range_with_len}
use Rattle.std.proofs.lemmas.Bool.{eqb-true, eq-eqb, ne_eqb, cases_eq, both_ways, not-false, true≢false}
use Rattle.std.proofs.lemmas.List.Filters.{length-filter_both}
use Rattle.std.proofs.lemmas.List.FromFn.{length-range_with_len}
use Rattle.bit_lists.specs.Bits.{below}
use Rattle.card_sets.specs.SetWords.{has_card, cards_where, IsCardSet, IsSubset, Apart}
use Rattle.card_sets.proofs.Sets.{has_card-filter, fails-filter_nil, filter-all, filter-cards_where, cards_where-agree, IsCardSet-filter, same_set, has_card-below}

length-filter_or_at : (a b : Bool) (x : ℕ) (either those others : List ℕ) → (a ≡ true → b ≡ false) → length either ≡ length those + length others
    → length (cond (a || b) (x ∷ either) either) ≡ length (cond a (x ∷ those) those) + length (cond b (x ∷ others) others)
length-filter_or_at true true x either those others apart rest = absurd (true≢false (apart refl))
length-filter_or_at true false x either those others apart rest = omega arith
length-filter_or_at false true x either those others apart rest = omega arith
length-filter_or_at false false x either those others apart rest = rest

filter-range_none : (a n c : ℕ) → c < a → filter (λ d. d == c) (range_with_len a n) ≡ []
filter-range_none a zero c before = refl
filter-range_none a (suc n) c before =
    ap (λ b. cond b (a ∷ filter (λ d. d == c) (range_with_len (a + 1) n)) (filter (λ d. d == c) (range_with_len (a + 1) n))) (ne_eqb a c (λ same. absurd (omega arith)))
    ∙ filter-range_none (a + 1) n c (omega arith)

filter-range_one : (a n c : ℕ) → a ≤ c → c < a + n → filter (λ d. d == c) (range_with_len a n) ≡ c ∷ []
filter-range_one a zero c low high = absurd (omega arith)
filter-range_one a (suc n) c low high =
    elim (cases_eq a c) [
      | inl here ↦
          ap (λ b. cond b (a ∷ filter (λ d. d == c) (range_with_len (a + 1) n)) (filter (λ d. d == c) (range_with_len (a + 1) n))) (eq-eqb a c here)
          ∙ ap₂ (λ x xs. x ∷ xs) here (filter-range_none (a + 1) n c (omega arith))
      | inr later ↦
          ap (λ b. cond b (a ∷ filter (λ d. d == c) (range_with_len (a + 1) n)) (filter (λ d. d == c) (range_with_len (a + 1) n))) (ne_eqb a c later)
          ∙ filter-range_one (a + 1) n c (omega arith) (omega arith)
    ]

-- tests of which no card passes both
pub length-filter_or : (p q : ℕ → Bool) (xs : List ℕ) → ((c : ℕ) → p c ≡ true → q c ≡ false) → length (filter (λ c. p c || q c) xs) ≡ length (filter p xs) + length (filter q xs)
length-filter_or p q [] apart = refl
length-filter_or p q (x ∷ xs) apart = length-filter_or_at (p x) (q x) x (filter (λ c. p c || q c) xs) (filter p xs) (filter q xs) (apart x) (length-filter_or p q xs apart)

-- the set of one card
pub cards_where-one : (c : ℕ) → c < 52 → cards_where (λ d. d == c) ≡ c ∷ []
unfolding cards_where below
cards_where-one c within = filter-range_one 0 52 c (omega arith) (omega arith)

-- a pack has 52 cards
pub length-le_52 : (xs : List ℕ) → IsCardSet xs → length xs ≤ 52
unfolding cards_where below
length-le_52 xs a_set =
    let both = length-filter_both (has_card xs) (λ c. not (has_card xs c)) (λ c. refl) (range_with_len 0 52) in
    omega (arith, both, length-range_with_len 0 52, ap length a_set)

and_where : (a b : Bool) → (b ≡ true → a ≡ true) → (a && b) ≡ b
and_where a true holds = ap (λ x. x && true) (holds refl)
and_where true false holds = refl
and_where false false holds = refl

pub length-take_out : (xs : List ℕ) (c : ℕ) → IsCardSet xs → has_card xs c ≡ true → length (filter (λ d. not (d == c)) xs) + 1 ≡ length xs
length-take_out xs c a_set holds =
    let one : filter (λ d. d == c) xs ≡ c ∷ [] =
    ap (filter (λ d. d == c)) a_set
    ∙ filter-cards_where (λ d. d == c) (has_card xs)
    ∙ cards_where-agree (λ d. has_card xs d && (d == c)) (λ d. d == c) (λ d within. and_where (has_card xs d) (d == c) (λ same. ap (has_card xs) (eqb-true d c same) ∙ holds))
    ∙ cards_where-one c (has_card-below xs c a_set holds) in
    omega (arith, length-filter_both (λ d. d == c) (λ d. not (d == c)) (λ d. refl) xs, ap length one)

pub take_out-absent : (xs : List ℕ) (c : ℕ) → has_card xs c ≡ false → filter (λ d. not (d == c)) xs ≡ xs
take_out-absent xs c absent =
    filter-all (λ d. not (d == c)) xs (λ d holds. ap not (ne_eqb d c (λ same. both_ways (has_card xs c) absent (ap (has_card xs) (sym same) ∙ holds))))

pub length-put_in : (xs : List ℕ) (c : ℕ) → IsCardSet xs → c < 52 → has_card xs c ≡ false → length (cards_where (λ d. has_card xs d || (d == c))) ≡ length xs + 1
unfolding cards_where below
length-put_in xs c a_set within absent =
    length-filter_or (has_card xs) (λ d. d == c) (range_with_len 0 52) (λ d holds. ne_eqb d c (λ same. both_ways (has_card xs c) absent (ap (has_card xs) (sym same) ∙ holds)))
    ∙ ap₂ (λ m n. m + n) (ap length (sym a_set)) (ap length (cards_where-one c within))

pub length-either : (xs ys : List ℕ) → IsCardSet xs → IsCardSet ys → Apart xs ys → length (cards_where (λ c. has_card xs c || has_card ys c)) ≡ length xs + length ys
unfolding cards_where below
length-either xs ys x_set y_set apart =
    length-filter_or (has_card xs) (has_card ys) (range_with_len 0 52) apart ∙ ap₂ (λ m n. m + n) (ap length (sym x_set)) (ap length (sym y_set))

-- the cards of a set that are not in its part
pub length-minus : (xs ys : List ℕ) → IsCardSet xs → IsCardSet ys → IsSubset ys xs → length (filter (λ c. not (has_card ys c)) xs) + length ys ≡ length xs
length-minus xs ys x_set y_set part =
    let kept : filter (has_card ys) xs ≡ ys =
    same_set (filter (has_card ys) xs) ys (IsCardSet-filter (has_card ys) xs x_set) y_set
    (λ c within. has_card-filter (has_card ys) xs c ∙ and_where (has_card xs c) (has_card ys c) (part c)) in
    omega (arith, length-filter_both (has_card ys) (λ c. not (has_card ys c)) (λ c. refl) xs, ap length kept)

pub length-IsSubset : (xs ys : List ℕ) → IsCardSet xs → IsCardSet ys → IsSubset ys xs → length ys ≤ length xs
length-IsSubset xs ys x_set y_set part = omega (arith, length-minus xs ys x_set y_set part)

and_all : (a b : Bool) → (a ≡ true → b ≡ true) → (a && b) ≡ a
and_all true b holds = holds refl
and_all false b holds = refl

pub nil_from_length : (xs : List ℕ) → length xs ≡ 0 → xs ≡ []
nil_from_length [] none = refl
nil_from_length (x ∷ xs) none = absurd (omega arith)

-- a part with as many cards is the whole
pub same_from_length : (xs ys : List ℕ) → IsCardSet xs → IsCardSet ys → IsSubset ys xs → length ys ≡ length xs → ys ≡ xs
same_from_length xs ys x_set y_set part as_many =
    let nothing : filter (λ c. not (has_card ys c)) xs ≡ [] = nil_from_length (filter (λ c. not (has_card ys c)) xs) (omega (arith, length-minus xs ys x_set y_set part)) in
    same_set ys xs y_set x_set
    (λ c within. sym (and_where (has_card xs c) (has_card ys c) (part c)) ∙ and_all (has_card xs c) (has_card ys c) (λ holds. not-false (has_card ys c) (fails-filter_nil (λ d. not (has_card ys d)) xs c nothing holds)))

-- a list that is not empty has a card, and the other way round
pub some_card : (xs : List ℕ) → 0 < length xs → (c : ℕ) × (has_card xs c ≡ true)
some_card [] some = absurd (omega arith)
some_card (x ∷ xs) some = (x, ap (λ e. e || has_card xs x) (eq-eqb x x refl))

pub has_card-length : (xs : List ℕ) (c : ℕ) → has_card xs c ≡ true → 0 < length xs
has_card-length [] c holds = absurd (true≢false (sym holds))
has_card-length (x ∷ xs) c holds = omega arith
