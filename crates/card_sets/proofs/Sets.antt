-- What sets of cards are, as lists: no word and no bit is spoken of here.
use Rattle.std.proofs.Common.{◌≡◌, ℕ, zero, suc, ◌+◌, ◌<◌, ◌≤◌, Bool, true, false, not, cond, List, [], ◌∷◌, ◌++◌, Some, None, refl, sym, ap, ap₂, ◌∙◌, subst, inl, inr, arith}
use Rattle.std.specs.Prelude.{◌==◌, ◌&&◌, ◌||◌, filter, find}
use Rattle.std.specs.List.{range_with_len}
use Rattle.std.proofs.lemmas.Bool.{eqb-true, eq-eqb, ne_eqb, cases_eq, cases_lt, both_ways, and_parts, and_from, and_right, or_cases, or_right, false_from_ne_true}
use Rattle.std.proofs.lemmas.List.Folds.{list_any-append}
use Rattle.bit_lists.specs.Bits.{below}
use Rattle.bit_lists.proofs.Places.{filter-filter, filter-range_agree, among-filter-range, among-filter-range_past, among-filter-range_before}
use Rattle.card_sets.specs.SetWords.{has_card, cards_where, IsCardSet, IsSubset, Apart, first_card}

-- ---- the cards that pass a test

-- a card that passes is there
pub has_card-cards_where : (t : ℕ → Bool) (c : ℕ) → c < 52 → has_card (cards_where t) c ≡ t c
unfolding cards_where below
has_card-cards_where t c within = among-filter-range t 0 52 c (omega arith) (omega arith)

-- nothing beyond the 52 cards is there
pub has_card-cards_where_past : (t : ℕ → Bool) (c : ℕ) → 52 ≤ c → has_card (cards_where t) c ≡ false
unfolding cards_where below
has_card-cards_where_past t c past = among-filter-range_past t 0 52 c (omega arith)

-- two tests that agree at the 52 cards keep the same cards
pub cards_where-agree : (p q : ℕ → Bool) → ((c : ℕ) → c < 52 → p c ≡ q c) → cards_where p ≡ cards_where q
unfolding cards_where below
cards_where-agree p q agree = filter-range_agree p q 0 52 (λ c low high. agree c (omega arith))

pub filter-cards_where : (p q : ℕ → Bool) → filter p (cards_where q) ≡ cards_where (λ c. q c && p c)
unfolding cards_where
filter-cards_where p q = filter-filter p q (below 52)

-- ---- a filter

not_here : (b c : Bool) → ((b && false) || c) ≡ c
not_here true c = refl
not_here false c = refl

here : (b h : Bool) → ((b && true) || (h && b)) ≡ b
here true h = refl
here false true = refl
here false false = refl

has_card-cons_if : (b : Bool) (x c : ℕ) (xs : List ℕ) → has_card (cond b (x ∷ xs) xs) c ≡ ((b && (x == c)) || has_card xs c)
has_card-cons_if true x c xs = refl
has_card-cons_if false x c xs = refl

-- a card is in a filter of a list where it is in the list and passes
pub has_card-filter : (t : ℕ → Bool) (xs : List ℕ) (c : ℕ) → has_card (filter t xs) c ≡ (has_card xs c && t c)
has_card-filter t [] c = refl
has_card-filter t (x ∷ xs) c =
    has_card-cons_if (t x) x c (filter t xs)
    ∙ elim (cases_eq x c) [
      | inl same ↦
          ap₂ (λ e r. (t x && e) || r) (eq-eqb x c same) (has_card-filter t xs c)
          ∙ ap (λ b. (b && true) || (has_card xs c && t c)) (ap t same)
          ∙ here (t c) (has_card xs c)
          ∙ sym (ap (λ e. (e || has_card xs c) && t c) (eq-eqb x c same))
      | inr other ↦
          ap₂ (λ e r. (t x && e) || r) (ne_eqb x c other) (has_card-filter t xs c)
          ∙ not_here (t x) (has_card xs c && t c)
          ∙ sym (ap (λ e. (e || has_card xs c) && t c) (ne_eqb x c other))
    ]

-- a card that fails the test at each of its cards leaves nothing
pub filter-none : (t : ℕ → Bool) (xs : List ℕ) → ((c : ℕ) → has_card xs c ≡ true → t c ≡ false) → filter t xs ≡ []
filter-none t [] fails = refl
filter-none t (x ∷ xs) fails =
    ap (λ b. cond b (x ∷ filter t xs) (filter t xs)) (fails x (ap (λ e. e || has_card xs x) (eq-eqb x x refl)))
    ∙ filter-none t xs (λ c holds. fails c (or_right (x == c) (has_card xs c) holds))

-- a test that passes all cards keeps the list
pub filter-all : (t : ℕ → Bool) (xs : List ℕ) → ((c : ℕ) → has_card xs c ≡ true → t c ≡ true) → filter t xs ≡ xs
filter-all t [] passes = refl
filter-all t (x ∷ xs) passes =
    ap (λ b. cond b (x ∷ filter t xs) (filter t xs)) (passes x (ap (λ e. e || has_card xs x) (eq-eqb x x refl)))
    ∙ ap (λ ys. x ∷ ys) (filter-all t xs (λ c holds. passes c (or_right (x == c) (has_card xs c) holds)))

-- where a filter leaves nothing, no card of the list passes
pub fails-filter_nil : (t : ℕ → Bool) (xs : List ℕ) (c : ℕ) → filter t xs ≡ [] → has_card xs c ≡ true → t c ≡ false
fails-filter_nil t xs c none holds = sym (ap (λ b. b && t c) holds) ∙ sym (has_card-filter t xs c) ∙ ap (λ ys. has_card ys c) none

-- ---- sets

pub IsCardSet-cards_where : (t : ℕ → Bool) → IsCardSet (cards_where t)
IsCardSet-cards_where t = cards_where-agree t (has_card (cards_where t)) (λ c within. sym (has_card-cards_where t c within))

pub IsCardSet-nil : IsCardSet []
unfolding cards_where below
IsCardSet-nil = refl

pub IsCardSet-filter : (t : ℕ → Bool) (xs : List ℕ) → IsCardSet xs → IsCardSet (filter t xs)
IsCardSet-filter t xs a_set =
    ap (filter t) a_set ∙ filter-cards_where t (has_card xs) ∙ cards_where-agree (λ c. has_card xs c && t c) (has_card (filter t xs)) (λ c within. sym (has_card-filter t xs c))

-- two sets with the same cards are equal
pub same_set : (xs ys : List ℕ) → IsCardSet xs → IsCardSet ys → ((c : ℕ) → c < 52 → has_card xs c ≡ has_card ys c) → xs ≡ ys
same_set xs ys x_set y_set same = x_set ∙ cards_where-agree (has_card xs) (has_card ys) same ∙ sym y_set

-- a set holds cards alone
pub has_card-below : (xs : List ℕ) (c : ℕ) → IsCardSet xs → has_card xs c ≡ true → c < 52
has_card-below xs c a_set holds =
    elim (cases_lt c 52) [
      | inl within ↦ within
      | inr past ↦ absurd (both_ways (has_card xs c) (ap (λ ys. has_card ys c) a_set ∙ has_card-cards_where_past (has_card xs) c past) holds)
    ]

-- ---- the first card

head_apart_at : (p : ℕ → Bool) (a n x : ℕ) (rest : List ℕ) (c : ℕ) → has_card rest c ≡ true → (b : Bool) → cond b (a ∷ filter p (range_with_len (a + 1) n)) (filter p (range_with_len (a + 1) n)) ≡ x ∷ rest
    → (filter p (range_with_len (a + 1) n) ≡ x ∷ rest → x < c) → x < c
head_apart_at p a n x rest c holds true is below =
    let first : a ≡ x = cc in
    let others : filter p (range_with_len (a + 1) n) ≡ rest = cc in
    elim (cases_lt c (a + 1)) [
      | inl before ↦ absurd (both_ways (has_card rest c) (ap (λ ys. has_card ys c) (sym others) ∙ among-filter-range_before p (a + 1) n c before) holds)
      | inr past ↦ omega arith
    ]
head_apart_at p a n x rest c holds false is below = below is

head_apart : (p : ℕ → Bool) (a n x : ℕ) (rest : List ℕ) → filter p (range_with_len a n) ≡ x ∷ rest → (c : ℕ) → has_card rest c ≡ true → x < c
head_apart p a zero x rest is c holds = cc
head_apart p a (suc n) x rest is c holds = head_apart_at p a n x rest c holds (p a) is (λ same. head_apart p (a + 1) n x rest same c holds)

first_card-filter_at : (t : ℕ → Bool) (x : ℕ) (xs : List ℕ) (b : Bool) → first_card (filter t xs) ≡ find t xs → first_card (cond b (x ∷ filter t xs) (filter t xs)) ≡ cond b (Some x) (find t xs)
first_card-filter_at t x xs true rest = refl
first_card-filter_at t x xs false rest = rest

-- the cards after the first of a set come after it in card order
pub tail-after : (x : ℕ) (xs : List ℕ) → IsCardSet (x ∷ xs) → (c : ℕ) → has_card xs c ≡ true → x < c
unfolding cards_where below
tail-after x xs a_set c holds = head_apart (has_card (x ∷ xs)) 0 52 x xs (sym a_set) c holds

-- they are what is left when the first is taken out
pub take_out-head : (x : ℕ) (xs : List ℕ) → IsCardSet (x ∷ xs) → filter (λ c. not (c == x)) (x ∷ xs) ≡ xs
take_out-head x xs a_set =
    ap (λ e. cond (not e) (x ∷ filter (λ c. not (c == x)) xs) (filter (λ c. not (c == x)) xs)) (eq-eqb x x refl)
    ∙ filter-all (λ c. not (c == x)) xs (λ c holds. ap not (ne_eqb c x (λ same. absurd (omega (arith, tail-after x xs a_set c holds)))))

pub IsCardSet-tail : (x : ℕ) (xs : List ℕ) → IsCardSet (x ∷ xs) → IsCardSet xs
IsCardSet-tail x xs a_set = subst IsCardSet (take_out-head x xs a_set) (IsCardSet-filter (λ c. not (c == x)) (x ∷ xs) a_set)

-- the first card that passes is the first of those that pass
pub first_card-filter : (t : ℕ → Bool) (xs : List ℕ) → first_card (filter t xs) ≡ find t xs
first_card-filter t [] = refl
first_card-filter t (x ∷ xs) = first_card-filter_at t x xs (t x) (first_card-filter t xs)

-- the first card, and the set without it
pub first_card-none : (xs : List ℕ) → first_card xs ≡ None → xs ≡ []
first_card-none [] none = refl
first_card-none (x ∷ xs) none = cc

pub first_card-some : (xs : List ℕ) (c : ℕ) → IsCardSet xs → first_card xs ≡ Some c → xs ≡ c ∷ filter (λ d. not (d == c)) xs
first_card-some [] c a_set first = cc
first_card-some (x ∷ xs) c a_set first =
    let same : x ≡ c = cc in
    ap₂ (λ y ys. y ∷ ys) same (sym (take_out-head x xs a_set) ∙ ap (λ y. filter (λ d. not (d == y)) (x ∷ xs)) same)

find-holds_at : (t : ℕ → Bool) (x : ℕ) (xs : List ℕ) (c : ℕ) (b : Bool) → t x ≡ b → cond b (Some x) (find t xs) ≡ Some c → (find t xs ≡ Some c → (has_card xs c ≡ true) × (t c ≡ true)) → (has_card (x ∷ xs) c ≡ true) × (t c ≡ true)
find-holds_at t x xs c true passes found rest = let same : x ≡ c = cc in (ap (λ e. e || has_card xs c) (eq-eqb x c same), ap t (sym same) ∙ passes)
find-holds_at t x xs c false fails found rest = let later = rest found in (or_right (x == c) (has_card xs c) later.0, later.1)

-- what a search finds is in the list and passes
pub find-holds : (t : ℕ → Bool) (xs : List ℕ) (c : ℕ) → find t xs ≡ Some c → (has_card xs c ≡ true) × (t c ≡ true)
find-holds t [] c found = cc
find-holds t (x ∷ xs) c found = find-holds_at t x xs c (t x) refl found (find-holds t xs c)

-- where it finds nothing, nothing passes
pub find-fails : (t : ℕ → Bool) (xs : List ℕ) (c : ℕ) → find t xs ≡ None → has_card xs c ≡ true → t c ≡ false
find-fails t xs c none holds =
    fails-filter_nil t xs c (first_card-none (filter t xs) (first_card-filter t xs ∙ none)) holds

-- the first card that passes comes before each other that does
pub find-first : (t : ℕ → Bool) (xs : List ℕ) (c d : ℕ) → IsCardSet xs → find t xs ≡ Some c → has_card xs d ≡ true → t d ≡ true → c ≤ d
find-first t xs c d a_set found holds passes =
    let rest = filter (λ e. not (e == c)) (filter t xs) in
    let split : filter t xs ≡ c ∷ rest = first_card-some (filter t xs) c (IsCardSet-filter t xs a_set) (first_card-filter t xs ∙ found) in
    let kept : has_card (c ∷ rest) d ≡ true = ap (λ ys. has_card ys d) (sym split) ∙ has_card-filter t xs d ∙ and_from (has_card xs d) (t d) holds passes in
    let sorted : IsCardSet (c ∷ rest) = subst IsCardSet split (IsCardSet-filter t xs a_set) in
    elim (or_cases (c == d) (has_card rest d) kept) [
      | inl same ↦ omega (arith, eqb-true c d same)
      | inr later ↦ omega (arith, tail-after c rest sorted d later)
    ]

-- ---- sets apart

pub Apart-sym : (xs ys : List ℕ) → Apart xs ys → Apart ys xs
Apart-sym xs ys apart c holds = false_from_ne_true (has_card xs c) (λ there. both_ways (has_card ys c) (apart c there) holds)

pub IsSubset-filter : (t : ℕ → Bool) (xs : List ℕ) → IsSubset (filter t xs) xs
IsSubset-filter t xs c holds = (and_parts (has_card xs c) (t c) (sym (has_card-filter t xs c) ∙ holds)).0

-- parts of sets apart are apart
pub Apart-parts : (xs ys part_x part_y : List ℕ) → Apart xs ys → IsSubset part_x xs → IsSubset part_y ys → Apart part_x part_y
Apart-parts xs ys part_x part_y apart in_x in_y c holds = false_from_ne_true (has_card part_y c) (λ there. both_ways (has_card ys c) (apart c (in_x c holds)) (in_y c there))

pub Apart-filter : (p q : ℕ → Bool) (xs ys : List ℕ) → Apart xs ys → Apart (filter p xs) (filter q ys)
Apart-filter p q xs ys apart = Apart-parts xs ys (filter p xs) (filter q ys) apart (IsSubset-filter p xs) (IsSubset-filter q ys)

-- what is left of a set and what is taken from it are apart
pub Apart-minus : (xs ys : List ℕ) → Apart ys (filter (λ c. not (has_card ys c)) xs)
Apart-minus xs ys c holds = has_card-filter (λ d. not (has_card ys d)) xs c ∙ and_right (has_card xs c) (not (has_card ys c)) (ap not holds)

-- a card taken out is gone
pub has_card-take_out : (xs : List ℕ) (c : ℕ) → has_card (filter (λ d. not (d == c)) xs) c ≡ false
has_card-take_out xs c = has_card-filter (λ d. not (d == c)) xs c ∙ and_right (has_card xs c) (not (c == c)) (ap not (eq-eqb c c refl))

or_none : (b : Bool) → (b || false) ≡ b
or_none true = refl
or_none false = refl

-- a list with one card more at its end
pub has_card-push : (xs : List ℕ) (x c : ℕ) → has_card (xs ++ x ∷ []) c ≡ (has_card xs c || (x == c))
has_card-push xs x c = list_any-append (λ y. y == c) xs (x ∷ []) ∙ ap (λ b. has_card xs c || b) (or_none (x == c))

-- a card that is taken out of one set and put at the end of a list that is apart from it leaves them apart
pub Apart-push : (xs ys : List ℕ) (x : ℕ) → Apart xs ys → Apart (xs ++ x ∷ []) (filter (λ d. not (d == x)) ys)
Apart-push xs ys x apart c holds =
    has_card-filter (λ d. not (d == x)) ys c
    ∙ elim (or_cases (has_card xs c) (x == c) (sym (has_card-push xs x c) ∙ holds)) [
      | inl before ↦ ap (λ b. b && not (c == x)) (apart c before)
      | inr last ↦ and_right (has_card ys c) (not (c == x)) (ap not (eq-eqb c x (sym (eqb-true x c last))))
    ]
