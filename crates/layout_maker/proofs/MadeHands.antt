-- Cards that are dealt: how often each is there, and the sets that they make.
use Rattle.std.proofs.Common.{◌≡◌, ℕ, ◌+◌, ◌%◌, ◌<◌, ◌≤◌, Bool, true, false, cond, List, [], ◌∷◌, ◌++◌, length, take, drop, count_by, refl, sym, ap, ap₂, ◌∙◌, inl, inr, arith}
use Rattle.std.specs.Prelude.{◌==◌, ◌||◌}
use Rattle.std.specs.List.Sorted.{IsPermutation}
use Rattle.std.proofs.lemmas.Bool.{eq-eqb, ne_eqb, cases_eq, or_parts, false_from_ne_true, true_from_ne_false, true≢false}
use Rattle.std.proofs.lemmas.List.{drop-drop, length-take-le, length-drop}
use Rattle.std.proofs.lemmas.List.Folds.{list_any-append}
use Rattle.std.proofs.lemmas.List.Sums.{sum_by-cons, sum_by-append, sum_by-take-drop}
use Rattle.std.proofs.lemmas.List.Sorted.{length_permutation, sum_by-IsPermutation, list_any-IsPermutation}
use Rattle.bit_lists.specs.Bits.{below}
use Rattle.card_sets.specs.SetWords.{has_card, cards_where, Apart}
use Rattle.card_sets.proofs.Sets.{has_card-cards_where, cards_where-agree, IsCardSet-cards_where, has_card-below}
use Rattle.card_sets.proofs.SetCounts.{length-put_in}
use Rattle.pbn_deal.specs.Deal.{has_repeat}
use Rattle.pbn_deal.specs.BoardRead.{together}
use Rattle.layout_maker.specs.MadeProblem.{short_pack, dealt, set_of, undealt}
use Rattle.layout_maker.proofs.MadePacks.{set_of-nil, eqb_comm}
use Rattle.layout_maker.proofs.Shuffles.{shuffled-permutation}

-- ---- how often a card is there

-- how many times a list has a card
abbrev pub tally : List ℕ → ℕ → ℕ
tally cards card = count_by (λ c. c == card) cards

abbrev count_if : Bool → ℕ
count_if counts = cond counts 1 0

tally-cons : (first : ℕ) (cards : List ℕ) (card : ℕ) → tally (first ∷ cards) card ≡ count_if (first == card) + tally cards card
tally-cons first cards card = sum_by-cons (λ c. cond (c == card) 1 0) first cards

pub tally-append : (these those : List ℕ) (card : ℕ) → tally (these ++ those) card ≡ tally these card + tally those card
tally-append these those card = sum_by-append (λ c. cond (c == card) 1 0) these those

pub tally-permutation : (these those : List ℕ) → IsPermutation these those → (card : ℕ) → tally those card ≡ tally these card
tally-permutation these those moved card = sum_by-IsPermutation (λ c. cond (c == card) 1 0) these those moved

-- a card that is there counts
some_tally : (cards : List ℕ) (card : ℕ) → has_card cards card ≡ true → 1 ≤ tally cards card
some_tally [] card has = absurd (true≢false (sym has))
some_tally (first ∷ cards) card has =
    elim (cases_eq first card) [
      | inl same ↦ omega (arith, tally-cons first cards card, ap count_if (eq-eqb first card same))
      | inr other ↦ omega (arith, tally-cons first cards card, some_tally cards card (sym (ap (λ b. b || has_card cards card) (ne_eqb first card other)) ∙ has))
    ]

-- a card that isn't there doesn't
no_tally : (cards : List ℕ) (card : ℕ) → has_card cards card ≡ false → tally cards card ≡ 0
no_tally [] card none = refl
no_tally (first ∷ cards) card none =
    let parts = or_parts (first == card) (has_card cards card) none in
    omega (arith, tally-cons first cards card, ap count_if parts.0, no_tally cards card parts.1)

-- where no card comes twice, each counts once at most
once : (cards : List ℕ) → has_repeat cards ≡ false → (card : ℕ) → tally cards card ≤ 1
once [] single card = omega arith
once (first ∷ cards) single card =
    let parts = or_parts (has_card cards first) (has_repeat cards) single in
    elim (cases_eq first card) [
      | inl same ↦ omega (arith, tally-cons first cards card, ap count_if (eq-eqb first card same), no_tally cards card (ap (has_card cards) (sym same) ∙ parts.0))
      | inr other ↦ omega (arith, tally-cons first cards card, ap count_if (ne_eqb first card other), once cards parts.1 card)
    ]

-- ---- the short pack

length-short_pack : length short_pack ≡ 20
unfolding cards_where below
length-short_pack = refl

single-short_pack : has_repeat short_pack ≡ false
unfolding cards_where below
single-short_pack = refl

-- cards that the short pack has, each as often at most
abbrev pub IsDealt : List ℕ → Type 0
IsDealt cards = (card : ℕ) → tally cards card ≤ tally short_pack card

dealt_once : (cards : List ℕ) → IsDealt cards → (card : ℕ) → tally cards card ≤ 1
dealt_once cards inside card = omega (arith, inside card, once short_pack single-short_pack card)

dealt_below : (cards : List ℕ) → IsDealt cards → (card : ℕ) → has_card cards card ≡ true → card < 52
dealt_below cards inside card has =
    has_card-below short_pack card (IsCardSet-cards_where _)
    (true_from_ne_false (has_card short_pack card) (λ none. absurd (omega (arith, some_tally cards card has, inside card, no_tally short_pack card none))))

-- ---- sets of cards that are dealt

or_comm : (a b : Bool) → (a || b) ≡ (b || a)
or_comm true true = refl
or_comm true false = refl
or_comm false true = refl
or_comm false false = refl

-- a set has as many cards as are dealt to it
pub length-set_of : (cards : List ℕ) → IsDealt cards → length (set_of cards) ≡ length cards
length-set_of [] inside = ap length set_of-nil
length-set_of (first ∷ cards) inside =
    let one : count_if (first == first) ≡ 1 = ap count_if (eq-eqb first first refl) in
    let absent : has_card cards first ≡ false =
    false_from_ne_true (has_card cards first) (λ has. absurd (omega (arith, some_tally cards first has, tally-cons first cards first, one, dealt_once (first ∷ cards) inside first))) in
    let within : first < 52 = dealt_below (first ∷ cards) inside first (ap (λ b. b || has_card cards first) (eq-eqb first first refl)) in
    let added : length (cards_where (λ d. has_card (set_of cards) d || (d == first))) ≡ length (set_of cards) + 1 =
    length-put_in (set_of cards) first (IsCardSet-cards_where (has_card cards)) within (has_card-cards_where (has_card cards) first within ∙ absent) in
    let same : set_of (first ∷ cards) ≡ cards_where (λ d. has_card (set_of cards) d || (d == first)) =
    cards_where-agree (has_card (first ∷ cards)) (λ d. has_card (set_of cards) d || (d == first)) (λ d inner.
    ap₂ (λ a b. a || b) (eqb_comm first d) (sym (has_card-cards_where (has_card cards) d inner)) ∙ or_comm (d == first) (has_card (set_of cards) d)) in
    omega (arith, ap length same, added, length-set_of cards (λ card. omega (arith, tally-cons first cards card, inside card)))

-- two hands that no card is in together are apart
pub apart_hands : (these those : List ℕ) → ((card : ℕ) → tally these card + tally those card ≤ 1) → Apart (set_of these) (set_of those)
apart_hands these those inside card has =
    let within = has_card-below (set_of these) card (IsCardSet-cards_where (has_card these)) has in
    let here : has_card these card ≡ true = sym (has_card-cards_where (has_card these) card within) ∙ has in
    has_card-cards_where (has_card those) card within
    ∙ false_from_ne_true (has_card those card) (λ there. absurd (omega (arith, some_tally these card here, some_tally those card there, inside card)))

-- two sets have the cards of a list together, where the list is what was dealt to them, in whatever order
pub together-set_of : (these those cards : List ℕ) → IsPermutation cards (these ++ those) → together (set_of these) (set_of those) ≡ set_of cards
together-set_of these those cards moved =
    cards_where-agree (λ c. has_card (set_of these) c || has_card (set_of those) c) (has_card cards) (λ c within.
    ap₂ (λ a b. a || b) (has_card-cards_where (has_card these) c within) (has_card-cards_where (has_card those) c within)
    ∙ sym (list_any-append (λ y. y == c) these those) ∙ sym (list_any-IsPermutation (λ y. y == c) cards (these ++ those) moved))

-- ---- four hands

-- five cards each from one short pack
pub record AreHands (south north west east : List ℕ) : Type 0 where
  pub south_five : length south ≡ 5
  pub north_five : length north ≡ 5
  pub west_five : length west ≡ 5
  pub east_five : length east ≡ 5
  pub inside : (card : ℕ) → tally south card + tally north card + tally west card + tally east card ≤ tally short_pack card

pub hands_once : (south north west east : List ℕ) → AreHands south north west east → (card : ℕ) → tally south card + tally north card + tally west card + tally east card ≤ 1
hands_once south north west east hands card = omega (arith, hands.inside card, once short_pack single-short_pack card)

split_tally : (cards : List ℕ) (n card : ℕ) → tally (take n cards) card + tally (drop n cards) card ≡ tally cards card
split_tally cards n card = sum_by-take-drop (λ c. cond (c == card) 1 0) cards n

-- a pack whose last ten cards are divided in some order
hands_from : (pack order : List ℕ) → length pack ≡ 20 → IsDealt pack → IsPermutation (drop 10 pack) order → AreHands (take 5 pack) (take 5 (drop 5 pack)) (take 5 order) (drop 5 order)
hands_from pack order twenty inside moved =
    let ten : length order ≡ 10 = omega (arith, length_permutation (drop 10 pack) order moved, length-drop 10 pack) in
    record {
      south_five = length-take-le 5 pack (omega arith);
      north_five = length-take-le 5 (drop 5 pack) (omega (arith, length-drop 5 pack));
      west_five = length-take-le 5 order (omega arith);
      east_five = omega (arith, length-drop 5 order);
      inside = λ card. omega (
        arith,
        inside card,
        split_tally pack 5 card,
        split_tally (drop 5 pack) 5 card,
        ap (λ cards. tally cards card) (drop-drop 5 5 pack),
        split_tally order 5 card,
        tally-permutation (drop 10 pack) order moved card,
      );
    }

dealt-permutation : (number : ℕ) → IsPermutation short_pack (dealt number).items
dealt-permutation number = shuffled-permutation (record { items = short_pack; state = number % 65537 }) (omega (arith, length-short_pack))

length-dealt : (number : ℕ) → length (dealt number).items ≡ 20
length-dealt number = length_permutation short_pack (dealt number).items (dealt-permutation number) ∙ length-short_pack

pub length-undealt : (number : ℕ) → length (undealt number).items ≡ 10
length-undealt number = omega (arith, length-drop 10 (dealt number).items, length-dealt number)

dealt_inside : (number : ℕ) → IsDealt (dealt number).items
dealt_inside number card = omega (arith, tally-permutation short_pack (dealt number).items (dealt-permutation number) card)

-- the four hands of a layout of a number's problem
pub dealt_hands : (number : ℕ) (order : List ℕ) → IsPermutation (undealt number).items order
    → AreHands (take 5 (dealt number).items) (take 5 (drop 5 (dealt number).items)) (take 5 order) (drop 5 order)
dealt_hands number order moved = hands_from (dealt number).items order (length-dealt number) (dealt_inside number) moved
