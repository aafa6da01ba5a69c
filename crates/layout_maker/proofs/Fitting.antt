-- Which hands of a size fit what each defender may hold: all have some cards, and the others are chosen freely.
use Rattle.std.proofs.Common.{◌≡◌, ℕ, zero, suc, ◌+◌, ◌<◌, ◌≤◌, Bool, true, false, not, cond, List, [], ◌∷◌, ◌++◌, map, length, get_or, refl, sym, ap, ap₂, ◌∙◌, subst, inl, inr, arith}
use Rattle.std.specs.Prelude.{◌==◌, ◌&&◌, ◌||◌, filter, ◌⊎◌}
use Rattle.std.proofs.lemmas.Bool.{false≢true, eq-eqb, both_ways, cases_Bool, or_cases, or_parts, or_right, eqb-true, false_from_ne_true}
use Rattle.std.proofs.lemmas.List.{append-nil}
use Rattle.std.proofs.lemmas.List.Filters.{length-filter_both}
use Rattle.std.proofs.lemmas.List.Elements.{filter-append, All-weaker}
use Rattle.bit_lists.proofs.Places.{filter-filter}
use Rattle.card_sets.specs.SetWords.{has_card, IsCardSet, IsSubset}
use Rattle.card_sets.proofs.Sets.{has_card-filter, has_card-cards_where, has_card-below, same_set, IsCardSet-filter, IsCardSet-cards_where, IsCardSet-tail, IsSubset-filter}
use Rattle.trick_rules.proofs.CardLists.{cards_from_list_all}
use Rattle.pbn_deal.specs.BoardRead.{together}
use Rattle.layout_maker.specs.declared.allowed.MayHold.{MayHold}
use Rattle.layout_maker.specs.Divisions.{hands_of_size}
use Rattle.layout_maker.specs.Choosing.{fits, fitting_hands}
use Rattle.layout_maker.proofs.Hands.{filter-same, map-same, map-map, map-append, filter-map, filter-nothing, filter-guard, filter-members, list_all-members, IsPart, IsPart-IsSubset, head_absent, head_differs, part_absent, hands_are_parts}

-- ---- card by card

-- the hands that fit, with the first card and without it
abbrev pub fitting : MayHold → ℕ → List ℕ → List (List ℕ)
fitting may zero [] = [] ∷ []
fitting may (suc size) [] = []
fitting may zero (card ∷ cards) = cond (has_card may.right card) (fitting may zero cards) []
fitting may (suc size) (card ∷ cards) =
    cond (has_card may.left card) (map (λ hand. card ∷ hand) (fitting may size cards)) [] ++ cond (has_card may.right card) (fitting may (suc size) cards) []

fits_with : (may : MayHold) (card : ℕ) (cards hand : List ℕ) → IsCardSet (card ∷ cards) → fits may (card ∷ cards) (card ∷ hand) ≡ (has_card may.left card && fits may cards hand)
fits_with may card cards hand a_set =
    ap₂ (λ a b. a && b) (ap (λ e. cond (e || has_card hand card) (has_card may.left card) (has_card may.right card)) (eq-eqb card card refl))
    (list_all-members (λ c. cond (has_card (card ∷ hand) c) (has_card may.left c) (has_card may.right c)) (λ c. cond (has_card hand c) (has_card may.left c) (has_card may.right c)) cards
    (λ c holds. ap (λ e. cond (e || has_card hand c) (has_card may.left c) (has_card may.right c)) (head_differs card cards a_set c holds)))

fits_without : (may : MayHold) (card : ℕ) (cards hand : List ℕ) → IsCardSet (card ∷ cards) → IsPart cards hand → fits may (card ∷ cards) hand ≡ (has_card may.right card && fits may cards hand)
fits_without may card cards hand a_set part =
    ap (λ e. cond e (has_card may.left card) (has_card may.right card) && fits may cards hand) (part_absent card cards hand a_set part)

nested : {X : Type 0} (b x : Bool) (ys : List X) → cond (b && x) ys [] ≡ cond b (cond x ys []) []
nested true x ys = refl
nested false x ys = refl

map_guarded : {X Y : Type 0} (f : X → Y) (b : Bool) (xs : List X) → map f (cond b xs []) ≡ cond b (map f xs) []
map_guarded f true xs = refl
map_guarded f false xs = refl

pub filter-fits : (may : MayHold) (size : ℕ) (cards : List ℕ) → IsCardSet cards → filter (fits may cards) (hands_of_size size cards) ≡ fitting may size cards
filter-fits may zero [] a_set = refl
filter-fits may (suc size) [] a_set = refl
filter-fits may zero (card ∷ cards) a_set =
    nested (has_card may.right card) (fits may cards []) ([] ∷ []) ∙ ap (λ hands. cond (has_card may.right card) hands []) (filter-fits may zero cards (IsCardSet-tail card cards a_set))
filter-fits may (suc size) (card ∷ cards) a_set =
    let tail_set = IsCardSet-tail card cards a_set in
    let with_card = hands_of_size size cards in
    let without_card = hands_of_size (suc size) cards in
    filter-append (fits may (card ∷ cards)) (map (λ hand. card ∷ hand) with_card) without_card
    ∙ ap₂ (λ xs ys. xs ++ ys)
    (filter-map (fits may (card ∷ cards)) (λ hand. card ∷ hand) with_card
    ∙ ap (map (λ hand. card ∷ hand))
    (filter-same (λ hand. fits may (card ∷ cards) (card ∷ hand)) (λ hand. has_card may.left card && fits may cards hand) with_card
    (All-weaker (IsPart cards) (λ hand. fits may (card ∷ cards) (card ∷ hand) ≡ (has_card may.left card && fits may cards hand)) (λ hand part. fits_with may card cards hand a_set) with_card (hands_are_parts size cards tail_set))
    ∙ filter-guard (has_card may.left card) (fits may cards) with_card
    ∙ ap (λ hands. cond (has_card may.left card) hands []) (filter-fits may size cards tail_set))
    ∙ map_guarded (λ hand. card ∷ hand) (has_card may.left card) (fitting may size cards))
    (filter-same (fits may (card ∷ cards)) (λ hand. has_card may.right card && fits may cards hand) without_card
    (All-weaker (IsPart cards) (λ hand. fits may (card ∷ cards) hand ≡ (has_card may.right card && fits may cards hand)) (λ hand part. fits_without may card cards hand a_set part) without_card (hands_are_parts (suc size) cards tail_set))
    ∙ filter-guard (has_card may.right card) (fits may cards) without_card
    ∙ ap (λ hands. cond (has_card may.right card) hands []) (filter-fits may (suc size) cards tail_set))

-- ---- the cards that Left has in each, and those that either may have

abbrev pub sure : MayHold → List ℕ → List ℕ
sure may cards = filter (λ card. not (has_card may.right card)) cards

abbrev pub free : MayHold → List ℕ → List ℕ
free may cards = filter (λ card. has_card may.left card && has_card may.right card) cards

-- a choice of the free cards together with the sure ones
abbrev pub merged : MayHold → List ℕ → List ℕ → List ℕ
merged may cards hand = filter (λ card. has_card hand card || not (has_card may.right card)) cards

mapped_none : (bl br : Bool) (card : ℕ) (A B : List (List ℕ)) → A ≡ [] → (br ≡ true → B ≡ []) → cond bl (map (λ hand. card ∷ hand) A) [] ++ cond br B [] ≡ []
mapped_none true true card A B none rest = ap₂ (λ xs ys. map (λ hand. card ∷ hand) xs ++ ys) none (rest refl)
mapped_none true false card A B none rest = ap (λ xs. map (λ hand. card ∷ hand) xs ++ []) none
mapped_none false true card A B none rest = rest refl
mapped_none false false card A B none rest = refl

-- too few cards for the sure ones
pub fitting-few : (may : MayHold) (size : ℕ) (cards : List ℕ) → size < length (sure may cards) → fitting may size cards ≡ []
fitting-few may zero [] few = absurd (omega arith)
fitting-few may (suc size) [] few = refl
fitting-few may zero (card ∷ cards) few =
    elim (cases_Bool (has_card may.right card)) as (λ _. fitting may zero (card ∷ cards) ≡ []) [
      | inl may_be ↦ (let same = ap (λ b. length (cond (not b) (card ∷ sure may cards) (sure may cards))) may_be in
          ap (λ b. cond b (fitting may zero cards) []) may_be ∙ fitting-few may zero cards (omega arith))
      | inr cannot ↦ ap (λ b. cond b (fitting may zero cards) []) cannot
    ]
fitting-few may (suc size) (card ∷ cards) few =
    elim (cases_Bool (has_card may.right card)) as (λ _. fitting may (suc size) (card ∷ cards) ≡ []) [
      | inl may_be ↦ (let same = ap (λ b. length (cond (not b) (card ∷ sure may cards) (sure may cards))) may_be in
          mapped_none (has_card may.left card) (has_card may.right card) card (fitting may size cards) (fitting may (suc size) cards)
          (fitting-few may size cards (omega arith)) (λ _. fitting-few may (suc size) cards (omega arith)))
      | inr cannot ↦ (let same = ap (λ b. length (cond (not b) (card ∷ sure may cards) (sure may cards))) cannot in
          mapped_none (has_card may.left card) (has_card may.right card) card (fitting may size cards) (fitting may (suc size) cards)
          (fitting-few may size cards (omega arith)) (λ yes. absurd (both_ways (has_card may.right card) cannot yes)))
    ]

-- ---- each choice of the free cards

-- a hand of free cards doesn't have the card before them
free_absent : (may : MayHold) (card : ℕ) (cards hand : List ℕ) → IsCardSet (card ∷ cards) → IsPart (free may cards) hand → has_card hand card ≡ false
free_absent may card cards hand a_set part =
    elim (cases_Bool (has_card hand card)) as (λ _. has_card hand card ≡ false) [
      | inl holds ↦ absurd (both_ways (has_card cards card) (head_absent card cards a_set)
          (IsSubset-filter (λ c. has_card may.left c && has_card may.right c) cards card (IsPart-IsSubset (free may cards) hand part card holds)))
      | inr absent ↦ absent
    ]

merged_sure : (may : MayHold) (card : ℕ) (cards hand : List ℕ) → has_card hand card ≡ false → has_card may.right card ≡ false → merged may (card ∷ cards) hand ≡ card ∷ merged may cards hand
merged_sure may card cards hand absent cannot = ap₂ (λ h r. cond (h || not r) (card ∷ merged may cards hand) (merged may cards hand)) absent cannot

merged_left_out : (may : MayHold) (card : ℕ) (cards hand : List ℕ) → has_card hand card ≡ false → has_card may.right card ≡ true → merged may (card ∷ cards) hand ≡ merged may cards hand
merged_left_out may card cards hand absent may_be = ap₂ (λ h r. cond (h || not r) (card ∷ merged may cards hand) (merged may cards hand)) absent may_be

merged_chosen : (may : MayHold) (card : ℕ) (cards hand : List ℕ) → IsCardSet (card ∷ cards) → merged may (card ∷ cards) (card ∷ hand) ≡ card ∷ merged may cards hand
merged_chosen may card cards hand a_set =
    ap (λ e. cond (e || has_card hand card || not (has_card may.right card)) (card ∷ merged may cards (card ∷ hand)) (merged may cards (card ∷ hand))) (eq-eqb card card refl)
    ∙ ap (λ xs. card ∷ xs)
    (filter-members (λ c. has_card (card ∷ hand) c || not (has_card may.right c)) (λ c. has_card hand c || not (has_card may.right c)) cards
    (λ c holds. ap (λ e. e || has_card hand c || not (has_card may.right c)) (head_differs card cards a_set c holds)))

-- the choices at a list with one card more, where that card is left out; is sure; is free
choices_out : (may : MayHold) (card j : ℕ) (cards : List ℕ) → IsCardSet (card ∷ cards) → has_card may.right card ≡ true
    → map (merged may cards) (hands_of_size j (free may cards)) ≡ map (merged may (card ∷ cards)) (hands_of_size j (free may cards))
choices_out may card j cards a_set may_be =
    map-same (merged may cards) (merged may (card ∷ cards)) (hands_of_size j (free may cards))
    (All-weaker (IsPart (free may cards)) (λ hand. merged may cards hand ≡ merged may (card ∷ cards) hand) (λ hand part. sym (merged_left_out may card cards hand (free_absent may card cards hand a_set part) may_be))
    (hands_of_size j (free may cards)) (hands_are_parts j (free may cards) (IsCardSet-filter (λ c. has_card may.left c && has_card may.right c) cards (IsCardSet-tail card cards a_set))))

choices_sure : (may : MayHold) (card j : ℕ) (cards : List ℕ) → IsCardSet (card ∷ cards) → has_card may.right card ≡ false
    → map (λ hand. card ∷ hand) (map (merged may cards) (hands_of_size j (free may cards))) ≡ map (merged may (card ∷ cards)) (hands_of_size j (free may cards))
choices_sure may card j cards a_set cannot =
    map-map (λ hand. card ∷ hand) (merged may cards) (hands_of_size j (free may cards))
    ∙ map-same (λ hand. card ∷ merged may cards hand) (merged may (card ∷ cards)) (hands_of_size j (free may cards))
    (All-weaker (IsPart (free may cards)) (λ hand. card ∷ merged may cards hand ≡ merged may (card ∷ cards) hand) (λ hand part. sym (merged_sure may card cards hand (free_absent may card cards hand a_set part) cannot))
    (hands_of_size j (free may cards)) (hands_are_parts j (free may cards) (IsCardSet-filter (λ c. has_card may.left c && has_card may.right c) cards (IsCardSet-tail card cards a_set))))

choices_chosen : (may : MayHold) (card j : ℕ) (cards : List ℕ) → IsCardSet (card ∷ cards)
    → map (λ hand. card ∷ hand) (map (merged may cards) (hands_of_size j (free may cards))) ≡ map (merged may (card ∷ cards)) (map (λ hand. card ∷ hand) (hands_of_size j (free may cards)))
choices_chosen may card j cards a_set =
    map-map (λ hand. card ∷ hand) (merged may cards) (hands_of_size j (free may cards))
    ∙ map-same (λ hand. card ∷ merged may cards hand) (λ hand. merged may (card ∷ cards) (card ∷ hand)) (hands_of_size j (free may cards))
    (All-weaker (IsPart (free may cards)) (λ hand. card ∷ merged may cards hand ≡ merged may (card ∷ cards) (card ∷ hand)) (λ hand part. sym (merged_chosen may card cards hand a_set))
    (hands_of_size j (free may cards)) (hands_are_parts j (free may cards) (IsCardSet-filter (λ c. has_card may.left c && has_card may.right c) cards (IsCardSet-tail card cards a_set))))
    ∙ sym (map-map (merged may (card ∷ cards)) (λ hand. card ∷ hand) (hands_of_size j (free may cards)))

-- each card may be somebody's
abbrev pub IsPlaced : MayHold → List ℕ → Type 0
IsPlaced may cards = (card : ℕ) → has_card cards card ≡ true → (has_card may.left card || has_card may.right card) ≡ true

placed_tail : (may : MayHold) (card : ℕ) (cards : List ℕ) → IsPlaced may (card ∷ cards) → IsPlaced may cards
placed_tail may card cards placed c holds = placed c (ap (λ b. (card == c) || b) holds ∙ or_true (card == c)) where
  or_true : (b : Bool) → (b || true) ≡ true
  or_true true = refl
  or_true false = refl

placed_head : (may : MayHold) (card : ℕ) (cards : List ℕ) → IsPlaced may (card ∷ cards) → (has_card may.left card || has_card may.right card) ≡ true
placed_head may card cards placed = placed card (ap (λ e. e || has_card cards card) (eq-eqb card card refl))

-- the choices where the first card's place is known
abbrev pub Chosen : MayHold → ℕ → ℕ → List ℕ → Type 0
Chosen may size j cards = fitting may size cards ≡ map (merged may cards) (hands_of_size j (free may cards))

free_card : (may : MayHold) (size j card : ℕ) (cards : List ℕ) → IsCardSet (card ∷ cards) → has_card may.left card ≡ true → has_card may.right card ≡ true → size ≡ length (sure may cards) + j
    → ((n i : ℕ) → n ≡ length (sure may cards) + i → Chosen may n i cards)
    → fitting may size (card ∷ cards) ≡ map (merged may (card ∷ cards)) (hands_of_size j (card ∷ free may cards))
free_card may zero zero card cards a_set l r size_is rest = ap (λ b. cond b (fitting may zero cards) []) r ∙ rest zero zero size_is ∙ choices_out may card zero cards a_set r
free_card may zero (suc j) card cards a_set l r size_is rest = absurd (omega arith)
free_card may (suc size) zero card cards a_set l r size_is rest =
    ap₂ (λ a b. cond a (map (λ hand. card ∷ hand) (fitting may size cards)) [] ++ cond b (fitting may (suc size) cards) []) l r
    ∙ ap₂ (λ xs ys. map (λ hand. card ∷ hand) xs ++ ys) (fitting-few may size cards (omega arith)) (rest (suc size) zero size_is)
    ∙ choices_out may card zero cards a_set r
free_card may (suc size) (suc j) card cards a_set l r size_is rest =
    ap₂ (λ a b. cond a (map (λ hand. card ∷ hand) (fitting may size cards)) [] ++ cond b (fitting may (suc size) cards) []) l r
    ∙ ap₂ (λ xs ys. map (λ hand. card ∷ hand) xs ++ ys) (rest size j (omega arith)) (rest (suc size) (suc j) size_is)
    ∙ ap₂ (λ xs ys. xs ++ ys) (choices_chosen may card j cards a_set) (choices_out may card (suc j) cards a_set r)
    ∙ sym (map-append (merged may (card ∷ cards)) (map (λ hand. card ∷ hand) (hands_of_size j (free may cards))) (hands_of_size (suc j) (free may cards)))

rights_card : (may : MayHold) (size j card : ℕ) (cards : List ℕ) → IsCardSet (card ∷ cards) → has_card may.left card ≡ false → has_card may.right card ≡ true → Chosen may size j cards
    → fitting may size (card ∷ cards) ≡ map (merged may (card ∷ cards)) (hands_of_size j (free may cards))
rights_card may zero j card cards a_set l r rest = ap (λ b. cond b (fitting may zero cards) []) r ∙ rest ∙ choices_out may card j cards a_set r
rights_card may (suc size) j card cards a_set l r rest =
    ap₂ (λ a b. cond a (map (λ hand. card ∷ hand) (fitting may size cards)) [] ++ cond b (fitting may (suc size) cards) []) l r ∙ rest ∙ choices_out may card j cards a_set r

lefts_card : (may : MayHold) (size j card : ℕ) (cards : List ℕ) → IsCardSet (card ∷ cards) → has_card may.left card ≡ true → has_card may.right card ≡ false → size ≡ suc (length (sure may cards)) + j
    → ((n : ℕ) → n ≡ length (sure may cards) + j → Chosen may n j cards)
    → fitting may size (card ∷ cards) ≡ map (merged may (card ∷ cards)) (hands_of_size j (free may cards))
lefts_card may zero j card cards a_set l r size_is rest = absurd (omega arith)
lefts_card may (suc size) j card cards a_set l r size_is rest =
    ap₂ (λ a b. cond a (map (λ hand. card ∷ hand) (fitting may size cards)) [] ++ cond b (fitting may (suc size) cards) []) l r
    ∙ append-nil (map (λ hand. card ∷ hand) (fitting may size cards))
    ∙ ap (map (λ hand. card ∷ hand)) (rest size (omega arith))
    ∙ choices_sure may card j cards a_set r

sure_is : (may : MayHold) (card : ℕ) (cards : List ℕ) (b : Bool) → has_card may.right card ≡ b → length (sure may (card ∷ cards)) ≡ length (cond (not b) (card ∷ sure may cards) (sure may cards))
sure_is may card cards b is = ap (λ e. length (cond (not e) (card ∷ sure may cards) (sure may cards))) is

free_is : (may : MayHold) (card : ℕ) (cards : List ℕ) (a b : Bool) → has_card may.left card ≡ a → has_card may.right card ≡ b → free may (card ∷ cards) ≡ cond (a && b) (card ∷ free may cards) (free may cards)
free_is may card cards a b l r = ap₂ (λ x y. cond (x && y) (card ∷ free may cards) (free may cards)) l r

pub fitting-choices : (may : MayHold) (size j : ℕ) (cards : List ℕ) → IsCardSet cards → IsPlaced may cards → size ≡ length (sure may cards) + j → Chosen may size j cards
fitting-choices may zero zero [] a_set placed size_is = refl
fitting-choices may zero (suc j) [] a_set placed size_is = absurd (omega arith)
fitting-choices may (suc size) zero [] a_set placed size_is = absurd (omega arith)
fitting-choices may (suc size) (suc j) [] a_set placed size_is = refl
fitting-choices may size j (card ∷ cards) a_set placed size_is =
    let tail_set = IsCardSet-tail card cards a_set in
    let rest = λ (n i : ℕ) (is : n ≡ length (sure may cards) + i). fitting-choices may n i cards tail_set (placed_tail may card cards placed) is in
    let at = λ (hands : List ℕ). map (merged may (card ∷ cards)) (hands_of_size j hands) in
    elim (cases_Bool (has_card may.right card)) as (λ _. Chosen may size j (card ∷ cards)) [
      | inl r ↦ (let count = sure_is may card cards true r in
          elim (cases_Bool (has_card may.left card)) as (λ _. Chosen may size j (card ∷ cards)) [
            | inl l ↦ free_card may size j card cards a_set l r (omega arith) rest ∙ sym (ap at (free_is may card cards true true l r))
            | inr l ↦ rights_card may size j card cards a_set l r (rest size j (omega arith)) ∙ sym (ap at (free_is may card cards false true l r))
          ])
      | inr r ↦ (let count = sure_is may card cards false r in
          elim (cases_Bool (has_card may.left card)) as (λ _. Chosen may size j (card ∷ cards)) [
            | inl l ↦ lefts_card may size j card cards a_set l r (omega arith) (λ n is. rest n j is) ∙ sym (ap at (free_is may card cards true false l r))
            | inr l ↦ absurd (false≢true (sym (ap₂ (λ x y. x || y) l r) ∙ placed_head may card cards placed))
          ])
    ]

-- ---- as sets

joined_bits : (u h n : Bool) → (h ≡ true → u ≡ true) → (u && (h || n)) ≡ ((u && n) || h)
joined_bits true true true in_whole = refl
joined_bits true true false in_whole = refl
joined_bits true false true in_whole = refl
joined_bits true false false in_whole = refl
joined_bits false true n in_whole = absurd (false≢true (in_whole refl))
joined_bits false false n in_whole = refl

merged-together : (may : MayHold) (cards hand : List ℕ) → IsCardSet cards → IsSubset hand cards → merged may cards hand ≡ together (sure may cards) hand
merged-together may cards hand a_set in_whole =
    same_set (merged may cards hand) (together (sure may cards) hand) (IsCardSet-filter (λ c. has_card hand c || not (has_card may.right c)) cards a_set) (IsCardSet-cards_where (λ c. has_card (sure may cards) c || has_card hand c))
    (λ c within. has_card-filter (λ d. has_card hand d || not (has_card may.right d)) cards c
    ∙ joined_bits (has_card cards c) (has_card hand c) (not (has_card may.right c)) (in_whole c)
    ∙ ap (λ b. b || has_card hand c) (sym (has_card-filter (λ d. not (has_card may.right d)) cards c))
    ∙ sym (has_card-cards_where (λ d. has_card (sure may cards) d || has_card hand d) c within))

-- the hands that fit are the sure cards with each choice of the free ones
pub fitting_hands-choices : (may : MayHold) (size j : ℕ) (cards : List ℕ) → IsCardSet cards → IsPlaced may cards → size ≡ length (sure may cards) + j
    → fitting_hands may size cards ≡ map (together (sure may cards)) (hands_of_size j (free may cards))
unfolding fitting_hands
fitting_hands-choices may size j cards a_set placed size_is =
    let free_set = IsCardSet-filter (λ c. has_card may.left c && has_card may.right c) cards a_set in
    filter-fits may size cards a_set ∙ fitting-choices may size j cards a_set placed size_is
    ∙ map-same (merged may cards) (together (sure may cards)) (hands_of_size j (free may cards))
    (All-weaker (IsPart (free may cards)) (λ hand. merged may cards hand ≡ together (sure may cards) hand)
    (λ hand part. merged-together may cards hand a_set
    (λ c holds. IsSubset-filter (λ d. has_card may.left d && has_card may.right d) cards c (IsPart-IsSubset (free may cards) hand part c holds)))
    (hands_of_size j (free may cards)) (hands_are_parts j (free may cards) free_set))

-- no hand has room for the sure cards
pub fitting_hands-few : (may : MayHold) (size : ℕ) (cards : List ℕ) → IsCardSet cards → size < length (sure may cards) → fitting_hands may size cards ≡ []
unfolding fitting_hands
fitting_hands-few may size cards a_set few = filter-fits may size cards a_set ∙ fitting-few may size cards few

-- a card that is nobody's fits nowhere
nobodys : (h l r : Bool) → l ≡ false → r ≡ false → cond h l r ≡ false
nobodys true l r l_not r_not = l_not
nobodys false l r l_not r_not = r_not

fits_nowhere : (may : MayHold) (card : ℕ) (cards hand : List ℕ) → has_card cards card ≡ true → has_card may.left card ≡ false → has_card may.right card ≡ false → fits may cards hand ≡ false
fits_nowhere may card cards hand holds l r =
    false_from_ne_true (fits may cards hand)
    (λ yes. both_ways (cond (has_card hand card) (has_card may.left card) (has_card may.right card)) (nobodys (has_card hand card) (has_card may.left card) (has_card may.right card) l r)
    (cards_from_list_all (λ c. cond (has_card hand c) (has_card may.left c) (has_card may.right c)) cards yes card holds))

pub fitting_hands-misplaced : (may : MayHold) (size card : ℕ) (cards : List ℕ) → has_card cards card ≡ true → has_card may.left card ≡ false → has_card may.right card ≡ false → fitting_hands may size cards ≡ []
unfolding fitting_hands
fitting_hands-misplaced may size card cards holds l r = filter-nothing (fits may cards) (hands_of_size size cards) (λ k d within. fits_nowhere may card cards (get_or (hands_of_size size cards) k d) holds l r)

-- ---- as the code tests it

misplaced_or_placed : (may : MayHold) (cards : List ℕ) → ((card : ℕ) × (has_card cards card ≡ true) × (has_card may.left card ≡ false) × (has_card may.right card ≡ false)) ⊎ IsPlaced may cards
misplaced_or_placed may [] = inr (λ card holds. absurd (false≢true holds))
misplaced_or_placed may (x ∷ xs) =
    elim (misplaced_or_placed may xs) [
      | inl found ↦ inl (found.0, ap (λ b. (x == found.0) || b) found.1 ∙ or_right (x == found.0) true refl, found.2, found.3)
      | inr rest ↦ elim (cases_Bool (has_card may.left x || has_card may.right x)) [
        | inl placed ↦ inr (λ card holds. elim (or_cases (x == card) (has_card xs card) holds) [
          | inl same ↦ subst (λ (c : ℕ). (has_card may.left c || has_card may.right c) ≡ true) (eqb-true x card same) placed
          | inr later ↦ rest card later
        ])
        | inr nobody ↦ (let parts = or_parts (has_card may.left x) (has_card may.right x) nobody in inl (x, ap (λ e. e || has_card xs x) (eq-eqb x x refl), parts.0, parts.1))
      ]
    ]

pub placed-subset : (may : MayHold) (cards : List ℕ) → IsCardSet cards → IsSubset cards (together may.left may.right) → IsPlaced may cards
placed-subset may cards a_set within card holds =
    sym (has_card-cards_where (λ c. has_card may.left c || has_card may.right c) card (has_card-below cards card a_set holds)) ∙ within card holds

pub fitting_hands-no_place : (may : MayHold) (size : ℕ) (cards : List ℕ) → IsCardSet cards → (IsSubset cards (together may.left may.right) → ⊥) → fitting_hands may size cards ≡ []
fitting_hands-no_place may size cards a_set out =
    elim (misplaced_or_placed may cards) [
      | inl found ↦ fitting_hands-misplaced may size found.0 cards found.1 found.2 found.3
      | inr placed ↦ absurd (out (λ card holds. has_card-cards_where (λ c. has_card may.left c || has_card may.right c) card (has_card-below cards card a_set holds) ∙ placed card holds))
    ]

pub free-both : (may : MayHold) (cards : List ℕ) → filter (has_card may.right) (filter (has_card may.left) cards) ≡ free may cards
free-both may cards = filter-filter (has_card may.right) (has_card may.left) cards

pub length-free : (may : MayHold) (cards : List ℕ) → length (free may cards) ≤ length cards
length-free may cards =
    let both = length-filter_both (λ c. has_card may.left c && has_card may.right c) (λ c. not (has_card may.left c && has_card may.right c)) (λ c. refl) cards in omega arith
