-- Lists that shrink or grow by an item, and what a number of them is.
use Rattle.std.proofs.Common.{◌≡◌, ◌∙◌, ℕ, zero, suc, ◌+◌, ◌-◌, ◌≤◌, ◌<◌, List, [], ◌∷◌, ◌++◌, drop, length, map, flat_map, Bool, refl, ap, sym, arith}
use Rattle.std.specs.Prelude.{true, filter, Option, Some, None, MatchOption}
use Rattle.std.specs.List.{range_with_len}
use Rattle.std.proofs.lemmas.List.{map-id, flat_map_more, length-drop, drop-drop}
use Rattle.std.proofs.lemmas.List.Elements.{filter-append, All-weaker}
use Rattle.std.proofs.lemmas.List.FromFn.{map-range_with_len_more}
use Rattle.bit_lists.specs.Bits.{below}
use Rattle.card_sets.specs.SetWords.{has_card, cards_where, IsCardSet}
use Rattle.pbn_deal.specs.BoardRead.{together}
use Rattle.layout_maker.specs.Divisions.{hands_of_size}
use Rattle.layout_maker.proofs.Hands.{map-same, hands_are_parts, IsPart, IsPart-IsCardSet}

-- ---- dropping

drop_popped : (result : Option ℕ) (old new : List ℕ) → MatchOption result ((old ≡ []) × (new ≡ [])) (λ card. old ≡ card ∷ new) → new ≡ drop 1 old
drop_popped None old new both = both.1 ∙ sym (ap (drop 1) both.0)
drop_popped (Some card) old new first = sym (ap (drop 1) first)

pub dropped_more : (result : Option ℕ) (old new whole : List ℕ) (n : ℕ) → MatchOption result ((old ≡ []) × (new ≡ [])) (λ card. old ≡ card ∷ new) → old ≡ drop n whole
    → new ≡ drop (n + 1) whole
dropped_more result old new whole n popped so_far = drop_popped result old new popped ∙ ap (drop 1) so_far ∙ drop-drop 1 n whole

-- ---- the pack

length-pack : length (cards_where (λ _. true)) ≡ 52
unfolding cards_where below
length-pack = refl

pub length-rest_of_pack : (n : ℕ) → length (drop n (cards_where (λ _. true))) ≡ 52 - n
length-rest_of_pack n = length-drop n (cards_where (λ _. true)) ∙ ap (λ whole. whole - n) length-pack

-- ---- growing

range_more : (n : ℕ) → range_with_len 0 (n + 1) ≡ range_with_len 0 n ++ n ∷ []
range_more n =
    sym (map-id (range_with_len 0 (n + 1))) ∙ map-range_with_len_more (λ (i : ℕ). i) 0 n n (omega arith)
    ∙ ap (λ (is : List ℕ). is ++ n ∷ []) (map-id (range_with_len 0 n))

pub listed_more : (f : ℕ → List ℕ) (now next : List ℕ) (n : ℕ) → now ≡ flat_map f (range_with_len 0 n) → next ≡ now ++ f n
    → next ≡ flat_map f (range_with_len 0 (n + 1))
listed_more f now next n so_far grew =
    grew ∙ ap (λ items. items ++ f n) so_far ∙ flat_map_more f [] (range_with_len 0 n) n
    ∙ ap (λ is. flat_map f is) (sym (range_more n))

-- what passes a test of the first places, and of one more
pub passing_more : (p : ℕ → Bool) (f : ℕ → ℕ) (n : ℕ) → filter p (map f (range_with_len 0 (n + 1))) ≡ filter p (map f (range_with_len 0 n)) ++ filter p (f n ∷ [])
passing_more p f n = ap (filter p) (map-range_with_len_more f 0 n n (omega arith)) ∙ filter-append p (map f (range_with_len 0 n)) (f n ∷ [])

-- ---- hands out of a set

nothing_more : (cards hand : List ℕ) → IsCardSet cards → IsPart cards hand → together [] hand ≡ hand
nothing_more cards hand a_set part = sym (IsPart-IsCardSet cards hand a_set part)

pub hands_alone : (size : ℕ) (cards : List ℕ) → IsCardSet cards → map (together []) (hands_of_size size cards) ≡ hands_of_size size cards
hands_alone size cards a_set =
    let hands = hands_of_size size cards in
    map-same (together []) (λ hand. hand) hands (All-weaker (IsPart cards) (λ hand. together [] hand ≡ hand) (λ hand part. nothing_more cards hand a_set part) hands (hands_are_parts size cards a_set))
    ∙ map-id hands
