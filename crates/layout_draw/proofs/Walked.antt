-- How the layouts of a walk are counted and kept.
use Rattle.std.proofs.Common.{◌≡◌, ℕ, suc, ◌+◌, ◌^◌, ◌<◌, ◌≤◌, Bool, not, List, [], ◌∷◌, ◌++◌, length, map, filter, refl, sym, ap, ap₂, ◌∙◌, inl, inr, arith, length-append}
use Rattle.std.specs.Prelude.{◌==◌, ◌||◌}
use Rattle.std.proofs.lemmas.Bool.{cases_Bool}
use Rattle.std.proofs.lemmas.List.Elements.{filter-append}
use Rattle.std.proofs.lemmas.List.{length-map}
use Rattle.std.proofs.lemmas.List.Filters.{length-filter_both}
use Rattle.pbn_deal.specs.BoardRead.{together}
use Rattle.card_sets.specs.SetWords.{has_card, cards_where, IsCardSet}
use Rattle.hand_conditions.specs.declared.term.Term.{Term}
use Rattle.layout_list.specs.declared.line.Layout.{Layout}
use Rattle.drawn_places.specs.Places.{is_among}
use Rattle.layout_maker.specs.Divisions.{most_unseen, hands_of_size, layout_with}
use Rattle.layout_maker.proofs.Hands.{length-hands_of_size}
use Rattle.layout_maker.proofs.Adding.{ways-small, layouts_of-one, layouts_of-none, layouts_of-more}
use Rattle.layout_draw.specs.Fitting.{fits, at_places}
use Rattle.layout_draw.specs.Walks.{layouts_from, fitting_from}

-- ---- places of one list after another

pub at_places-append : (places : List ℕ) (first : ℕ) (xs ys : List Layout) → at_places places first (xs ++ ys) ≡ at_places places first xs ++ at_places places (first + length xs) ys
at_places-append places first [] ys = ap (λ n. at_places places n ys) (omega arith)
at_places-append places first (x ∷ xs) ys =
    let later : at_places places (first + 1) (xs ++ ys) ≡ at_places places (first + 1) xs ++ at_places places (first + length (x ∷ xs)) ys =
    at_places-append places (first + 1) xs ys ∙ ap (λ n. at_places places (first + 1) xs ++ at_places places n ys) (omega arith) in
    elim (cases_Bool (is_among places first)) [
      | inl one ↦ rw (one) (ap (λ zs. x ∷ zs) later)
      | inr none ↦ rw (none) later
    ]

-- ---- parts of a walk

-- one hand
pub fitting_from-one : (left right : List (List Term)) (unseen hand free : List ℕ) → IsCardSet hand → fitting_from left right unseen hand 0 free ≡ filter (fits left right) (layout_with unseen hand ∷ [])
fitting_from-one left right unseen hand free a_set = ap (filter (fits left right)) (layouts_of-one unseen hand free a_set)

-- too few cards
pub fitting_from-none : (left right : List (List Term)) (unseen hand free : List ℕ) (wanted : ℕ) → length free < wanted → fitting_from left right unseen hand wanted free ≡ []
fitting_from-none left right unseen hand free wanted few = ap (filter (fits left right)) (layouts_of-none unseen hand free wanted few)

-- the hands with the first free card, and then those without it
pub fitting_from-more : (left right : List (List Term)) (unseen hand with_card free : List ℕ) (card wanted : ℕ) → with_card ≡ cards_where (λ c. has_card hand c || (c == card))
    → fitting_from left right unseen hand (suc wanted) (card ∷ free) ≡ fitting_from left right unseen with_card wanted free ++ fitting_from left right unseen hand (suc wanted) free
fitting_from-more left right unseen hand with_card free card wanted is =
    ap (filter (fits left right)) (layouts_of-more unseen hand with_card free card wanted is)
    ∙ filter-append (fits left right) (layouts_from unseen with_card wanted free) (layouts_from unseen hand (suc wanted) free)

-- the same, as a walk has them
pub fitting_from-split : (left right : List (List Term)) (unseen hand with_card free rest : List ℕ) (card wanted fewer : ℕ) → wanted ≡ suc fewer → free ≡ card ∷ rest → with_card ≡ cards_where (λ c. has_card hand c || (c == card))
    → fitting_from left right unseen hand wanted free ≡ fitting_from left right unseen with_card fewer rest ++ fitting_from left right unseen hand wanted rest
fitting_from-split left right unseen hand with_card free rest card wanted fewer more is with_is =
    ap₂ (λ w f. fitting_from left right unseen hand w f) more is ∙ fitting_from-more left right unseen hand with_card rest card fewer with_is
    ∙ ap (λ w. fitting_from left right unseen with_card fewer rest ++ fitting_from left right unseen hand w rest) (sym more)

-- ---- how many

pub length-hands_more : (card wanted : ℕ) (free : List ℕ) → length (hands_of_size (suc wanted) (card ∷ free)) ≡ length (hands_of_size wanted free) + length (hands_of_size (suc wanted) free)
length-hands_more card wanted free =
    length-append (map (λ hand. card ∷ hand) (hands_of_size wanted free)) (hands_of_size (suc wanted) free)
    ∙ ap (λ n. n + length (hands_of_size (suc wanted) free)) (length-map (hands_of_size wanted free) (λ hand. card ∷ hand))

pub length-hands_split : (card wanted fewer : ℕ) (free rest : List ℕ) → wanted ≡ suc fewer → free ≡ card ∷ rest
    → length (hands_of_size wanted free) ≡ length (hands_of_size fewer rest) + length (hands_of_size wanted rest)
length-hands_split card wanted fewer free rest more is =
    ap₂ (λ w f. length (hands_of_size w f)) more is ∙ length-hands_more card fewer rest ∙ ap (λ w. length (hands_of_size fewer rest) + length (hands_of_size w rest)) (sym more)

length-filter_most : (test : Layout → Bool) (xs : List Layout) → length (filter test xs) ≤ length xs
length-filter_most test xs = let both = length-filter_both test (λ x. not (test x)) (λ x. refl) xs in omega (arith, both)

pub length-fitting_from : (left right : List (List Term)) (unseen hand free : List ℕ) (wanted : ℕ) → length (fitting_from left right unseen hand wanted free) ≤ length (hands_of_size wanted free)
length-fitting_from left right unseen hand free wanted =
    let most = length-filter_most (fits left right) (layouts_from unseen hand wanted free) in
    let same = length-map (hands_of_size wanted free) (λ more. layout_with unseen (together hand more)) in omega (arith, most, same)

-- so few that each has a number
pub length-hands_few : (free : List ℕ) (wanted : ℕ) → length free ≤ most_unseen → length (hands_of_size wanted free) < 2 ^ 64
length-hands_few free wanted few = let all = ways-small (length free) wanted few in let same = length-hands_of_size wanted free in omega (arith, all, same)
