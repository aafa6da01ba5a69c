-- In how many ways a number of some things can be chosen, and hands added one by one.
use Rattle.std.proofs.Common.{◌≡◌, ℕ, zero, suc, ◌+◌, ◌-◌, ◌^◌, ◌<◌, ◌≤◌, Bool, true, false, List, [], ◌∷◌, ◌++◌, map, length, get_or, set, replicate, refl, sym, ap, ◌∙◌, inl, inr, arith}
use Rattle.std.specs.Prelude.{◌==◌, ◌||◌}
use Rattle.std.proofs.Math.Nat.{pow-suc}
use Rattle.std.proofs.Math.Pow.{pow_mono}
use Rattle.std.proofs.lemmas.Bool.{eq-eqb, ne_eqb, cases_eq}
use Rattle.std.proofs.lemmas.Nat.{pow_pos}
use Rattle.card_sets.specs.SetWords.{has_card, cards_where, IsCardSet}
use Rattle.card_sets.proofs.Sets.{has_card-cards_where, cards_where-agree}
use Rattle.pbn_deal.specs.BoardRead.{together}
use Rattle.layout_list.specs.declared.line.Layout.{Layout}
use Rattle.layout_maker.specs.Divisions.{most_unseen, hands_of_size, layout_with}
use Rattle.layout_maker.specs.Choosing.{ways}
use Rattle.layout_maker.proofs.Hands.{map-same, map-map, map-append, hands_of_size-none}

-- ---- a row of ways

pub ways-more : (things chosen : ℕ) → 0 < chosen → ways (things + 1) chosen ≡ ways things (chosen - 1) + ways things chosen
ways-more things zero some = absurd (omega arith)
ways-more things (suc chosen) some =
    let less : suc chosen - 1 ≡ chosen = omega arith in
    let next : things + 1 ≡ suc things = omega arith in
    ap (λ n. ways n (suc chosen)) next ∙ ap (λ n. ways things n + ways things (suc chosen)) (sym less)

-- two to the power of the things bounds it
ways-power : (things chosen : ℕ) → ways things chosen ≤ 2 ^ things
ways-power things zero = omega (arith, pow_pos things)
ways-power zero (suc chosen) = omega arith
ways-power (suc things) (suc chosen) = omega (arith, pow-suc 2 things, ways-power things chosen, ways-power things (suc chosen))

-- few enough things give a number of this many bits
pub ways-small : (things chosen : ℕ) → things ≤ most_unseen → ways things chosen ≤ 2 ^ most_unseen
ways-small things chosen few = let bound : 2 ^ things ≤ 2 ^ most_unseen = pow_mono few in omega (arith, ways-power things chosen)

zeros : (n k : ℕ) → let none : ℕ = 0 in get_or (replicate n none) k none ≡ none
zeros zero k = refl
zeros (suc n) zero = refl
zeros (suc n) (suc k) = zeros n k

pub first_row : (chosen : ℕ) → get_or (set (replicate 14 0) 0 1) chosen 0 ≡ ways 0 chosen
first_row zero = refl
first_row (suc chosen) = zeros 13 chosen

-- ---- layouts of hands

-- the layouts with some hand and each of these more cards
abbrev pub layouts_of : List ℕ → List ℕ → List (List ℕ) → List Layout
layouts_of unseen hand choices = map (λ more. layout_with unseen (together hand more)) choices

together-nil : (hand : List ℕ) → IsCardSet hand → together hand [] ≡ hand
together-nil hand a_set = cards_where-agree (λ c. has_card hand c || has_card [] c) (has_card hand) (λ c within. or_none (has_card hand c)) ∙ sym a_set where
  or_none : (b : Bool) → (b || false) ≡ b
  or_none true = refl
  or_none false = refl

pub layouts_of-one : (unseen hand cards : List ℕ) → IsCardSet hand → layouts_of unseen hand (hands_of_size 0 cards) ≡ layout_with unseen hand ∷ []
layouts_of-one unseen hand cards a_set = ap (λ h. layout_with unseen h ∷ []) (together-nil hand a_set)

pub layouts_of-none : (unseen hand cards : List ℕ) (wanted : ℕ) → length cards < wanted → layouts_of unseen hand (hands_of_size wanted cards) ≡ []
layouts_of-none unseen hand cards wanted few = ap (layouts_of unseen hand) (hands_of_size-none wanted cards few)

moved : (h e m : Bool) → ((h || e) || m) ≡ (h || (e || m))
moved true e m = refl
moved false e m = refl

flipped : (a b : ℕ) → (a == b) ≡ (b == a)
flipped a b =
    elim (cases_eq a b) [
      | inl same ↦ eq-eqb a b same ∙ sym (eq-eqb b a (sym same))
      | inr other ↦ ne_eqb a b other ∙ sym (ne_eqb b a (λ same. other (sym same)))
    ]

together-with : (hand more : List ℕ) (card : ℕ) → together (cards_where (λ c. has_card hand c || (c == card))) more ≡ together hand (card ∷ more)
together-with hand more card =
    cards_where-agree (λ c. has_card (cards_where (λ d. has_card hand d || (d == card))) c || has_card more c) (λ c. has_card hand c || has_card (card ∷ more) c)
    (λ c within. ap (λ b. b || has_card more c) (has_card-cards_where (λ d. has_card hand d || (d == card)) c within ∙ ap (λ b. has_card hand c || b) (flipped c card))
    ∙ moved (has_card hand c) (card == c) (has_card more c))

pub layouts_of-more : (unseen hand with_card cards : List ℕ) (card wanted : ℕ) → with_card ≡ cards_where (λ c. has_card hand c || (c == card))
    → layouts_of unseen hand (hands_of_size (suc wanted) (card ∷ cards)) ≡ layouts_of unseen with_card (hands_of_size wanted cards) ++ layouts_of unseen hand (hands_of_size (suc wanted) cards)
layouts_of-more unseen hand with_card cards card wanted is =
    map-append (λ more. layout_with unseen (together hand more)) (map (λ more. card ∷ more) (hands_of_size wanted cards)) (hands_of_size (suc wanted) cards)
    ∙ ap (λ xs. xs ++ layouts_of unseen hand (hands_of_size (suc wanted) cards))
    (map-map (λ more. layout_with unseen (together hand more)) (λ more. card ∷ more) (hands_of_size wanted cards)
    ∙ map-same (λ more. layout_with unseen (together hand (card ∷ more))) (λ more. layout_with unseen (together with_card more)) (hands_of_size wanted cards)
    (λ k d within. ap (layout_with unseen) (sym (ap (λ h. together h (get_or (hands_of_size wanted cards) k d)) is ∙ together-with hand (get_or (hands_of_size wanted cards) k d) card))))
