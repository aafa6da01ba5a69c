-- No position has more cards than the pack.
use Rattle.std.proofs.Common.{◌≡◌, ℕ, ◌+◌, ◌≤◌, Bool, true, false, ◌||◌, List, length, refl, sym, ◌∙◌, ◌⊎◌, inl, inr, arith}
use Rattle.card_sets.specs.SetWords.{has_card, cards_where, IsCardSet, Apart}
use Rattle.card_sets.proofs.Sets.{IsCardSet-cards_where, has_card-cards_where, has_card-below}
use Rattle.card_sets.proofs.SetCounts.{length-le_52, length-either}
use Rattle.trick_rules.specs.Positions.{PositionValue, IsSound}
use Rattle.trick_rules.specs.Play.{cards_left}

-- three sets of which no two have a card in common
three_sets : (xs ys zs : List ℕ) → IsCardSet xs → IsCardSet ys → IsCardSet zs → Apart xs ys → Apart xs zs → Apart ys zs → length xs + length ys + length zs ≤ 52
three_sets xs ys zs x y z xy xz yz =
    let both = cards_where (λ c. has_card xs c || has_card ys c) in
    let all = cards_where (λ c. has_card both c || has_card zs c) in
    omega (arith, length-either xs ys x y xy, length-either both zs (IsCardSet-cards_where _) z apart, length-le_52 all (IsCardSet-cards_where _))
  where
    either : (a b : Bool) → (a || b) ≡ true → (a ≡ true) ⊎ (b ≡ true)
    either true b h = inl refl
    either false b h = inr h

    apart : Apart (cards_where (λ c. has_card xs c || has_card ys c)) zs
    apart card h =
        let low = has_card-below _ card (IsCardSet-cards_where (λ c. has_card xs c || has_card ys c)) h in
        elim (either _ _ (sym (has_card-cards_where (λ c. has_card xs c || has_card ys c) card low) ∙ h)) [
          | inl in_xs ↦ xz card in_xs
          | inr in_ys ↦ yz card in_ys
        ]

pub cards_left-le_52 : (t : PositionValue) → IsSound t → cards_left t ≤ 52
cards_left-le_52 t sound = three_sets t.declarer t.dummy t.unseen sound.declarer_set sound.dummy_set sound.unseen_set sound.declarer_dummy sound.declarer_unseen sound.dummy_unseen
