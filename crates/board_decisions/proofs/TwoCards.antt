-- Two legal cards that aren't equal, by the number of cards that stand for all.
use Rattle.std.proofs.Common.{◌≡◌, ◌↔◌, ◌<◌, ℕ, zero, suc, true, List, [], ◌∷◌, length, refl, arith}
use Rattle.std.specs.List.{slice_index_or}
use Rattle.card_sets.specs.SetWords.{has_card, IsCardSet}
use Rattle.card_sets.proofs.Sets.{tail-after}
use Rattle.strategy_tree.proofs.CardLists.{has_card-from_Contains, Contains-from_has_card}
use Rattle.trick_rules.specs.Nodes.{NodeValue}
use Rattle.equal_cards.specs.Equals.{IsLowest}
use Rattle.board_decisions.specs.Decisions.{HasTwoCards}

the_only : (x c : ℕ) → has_card (x ∷ []) c ≡ true → x ≡ c
the_only x c held = let found = Contains-from_has_card (x ∷ []) c held in at found.0 found.1 found.2 where
  at : (k : ℕ) → k < 1 → slice_index_or (x ∷ []) k c ≡ c → x ≡ c
  at zero inside is = is
  at (suc k) inside is = absurd (omega arith)

pub two_from_count : (n : NodeValue) (kept : List ℕ) → IsCardSet kept → ((card : ℕ) → (has_card kept card ≡ true) ↔ IsLowest n card) → 1 < length kept → HasTwoCards n
two_from_count n [] set each many = absurd (omega arith)
two_from_count n (x ∷ []) set each many = absurd (omega arith)
two_from_count n (x ∷ y ∷ more) set each many = (
  x,
  y,
  (each x).0 (has_card-from_Contains (x ∷ y ∷ more) x (0, omega arith, refl)),
  (each y).0 (has_card-from_Contains (x ∷ y ∷ more) y (1, omega arith, refl)),
  tail-after x (y ∷ more) set y (has_card-from_Contains (y ∷ more) y (0, omega arith, refl)),
)

pub count_from_two : (n : NodeValue) (kept : List ℕ) → ((card : ℕ) → (has_card kept card ≡ true) ↔ IsLowest n card) → HasTwoCards n → 1 < length kept
count_from_two n [] each two = cc ((each two.0).1 two.2)
count_from_two n (x ∷ []) each two =
    let low = the_only x two.0 ((each two.0).1 two.2) in
    let high = the_only x two.1 ((each two.1).1 two.3) in
    absurd (omega (arith, two.4, low, high))
count_from_two n (x ∷ y ∷ more) each two = omega arith
